-- what faults come to at a wire
use Rattle.mr_wire.specs.declared.fault.WireFault.{WireFault}
use Rattle.mr_wire.specs.declared.fault.WireFault.TheVariants as wire
use Rattle.mr_frames.specs.declared.fault.FrameFault.{FrameFault}
use Rattle.mr_frames.specs.declared.fault.FrameFault.TheVariants as reading
use Rattle.mr_link.specs.declared.link.LinkFault.{LinkFault}
use Rattle.mr_link.specs.declared.link.LinkFault.TheVariants as link
use Rattle.mr_link.specs.declared.snag.Snag.{Snag}
use Rattle.mr_link.specs.declared.snag.Snag.TheVariants.{OutOfMemory, LinkDown, BadFrame, TooLong}

-- a fault of the reader
abbrev pub snag_of_reader : FrameFault → Snag
snag_of_reader (reading.Wire wire.OutOfMemory) = OutOfMemory
snag_of_reader fault = BadFrame

-- a fault of the link
abbrev pub snag_of_link : LinkFault → Snag
snag_of_link link.LinkDown = LinkDown
snag_of_link link.OutOfMemory = OutOfMemory

-- that a frame has no bytes
abbrev pub snag_of_encoding : WireFault → Snag
snag_of_encoding wire.TooLong = TooLong
snag_of_encoding fault = OutOfMemory
