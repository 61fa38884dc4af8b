-- the numbers by which a host knows faults
use Rattle.std.specs.Prelude.{ℕ}
use Rattle.mr_feed.specs.declared.port_fault.OfferFault.{OfferFault}
use Rattle.mr_feed.specs.declared.port_fault.OfferFault.TheVariants as offer
use Rattle.mr_feed.specs.declared.port_fault.CloseFault.{CloseFault}
use Rattle.mr_feed.specs.declared.port_fault.CloseFault.TheVariants as close
use Rattle.mr_feed.specs.declared.port_fault.PortFault.{PortFault}
use Rattle.mr_feed.specs.declared.port_fault.PortFault.TheVariants as port

abbrev pub offer_number : OfferFault → ℕ
offer_number (offer.Full entry) = 1
offer_number (offer.Ended entry) = 2

abbrev pub close_number : CloseFault → ℕ
close_number close.Full = 1

abbrev pub port_number : PortFault → ℕ
port_number port.OutOfMemory = 0
port_number port.NoCapacity = 1
