-- the numbers by which a host knows faults
use Rattle.std.specs.Prelude.{ℕ}
use Rattle.mr_link.specs.declared.link.LinkFault.{LinkFault}
use Rattle.mr_link.specs.declared.link.LinkFault.TheVariants as link
use Rattle.mr_link.specs.declared.snag.Snag.{Snag}
use Rattle.mr_link.specs.declared.snag.Snag.TheVariants as snag

abbrev pub link_number : LinkFault → ℕ
link_number link.OutOfMemory = 0
link_number link.LinkDown = 1

abbrev pub snag_number : Snag → ℕ
snag_number snag.OutOfMemory = 0
snag_number snag.LinkDown = 1
snag_number snag.BadFrame = 2
snag_number snag.TooLong = 3
