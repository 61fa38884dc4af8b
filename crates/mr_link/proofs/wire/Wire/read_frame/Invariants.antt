use Rattle.std.proofs.Common.{[]}
use Rattle.mr_link.specs.Wire.{wire_of, PassesWell}
use Rattle.mr_link.proofs.wire.Wire.read_frame.Given as goal

abbrev pub invariant-loop : goal.invariant-loop
invariant-loop g l = PassesWell (wire_of g.L.Link.tells l.fn.self) [] [] (wire_of g.L.Link.tells l.self)
