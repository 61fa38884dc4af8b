use Rattle.std.proofs.Common.{List}
use Rattle.mr_subs.proofs.Names.{Applies, Entry}
use Rattle.mr_subs.proofs.subscriber.fold_all.Given as goal

-- what was taken so far is folded in
abbrev pub invariant-loop : goal.invariant-loop
invariant-loop g l = (xs : List Entry) × g.P.PortOut.took l.fn.port xs l.port × Applies g.F.Fold.shows l.fn.fold xs l.fold
