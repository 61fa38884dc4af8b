use Rattle.std.proofs.Common.{◌≡◌, None, take}
use Rattle.mr_replica.specs.Edit.{not_held, are_all_of}
use Rattle.mr_replica.proofs.replica.Core.are_all_of.Given as goal

-- the bases so far are all held
abbrev pub invariant-loop-base : goal.invariant-loop-base
invariant-loop-base g l = record {
  held : not_held l.self (take l.base-index l.bases) ≡ None;
  same : l.same ≡ are_all_of l.self l.item (take l.base-index l.bases);
}
