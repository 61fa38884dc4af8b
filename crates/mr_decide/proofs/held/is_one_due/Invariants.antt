use Rattle.std.proofs.Common.{◌≡◌, drop}
use Rattle.std.specs.List.{list_any}
use Rattle.mr_decide.specs.declared.held.HeldItem.{HeldItem}
use Rattle.mr_decide.specs.Held.{is_due}
use Rattle.mr_decide.proofs.held.is_one_due.Given as goal

-- one of the items is due if one of those that are left is
abbrev pub invariant-loop-item : goal.invariant-loop-item
invariant-loop-item l = list_any (λ (item : HeldItem). is_due item l.shown) (drop l.item-index l.held) ≡ list_any (λ (item : HeldItem). is_due item l.shown) l.held
