use Rattle.std.proofs.Common.{◌≡◌, ◌-◌, None}
use Rattle.mr_wire.proofs.Names.{first_item, item_at, next_item}
use Rattle.mr_wire.proofs.RunLemmas.{Running}
use Rattle.mr_wire.proofs.items.items.Given as goal

abbrev pub invariant-loop : goal.invariant-loop
invariant-loop l =
    Running item_at next_item None l.count l.fn.input l.items l.before (l.count - l.counter) l.input (λ xs. l.first ≡ first_item xs)
