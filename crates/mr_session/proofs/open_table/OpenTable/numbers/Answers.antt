use Rattle.std.proofs.lemmas.List.Sorted.{IsNonDecreasingBy-from_sort}
use Rattle.mr_session.proofs.ViewLemmas.{table_of}
use Rattle.mr_session.proofs.NumberLemmas.{sorted_numbers}
use Rattle.mr_session.proofs.open_table.OpenTable.numbers.Goals as goal

pub returns-clause-value : goal.returns-clause-value
returns-clause-value g c =
    let sorted = IsNonDecreasingBy-from_sort (λ n. n) c.sort_unstable.new.self.items c.sort_unstable.ensures.sorted in
    rw (← c.self.view_is) (sorted_numbers c.self.inside.slots c.self.inside.opened c.in_ok-numbers.numbers.items c.sort_unstable.new.self.items c.self.invariant c.in_ok-numbers.ensures c.sort_unstable.ensures.permutation sorted)

pub returns-clause-kept : goal.returns-clause-kept
returns-clause-kept g c = rw (← c.self.view_is) (table_of c.self.inside.slots c.self.inside.opened c.self.invariant)

pub returns-in_err-numbers-clause-kept : goal.returns-in_err-numbers-clause-kept
returns-in_err-numbers-clause-kept g c = rw (← c.self.view_is) (table_of c.self.inside.slots c.self.inside.opened c.self.invariant)
