-- What is sorted by name is parted by a name: what is below it, or up to it, stands before the others.
use Rattle.std.proofs.Common.{◌≡◌, ◌≤◌, true, List, get_or, arith}
use Rattle.mr_store.proofs.Names.{IsNonDecreasingBy, IsPartitionedBy, IsSortedBy, Name, Ordering, is_le, is_lt, name_cmp, names_total, ordering_index}
use Rattle.mr_store.proofs.Names.{searchable_from_sorted}

below_one : (o : Ordering) → is_lt o ≡ true → ordering_index o ≤ 0
below_one o h = grind arith

is_below : (o : Ordering) → ordering_index o ≤ 0 → is_lt o ≡ true
is_below o h = grind arith

below_two : (o : Ordering) → is_le o ≡ true → ordering_index o ≤ 1
below_two o h = grind arith

is_up_to : (o : Ordering) → ordering_index o ≤ 1 → is_le o ≡ true
is_up_to o h = grind arith

module _ {X : Type 0} (name : X → Name) (xs : List X) (v : Name) (sorted : IsSortedBy (λ (a b : X). is_lt (name_cmp (name a) (name b))) xs) where
  rises : IsNonDecreasingBy (λ (x : X). ordering_index (name_cmp (name x) v)) xs
  rises = searchable_from_sorted names_total name xs v sorted

  pub parted_below : IsPartitionedBy (λ (x : X). is_lt (name_cmp (name x) v)) xs
  parted_below i j d le lt at_j =
      let low = below_one (name_cmp (name (get_or xs j d)) v) at_j in
      let steps = rises i j d le lt in
      is_below (name_cmp (name (get_or xs i d)) v) (omega (arith, low, steps))

  pub parted_up_to : IsPartitionedBy (λ (x : X). is_le (name_cmp (name x) v)) xs
  parted_up_to i j d le lt at_j =
      let low = below_two (name_cmp (name (get_or xs j d)) v) at_j in
      let steps = rises i j d le lt in
      is_up_to (name_cmp (name (get_or xs i d)) v) (omega (arith, low, steps))
