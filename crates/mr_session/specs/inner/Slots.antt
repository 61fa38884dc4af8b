-- the values in the slots of a slab, by their numbers
use Rattle.std.specs.Prelude.{ℕ, ◌==◌, if◌then◌else◌, List, [], ◌∷◌, Option, Some, None}
use Rattle.slab.specs.Slab.{Slab}
use Rattle.mr_session.specs.declared.slots.Entry.{Entry}

module _ {T : Type 0} where
  -- what is under a number, among these slots
  abbrev pub value_in : List (Option (Entry T)) → ℕ → Option T
  value_in [] n = None
  value_in (None ∷ slots) n = value_in slots n
  value_in (Some entry ∷ slots) n = if entry.number == n then Some entry.value else value_in slots n

  -- what is under a number
  abbrev pub value_at : Slab (Entry T) → ℕ → Option T
  value_at slab n = value_in slab.slots n

  -- what is under each number, with this under one
  abbrev pub with_at : ℕ → Option T → (ℕ → Option T) → ℕ → Option T
  with_at number value values n = if number == n then value else values n
