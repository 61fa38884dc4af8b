-- numbered values in the slots of a slab
use Rattle.std.specs.Prelude.{◌≡◌, ◌≤◌, ℕ, nat_lt, if◌then◌else◌, List, [], ◌∷◌, Option, Some, None}
use Rattle.slab.specs.Slab.{Slab, get, slab_len}
use Rattle.mr_session.specs.declared.slots.Entry.{Entry}
use Rattle.mr_session.specs.Table.{Numbered}
use Rattle.mr_session.specs.declared.limits.TheConstants.{MAX_OPEN}

module _ {T : Type 0} where
  -- the key has the number's entry
  abbrev pub HasNumber : Slab (Entry T) → ℕ → ℕ → Type 0
  HasNumber slab number key = (entry : Entry T) × (get slab key ≡ Some entry) × (entry.number ≡ number)

  -- no number stands twice
  abbrev pub AreOnce : Slab (Entry T) → Type 0
  AreOnce slab = (number key other : ℕ) → HasNumber slab number key → HasNumber slab number other → key ≡ other

  -- each number is at least 1, and at most this
  abbrev pub AreUpTo : Slab (Entry T) → ℕ → Type 0
  AreUpTo slab last = (number key : ℕ) → HasNumber slab number key → (1 ≤ number) × (number ≤ last)

  -- a table's slots: each number was given, and stands once, and there are no more than may be open
  pub record AreSlots (slab : Slab (Entry T)) (opened : ℕ) : Type 0 where
    pub once : AreOnce slab
    pub up_to : AreUpTo slab opened
    pub few : slab_len slab ≤ MAX_OPEN

  -- the values with one more, at its number's place
  abbrev pub put : Numbered T → List (Numbered T) → List (Numbered T)
  put x [] = x ∷ []
  put x (y ∷ ys) = if nat_lt y.number x.number then y ∷ put x ys else x ∷ (y ∷ ys)

  -- the values by rising number
  abbrev pub by_number : List (Option (Entry T)) → List (Numbered T)
  by_number [] = []
  by_number (None ∷ slots) = by_number slots
  by_number (Some entry ∷ slots) = put (record { number = entry.number; value = entry.value }) (by_number slots)
