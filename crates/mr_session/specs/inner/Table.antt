-- one value of a table that becomes another
use Rattle.std.specs.Prelude.{◌≡◌, ℕ, Some}
use Rattle.mr_session.specs.Table.{Table, open_at, with_changed}

module _ {T : Type 0} where
  -- What was open under the number has become another value, as the change may make it with this answer, and nothing else
  -- has changed.
  abbrev pub Changes : {R : Type 0} → (may : T → T × R → Type 0) → ℕ → Table T → (answer : R) → Table T → Type 0
  Changes may n table answer new =
      (before : T) × (after : T) × (open_at table n ≡ Some before) × may before (after, answer) × (new ≡ with_changed n (λ _. after) table)
