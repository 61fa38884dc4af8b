-- what is told of listed items, one after the other
use Rattle.std.specs.Prelude.{◌≡◌, ◌<◌, ◌≤◌, ◌-◌, ◌⊎◌, ℕ, Bool, true, false, List, [], ◌∷◌, ◌++◌}
use Rattle.mr_forms.specs.Sets.{Covers, both}
use Rattle.mr_forms.specs.Runs.{of_author}
use Rattle.mr_concise.specs.declared.column.Hole.{Hole}
use Rattle.mr_concise.specs.declared.vector.AuthorColumn.{AuthorColumn}
use Rattle.mr_concise.specs.Vector.{vector_has, IsVectorFrom}
use Rattle.mr_itemset.specs.declared.knowledge.Listed.{Listed}
use Rattle.mr_itemset.specs.inner.Lacking.{Lacks}
use Rattle.mr_itemset.specs.Told.{is_beyond, AreTold}

-- the author's counters that the one vector has, and not the other one
abbrev pub beyond : List AuthorColumn → List AuthorColumn → ℕ → ℕ → Bool
beyond all own author = is_beyond (of_author (vector_has all) author) (of_author (vector_has own) author)

-- of the item it is told what it has, with all that all items have
pub record IsToldItem (all : List AuthorColumn) (x told : Listed) : Type 0 where
  pub item : told.item ≡ x.item
  pub vector_ok : IsVectorFrom 0 told.vector
  pub tells : AreTold (vector_has all) (both (vector_has all) (vector_has x.vector)) (vector_has told.vector)

-- all items have what the item has, and nothing is told; or what is told of it stands behind the others
abbrev pub GainsTold : List AuthorColumn → Listed → List Listed → List Listed → Type 0
GainsTold all x old new =
    (Covers (vector_has all) (vector_has x.vector) × (new ≡ old))
    ⊎ (Lacks (vector_has all) (vector_has x.vector) × ((told : Listed) × (IsToldItem all x told × (new ≡ old ++ told ∷ []))))

-- of these items, one after the other, it is told what not all items have, but of those that have no such thing
abbrev pub AreToldItems : List AuthorColumn → List Listed → List Listed → Type 0
AreToldItems all [] ts = ts ≡ []
AreToldItems all (x ∷ xs) ts =
    (Covers (vector_has all) (vector_has x.vector) × AreToldItems all xs ts)
    ⊎ (Lacks (vector_has all) (vector_has x.vector) × ((told : Listed) × ((rest : List Listed) × ((ts ≡ told ∷ rest) × (IsToldItem all x told × AreToldItems all xs rest)))))

-- from here to before the other counter the item has all, or the hole of them is behind the others
abbrev pub Skips : (ℕ → Bool) → ℕ → ℕ → List Hole → List Hole → Type 0
Skips own from first old new =
    ((new ≡ old) × ((c : ℕ) → from ≤ c → c < first → own c ≡ true))
    ⊎ ((new ≡ old ++ (record { first = from; last = first - 1 }) ∷ []) × ((c : ℕ) × ((from ≤ c) × ((c < first) × (own c ≡ false)))))
