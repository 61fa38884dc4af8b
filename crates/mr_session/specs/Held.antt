-- the held versions of a source, as a full stream tells them
use Rattle.std.specs.Prelude.{◌≡◌, ℕ, List, [], ◌∷◌, ◌++◌, take}
use Rattle.mr_version.specs.Name.{Name}
use Rattle.mr_forms.specs.Sets.{is_listed}
use Rattle.mr_concise.specs.declared.vector.AuthorColumn.{AuthorColumn}
use Rattle.mr_concise.specs.Vector.{IsVectorOf, HasTooManyHoles}

-- no beginning of these versions has too many holes
abbrev pub FitOneByOne : List Name → Type 0
FitOneByOne versions = (n : ℕ) → ¬ HasTooManyHoles (is_listed (take n versions))

-- the vector is that of these versions, which it can be given one by one
pub record HasJust (versions : List Name) (vector : List AuthorColumn) : Type 0 where
  pub vector_of : IsVectorOf (is_listed versions) vector
  pub one_by_one : FitOneByOne versions

-- these versions are all that one vector can have of a list that goes on with the next one
abbrev pub IsAsLongAsCanBe : (front : List Name) → (next : Name) → Type 0
IsAsLongAsCanBe front next = HasTooManyHoles (is_listed (front ++ next ∷ []))

-- The vectors cut a list of versions: each has a piece of it, in order, and each but the last one as long a piece as one
-- vector can have. There is one vector at least, which is empty where there are no versions. A list is cut in one way.
abbrev pub AreCut : List Name → List (List AuthorColumn) → Type 0
AreCut versions [] = ⊥
AreCut versions (v ∷ []) = HasJust versions v
AreCut versions (v ∷ w ∷ vs) =
    (front : List Name) × (next : Name) × (back : List Name) × (versions ≡ front ++ next ∷ back)
    × HasJust front v × IsAsLongAsCanBe front next × AreCut (next ∷ back) (w ∷ vs)
