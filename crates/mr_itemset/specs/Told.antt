-- What a fragment of a sparing knowledge says of listed items: the versions that they have and all items lack, in columns
-- with as few holes as any that leave the meaning as it is.
use Rattle.std.specs.Prelude.{◌≡◌, ◌≤◌, ◌⊎◌, ◌↔◌, ℕ, Bool, true, false, ◌&&◌, not, List, Option, Some, None}
use Rattle.mr_version.specs.Name.{Name}
use Rattle.mr_forms.specs.Sets.{Versions, Covers}
use Rattle.mr_forms.specs.Runs.{of_author}
use Rattle.mr_forms.specs.Known.{Part}
use Rattle.mr_concise.specs.declared.vector.AuthorColumn.{AuthorColumn}
use Rattle.mr_concise.specs.Source.{HasHoles, HasAtMostHoles}
use Rattle.mr_concise.specs.Vector.{vector_has}
use Rattle.mr_itemset.specs.Normal.{Normal}
use Rattle.mr_itemset.specs.ItemForm.{IsNormalPart}
use Rattle.mr_itemset.specs.Shown.{Shown}

-- the item has the counter, and not all items have it
abbrev pub is_beyond : (ℕ → Bool) → (ℕ → Bool) → ℕ → Bool
is_beyond all own c = own c && not (all c)

-- The counter is told: it lies in a stretch of counters that the item has, which ends with one that not all items have, and
-- begins with such a one too, or with the first counter that there is.
pub record IsTold (all own : ℕ → Bool) (c : ℕ) : Type 0 where
  pub first : ℕ
  pub last : ℕ
  pub above : first ≤ c
  pub below : c ≤ last
  pub begins : (first ≡ 1) ⊎ (is_beyond all own first ≡ true)
  pub ends : is_beyond all own last ≡ true
  pub has : (n : ℕ) → first ≤ n → n ≤ last → own n ≡ true

-- the author's counters that are told
abbrev pub IsToldOfAuthor : Versions → Versions → ℕ → ℕ → Type 0
IsToldOfAuthor all own author = IsTold (of_author all author) (of_author own author)

-- just those versions are told, of each author
abbrev pub AreTold : Versions → Versions → Versions → Type 0
AreTold all own told = (v : Name) → (told v ≡ true) ↔ IsToldOfAuthor all own v.author v.counter

-- Of all items a part says what all items have. Of listed ones it says what is told of those that they have.
abbrev pub Tells : Versions → Option (List Name) → Versions → Versions → Type 0
Tells all None own said = said ≡ own
Tells all (Some items) own said = AreTold all own said

-- the part of the normal form with these items, in place of whose versions those that are told are said
pub record IsToldPart (k : Normal) (p : Part) : Type 0 where
  pub own : Versions
  pub normal : IsNormalPart k (record { items = p.items; versions = own })
  pub tells : Tells (vector_has k.all) p.items own p.versions

-- the fragment lists the items of the other one, and tells what they have
pub record IsToldOf (all : List AuthorColumn) (whole told : Shown) : Type 0 where
  pub items : told.items ≡ whole.items
  pub tells : Tells (vector_has all) whole.items (vector_has whole.vector) (vector_has told.vector)

-- beside what all items have, the set says just what the item has
pub record IsEnough (all own set : Versions) : Type 0 where
  pub says : (v : Name) → own v ≡ true → all v ≡ false → set v ≡ true
  pub true_of : Covers own set

-- of no author has a column of such a set fewer holes than the told one
abbrev pub HasFewestHoles : Versions → Versions → Versions → Type 0
HasFewestHoles all own told = (set : Versions) → IsEnough all own set → (author holes : ℕ) → HasHoles (of_author set author) holes → HasAtMostHoles (of_author told author) holes

-- a fragment that lists items has such columns
abbrev pub Spares : Versions → Option (List Name) → Versions → Versions → Type 0
Spares all None own said = Unit {0}
Spares all (Some items) own said = HasFewestHoles all own said

abbrev pub IsSparest : List AuthorColumn → Shown → Shown → Type 0
IsSparest all whole told = Spares (vector_has all) whole.items (vector_has whole.vector) (vector_has told.vector)
