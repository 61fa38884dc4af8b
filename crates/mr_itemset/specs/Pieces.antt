-- Items of which the same is known, in pieces of as many as a fragment lists.
use Rattle.std.specs.Prelude.{◌≡◌, ◌*◌, ◌↔◌, ℕ, true, List, Option, Some, None, take, drop, length}
use Rattle.std.specs.List.{list_any}
use Rattle.std.specs.List.Sorted.{IsStrictlySortedBy}
use Rattle.std.specs.declared.cmp.Ordering.TheVariants.{Less}
use Rattle.mr_version.specs.Name.{Name, name_cmp, name_eq}
use Rattle.mr_forms.specs.Sets.{Versions}
use Rattle.mr_forms.specs.Known.{Pairs}

-- the items, in rising order, are all those of which just these versions are known
pub record AreAllWith (pairs : Pairs) (versions : Versions) (items : List Name) : Type 0 where
  pub rising : IsStrictlySortedBy name_cmp items
  pub all : (i : Name) → (list_any (name_eq i) items ≡ true) ↔ (pairs i ≡ versions)

-- the piece is the first so many of the whole, or the so many behind them, and so on; the last piece is what is left
abbrev pub IsPieceOf : ℕ → List Name → List Name → Type 0
IsPieceOf most whole piece = (n : ℕ) × (piece ≡ take most (drop (n * most) whole))

-- the items are a piece of all those of which just these versions are known
pub record HasPiece (most : ℕ) (pairs : Pairs) (versions : Versions) (items : List Name) : Type 0 where
  pub whole : List Name
  pub are : AreAllWith pairs versions whole
  pub piece : IsPieceOf most whole items

-- there are so many of the items, and each is lower than each of the others
pub record FillsBefore (most : ℕ) (items others : List Name) : Type 0 where
  pub full : length items ≡ most
  pub below : (i j : Name) → list_any (name_eq i) items ≡ true → list_any (name_eq j) others ≡ true → name_cmp i j ≡ Less

-- of two parts that list items the first has so many, and each is lower than each of the other one
abbrev pub IsFullBefore : ℕ → Option (List Name) → Option (List Name) → Type 0
IsFullBefore most None others = ⊥
IsFullBefore most (Some items) None = ⊥
IsFullBefore most (Some items) (Some others) = FillsBefore most items others
