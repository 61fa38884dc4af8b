-- What is told of items, grouped one after the other.
use Rattle.std.proofs.Common.{◌≡◌, List, [], ◌∷◌, ◌++◌, ℕ, refl, inl, inr}
use Rattle.mr_itemset.proofs.Names.{Alike, AreToldItems, AuthorColumn, GroupsTold, IsGrouping, Listed, MAX_ITEMS, all_grouped, grouped}
use Rattle.mr_itemset.specs.declared.groups.Grouping.{Grouping}
use Rattle.mr_itemset.proofs.ToldItems.{told_more}

-- the groups with one item more behind these
grouped_more : (most : ℕ) (gs : List Alike) (xs : List Listed) (x : Listed) → all_grouped most gs (xs ++ x ∷ []) ≡ grouped most (all_grouped most gs xs) x
grouped_more most gs [] x = refl
grouped_more most gs (y ∷ ys) x = grouped_more most (grouped most gs y) ys x

-- the groups are those that stand there
pub its_own : (gs : List Alike) (g : Grouping) → IsGrouping gs g → IsGrouping g.groups.items g
its_own gs g is = record { groups = refl; in_turn = rw is.groups is.in_turn; noted = rw is.groups is.noted; some = is.some }

-- what is told of the items so far, and that it is grouped
abbrev pub GroupsSoFar : List AuthorColumn → List Listed → Grouping → Type 0
GroupsSoFar all xs g = (told : List Listed) × (AreToldItems all xs told × IsGrouping (all_grouped MAX_ITEMS [] told) g)

-- one item more
pub grouping_more : (all : List AuthorColumn) (xs : List Listed) (x : Listed) (old new : Grouping) → GroupsSoFar all xs old → GroupsTold all x old new → GroupsSoFar all (xs ++ x ∷ []) new
grouping_more all xs x old new (told, are) (inl same) = (told, (told_more all xs told told x are.0 (inl (same.0, refl)), rw same.1 are.1))
grouping_more all xs x old new (told, are) (inr m) = (
  told ++ m.1.0 ∷ [],
  (
    told_more all xs told (told ++ m.1.0 ∷ []) x are.0 (inr (m.0, (m.1.0, (m.1.1.0, refl)))),
    rw (grouped_more MAX_ITEMS [] told m.1.0, ← are.1.groups) m.1.1.1,
  ),
)
