-- worked rows: what the definitions give for small values
use Rattle.std.specs.Prelude.{◌≡◌, ◌==◌, ℕ, Bool, true, false, List, [], ◌∷◌, map, Option, Some, None, refl}
use Rattle.std.proofs.Common.{true≢false, ap, sym}
use Rattle.mr_version.specs.Name.{Name}
use Rattle.mr_concise.specs.declared.vector.AuthorColumn.{AuthorColumn}
use Rattle.mr_madewith.specs.Revision.{Rev, has_below, by_base, IsRevision}
use Rattle.mr_madewith.specs.Keyed.{named, without, inserted}
use Rattle.mr_madewith.specs.Trail.{last_of, noted}
use Rattle.mr_madewith.specs.MadeWith.{own_before, by_bases, filled_below}

abbrev name : ℕ → ℕ → Name
name author counter = record { author = author; counter = counter }

-- an author's versions from 1 to this one
abbrev upto : (author last : ℕ) → AuthorColumn
upto author last = record { author = author; column = record { upto = last; holes = [] } }

-- a version of an item, with what it supersedes and no text
abbrev rev : (item version : Name) → List AuthorColumn → Rev
rev item version below = record { item = item; version = version; below = below; message = record { from = []; subject = []; body = []; labels = []; flags = 0; day = 0 } }

-- ---- lists in the order of names

abbrev itself : Name → Name
itself v = v

-- an element goes behind the lower authors, and before the higher counters of its author
pub inserted_between : inserted itself (name 1 2) (name 0 9 ∷ name 1 1 ∷ name 1 3 ∷ name 2 1 ∷ []) ≡ name 0 9 ∷ name 1 1 ∷ name 1 2 ∷ name 1 3 ∷ name 2 1 ∷ []
inserted_between = refl

-- an element that is there already is not looked for: it is there twice then
pub inserted_twice : inserted itself (name 0 1) (name 0 1 ∷ []) ≡ name 0 1 ∷ name 0 1 ∷ []
inserted_twice = refl

-- all of the name are left out, and the others keep their order
pub without_all : without itself (name 0 1) (name 0 1 ∷ name 1 1 ∷ name 0 1 ∷ name 0 2 ∷ []) ≡ name 1 1 ∷ name 0 2 ∷ []
without_all = refl

-- there is none of a name that is not there
pub named_none : named itself (name 1 1) (name 0 1 ∷ name 1 2 ∷ []) ≡ None
named_none = refl

-- ---- revisions

-- what a revision supersedes lacks the revision's own version
pub base_or_below : map (has_below (rev (name 0 1) (name 1 1) (upto 0 2 ∷ []))) (name 0 1 ∷ name 0 2 ∷ name 0 3 ∷ name 1 1 ∷ []) ≡ true ∷ true ∷ false ∷ false ∷ []
base_or_below = refl

-- as a base it counts with its own version
pub base_and_below : map (by_base (rev (name 0 1) (name 1 1) (upto 0 2 ∷ []))) (name 0 1 ∷ name 0 2 ∷ name 0 3 ∷ name 1 1 ∷ []) ≡ true ∷ true ∷ false ∷ true ∷ []
base_and_below = refl

-- an item's first version supersedes nothing
pub first_version : IsRevision (name 0 1) (name 0 1) []
first_version = record { lacks_itself = refl; first = λ _. refl; later = λ other. absurd (other refl) }

-- a later version supersedes the first
pub later_version : IsRevision (name 0 1) (name 0 2) (upto 0 1 ∷ [])
later_version = record { lacks_itself = refl; first = λ same. absurd (true≢false (ap (λ v. v.counter == 2) same)); later = λ _. refl }

-- one that does not is no revision
pub lacks_the_first : ¬ IsRevision (name 0 1) (name 0 2) []
lacks_the_first given = true≢false (sym (given.later (λ same. true≢false (ap (λ v. v.counter == 2) same))))

-- nor is one that supersedes itself
pub has_itself : ¬ IsRevision (name 0 1) (name 0 2) (upto 0 2 ∷ [])
has_itself given = true≢false given.lacks_itself

-- ---- what an edit supersedes

-- an author's own versions before the new one: not the new one, none of another author, and no counter of 0
pub own_column : map (own_before (name 0 3)) (name 0 0 ∷ name 0 1 ∷ name 0 2 ∷ name 0 3 ∷ name 1 1 ∷ []) ≡ false ∷ true ∷ true ∷ false ∷ false ∷ []
own_column = refl

-- the first version of an author has none before it
pub own_column_of_the_first : own_before (name 0 1) (name 0 1) ≡ false
own_column_of_the_first = refl

-- the bases count with all that they supersede, each of them
pub of_two_bases : map (by_bases (rev (name 0 1) (name 1 1) (upto 0 1 ∷ []) ∷ rev (name 0 1) (name 2 2) (upto 0 1 ∷ []) ∷ [])) (name 0 1 ∷ name 1 1 ∷ name 2 1 ∷ name 2 2 ∷ []) ≡ true ∷ true ∷ false ∷ true ∷ []
of_two_bases = refl

-- no bases have nothing
pub of_no_bases : by_bases [] (name 0 1) ≡ false
of_no_bases = refl

-- of the item 1.1: the base 1.2, and the version 0.3 that the editor made last, which superseded 2.1
abbrev base : Rev
base = rev (name 1 1) (name 1 2) (upto 1 1 ∷ [])

abbrev last : Rev
last = rev (name 1 1) (name 0 3) (upto 0 2 ∷ upto 1 1 ∷ upto 2 1 ∷ [])

-- what the edit 0.6 of that base supersedes, by the last own version
abbrev edit : Option Rev → Name → Bool
edit own = filled_below (by_bases (base ∷ [])) own (name 0 6)

-- the base and what it supersedes
pub edit_has_base : map (edit (Some last)) (name 1 1 ∷ name 1 2 ∷ name 1 3 ∷ []) ≡ true ∷ true ∷ false ∷ []
edit_has_base = refl

-- the last own version with all that it supersedes, though no base has it
pub edit_has_last : map (edit (Some last)) (name 0 3 ∷ name 2 1 ∷ []) ≡ true ∷ true ∷ []
edit_has_last = refl

-- where the editor made no version of the item before, the own column is filled all the same, and 2.1 is not superseded
pub edit_has_no_last : map (edit None) (name 0 3 ∷ name 2 1 ∷ []) ≡ true ∷ false ∷ []
edit_has_no_last = refl

-- the own column is filled up to the edit, with versions of other items as well, and the edit itself is not in it
pub edit_fills_column : map (edit (Some last)) (name 0 1 ∷ name 0 4 ∷ name 0 5 ∷ name 0 6 ∷ name 0 7 ∷ []) ≡ true ∷ true ∷ true ∷ false ∷ false ∷ []
edit_fills_column = refl

-- with no base and no last own version there is the own column alone
pub own_column_alone : map (filled_below (by_bases []) None (name 0 2)) (name 0 1 ∷ name 0 2 ∷ name 1 1 ∷ []) ≡ true ∷ false ∷ false ∷ []
own_column_alone = refl

-- ---- the trail

-- the last own versions of the items 0.1 and 1.1
abbrev lasts : List Rev
lasts = rev (name 0 1) (name 0 4) (upto 0 3 ∷ []) ∷ last ∷ []

-- a version is found by its item, and not by its own name
pub found_by_item : map (last_of lasts) (name 1 1 ∷ name 0 3 ∷ []) ≡ Some last ∷ None ∷ []
found_by_item = refl

-- a new version takes the place of its item's last one
pub noted_again : noted (rev (name 0 1) (name 0 6) (upto 0 5 ∷ [])) lasts ≡ rev (name 0 1) (name 0 6) (upto 0 5 ∷ []) ∷ last ∷ []
noted_again = refl

-- one of another item goes to its item's place, though its own counter is higher
pub noted_anew : noted (rev (name 0 9) (name 0 9) (upto 0 8 ∷ [])) lasts ≡ rev (name 0 1) (name 0 4) (upto 0 3 ∷ []) ∷ rev (name 0 9) (name 0 9) (upto 0 8 ∷ []) ∷ last ∷ []
noted_anew = refl
