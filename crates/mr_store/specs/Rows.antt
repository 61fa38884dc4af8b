-- worked rows: what the definitions give for small values
use Rattle.std.specs.Prelude.{◌≡◌, ℕ, Bool, true, false, List, [], ◌∷◌, not, map, filter, Option, Some, None, refl}
use Rattle.std.proofs.Common.{◌⊎◌, inl, inr, true≢false, sym}
use Rattle.std.specs.List.Sorted.{IsStrictlySortedBy}
use Rattle.mr_version.specs.Name.{Name, name_eq}
use Rattle.mr_forms.specs.declared.fragment.ItemSet.TheVariants.{All}
use Rattle.mr_concise.specs.declared.vector.AuthorColumn.{AuthorColumn}
use Rattle.mr_concise.specs.Fragments.{ConciseFragment}
use Rattle.mr_concise.specs.Vector.{vector_has}
use Rattle.mr_madewith.specs.Revision.{Rev}
use Rattle.mr_madewith.proofs.Rising.{name_eq-swap}
use Rattle.mr_store.specs.declared.store.Part.TheVariants.{Heads, PushOuts}
use Rattle.mr_store.specs.Revisions.{versions_of, supersedes, left_by, has_conflict, holds, AreConflicts}
use Rattle.mr_store.specs.Leaving.{leaves}
use Rattle.mr_store.specs.Unheld.{is_unheld}
use Rattle.mr_store.specs.FragmentIndex.{listing_at, listings_from, general_from}
use Rattle.mr_store.specs.inner.FragmentIndex.{has_at}
use Rattle.mr_store.specs.inner.Index.{version_inserted, are_several, has_later, to_list, stays_listed}
use Rattle.mr_store.specs.Room.{room_of}
use Rattle.mr_store.specs.inner.Room.{is_for_later}
use Rattle.mr_store.specs.declared.room.Room.{Room}
use Rattle.mr_store.specs.Holdings.{Holdings, room_in, with_room, put_in}
use Rattle.mr_store.specs.HeldVersions.{by_held}

abbrev name : ℕ → ℕ → Name
name author counter = record { author = author; counter = counter }

-- an author's versions from 1 to this one
abbrev upto : (author last : ℕ) → AuthorColumn
upto author last = record { author = author; column = record { upto = last; holes = [] } }

-- a version of an item, with what it supersedes and no text
abbrev rev : (item version : Name) → List AuthorColumn → Rev
rev item version below = record { item = item; version = version; below = below; message = record { from = []; subject = []; body = []; labels = []; flags = 0; day = 0 } }

-- two versions of the item 0.1, and between them the first version of the item 0.3
abbrev three : List Rev
three = rev (name 0 1) (name 0 2) (upto 0 1 ∷ []) ∷ rev (name 0 3) (name 0 3) [] ∷ rev (name 0 1) (name 1 1) (upto 0 1 ∷ []) ∷ []

-- ---- items and their conflicts

-- an item's versions are in version order, and those of other items are left out
pub versions_of_one_item : versions_of (name 0 1) three ≡ name 0 2 ∷ name 1 1 ∷ []
versions_of_one_item = refl

-- an item that has no revision has no versions
pub versions_of_no_item : versions_of (name 0 2) three ≡ []
versions_of_no_item = refl

yes_or_no : (b : Bool) → (b ≡ true) ⊎ (b ≡ false)
yes_or_no true = inl refl
yes_or_no false = inr refl

-- two versions of one item are a conflict, one version of an item is none, and nor is an item's name that is a version of another item
pub which_conflict : map (has_conflict three) (name 0 1 ∷ name 0 3 ∷ name 0 2 ∷ []) ≡ true ∷ false ∷ false ∷ []
which_conflict = refl

-- the conflicts of the three revisions are those of the item 0.1, whatever item is asked for
pub conflicts_of_three : AreConflicts three (name 0 1 ∷ [])
unfolding IsStrictlySortedBy
conflicts_of_three = record {
  rising = (tt, tt);
  exact = λ item. rw (name_eq-swap item (name 0 1)) (elim (yes_or_no (name_eq (name 0 1) item)) [
    | inl here ↦ rw here (elim (yes_or_no (name_eq (name 0 3) item)) [ inl also ↦ rw also refl | inr apart ↦ rw apart refl ])
    | inr other ↦ rw other (elim (yes_or_no (name_eq (name 0 3) item)) [ inl also ↦ rw also refl | inr apart ↦ rw apart refl ])
  ]);
}

-- a list of conflicts that leaves the item out is not theirs
pub conflicts_left_out : ¬ AreConflicts three []
conflicts_left_out given = true≢false (sym (given.exact (name 0 1)))

-- ---- what a version of an item supersedes

-- what is below and of the item is superseded, and what is below and of another item is not
pub superseded_of_three : filter (supersedes (name 0 1) (vector_has (upto 0 3 ∷ []))) three ≡ rev (name 0 1) (name 0 2) (upto 0 1 ∷ []) ∷ []
superseded_of_three = refl

-- the others stay, in their order
pub left_of_three : left_by (name 0 1) (vector_has (upto 0 3 ∷ [])) three ≡ rev (name 0 3) (name 0 3) [] ∷ rev (name 0 1) (name 1 1) (upto 0 1 ∷ []) ∷ []
left_of_three = refl

-- a version leaves where it is listed, or where it is below: 1.1 is listed, 0.2 is below, 0.3 is neither
pub which_leave : map (leaves (name 1 1 ∷ []) (upto 0 2 ∷ [])) (name 1 1 ∷ name 0 2 ∷ name 0 3 ∷ []) ≡ true ∷ true ∷ false ∷ []
which_leave = refl

-- ---- what a source covers and did not hold

-- the versions 0.1 and 0.2 of all items
abbrev first_two : ConciseFragment
first_two = record { items = All; vector = upto 0 2 ∷ [] }

-- of the versions that are covered those leave that no vector has: here the second vector has 0.1
pub which_are_unheld : map (is_unheld (first_two ∷ []) ((upto 1 1 ∷ []) ∷ (upto 0 1 ∷ []) ∷ []) (name 0 1)) (name 0 1 ∷ name 0 2 ∷ name 0 3 ∷ []) ≡ false ∷ true ∷ false ∷ []
which_are_unheld = refl

-- heads leave by their versions, whatever else the list has: 2.1 is no head
pub left_by_versions : filter (λ r. not (holds (rev (name 0 3) (name 0 3) [] ∷ rev (name 2 1) (name 2 1) [] ∷ []) r.version)) three ≡ rev (name 0 1) (name 0 2) (upto 0 1 ∷ []) ∷ rev (name 0 1) (name 1 1) (upto 0 1 ∷ []) ∷ []
left_by_versions = refl

-- where nothing is covered nothing leaves, though no vector has it
pub none_unheld : is_unheld [] [] (name 0 1) (name 0 1) ≡ false
none_unheld = refl

-- ---- a store

-- the three revisions are heads, 2.1 was pushed out, and each part has room
abbrev store : Holdings
store = record { heads = three; push_outs = rev (name 2 1) (name 2 1) [] ∷ []; head_room = Some (room_of (rev (name 0 3) (name 0 4) [])); push_out_room = Some (room_of (rev (name 1 7) (name 1 7) [])) }

-- a head goes to its place by author and then by counter, and uses up the room of the heads alone
pub put_among_heads : put_in Heads (rev (name 0 3) (name 0 4) (upto 0 3 ∷ [])) store ≡ record store {
  heads = rev (name 0 1) (name 0 2) (upto 0 1 ∷ []) ∷ rev (name 0 3) (name 0 3) [] ∷ rev (name 0 3) (name 0 4) (upto 0 3 ∷ []) ∷ rev (name 0 1) (name 1 1) (upto 0 1 ∷ []) ∷ [];
  head_room = None;
}
put_among_heads = refl

-- a push-out goes before those of higher authors, whatever their counters
pub put_among_push_outs : put_in PushOuts (rev (name 1 7) (name 1 7) []) store ≡ record store { push_outs = rev (name 1 7) (name 1 7) [] ∷ rev (name 2 1) (name 2 1) [] ∷ []; push_out_room = None }
put_among_push_outs = refl

-- room is for a version of an item, here for the version 0.5 of the item 0.1
abbrev another : Rev
another = rev (name 0 1) (name 0 5) (upto 0 4 ∷ [])

-- room for another revision takes the place of the room that the part had
pub room_for_another : room_in PushOuts (with_room PushOuts another store) ≡ Some (record { item = name 0 1; version = name 0 5 })
room_for_another = refl

-- and the other part keeps its room
pub other_room_stays : room_in Heads (with_room PushOuts another store) ≡ Some (record { item = name 0 3; version = name 0 4 })
other_room_stays = refl

-- heads are held, and what they supersede is not
pub which_are_held : map (holds three) (name 0 2 ∷ name 1 1 ∷ name 0 1 ∷ []) ≡ true ∷ true ∷ false ∷ []
which_are_held = refl

-- a held version has itself and what it supersedes
pub by_a_head : map (by_held store (name 0 2)) (name 0 1 ∷ name 0 2 ∷ name 0 3 ∷ []) ≡ true ∷ true ∷ false ∷ []
by_a_head = refl

-- so has one that was pushed out
pub by_a_push_out : by_held store (name 2 1) (name 2 1) ≡ true
by_a_push_out = refl

-- a version that is not held has not even itself
pub by_none : by_held store (name 0 1) (name 0 1) ≡ false
by_none = refl

-- ---- fragments found by item

-- the fragments' items: of all items, of two items, and of one of these
abbrev told : List (Option (List Name))
told = None ∷ Some (name 0 1 ∷ name 0 2 ∷ []) ∷ Some (name 0 1 ∷ []) ∷ []

-- a fragment of all items has a place, and no listing
pub places_of_general : general_from 0 told ≡ 0 ∷ []
places_of_general = refl

-- each item that is listed has a listing, at the fragment's place
pub listings_of_told : listings_from 0 told ≡ listing_at 1 (name 0 1) ∷ listing_at 1 (name 0 2) ∷ listing_at 2 (name 0 1) ∷ []
listings_of_told = refl

-- the fragment at a place is asked for its vector alone, and behind the last one there is none
pub which_have_it : map (has_at (λ fragment. fragment.vector) (first_two ∷ record { items = All; vector = upto 1 3 ∷ [] } ∷ []) (name 1 2)) (0 ∷ 1 ∷ 2 ∷ []) ≡ false ∷ true ∷ false ∷ []
which_have_it = refl

-- ---- the index

-- a version goes behind the lower authors, and before a higher counter of its own author
pub inserted_by_order : version_inserted (name 1 1) (name 0 5 ∷ name 1 2 ∷ []) ≡ name 0 5 ∷ name 1 1 ∷ name 1 2 ∷ []
inserted_by_order = refl

-- two are several, and one is not
pub several_from_two : map are_several ([] ∷ (name 0 1 ∷ []) ∷ (name 0 1 ∷ name 0 2 ∷ []) ∷ []) ≡ false ∷ false ∷ true ∷ []
several_from_two = refl

-- the item 0.1 has later versions in each of the last two lists: no version and the first alone are none
pub which_have_later : map (has_later (name 0 1)) ([] ∷ (name 0 1 ∷ []) ∷ (name 0 2 ∷ []) ∷ (name 0 1 ∷ name 1 1 ∷ []) ∷ []) ≡ false ∷ false ∷ true ∷ true ∷ []
which_have_later = refl

-- room for the first version of an item, and for a later one
abbrev for_first : Option Room
for_first = Some (record { item = name 0 1; version = name 0 1 })

abbrev for_later : Option Room
for_later = Some (record { item = name 0 1; version = name 0 2 })

-- room is for a later version of its own item alone
pub whose_room : is_for_later for_later (name 0 1) ∷ is_for_later for_later (name 0 2) ∷ is_for_later for_first (name 0 1) ∷ is_for_later None (name 0 1) ∷ [] ≡ true ∷ false ∷ false ∷ false ∷ []
whose_room = refl

-- an item is not listed where its first version is all that is held of it
pub first_alone_is_unlisted : to_list None (name 0 3) (versions_of (name 0 3) three) ≡ None
first_alone_is_unlisted = refl

-- and where another version is held it is, with all of its versions
pub later_are_listed : to_list None (name 0 1) (name 0 1 ∷ name 0 2 ∷ []) ≡ Some (name 0 1 ∷ name 0 2 ∷ [])
later_are_listed = refl

-- room for a later version is a list, and room for the first is none
pub listed_for_room : to_list for_later (name 0 1) (name 0 1 ∷ []) ∷ to_list for_first (name 0 1) [] ∷ [] ≡ Some (name 0 1 ∷ []) ∷ None ∷ []
listed_for_room = refl

-- a list goes where the first version is all that is left in it, and no list comes
pub which_stay : stays_listed None (name 0 1) (Some (name 0 1 ∷ [])) ∷ stays_listed for_later (name 0 1) (Some []) ∷ stays_listed None (name 0 1) (Some (name 1 1 ∷ [])) ∷ stays_listed for_later (name 0 1) None ∷ [] ≡ None ∷ Some [] ∷ Some (name 1 1 ∷ []) ∷ None ∷ []
which_stay = refl
