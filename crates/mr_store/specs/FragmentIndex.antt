-- how fragments are found by item
use Rattle.std.specs.Prelude.{◌≡◌, ◌+◌, ◌&&◌, ℕ, Bool, true, List, [], ◌∷◌, ◌++◌, map, Option, Some, None}
use Rattle.std.specs.List.{list_any}
use Rattle.std.specs.List.Sorted.{IsPermutation}
use Rattle.mr_version.specs.Name.{Name, name_eq}
use Rattle.mr_forms.specs.Known.{Pairs}
use Rattle.mr_concise.specs.declared.vector.AuthorColumn.{AuthorColumn}
use Rattle.mr_concise.specs.Vector.{vector_has}
use Rattle.mr_store.specs.declared.fragment_index.Listing.{Listing}

-- whether what lists these items, or is of all items at none, is of the item
abbrev pub lists : Option (List Name) → Name → Bool
lists None i = true
lists (Some items) i = list_any (λ item. name_eq item i) items

abbrev pub item_of : Listing → Name
item_of listing = listing.item

-- the listing of an item in the fragment at a place
abbrev pub listing_at : (place : ℕ) → Name → Listing
listing_at place item = record { item = item; place = place }

-- the listings of a fragment at a place: none, where it is of all items
abbrev pub listings_of : (place : ℕ) → Option (List Name) → List Listing
listings_of place None = []
listings_of place (Some items) = map (listing_at place) items

-- the listings of fragments of which the first stands at a place
abbrev pub listings_from : (place : ℕ) → List (Option (List Name)) → List Listing
listings_from place [] = []
listings_from place (items ∷ others) = listings_of place items ++ listings_from (place + 1) others

-- the place, if it is of a fragment of all items
abbrev pub general_of : (place : ℕ) → Option (List Name) → List ℕ
general_of place None = place ∷ []
general_of place (Some items) = []

-- the places of the fragments of all items, where the first of the fragments stands at a place
abbrev pub general_from : (place : ℕ) → List (Option (List Name)) → List ℕ
general_from place [] = []
general_from place (items ∷ others) = general_of place items ++ general_from (place + 1) others

-- whether one of these, which list these items and have these versions, tells the version of the item
abbrev pub is_told : {F : Type 0} (listed : F → Option (List Name)) (vector : F → List AuthorColumn) → List F → Pairs
is_told listed vector fragments i v = list_any (λ fragment. lists (listed fragment) i && vector_has (vector fragment) v) fragments

-- the places of the fragments of all items, and the listings of the others
pub record Places : Type 0 where
  pub general : List ℕ
  pub listings : List Listing

-- these are the places of fragments that list these items, or all items at none
pub record Finds (items : List (Option (List Name))) (places : Places) : Type 0 where
  pub general_is : places.general ≡ general_from 0 items
  pub all_listed : IsPermutation (listings_from 0 items) places.listings
