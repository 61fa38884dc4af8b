-- what frames carry, as contracts see it
use Rattle.std.specs.Prelude.{◌≡◌, ◌≤◌, Bool, true, List, [], ◌∷◌, length, Option, Some, None, refl}
use Rattle.std.specs.Coded.{Coded, code_by, coded×, coded_list, coded_option}
use Rattle.std.specs.Ordering.{is_lt}
use Rattle.mr_version.specs.Name.{Name, name_code, name_cmp}
use Rattle.mr_forms.specs.declared.fragment.Fragment.{Fragment}
pub use Rattle.mr_forms.specs.Covered.{listed_items}
use Rattle.mr_concise.specs.declared.vector.AuthorColumn.{AuthorColumn}
use Rattle.mr_concise.specs.Vector.{author_column_code}
use Rattle.mr_forms.specs.declared.fragment.TheConstants.{MAX_ITEMS}

-- a version of an item, with the versions that it supersedes
pub record DescentParts : Type 0 where
  pub item : Name
  pub version : Name
  pub below : List AuthorColumn

-- it is stored as the tuple of its parts
abbrev pub descent_code : Coded DescentParts
descent_code =
    code_by ((Name × Name) × List AuthorColumn) (coded× (coded× name_code name_code) (coded_list author_column_code))
    (λ d. ((d.item, d.version), d.below)) (λ p. record { item = p.0.0; version = p.0.1; below = p.1 }) (λ _. refl)

-- a fragment: the items, or none where it is of all items, and the versions known for each
pub record Piece : Type 0 where
  pub items : Option (List Name)
  pub vector : List AuthorColumn

-- it is stored as the pair of its parts
abbrev pub piece_code : Coded Piece
piece_code =
    code_by (Option (List Name) × List AuthorColumn) (coded× (coded_option (coded_list name_code)) (coded_list author_column_code))
    (λ f. (f.items, f.vector)) (λ p. record { items = p.0; vector = p.1 }) (λ _. refl)

-- the fragment without where it lies in memory
abbrev pub piece_of : Fragment (List AuthorColumn) → Piece
piece_of fragment = record { items = listed_items fragment.items; vector = fragment.vector }

-- whether an item may follow the one before it, if there is one: items rise
abbrev pub item_follows : Option Name → Name → Bool
item_follows None item = true
item_follows (Some before) item = is_lt (name_cmp before item)

-- the items rise, and the first may follow the one before
abbrev pub ItemsRise : Option Name → List Name → Type 0
ItemsRise before [] = Unit {0}
ItemsRise before (item ∷ items) = (item_follows before item ≡ true) × ItemsRise (Some item) items

-- what items a fragment may list: 1 to 65,536, rising
abbrev pub AreItems : Option (List Name) → Type 0
AreItems None = Unit {0}
AreItems (Some items) = (1 ≤ length items) × (length items ≤ MAX_ITEMS) × ItemsRise None items

-- the least item of a fragment, or none where it is of all items
abbrev pub least_item : Option (List Name) → Option Name
least_item None = None
least_item (Some []) = None
least_item (Some (item ∷ items)) = Some item
