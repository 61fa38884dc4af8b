-- items and fragments that are read, and the least item of them
use Rattle.std.specs.Prelude.{◌≡◌, ℕ, List, [], ◌∷◌, Option, Some, None}
use Rattle.std.specs.Global.{Vec}
use Rattle.mr_version.specs.Name.{Name}
use Rattle.mr_forms.specs.declared.fragment.ItemSet.{ItemSet}
use Rattle.mr_wire.specs.Values.{Piece, listed_items, least_item}
use Rattle.mr_wire.specs.Reading.{Reader, Stands, run_at}
use Rattle.mr_wire.specs.Parts.{item_at, listed_items_at, items_at, fragment_at}

-- the first item once one more is read
abbrev pub first_or : Option Name → Name → Option Name
first_or None item = Some item
first_or (Some first) item = Some first

abbrev pub first_item : List Name → Option Name
first_item [] = None
first_item (item ∷ items) = Some item

-- the item that stands before the next one
abbrev pub next_item : Option Name → Name → Option Name
next_item _ item = Some item

abbrev pub run_items_at : ℕ → Reader (List Name)
run_items_at = run_at item_at next_item None

abbrev pub FindsItems : ℕ → List ℕ → Option (Option (Vec Name) × Option Name) → List ℕ → Type 0
FindsItems count old None new = run_items_at count old ≡ None
FindsItems count old (Some found) new = Stands (λ (v : Vec Name). v.items) (run_items_at count) old found.0 new (λ items. found.1 ≡ first_item items)

abbrev pub FindsListed : List ℕ → Option (Option (Vec Name) × Option Name) → List ℕ → Type 0
FindsListed old None new = listed_items_at old ≡ None
FindsListed old (Some found) new = Stands (λ (v : Vec Name). v.items) listed_items_at old found.0 new (λ items. found.1 ≡ first_item items)

abbrev pub FindsItemSet : List ℕ → Option (Option ItemSet × Option Name) → List ℕ → Type 0
FindsItemSet old None new = items_at old ≡ None
FindsItemSet old (Some found) new = Stands listed_items items_at old found.0 new (λ items. found.1 ≡ least_item items)

abbrev pub FindsFragment : List ℕ → Option (Option Piece × Option Name) → List ℕ → Type 0
FindsFragment old None new = fragment_at old ≡ None
FindsFragment old (Some found) new = Stands (λ (f : Piece). f) fragment_at old found.0 new (λ f. found.1 ≡ least_item f.items)
