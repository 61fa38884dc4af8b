-- vectors and their parts that are read while two versions are watched
use Rattle.std.specs.Prelude.{◌≡◌, ◌||◌, ◌&&◌, ◌==◌, ℕ, Bool, List, length, Option, Some, None}
use Rattle.std.specs.Global.{Vec}
use Rattle.std.specs.List.{list_any}
use Rattle.mr_concise.specs.declared.column.Hole.{Hole}
use Rattle.mr_concise.specs.Column.{hole_has, column_has}
use Rattle.mr_wire.specs.declared.vector.Counters.{Counters}
use Rattle.mr_wire.specs.declared.vector.Seen.{Seen}
use Rattle.mr_wire.specs.declared.vector.Place.{Place}
use Rattle.mr_wire.specs.declared.vector.Watch.{Watch}
use Rattle.mr_wire.specs.declared.vector.Head.{Head}
use Rattle.mr_wire.specs.declared.vector.Told.{Told}
use Rattle.mr_concise.specs.declared.vector.AuthorColumn.{AuthorColumn}
use Rattle.mr_concise.specs.Vector.{vector_has}
use Rattle.mr_version.specs.Name.{Name}
use Rattle.mr_wire.specs.Reading.{Stands}
use Rattle.mr_wire.specs.Parts.{holes_at, column_at, columns_at, vector_at}

-- whether one of the holes has the counter that is watched
pub record AreSeen (watched : Counters) (seen : Seen) (holes : List Hole) : Type 0 where
  pub version : seen.version ≡ list_any (λ hole. hole_has hole watched.version) holes
  pub item : seen.item ≡ list_any (λ hole. hole_has hole watched.item) holes

-- what is seen of counters once one more hole is looked at
abbrev pub seen_with : Seen → Hole → Counters → Seen
seen_with seen hole watched = record { version = seen.version || hole_has hole watched.version; item = seen.item || hole_has hole watched.item }

abbrev pub FindsHoles : ℕ → ℕ → Counters → List ℕ → Option (Option (Vec Hole) × Seen) → List ℕ → Type 0
FindsHoles upto count watched old None new = holes_at upto 0 count old ≡ None
FindsHoles upto count watched old (Some found) new = Stands (λ (v : Vec Hole). v.items) (holes_at upto 0 count) old found.0 new (AreSeen watched found.1)

-- what one of the two has seen
abbrev pub either_seen : Seen → Seen → Seen
either_seen a b = record { version = a.version || b.version; item = a.item || b.item }

abbrev pub name_of_place : Place → Name
name_of_place place = record { author = place.author; counter = place.counter }

-- whether the column has the version
abbrev pub is_in_column : AuthorColumn → Place → Bool
is_in_column x place = (x.author == place.author) && column_has x.column place.counter

-- what is told of a column
pub record IsHead (watch : Watch) (head : Head) (x : AuthorColumn) : Type 0 where
  pub author : head.author ≡ x.author
  pub version : head.seen.version ≡ is_in_column x watch.version
  pub item : head.seen.item ≡ is_in_column x watch.item

abbrev pub FindsColumn : ℕ → Watch → List ℕ → Option (Option AuthorColumn × Head) → List ℕ → Type 0
FindsColumn low watch old None new = column_at low old ≡ None
FindsColumn low watch old (Some found) new = Stands (λ (x : AuthorColumn). x) (column_at low) old found.0 new (IsHead watch found.1)

-- whether one of the columns has what is watched
pub record AreIn (watch : Watch) (seen : Seen) (columns : List AuthorColumn) : Type 0 where
  pub version : seen.version ≡ list_any (λ x. is_in_column x watch.version) columns
  pub item : seen.item ≡ list_any (λ x. is_in_column x watch.item) columns

abbrev pub FindsColumns : ℕ → Watch → List ℕ → Option (Option (Vec AuthorColumn) × Seen) → List ℕ → Type 0
FindsColumns count watch old None new = columns_at 0 count old ≡ None
FindsColumns count watch old (Some found) new = Stands (λ (v : Vec AuthorColumn). v.items) (columns_at 0 count) old found.0 new (AreIn watch found.1)

-- whether the vector has what is watched, and whether it has nothing
pub record AreHad (watch : Watch) (told : Told) (vector : List AuthorColumn) : Type 0 where
  pub version : told.seen.version ≡ vector_has vector (name_of_place watch.version)
  pub item : told.seen.item ≡ vector_has vector (name_of_place watch.item)
  pub empty : told.is_empty ≡ (length vector == 0)

abbrev pub FindsVector : Watch → List ℕ → Option (Option (List AuthorColumn) × Told) → List ℕ → Type 0
FindsVector watch old None new = vector_at old ≡ None
FindsVector watch old (Some found) new = Stands (λ (v : List AuthorColumn). v) vector_at old found.0 new (AreHad watch found.1)
