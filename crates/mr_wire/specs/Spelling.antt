-- how parts are spelled
use Rattle.std.specs.Prelude.{ℕ, List, ◌++◌, length, Option, Some, None}
use Rattle.std.specs.Int.{w8, w16, w32, w64, to_be_bytes}
use Rattle.std.specs.List.{flat_map}
use Rattle.mr_version.specs.Name.{Name}
use Rattle.mr_concise.specs.declared.column.Hole.{Hole}
use Rattle.mr_concise.specs.declared.vector.AuthorColumn.{AuthorColumn}
use Rattle.mr_filter.specs.Filter.{ClauseParts}
use Rattle.mr_mail.specs.Mail.{Mail}
use Rattle.mr_wire.specs.Values.{DescentParts, Piece}

-- numbers of one, two, four and eight bytes, the highest byte first
abbrev pub u8 : ℕ → List ℕ
u8 = to_be_bytes w8

abbrev pub u16 : ℕ → List ℕ
u16 = to_be_bytes w16

abbrev pub u32 : ℕ → List ℕ
u32 = to_be_bytes w32

abbrev pub u64 : ℕ → List ℕ
u64 = to_be_bytes w64

-- a version or an item: author, counter
abbrev pub name_bytes : Name → List ℕ
name_bytes v = u16 v.author ++ u32 v.counter

-- a hole: first, last
abbrev pub hole_bytes : Hole → List ℕ
hole_bytes hole = u32 hole.first ++ u32 hole.last

-- a column: author, bound, count of holes, holes
abbrev pub column_bytes : AuthorColumn → List ℕ
column_bytes x = u16 x.author ++ (u32 x.column.upto ++ (u16 (length x.column.holes) ++ flat_map hole_bytes x.column.holes))

-- a vector: count of columns, columns
abbrev pub vector_bytes : List AuthorColumn → List ℕ
vector_bytes columns = u16 (length columns) ++ flat_map column_bytes columns

-- a label: length, bytes
abbrev pub label_bytes : List ℕ → List ℕ
label_bytes label = u8 (length label) ++ label

-- labels: count, labels
abbrev pub labels_bytes : List (List ℕ) → List ℕ
labels_bytes labels = u8 (length labels) ++ flat_map label_bytes labels

-- a clause: labels wanted, labels barred, flags on, flags off, first day
abbrev pub clause_bytes : ClauseParts → List ℕ
clause_bytes clause = labels_bytes clause.all_labels ++ (labels_bytes clause.no_labels ++ (u8 clause.flags_on ++ (u8 clause.flags_off ++ u16 clause.since)))

-- a filter: count of clauses, clauses
abbrev pub filter_bytes : List ClauseParts → List ℕ
filter_bytes filter = u8 (length filter) ++ flat_map clause_bytes filter

-- sender, subject and body, each behind its length
abbrev pub texts_bytes : Mail → List ℕ
texts_bytes mail = (u16 (length mail.from) ++ mail.from) ++ ((u16 (length mail.subject) ++ mail.subject) ++ (u32 (length mail.body) ++ mail.body))

-- labels, flags, day
abbrev pub card_bytes : Mail → List ℕ
card_bytes mail = labels_bytes mail.labels ++ (u8 mail.flags ++ u16 mail.day)

-- a message: its texts, and its labels, flags and day
abbrev pub message_bytes : Mail → List ℕ
message_bytes mail = texts_bytes mail ++ card_bytes mail

-- items: 0 for all of them, or 1, the count of the listed ones, and those
abbrev pub items_bytes : Option (List Name) → List ℕ
items_bytes None = u8 0
items_bytes (Some items) = u8 1 ++ (u32 (length items) ++ flat_map name_bytes items)

-- a fragment: items, vector
abbrev pub fragment_bytes : Piece → List ℕ
fragment_bytes piece = items_bytes piece.items ++ vector_bytes piece.vector

-- a version of an item: item, version, what it supersedes
abbrev pub descent_bytes : DescentParts → List ℕ
descent_bytes descent = name_bytes descent.item ++ (name_bytes descent.version ++ vector_bytes descent.below)
