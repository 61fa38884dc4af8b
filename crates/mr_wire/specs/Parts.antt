-- the parts of frames, as they are read
use Rattle.std.specs.Prelude.{◌+◌, ℕ, Bool, true, not, ◌&&◌, ◌==◌, nat_le, nat_lt, if◌then◌else◌, List, length, Option, Some, None}
use Rattle.std.specs.Int.{w8, w16, w32}
use Rattle.std.specs.Ordering.{is_lt}
use Rattle.std.specs.Str.{is_utf8}
use Rattle.mr_version.specs.Name.{Name, name_eq}
use Rattle.mr_mail.specs.Label.{is_label, text_cmp}
use Rattle.mr_mail.specs.Mail.{Mail}
use Rattle.mr_filter.specs.Filter.{ClauseParts, clause_with}
use Rattle.mr_concise.specs.Vector.{vector_has}
use Rattle.mr_wire.specs.Values.{DescentParts, Piece, item_follows}
use Rattle.mr_concise.specs.declared.column.Hole.{Hole}
use Rattle.mr_concise.specs.declared.vector.AuthorColumn.{AuthorColumn}
use Rattle.mr_wire.specs.Reading.{Reader, ◌>>=◌, number_at, bytes_at, only_at, as_at, then_at, counted_at, run_at}
use Rattle.mr_version.specs.declared.author.TheConstants.{AUTHORS}
use Rattle.mr_version.specs.declared.version.TheConstants.{MAX_COUNTER}
use Rattle.mr_mail.specs.declared.message.TheConstants.{MAX_FROM_BYTES, MAX_SUBJECT_BYTES, MAX_BODY_BYTES}
use Rattle.mr_mail.specs.declared.label.TheConstants.{MAX_LABELS}
use Rattle.mr_filter.specs.declared.clause.TheConstants.{MAX_CLAUSE_LABELS}
use Rattle.mr_filter.specs.declared.filter.TheConstants.{MAX_CLAUSES}
use Rattle.mr_concise.specs.declared.column.TheConstants.{MAX_HOLES}
use Rattle.mr_forms.specs.declared.fragment.TheConstants.{MAX_ITEMS}

-- an author: 0 to 63
abbrev pub author_at : Reader ℕ
author_at = only_at (λ n. nat_lt n AUTHORS) (number_at w16)

-- a counter: 1 to 1,000,000
abbrev pub counter_at : Reader ℕ
counter_at = only_at (λ n. nat_le 1 n && nat_le n MAX_COUNTER) (number_at w32)

-- a version or an item
abbrev pub name_at : Reader Name
name_at = as_at (λ p. record { author = p.0; counter = p.1 }) (then_at author_at (λ _. counter_at))

-- a hole below the bound, that begins above this counter
abbrev pub hole_at : ℕ → ℕ → Reader Hole
hole_at upto above =
    only_at (λ hole. nat_lt above hole.first && nat_le hole.first hole.last && nat_lt hole.last upto)
    (as_at (λ p. record { first = p.0; last = p.1 }) (then_at (number_at w32) (λ _. number_at w32)))

-- holes that rise, with a counter between each two
abbrev pub holes_at : ℕ → ℕ → ℕ → Reader (List Hole)
holes_at upto = run_at (hole_at upto) (λ _ hole. hole.last + 1)

-- the holes below the bound, behind their count: at most 4,096
abbrev pub column_holes_at : ℕ → Reader (List Hole)
column_holes_at upto = counted_at (only_at (λ n. nat_le n MAX_HOLES) (number_at w16)) (holes_at upto 0)

-- a column of this author or a higher one
abbrev pub column_at : ℕ → Reader AuthorColumn
column_at low =
    as_at (λ p. record { author = p.0; column = record { upto = p.1.0; holes = p.1.1 } })
    (then_at (only_at (λ author. nat_le low author) author_at) (λ _. then_at counter_at column_holes_at))

-- columns by rising author
abbrev pub columns_at : ℕ → ℕ → Reader (List AuthorColumn)
columns_at = run_at column_at (λ _ x. x.author + 1)

abbrev pub vector_at : Reader (List AuthorColumn)
vector_at = counted_at (number_at w16) (columns_at 0)

-- a version never supersedes itself; an item's first one supersedes nothing, and each other one the first
abbrev pub is_descent : DescentParts → Bool
is_descent descent =
    not (vector_has descent.below descent.version)
    && (if name_eq descent.version descent.item then length descent.below == 0 else vector_has descent.below descent.item)

-- an item, a version of it, and what that supersedes
abbrev pub descent_at : Reader DescentParts
descent_at = only_at is_descent (as_at (λ p. record { item = p.0; version = p.1.0; below = p.1.1 }) (then_at name_at (λ _. then_at name_at (λ _. vector_at))))

-- whether a label may follow the one before it, if there is one: labels rise by their bytes
abbrev pub label_follows : Option (List ℕ) → List ℕ → Bool
label_follows None label = true
label_follows (Some before) label = is_lt (text_cmp before label)

abbrev pub label_at : Option (List ℕ) → Reader (List ℕ)
label_at before = only_at (λ label. is_label label && label_follows before label) (counted_at (number_at w8) bytes_at)

-- at most sixteen labels, which rise
abbrev pub labels_at : Reader (List (List ℕ))
labels_at = counted_at (only_at (λ n. nat_le n MAX_LABELS) (number_at w8)) (run_at label_at (λ _ label. Some label) None)

-- a set of flags: at most 31
abbrev pub flags_at : Reader ℕ
flags_at = only_at (λ n. nat_le n 31) (number_at w8)

-- a clause, which names at most eight labels
abbrev pub clause_at : Reader ClauseParts
clause_at =
    only_at (λ clause. nat_le (length clause.all_labels + length clause.no_labels) MAX_CLAUSE_LABELS)
    (as_at (λ p. clause_with p.0 p.1.0 p.1.1.0 p.1.1.1.0 p.1.1.1.1)
    (then_at labels_at (λ _. then_at labels_at (λ _. then_at flags_at (λ _. then_at flags_at (λ _. number_at w16))))))

-- so many clauses
abbrev pub clauses_at : ℕ → Reader (List ClauseParts)
clauses_at = run_at (λ (_ : ℕ). clause_at) (λ _ _. 0) 0

-- a filter: at most sixteen clauses
abbrev pub filter_at : Reader (List ClauseParts)
filter_at = counted_at (only_at (λ n. nat_le n MAX_CLAUSES) (number_at w8)) clauses_at

-- a text of at most so many bytes
abbrev pub text_at : ℕ → Reader (List ℕ)
text_at most = only_at is_utf8 (counted_at (only_at (λ n. nat_le n most) (number_at w16)) bytes_at)

-- a body: at most 65,536 bytes
abbrev pub message_body_at : Reader (List ℕ)
message_body_at = counted_at (only_at (λ n. nat_le n MAX_BODY_BYTES) (number_at w32)) bytes_at

abbrev pub message_at : Reader Mail
message_at =
    as_at (λ p. record { from = p.0; subject = p.1.0; body = p.1.1.0; labels = p.1.1.1.0; flags = p.1.1.1.1.0; day = p.1.1.1.1.1 })
    (then_at (text_at MAX_FROM_BYTES) (λ _. then_at (text_at MAX_SUBJECT_BYTES) (λ _. then_at message_body_at (λ _. then_at labels_at (λ _. then_at flags_at (λ _. number_at w16))))))

-- an item of a fragment, which may follow the one before it
abbrev pub item_at : Option Name → Reader Name
item_at before = only_at (item_follows before) name_at

-- 1 to 65,536 items, which rise
abbrev pub listed_items_at : Reader (List Name)
listed_items_at = counted_at (only_at (λ n. nat_le 1 n && nat_le n MAX_ITEMS) (number_at w32)) (run_at item_at (λ _ item. Some item) None)

-- 0 for all items, or 1 and the listed ones
abbrev pub items_at : Reader (Option (List Name))
items_at bytes = number_at w8 bytes >>= λ tag. if tag.0 == 0 then Some (None, tag.1) else (if tag.0 == 1 then as_at (λ items. Some items) listed_items_at tag.1 else None)

abbrev pub fragment_at : Reader Piece
fragment_at = as_at (λ p. record { items = p.0; vector = p.1 }) (then_at items_at (λ _. vector_at))
