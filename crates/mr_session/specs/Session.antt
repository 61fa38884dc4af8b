-- sessions, and what they take
use Rattle.std.specs.Prelude.{◌+◌, ◌==◌, ℕ, Bool, true, false, not, ◌&&◌, nat_lt, if◌then◌else◌, List, [], ◌∷◌, ◌++◌, Option, Some, None}
use Rattle.mr_concise.specs.declared.vector.AuthorColumn.{AuthorColumn}
use Rattle.mr_wire.specs.Values.{Piece}
use Rattle.mr_wire.specs.Frames.{Sent}
use Rattle.mr_wire.specs.declared.frame.Mode.{Mode}
use Rattle.mr_wire.specs.declared.frame.Mode.TheVariants.{Full, Partial}
use Rattle.mr_wire.specs.declared.frame.Header.{Header}
use Rattle.mr_wire.specs.declared.frame.Body.{Body}
use Rattle.mr_wire.specs.declared.frame.Body.TheVariants.{Start, Item, MoveOut, Held, Know, End}
use Rattle.mr_session.specs.declared.fault.SessionFault.{SessionFault}
use Rattle.mr_session.specs.declared.fault.SessionFault.TheVariants.{NotStart, OtherStream, Repeated, Gap}
use Rattle.mr_session.specs.Table.{Table, with_changed}
use Rattle.mr_session.specs.declared.origin.Origin.{Origin}

-- A session: the stream that it is bound to, the index of the record that it takes next, and the vectors and
-- fragments of the Held and Know records of a full stream, in the order in which they were taken.
pub record Session : Type 0 where
  pub origin : Option Origin
  pub next : ℕ
  pub held : List (List AuthorColumn)
  pub know : List Piece

-- a session that has taken nothing
abbrev pub new_session : Session
new_session = record { origin = None; next = 0; held = []; know = [] }

-- ---- what is taken

-- whether the record is a stream's first
abbrev pub is_start : Body → Bool
is_start (Start mode) = true
is_start (Item revision) = false
is_start (MoveOut descent) = false
is_start (Held vector) = false
is_start (Know fragment) = false
is_start End = false

-- whether the record is of the stream
abbrev pub is_of : Origin → Header → Bool
is_of origin header = (origin.source == header.source) && (origin.stream == header.stream)

-- why a session does not take the record, if it does not: it begins with a Start, and goes on with that stream alone,
-- by index, with none left out
abbrev pub first_fault : Option Origin → (next : ℕ) → Sent → Option SessionFault
first_fault None next sent = if is_start sent.body then None else Some NotStart
first_fault (Some origin) next sent =
    if not (is_of origin sent.header) then Some OtherStream
    else (if nat_lt sent.header.index next then Some Repeated else (if nat_lt next sent.header.index then Some Gap else None))

-- ---- what it becomes

abbrev pub is_full_mode : Mode → Bool
is_full_mode Full = true
is_full_mode Partial = false

-- whether the session is bound to a full stream
abbrev pub is_full : Option Origin → Bool
is_full None = false
is_full (Some origin) = is_full_mode origin.mode

-- the element alone, if so
abbrev pub if_so : {X : Type 0} → Bool → X → List X
if_so b x = if b then x ∷ [] else []

-- the session with the record's body in it: a Start binds it, and a full stream's Held and Know are kept
abbrev pub with_body : Session → Header → Body → Session
with_body s header (Start mode) = record s { origin = Some (record { source = header.source; stream = header.stream; mode = mode }) }
with_body s header (Item revision) = s
with_body s header (MoveOut descent) = s
with_body s header (Held vector) = record s { held = s.held ++ if_so (is_full s.origin) vector }
with_body s header (Know fragment) = record s { know = s.know ++ if_so (is_full s.origin) fragment }
with_body s header End = s

-- the session once it has taken the record
abbrev pub after_record : Sent → Session → Session
after_record sent s = record (with_body s sent.header sent.body) { next = sent.header.index + 1 }

-- whether the record has a vector or a fragment, for which a session may need memory
abbrev pub is_to_keep : Body → Bool
is_to_keep (Start mode) = false
is_to_keep (Item revision) = false
is_to_keep (MoveOut descent) = false
is_to_keep (Held vector) = true
is_to_keep (Know fragment) = true
is_to_keep End = false

-- the table once the record's session has taken it
abbrev pub with_taken : Sent → Table Session → Table Session
with_taken sent table = with_changed sent.header.session (after_record sent) table
