-- streams, and what they draw
use Rattle.std.specs.Prelude.{◌≡◌, ◌+◌, ◌==◌, ℕ, Bool, true, false, not, ◌&&◌, ◌||◌, if◌then◌else◌, List, [], ◌∷◌, map, find, Option, Some, None}
use Rattle.std.specs.List.{list_any}
use Rattle.mr_version.specs.Name.{Name, name_eq}
use Rattle.mr_forms.specs.Sets.{Versions}
use Rattle.mr_forms.specs.Known.{Pairs}
use Rattle.mr_mail.specs.Mail.{card_of}
use Rattle.mr_filter.specs.Filter.{ClauseParts}
use Rattle.mr_filter.specs.Meaning.{selects}
use Rattle.mr_concise.specs.declared.vector.AuthorColumn.{AuthorColumn}
use Rattle.mr_concise.specs.Vector.{vector_has}
use Rattle.mr_madewith.specs.Revision.{Rev}
use Rattle.mr_madewith.specs.Keyed.{is_before}
pub use Rattle.mr_store.specs.FragmentIndex.{lists}
use Rattle.mr_store.specs.Holdings.{Holdings}
use Rattle.mr_store.specs.Revisions.{version_of}
use Rattle.mr_wire.specs.Values.{Piece}
use Rattle.mr_wire.specs.Frames.{Sent, Question}
use Rattle.mr_wire.specs.declared.frame.Header.{Header}
use Rattle.mr_wire.specs.declared.frame.Mode.{Mode}
use Rattle.mr_wire.specs.declared.frame.Mode.TheVariants.{Full, Partial}
use Rattle.mr_wire.specs.declared.frame.Body.{Body}
use Rattle.mr_wire.specs.declared.frame.Body.TheVariants.{Start, Item, MoveOut, Held, Know, End}
use Rattle.mr_session.specs.Held.{AreCut}
use Rattle.mr_session.specs.Table.{Table, open_at, with_closed, with_changed}

-- ---- what is asked for

-- what these fragments say is known
abbrev pub claimed : List Piece → Pairs
claimed pieces i v = list_any (λ piece. lists piece.items i && vector_has piece.vector v) pieces

-- what was asked: by whom, for which of its sessions, what its filter selects, and what it claims to know
pub record Asked : Type 0 where
  pub target : ℕ
  pub session : ℕ
  pub filter : List ClauseParts
  pub claims : List Piece

-- what a request asks
abbrev pub asked_of : Question → Asked
asked_of ask = record { target = ask.target; session = ask.session; filter = ask.filter; claims = ask.fragments }

-- ---- what is told

-- whether the filter of the one who asked selects it
abbrev pub is_item : Asked → Rev → Bool
is_item asked r = selects asked.filter (card_of r.message)

-- whether it is a later version of an item of which the one who asked knows the first
abbrev pub is_move_out : Asked → Rev → Bool
is_move_out asked r = not (name_eq r.item r.version) && claimed asked.claims r.item r.item

-- whether it is to be told: it is not known, and it is selected, or its item may have to leave
abbrev pub is_wanted : Asked → Rev → Bool
is_wanted asked r = not (claimed asked.claims r.item r.version) && (is_item asked r || is_move_out asked r)

-- whether the walk that looked at this version last has v ahead
abbrev pub is_ahead : Option Name → Versions
is_ahead None v = true
is_ahead (Some past) v = is_before past v

abbrev pub is_due : Asked → Option Name → Rev → Bool
is_due asked past r = is_ahead past r.version && is_wanted asked r

-- the one of the lower version, where there are any
abbrev pub lower : Option Rev → Option Rev → Option Rev
lower None s = s
lower (Some r) None = Some r
lower (Some r) (Some s) = if is_before r.version s.version then Some r else Some s

-- the first that is due, by version, of heads and push-outs together
abbrev pub due : Asked → Option Name → (heads push_outs : List Rev) → Option Rev
due asked past heads push_outs = lower (find (is_due asked past) heads) (find (is_due asked past) push_outs)

-- how the one who asked is told of a revision
abbrev pub told : Asked → Rev → Body
told asked r = if is_item asked r then Item r else MoveOut (record { item = r.item; version = r.version; below = r.below })

-- ---- what is drawn

-- An open stream: what was asked, its mode, the index of its next record, the version that the walk looked at last, the
-- vectors still to give once the first Held was drawn, and the fragments still to give.
pub record Stream : Type 0 where
  pub asked : Asked
  pub mode : Mode
  pub next : ℕ
  pub past : Option Name
  pub held : Option (List (List AuthorColumn))
  pub know : List Piece

-- a stream of which nothing was drawn
abbrev pub new_stream : Asked → Mode → List Piece → Stream
new_stream asked mode know = record { asked = asked; mode = mode; next = 0; past = None; held = None; know = know }

-- the heads cut into vectors: the first is drawn, and the others are still to give
abbrev pub DrawsFirstHeld : Stream → Holdings → Body → Stream → Type 0
DrawsFirstHeld s h body new =
    (v : List AuthorColumn) × (vs : List (List AuthorColumn)) × AreCut (map version_of h.heads) (v ∷ vs) × (body ≡ Held v) × (new ≡ record s { held = Some vs })

-- nothing more is due: a full stream goes on to its Held records for good, and a partial one ends
abbrev pub DrawsAfterWalk : Mode → Stream → Holdings → Body → Stream → Type 0
DrawsAfterWalk Full s h body new = DrawsFirstHeld s h body new
DrawsAfterWalk Partial s h body new = (body ≡ End) × (new ≡ s)

-- the revision that is due, if there is one
abbrev pub DrawsWalk : Option Rev → Stream → Holdings → Body → Stream → Type 0
DrawsWalk (Some r) s h body new = (body ≡ told s.asked r) × (new ≡ record s { past = Some r.version })
DrawsWalk None s h body new = DrawsAfterWalk s.mode s h body new

-- the next fragment, or the end
abbrev pub DrawsKnow : List Piece → Stream → Body → Stream → Type 0
DrawsKnow [] s body new = (body ≡ End) × (new ≡ s)
DrawsKnow (f ∷ fs) s body new = (body ≡ Know f) × (new ≡ record s { know = fs })

-- by what is still to give of the Held records, once the first of them was drawn
abbrev pub DrawsRest : Option (List (List AuthorColumn)) → Stream → Holdings → Body → Stream → Type 0
DrawsRest None s h body new = DrawsWalk (due s.asked s.past h.heads h.push_outs) s h body new
DrawsRest (Some []) s h body new = DrawsKnow s.know s body new
DrawsRest (Some (v ∷ vs)) s h body new = (body ≡ Held v) × (new ≡ record s { held = Some vs })

-- whether it is the first draw
abbrev pub DrawsAt : Bool → Stream → Holdings → Body → Stream → Type 0
DrawsAt true s h body new = (body ≡ Start s.mode) × (new ≡ s)
DrawsAt false s h body new = DrawsRest s.held s h body new

-- What a draw gives, and what is left of the stream, but for the index. A Start comes first. Then the walk gives what is
-- due of the store as it is at each draw; once nothing is due a full stream gives the heads, as they are at that draw, and
-- then its fragments. The end stays the end.
abbrev pub Draws : Stream → Holdings → Body → Stream → Type 0
Draws s h body new = DrawsAt (s.next == 0) s h body new

-- ---- the records

-- whether it is a stream's last record
abbrev pub is_end : Body → Bool
is_end (Start mode) = false
is_end (Item revision) = false
is_end (MoveOut descent) = false
is_end (Held vector) = false
is_end (Know fragment) = false
is_end End = true

-- the header of the next record
abbrev pub header_of : (source number : ℕ) → Stream → Header
header_of source number s = record { source = source; stream = number; target = s.asked.target; session = s.asked.session; index = s.next }

-- The record that is drawn from the stream of this number, and what is left of the stream: its next record has the next
-- index.
abbrev pub Gives : (source number : ℕ) → Stream → Holdings → Sent → Stream → Type 0
Gives source number s h sent new =
    (left : Stream) × Draws s h sent.body left × (sent.header ≡ header_of source number s) × (new ≡ record left { next = s.next + 1 })

-- the table of streams once this was drawn from one of them: after its End it is closed
abbrev pub GivesIn : (source number : ℕ) → Table Stream → Holdings → Sent → Table Stream → Type 0
GivesIn source number table h sent new =
    (s : Stream) × (left : Stream) × (open_at table number ≡ Some s) × Gives source number s h sent left
    × (new ≡ (if is_end sent.body then with_closed table number else with_changed number (λ _. left) table))

-- nothing but this record may be drawn, and nothing but this table be left
abbrev pub IsOnlyDraw : (source number : ℕ) → Table Stream → Holdings → Sent → Table Stream → Type 0
IsOnlyDraw source number table h sent new =
    (other : Sent) (after : Table Stream) → GivesIn source number table h other after → (other ≡ sent) × (after ≡ new)
