-- How the streams of a replica agree with what they gave.
use Rattle.std.specs.Prelude.{◌≡◌, ◌≢◌, ◌≤◌, ◌<◌, ℕ, true, false, ◌||◌, IsTrue, Option, Some, None, List, []}
use Rattle.mr_version.specs.Name.{Name}
use Rattle.mr_forms.specs.Sets.{Versions}
use Rattle.mr_concise.specs.AnyOf.{in_any}
use Rattle.mr_concise.specs.declared.vector.AuthorColumn.{AuthorColumn}
use Rattle.mr_concise.specs.Vector.{vector_has}
use Rattle.mr_filter.specs.Filter.{ClauseParts}
use Rattle.mr_filter.specs.Meaning.{covers}
use Rattle.mr_mail.specs.Mail.{Mail}
use Rattle.mr_model.specs.Versions.{Issue, is_before}
use Rattle.mr_model.specs.History.{Ask, Record, Body.Start, Body.End}
use Rattle.mr_model.specs.Moment.{starts_full}
use Rattle.mr_model.specs.Rules.{In, IsOf, HasHeld, version_in}
use Rattle.mr_session.specs.Session.{is_full_mode}
use Rattle.mr_session.specs.Stream.{Stream, claimed}
use Rattle.mr_session.specs.Table.{Table, open_at}
use Rattle.mr_wire.specs.Frames.{Sent}
use Rattle.mr_wire.specs.Values.{Piece}
use Rattle.mr_world.specs.Issued.{AreOfIssues, Shows}
use Rattle.mr_world.specs.Shared.{SeesAsk}
use Rattle.mr_world.specs.Told.{shown, told_pairs}

-- what is still to be given of the Held records
abbrev pub left_to_show : Option (List (List AuthorColumn)) → Versions
left_to_show None v = false
left_to_show (Some vectors) v = in_any vector_has vectors v

-- An open stream of r: its request, how far its walk is, what it gave, and what it still has to give. What was given is
-- `records`, which a history sees as `given`.
pub record StreamAgrees (issues : List (Issue Mail)) (filters : ℕ → List ClauseParts) (records : List Sent) (given : List Record) (r opened number : ℕ)
    (ask_of : Option Ask) (known_at_answer held_at_draw : Versions) (k : Stream) : Type 0 where
  pub old : number ≤ opened
  pub ask : Ask
  pub asked : ask_of ≡ Some ask
  pub sees : SeesAsk issues filters ask k.asked
  pub covers : is_full_mode k.mode ≡ covers (filters r) k.asked.filter
  -- what was given
  pub below_next : (x : Record) → IsOf given r number x → x.index < k.next
  pub begun : k.next ≢ 0 → (x : Record) × IsOf given r number x × (x.body ≡ Start (is_full_mode k.mode))
  pub no_end : (x : Record) → IsOf given r number x → x.body ≢ End
  pub starts : (x : Record) → IsOf given r number x → starts_full x.body ≡ true → is_full_mode k.mode ≡ true
  -- the walk: its last version was given, and none behind it
  pub past : (p : Name) → k.past ≡ Some p → (x : Record) × IsOf given r number x × (version_in x.body ≡ Some p)
  pub behind : (x : Record) (w : Name) → IsOf given r number x → version_in x.body ≡ Some w → (p : Name) × (k.past ≡ Some p) × ¬ IsTrue (is_before p w)
  -- the Held records, once the walk is over
  pub walking : k.held ≡ None → ¬ HasHeld given r number
  pub showing : k.held ≢ None → HasHeld given r number
  pub shows_full : k.held ≢ None → is_full_mode k.mode ≡ true
  pub unbegun : k.next ≡ 0 → k.held ≡ None
  pub held : k.held ≢ None → (v : Name) → (shown records r number k.next v || left_to_show k.held v) ≡ held_at_draw v
  pub none_shown : k.held ≡ None → (v : Name) → shown records r number k.next v ≡ false
  pub held_issued : AreOfIssues issues (left_to_show k.held)
  -- the Know records
  pub knows : is_full_mode k.mode ≡ true → Shows issues (λ i v. told_pairs records r number k.next i v || claimed k.know i v) known_at_answer
  pub know_issued : (i : Name) → AreOfIssues issues (claimed k.know i)
  pub listed : (piece : Piece) → In piece k.know → piece.items ≢ Some []

-- the open streams agree, and numbers not used yet are fresh
pub record StreamsAgree (issues : List (Issue Mail)) (filters : ℕ → List ClauseParts) (records : List Sent) (given : List Record) (r : ℕ)
    (ask_of : ℕ → Option Ask) (known_at_answer held_at_draw : ℕ → Versions) (streams : Table Stream) : Type 0 where
  pub each : (number : ℕ) (k : Stream) → open_at streams number ≡ Some k →
      StreamAgrees issues filters records given r streams.opened number (ask_of number) (known_at_answer number) (held_at_draw number) k
  pub fresh : (number : ℕ) → streams.opened < number → ask_of number ≡ None
