-- Pull: a session is opened, and a request made for what the replica lacks.
use Rattle.std.specs.Prelude.{◌≡◌, ◌≤◌, ◌+◌, ℕ, nat_le, Option, List, take, length, map}
use Rattle.mr_forms.specs.Known.{Pairs, Part, Form}
use Rattle.mr_concise.specs.Vector.{vector_has}
use Rattle.mr_concise.specs.Fragments.{ConciseFragment}
use Rattle.mr_session.specs.Table.{with_opened}
use Rattle.mr_session.specs.declared.limits.TheConstants.{MAX_OPEN}
use Rattle.mr_session.specs.Session.{new_session}
use Rattle.mr_wire.specs.Values.{Piece, piece_of}
use Rattle.mr_wire.specs.Frames.{Question}
use Rattle.mr_wire.specs.Encoding.{total_len}
use Rattle.mr_wire.specs.declared.frame.TheConstants.{MAX_ASKED_BYTES}
use Rattle.mr_replica.specs.State.{State}
use Rattle.mr_replica.specs.Fragments.{HaveKnown, AreFragmentsOf, HasHoleyPart}
use Rattle.mr_replica.specs.Refusal.{◌orelse◌, refused_if}
use Rattle.mr_replica.specs.Admission.{retired, log_full}
use Rattle.mr_replica.specs.declared.refusal.Refusal.{Refusal}
use Rattle.mr_replica.specs.declared.refusal.Refusal.TheVariants.{TooManySessions}

-- the longest beginning of the pieces that takes at most so many bytes: there is one
pub record IsLongestWithin (most : ℕ) (all some : List Piece) : Type 0 where
  pub beginning : some ≡ take (length some) all
  pub within : total_len some ≤ most
  pub longest : (n : ℕ) → total_len (take n all) ≤ most → length (take n all) ≤ length some

-- what a request tells of a knowledge of these parts: their fragments, which have just what is known, in order, as many as it may have
pub record AreAsked (is_part : Part → Type 0) (known : Pairs) (asked : List Piece) : Type 0 where
  pub fragments : List ConciseFragment
  pub are : AreFragmentsOf is_part fragments
  pub have : HaveKnown vector_has known fragments
  pub longest : IsLongestWithin MAX_ASKED_BYTES (map piece_of fragments) asked

module _ {K : Type 0} where
  -- why it is refused: as many sessions are open as may be
  abbrev pub pull_refusal : State K → Option Refusal
  pull_refusal s = retired s orelse refused_if (nat_le MAX_OPEN (length s.sessions.open_ones)) TooManySessions orelse log_full s

  -- the replica's own request, for the next session, with what it selects and what it knows, of which each part has a vector
  pub record IsAskOf (form : Form K) (s : State K) (ask : Question) : Type 0 where
    pub target : ask.target ≡ s.id
    pub session : ask.session ≡ s.sessions.opened + 1
    pub filter : ask.filter ≡ s.filter
    pub fragments : AreAsked (form.is_part s.knowledge) (form.known s.knowledge) ask.fragments
    pub few : ¬ HasHoleyPart (form.is_part s.knowledge)

  -- the session is open, and has taken nothing
  abbrev pub pulling : State K → State K
  pulling s = record s { sessions = with_opened s.sessions new_session }
