-- How the sessions of a replica agree with what it took.
use Rattle.std.specs.Prelude.{◌≡◌, ◌≤◌, ◌<◌, ◌+◌, ℕ, IsTrue, Some, List, [], ◌∷◌, filter}
use Rattle.std.specs.List.{list_any}
use Rattle.mr_version.specs.Name.{Name}
use Rattle.mr_concise.specs.AnyOf.{in_any}
use Rattle.mr_concise.specs.Vector.{vector_has}
use Rattle.mr_model.specs.History.{Record}
use Rattle.mr_model.specs.Moment.{in_session, is_whole, starts_full}
use Rattle.mr_session.specs.Session.{Session, new_session, is_full_mode}
use Rattle.mr_session.specs.Stream.{claimed}
use Rattle.mr_session.specs.Table.{Table, open_at}
use Rattle.mr_session.specs.declared.origin.Origin.{Origin}
use Rattle.mr_wire.specs.Frames.{Sent}
use Rattle.mr_wire.specs.declared.frame.Mode.{Mode}
use Rattle.mr_wire.specs.declared.frame.Mode.TheVariants.{Full}
use Rattle.mr_world.specs.Told.{shown, told_pairs}

-- the session is bound to the stream of these records, which are its first ones, and takes the next one next
pub record IsBoundTo (k : Session) (last : Record) (before : List Record) : Type 0 where
  pub mode : Mode
  pub origin : k.origin ≡ Some (record { source = last.source; stream = last.stream; mode = mode })
  pub next : k.next ≡ last.index + 1
  pub whole : IsTrue (is_whole last before)
  pub full : is_full_mode mode ≡ list_any (λ x. starts_full x.body) (last ∷ before)

-- what was taken in the session, the newest first, is the first records of one stream; at first it is nothing
abbrev pub Follows : Session → List Record → Type 0
Follows k [] = k ≡ new_session
Follows k (last ∷ before) = IsBoundTo k last before

-- the session keeps what the records before its next one show and tell
pub record KeepsTold (given : List Sent) (k : Session) (o : Origin) : Type 0 where
  pub held : (v : Name) → in_any vector_has k.held v ≡ shown given o.source o.stream k.next v
  pub know : (i v : Name) → claimed k.know i v ≡ told_pairs given o.source o.stream k.next i v

-- the open session of this number has taken one stream so far, and keeps what that showed and told if it is full
pub record SessionAgrees (given : List Sent) (taken : List Record) (opened number : ℕ) (k : Session) : Type 0 where
  pub old : number ≤ opened
  pub follows : Follows k (filter (in_session number) taken)
  pub keeps : (o : Origin) → k.origin ≡ Some o → o.mode ≡ Full → KeepsTold given k o

-- the open sessions agree, and nothing was taken in one that was never opened
pub record SessionsAgree (given : List Sent) (taken : List Record) (sessions : Table Session) : Type 0 where
  pub each : (number : ℕ) (k : Session) → open_at sessions number ≡ Some k → SessionAgrees given taken sessions.opened number k
  pub fresh : (number : ℕ) → sessions.opened < number → filter (in_session number) taken ≡ []
