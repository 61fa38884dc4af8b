-- A world that has come some way along the logs of some ends.
use Rattle.std.specs.Prelude.{◌≡◌, ◌≤◌, ◌+◌, ◌-◌, ℕ, Option, Some, List, [], ◌∷◌, length, map, take}
use Rattle.std.specs.List.{slice_get}
use Rattle.mr_forms.specs.Known.{Form}
use Rattle.mr_mail.specs.Mail.{Mail}
use Rattle.mr_model.specs.Moment.{numbered}
use Rattle.mr_model.specs.declared.event.Event.{Event}
use Rattle.mr_replica.specs.State.{State}
use Rattle.mr_replica.specs.Replay.{Replays}
use Rattle.mr_replica.specs.declared.replica.TheConstants.{MAX_EVENTS}
use Rattle.mr_wire.specs.declared.frame.Frame.TheVariants as frame
use Rattle.mr_world.specs.Kept.{WorldView, replica_at}
use Rattle.mr_world.specs.Pool.{GivesFrame}
use Rattle.mr_world.specs.Run.{Happens, ids_of}
use Rattle.mr_world.specs.declared.answer.Answer.{Answer}
use Rattle.mr_world.specs.declared.spec.Spec.{Spec}
use Rattle.mr_settle.specs.History.{log_in, OnlyAdmits, IsWorldOf}
use Rattle.mr_settle.specs.inner.Named.{AreNumbersOf, GivenNumbers}
use Rattle.mr_settle.specs.inner.Numbers.{KeepsUp}

-- a replica can have the limit
abbrev pub HasGoodLimit : Spec → Type 0
HasGoodLimit spec = (1 ≤ spec.event_limit) × (spec.event_limit ≤ MAX_EVENTS)

-- ---- what was given

module _ {K : Type 0} where
  -- the newest frame of each pool has a number
  pub record NotesNewest (old : GivenNumbers) (w : WorldView K) (new : GivenNumbers) : Type 0 where
    pub ask : Option (List ℕ)
    pub ask_is : GivesFrame (λ x. frame.Ask x) (numbered w.asks (length w.asks)) ask
    pub asks : KeepsUp old.asks ask (length w.asks) new.asks
    pub record_ : Option (List ℕ)
    pub record_is : GivesFrame (λ x. frame.Record x) (numbered w.records (length w.records)) record_
    pub records : KeepsUp old.records record_ (length w.records) new.records
    pub receipt : Option (List ℕ)
    pub receipt_is : GivesFrame (λ x. frame.Receipt x) (numbered w.receipts (length w.receipts)) receipt
    pub receipts : KeepsUp old.receipts receipt (length w.receipts) new.receipts

  -- the numbers are those of the world's frames
  abbrev pub TellAll : WorldView K → GivenNumbers → Type 0
  TellAll w given = AreNumbersOf w.asks w.records w.receipts given

  -- how many events of the logs are left
  abbrev pub left_over : List (State K) → List ℕ → ℕ
  left_over [] done = 0
  left_over (end ∷ ends) [] = 0
  left_over (end ∷ ends) (position ∷ done) = (length end.log - position) + left_over ends done

module _ {K : Type 0} (form : Form K) where
  -- the event happened, with some answer
  abbrev pub HappensSo : WorldView K → Event Mail → WorldView K → Type 0
  HappensSo w event w' = (answer : Answer) × Happens form w event answer w'

  -- so many events of the end's log are its replica's in the world, and have made it
  pub record IsAt (w : WorldView K) (end : State K) (position : ℕ) : Type 0 where
    pub replica : State K
    pub there : replica_at w.members end.id ≡ Some replica
    pub within : position ≤ length end.log
    pub log : log_in w end.id ≡ take position end.log
    pub replays : Replays form end.id end.filter end.event_limit (take position end.log) replica

  -- so many events of each end are done in the world, and nothing else
  pub record IsUnderWay (ends : List (State K)) (w : WorldView K) (done : List ℕ) : Type 0 where
    pub is_of : IsWorldOf form ends w
    pub ids : ids_of w.members ≡ map (λ end. end.id) ends
    pub only : OnlyAdmits w
    pub as_long : length done ≡ length ends
    pub each : (place : ℕ) (end : State K) (position : ℕ) → slice_get ends place ≡ Some end → slice_get done place ≡ Some position → IsAt w end position
