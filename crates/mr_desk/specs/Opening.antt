-- how a desk comes to be
use Rattle.std.specs.Prelude.{◌≡◌, ◌<◌, ◌≤◌, ◌↔◌, ℕ, true, false, List, [], Result, Ok, Err}
use Rattle.std.specs.Str.{is_utf8}
use Rattle.mr_version.specs.declared.author.TheConstants.{AUTHORS}
use Rattle.mr_version.specs.declared.fault.VersionFault.TheVariants.{NoSuchAuthor}
use Rattle.mr_filter.specs.Filter.{ClauseParts}
use Rattle.mr_filter.specs.Fault.{IsFaultOf}
use Rattle.mr_filter.specs.Grammar.{Reads}
use Rattle.mr_entry.specs.declared.event.fault.EventFault.{EventFault}
use Rattle.mr_itemset.specs.Sparing.{sparing_form}
use Rattle.mr_replica.specs.Replay.{Replays, IsReplayFault}
use Rattle.mr_replica.specs.declared.event.Event.{Event}
use Rattle.mr_replica.specs.declared.replica.TheConstants.{MAX_EVENTS}
use Rattle.mr_replica.specs.declared.replica.replay.ReplayFault.{ReplayFault}
use Rattle.mr_replica.specs.declared.replica.replay.ReplayFault.TheVariants.{BadLimit}
use Rattle.mr_desk.specs.Desk.{DeskState}
use Rattle.mr_desk.specs.Log.{SpellsLog, StopsIn}
use Rattle.mr_desk.specs.declared.fault.Fault.{Fault}
use Rattle.mr_desk.specs.declared.fault.Fault.TheVariants as fault

-- the text means this filter
pub record MeansFilter (text : List ℕ) (filter : List ClauseParts) : Type 0 where
  pub is_text : is_utf8 text ≡ true
  pub read : Reads text filter

-- an event limit
abbrev pub IsLimit : ℕ → Type 0
IsLimit limit = (1 ≤ limit) × (limit ≤ MAX_EVENTS)

module _ (id : ℕ) (text : List ℕ) (event_limit : ℕ) (log : List ℕ) where
  -- a fresh replica of this id, filter and limit that admits the events of the log is this one
  pub record Reopens (desk : DeskState) : Type 0 where
    pub id_in : id < AUTHORS
    pub filter : List ClauseParts
    pub means : MeansFilter text filter
    pub events : List Event
    pub spelled : SpellsLog events log
    pub limit_in : IsLimit event_limit
    pub replayed : Replays sparing_form id filter event_limit events desk.replica
    pub no_frame : desk.frame ≡ []

  -- the bytes of the log are none of events
  pub record StopsReading (f : EventFault) : Type 0 where
    pub id_in : id < AUTHORS
    pub filter : List ClauseParts
    pub means : MeansFilter text filter
    pub stops : StopsIn log f

  -- a fresh replica refuses one of the events, or there is none
  pub record StopsReplay (f : ReplayFault) : Type 0 where
    pub id_in : id < AUTHORS
    pub filter : List ClauseParts
    pub means : MeansFilter text filter
    pub events : List Event
    pub spelled : SpellsLog events log
    pub limit_out : (f ≡ BadLimit) ↔ ¬ IsLimit event_limit
    pub refused : IsReplayFault sparing_form id filter event_limit events f

  -- the desk, or the first fault: id, filter, the log's bytes, its events
  abbrev pub Opens : Result DeskState Fault → Type 0
  Opens (Ok desk) = Reopens desk
  Opens (Err (fault.Version f)) = (f ≡ NoSuchAuthor) × ¬ (id < AUTHORS)
  Opens (Err fault.NotText) = (id < AUTHORS) × (is_utf8 text ≡ false)
  Opens (Err (fault.Filter f)) = (id < AUTHORS) × (is_utf8 text ≡ true) × IsFaultOf text f
  Opens (Err (fault.Event f)) = StopsReading f
  Opens (Err (fault.Replay f)) = StopsReplay f
  Opens (Err fault.OutOfMemory) = id < AUTHORS
  Opens (Err f) = ⊥
