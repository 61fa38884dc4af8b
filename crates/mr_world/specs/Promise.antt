-- What a world promises: the history that its answers make, and what holds of it.
use Rattle.std.specs.Prelude.{◌≡◌, ◌≢◌, ℕ, false, Some, List, [], Err}
use Rattle.std.specs.Option.{option_map_or}
use Rattle.mr_forms.specs.Known.{AreSame, Form}
use Rattle.mr_filter.specs.Filter.{ClauseParts}
use Rattle.mr_mail.specs.Mail.{Mail, MailCard}
use Rattle.mr_model.specs.History.{History}
use Rattle.mr_model.specs.Moment.{start}
use Rattle.mr_model.specs.Changes.{now}
use Rattle.mr_model.specs.Rules.{In, IsRun}
use Rattle.mr_model.specs.Headline.{Headline, IsSoundHolding, LosesNothing, RetiresClean}
use Rattle.mr_model.specs.Laws.{KnowsDownward}
use Rattle.mr_replica.specs.Replay.{IsItsLog}
use Rattle.mr_replica.specs.State.{State, new_state}
use Rattle.mr_replica.specs.declared.refusal.Refusal.TheVariants.{Forged}
use Rattle.mr_wire.specs.Frames.{Sent}
use Rattle.mr_wire.specs.declared.frame.Body.TheVariants.{Start, End}
use Rattle.mr_wire.specs.declared.frame.Mode.TheVariants.{Full}
use Rattle.mr_world.specs.Ports.{new_port}
use Rattle.mr_world.specs.World.{World, world_of}
use Rattle.mr_world.specs.Runs.{history}
use Rattle.mr_world.specs.Seen.{MailMoment, MailSetting, setting_of}
use Rattle.mr_world.specs.Agrees.{Agrees, HoldingsAgree}
use Rattle.mr_world.specs.Shared.{ReceiptsAgree}
use Rattle.mr_world.specs.Told.{AreOfOneStream, IsToldWhole, IsTrueBody}
use Rattle.mr_world.specs.Kept.{MemberView, WorldView, member_at, replica_at}
use Rattle.mr_world.specs.ListedItems.{IsGenuine}
use Rattle.mr_world.specs.Replies.{AreBySets}
use Rattle.mr_world.specs.declared.answer.Answer.TheVariants.{Stepped}
use Rattle.mr_world.specs.declared.answered.Answered.{Answered}

module _ {K : Type 0} where
  -- the filter of each replica; an id of none has one that selects nothing
  abbrev pub filters_of : WorldView K → ℕ → List ClauseParts
  filters_of w r = option_map_or (λ m. m.replica.filter) (member_at w.members r) []

  abbrev pub setting_in : WorldView K → MailSetting
  setting_in w = setting_of (filters_of w)

  -- the history of all that happened in the world
  abbrev pub history_of : WorldView K → History Mail MailCard
  history_of w = history (filters_of w) w.answers

  -- the moment after it
  abbrev pub moment_of : WorldView K → MailMoment
  moment_of w = now (setting_in w) (history_of w)

  -- ---- what holds of it

  -- no mail is lost and none is announced twice
  abbrev pub HasHeadline : WorldView K → Type 0
  HasHeadline w = Headline (setting_in w) (history_of w)

  -- each replica holds what it should of what it knows
  abbrev pub HoldsSoundly : WorldView K → Type 0
  HoldsSoundly w = (r : ℕ) → IsSoundHolding (setting_in w) (moment_of w) r

  -- what each replica knows was issued, and it knows with each version all that the version was made with
  abbrev pub KnowsMadeWith : WorldView K → Type 0
  KnowsMadeWith w = (r : ℕ) → KnowsDownward (moment_of w) r

  abbrev pub KeepsAll : WorldView K → Type 0
  KeepsAll w = LosesNothing (moment_of w)

  abbrev pub HasCleanRetired : WorldView K → Type 0
  HasCleanRetired w = RetiresClean (moment_of w)

  -- all that happened is what the rules allow
  abbrev pub FollowsRules : WorldView K → Type 0
  FollowsRules w = IsRun (setting_in w) start (history_of w)

  -- no record was taken for forged
  abbrev pub FindsNoneForged : WorldView K → Type 0
  FindsNoneForged w = (x : Answered) → In x w.answers → x.answer ≢ Stepped (Err Forged)

  -- a full stream that was given to its End told its source's heads, as they were at its first Held record, and its
  -- source's knowledge, as the stream was opened
  abbrev pub TellsWhole : WorldView K → Type 0
  TellsWhole w = (last first : Sent) → In last w.records → In first w.records → AreOfOneStream last first → last.body ≡ End → first.body ≡ Start Full →
      IsToldWhole (moment_of w).issues w.records (moment_of w).known_at_answer (moment_of w).held_at_draw last

  -- what each record of the pool tells is of issues
  abbrev pub GivesTrueRecords : WorldView K → Type 0
  GivesTrueRecords w = (sent : Sent) → In sent w.records → IsTrueBody (moment_of w).issues sent.body

  -- each receipt of the pool is of issues
  abbrev pub GivesTrueReceipts : WorldView K → Type 0
  GivesTrueReceipts w = ReceiptsAgree (moment_of w).issues w.receipts

module _ {K : Type 0} (form : Form K) where
  -- each replica holds, knows and tells what the history says
  abbrev pub HoldsAsSeen : WorldView K → Type 0
  HoldsAsSeen w = (r : ℕ) (s : State K) → replica_at w.members r ≡ Some s →
      HoldingsAgree form (moment_of w).issues (filters_of w) r ((moment_of w).holding r) ((moment_of w).feed r) ((moment_of w).is_retired r) s

  -- each answer says of versions what the sets of its moment say
  abbrev pub AnswersBySets : WorldView K → Type 0
  AnswersBySets w = AreBySets form (replica_at w.members) (filters_of w) w.answers

  -- all that a world promises
  pub record Promises (w : WorldView K) : Type 0 where
    pub rules : FollowsRules w
    pub headline : HasHeadline w
    pub sound : HoldsSoundly w
    pub made_with : KnowsMadeWith w
    pub no_loss : KeepsAll w
    pub clean : HasCleanRetired w
    pub as_seen : HoldsAsSeen w
    pub true_records : GivesTrueRecords w
    pub true_receipts : GivesTrueReceipts w
    pub by_sets : AnswersBySets w
    pub whole : TellsWhole w
    pub none_forged : FindsNoneForged w

  -- ---- what a world keeps from its first event on

  -- a member of a replica that was never made, with a knowledge of nothing
  abbrev pub unused_member : K → ℕ → MemberView K
  unused_member nothing r = record { replica = new_state r [] 1 nothing; indexer = new_port 1; notifier = new_port 1 }

  -- the world over all ids
  abbrev pub whole_world : K → WorldView K → World K
  whole_world nothing w = world_of (unused_member nothing) (new_port 1) w

  -- Its history is a run of the rules, and it agrees with the moment after it. Each replica is its log, replayed. Each answer
  -- was by sets, all is genuine, and nothing was taken for forged.
  pub record KeepsRules (w : WorldView K) : Type 0 where
    pub run : FollowsRules w
    pub nothing : K
    pub knows_nothing : AreSame (form.known nothing) (λ i v. false)
    pub agrees : Agrees form (filters_of w) (whole_world nothing w) (moment_of w)
    pub its_logs : (r : ℕ) → IsItsLog form ((whole_world nothing w).replicas r)
    pub by_sets : AnswersBySets w
    pub genuine : IsGenuine form (moment_of w).issues (whole_world nothing w)
    pub none_forged : FindsNoneForged w
