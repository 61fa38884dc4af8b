-- What the promise of a world says of replicas as they ended, by the versions that they issued.
use Rattle.std.specs.Prelude.{◌≡◌, ◌≢◌, ◌↔◌, ◌⊎◌, ◌++◌, IsTrue, List, [], ◌∷◌}
use Rattle.mr_version.specs.Name.{Name}
use Rattle.mr_feed.specs.Entry.{told}
use Rattle.mr_filter.specs.Filter.{ClauseParts}
use Rattle.mr_forms.specs.Known.{Form}
use Rattle.mr_mail.specs.Mail.{Mail}
use Rattle.mr_model.specs.Headline.{EachPair, InIssueOrder, added}
use Rattle.mr_model.specs.Moment.{selection}
use Rattle.mr_model.specs.Rules.{In}
use Rattle.mr_model.specs.Versions.{Issue, IsIssued, IsSuperseded, Supersedes, issue_count, item_of}
use Rattle.mr_replica.specs.State.{State}
use Rattle.mr_replica.specs.Replay.{Replays}
use Rattle.mr_replica.specs.declared.event.Event.{Event}
use Rattle.mr_replica.specs.declared.event.Event.TheVariants.{Retire}
use Rattle.mr_store.specs.Revisions.{holds}
use Rattle.mr_world.specs.Seen.{setting_of}

-- the filter selects the message that the version was issued with
abbrev pub IsWanted : List (Issue Mail) → List ClauseParts → Name → Type 0
IsWanted issues filter v = IsTrue (selection (setting_of (λ _. filter)) issues 0 v)

-- the version is of the item, the filter selects it, and none supersedes it
pub record IsNewest (issues : List (Issue Mail)) (filter : List ClauseParts) (item v : Name) : Type 0 where
  pub issued : IsIssued issues v
  pub of_item : item_of issues v ≡ item
  pub wanted : IsWanted issues filter v
  pub newest : ¬ IsSuperseded issues v

module _ {K : Type 0} where
  -- the version is a head
  abbrev pub HasHead : State K → Name → Type 0
  HasHead end v = IsTrue (holds end.heads v)

  -- some end has the version as a head or as a push-out
  pub record IsHeldBySome (ends : List (State K)) (v : Name) : Type 0 where
    pub end : State K
    pub among : In end ends
    pub holds_it : HasHead end v ⊎ IsTrue (holds end.push_outs v)

  -- all ends together hold each issued version that none supersedes
  abbrev pub KeepTogether : List (Issue Mail) → List (State K) → Type 0
  KeepTogether issues ends = (v : Name) → IsIssued issues v → ¬ IsSuperseded issues v → IsHeldBySome ends v

module _ {K : Type 0} (form : Form K) where
  -- it knows the issued version, for the version's item
  abbrev pub KnowsIssued : List (Issue Mail) → State K → Name → Type 0
  KnowsIssued issues end v = IsIssued issues v × IsTrue (form.known end.knowledge (item_of issues v) v)

  -- it knows each version of the item that was issued
  abbrev pub KnowsAllOf : List (Issue Mail) → State K → Name → Type 0
  KnowsAllOf issues end item = (v : Name) → IsIssued issues v → item_of issues v ≡ item → IsTrue (form.known end.knowledge item v)

  -- Its holding is sound: a head was issued, is known and is selected; what it knows and selects is a head, or superseded; and
  -- no head is superseded by what it knows.
  pub record HoldsSoundly (issues : List (Issue Mail)) (end : State K) : Type 0 where
    pub head_is : (v : Name) → HasHead end v → KnowsIssued issues end v × IsWanted issues end.filter v
    pub complete : (v : Name) → KnowsIssued issues end v → IsWanted issues end.filter v → HasHead end v ⊎ IsSuperseded issues v
    pub newest : (v w : Name) → HasHead end v → KnowsIssued issues end w → ¬ Supersedes issues w v

  -- The events before its Retire, replayed, come to a replica that had told all that it told.
  pub record HadTold (end : State K) (before : List Event) : Type 0 where
    pub earlier : State K
    pub replays : Replays form end.id end.filter end.event_limit before earlier
    pub same : end.feed ≡ earlier.feed

  -- Its own versions are among the issued ones. It was told of no version twice, and of an author's versions of an item
  -- in the order of issue; where its log has a Retire, it was told nothing behind it, and where it has retired, it has no
  -- push-outs. With each issued version that it knows it knows what that version was made with. Of an item of which it
  -- knows all versions, its heads are the newest ones that it selects; and its holding is sound.
  pub record Keeps (issues : List (Issue Mail)) (end : State K) : Type 0 where
    pub own : issue_count issues end.id ≡ end.issued
    pub once : EachPair (λ v w. v ≢ w) (added (told end.feed))
    pub in_order : EachPair (InIssueOrder issues) (added (told end.feed))
    pub none_after : (before after : List Event) → end.log ≡ before ++ Retire ∷ after → HadTold end before
    pub clean : IsTrue end.is_retired → end.push_outs ≡ []
    pub made_with : (w v : Name) → KnowsIssued issues end w → Supersedes issues w v → KnowsIssued issues end v
    pub heads : (item v : Name) → KnowsAllOf issues end item → (HasHead end v × (item_of issues v ≡ item)) ↔ IsNewest issues end.filter item v
    pub soundly : HoldsSoundly issues end
