-- What a world answers of versions, in words of the sets of the moment before.
use Rattle.std.specs.Prelude.{◌≡◌, ◌<◌, ◌⊎◌, IsTrue, IsFalse, ℕ, Option, Some, List, ◌∷◌, ◌++◌, map, Ok}
use Rattle.mr_version.specs.Name.{Name}
use Rattle.mr_forms.specs.Known.{Form}
use Rattle.mr_concise.specs.Fragments.{ConciseFragment}
use Rattle.mr_filter.specs.Filter.{ClauseParts}
use Rattle.mr_mail.specs.Mail.{Mail}
use Rattle.mr_model.specs.Changes.{now}
use Rattle.mr_model.specs.History.{Record}
use Rattle.mr_model.specs.Moment.{known, numbered}
use Rattle.mr_model.specs.Rules.{version_in}
use Rattle.mr_model.specs.Versions.{is_issued, item_of}
use Rattle.mr_model.specs.declared.event.Act.{Act}
use Rattle.mr_model.specs.declared.event.Act.TheVariants.{Pull, Receive, DeliverPart}
use Rattle.mr_replica.specs.Fragments.{AreFragmentsOf}
use Rattle.mr_replica.specs.Pull.{IsAskOf}
use Rattle.mr_replica.specs.Replay.{Replays}
use Rattle.mr_replica.specs.State.{State}
use Rattle.mr_wire.specs.declared.frame.TheConstants.{MAX_ASKED_BYTES}
use Rattle.mr_replica.specs.declared.event.Event.{Event as ReplicaEvent}
use Rattle.mr_replica.specs.declared.event.Event.TheVariants as replica
use Rattle.mr_replica.specs.declared.event.Reply.{Reply}
use Rattle.mr_replica.specs.declared.event.Reply.TheVariants.{Asked, Known, Took}
use Rattle.mr_session.specs.Stream.{claimed}
use Rattle.mr_wire.specs.Encoding.{total_len}
use Rattle.mr_wire.specs.Frames.{Question}
use Rattle.mr_wire.specs.Values.{piece_of}
use Rattle.mr_world.specs.Issued.{Shows}
use Rattle.mr_world.specs.Runs.{history}
use Rattle.mr_world.specs.Seen.{MailMoment, setting_of}
use Rattle.mr_world.specs.declared.answer.Answer.{Answer}
use Rattle.mr_world.specs.declared.answer.Answer.TheVariants.{Stepped}
use Rattle.mr_world.specs.declared.answered.Answered.{Answered}

-- ---- records

-- the version that a record tells of is answered as known where r knows it, and as taken where it does not
abbrev pub TellsWhetherKnown : MailMoment → ℕ → Reply → Option Record → Type 0
TellsWhetherKnown m r Known (Some x) = (v : Name) → version_in x.body ≡ Some v → IsTrue (known m r v)
TellsWhetherKnown m r Took (Some x) = (v : Name) → version_in x.body ≡ Some v → IsFalse (known m r v)
TellsWhetherKnown m r reply x = Unit {0}

module _ {K : Type 0} (form : Form K) where
  -- ---- requests

  -- the fragments of the knowledge take more bytes than a request may have
  pub record IsTooLong (knowledge : K) : Type 0 where
    pub fragments : List ConciseFragment
    pub are : AreFragmentsOf (form.is_part knowledge) fragments
    pub long : MAX_ASKED_BYTES < total_len (map piece_of fragments)

  -- The replica that came to this end made the request when the fragments of what it knew were too long: a fresh one that
  -- admits its log up to then makes this very request, knows what r knew, and its fragments are too long; and the log goes
  -- on with the request.
  pub record AskedTooLong (m : MailMoment) (r : ℕ) (end : State K) (ask : Question) : Type 0 where
    pub earlier : State K
    pub later : List ReplicaEvent
    pub replays : Replays form end.id end.filter end.event_limit earlier.log earlier
    pub log : end.log ≡ earlier.log ++ replica.Pull ∷ later
    pub asks : IsAskOf form earlier ask
    pub knows : Shows m.issues (form.known earlier.knowledge) (known m r)
    pub long : IsTooLong earlier.knowledge

  -- Of the issued versions a request claims none but those that r knows; and all of these, unless the fragments of what r
  -- knew then were too long. The replicas are now as these ends.
  pub record ClaimsKnown (ends : ℕ → Option (State K)) (m : MailMoment) (r : ℕ) (ask : Question) : Type 0 where
    pub no_more : (v : Name) → IsTrue (is_issued m.issues v) → IsTrue (claimed ask.fragments (item_of m.issues v) v) → IsTrue (known m r v)
    pub all : ((v : Name) → IsTrue (is_issued m.issues v) → IsTrue (known m r v) → IsTrue (claimed ask.fragments (item_of m.issues v) v))
        ⊎ (end : State K) × (ends r ≡ Some end) × AskedTooLong m r end ask

  -- ---- answers

  -- what is answered to an act of r at the moment m, of replicas that came to these ends
  abbrev pub IsBySets : (ℕ → Option (State K)) → MailMoment → ℕ → Act Mail → Answer → Type 0
  IsBySets ends m r Pull (Stepped (Ok (Asked ask))) = ClaimsKnown ends m r ask
  IsBySets ends m r (Receive n) (Stepped (Ok reply)) = TellsWhetherKnown m r reply (numbered m.given n)
  IsBySets ends m r (DeliverPart n bytes) (Stepped (Ok reply)) = TellsWhetherKnown m r reply (numbered m.given n)
  IsBySets ends m r act answer = Unit {0}

  -- each of the answers is by sets, at the moment after those before it
  abbrev pub AreBySets : (ℕ → Option (State K)) → (ℕ → List ClauseParts) → List Answered → Type 0
  AreBySets ends filters answers =
      (before later : List Answered) (x : Answered) → answers ≡ before ++ x ∷ later → IsBySets ends (now (setting_of filters) (history filters before)) x.event.replica x.event.act x.answer
