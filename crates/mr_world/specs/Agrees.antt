-- How a world agrees with a moment of the model.
use Rattle.std.specs.Prelude.{◌≡◌, ℕ, Bool, Option, Some, None, List, [], ◌∷◌, map}
use Rattle.mr_version.specs.Name.{Name}
use Rattle.mr_forms.specs.Known.{Form}
use Rattle.mr_forms.specs.Sets.{Versions}
use Rattle.mr_feed.specs.Entry.{told}
use Rattle.mr_filter.specs.Filter.{ClauseParts}
use Rattle.mr_madewith.specs.Revision.{Rev}
use Rattle.mr_madewith.specs.Trail.{last_of}
use Rattle.mr_mail.specs.Mail.{Mail, MailCard}
use Rattle.mr_model.specs.Versions.{Issue, issue_count, last_own}
use Rattle.mr_model.specs.History.{Entry}
use Rattle.mr_model.specs.Moment.{Holding}
use Rattle.mr_model.specs.Rules.{In}
use Rattle.mr_replica.specs.State.{State}
use Rattle.mr_store.specs.Revisions.{AreInVersionOrder, holds}
use Rattle.mr_world.specs.World.{World}
use Rattle.mr_world.specs.Seen.{MailMoment, seen_record, seen_receipt}
use Rattle.mr_world.specs.Issued.{Shows, IsBelow, IsTrueRevision}
use Rattle.mr_world.specs.Told.{RecordsAgree}
use Rattle.mr_world.specs.Shared.{SeesAsks, ReceiptsAgree, PortAgrees}
use Rattle.mr_world.specs.Sessions.{SessionsAgree}
use Rattle.mr_world.specs.Streams.{StreamsAgree}

-- the revisions are of issues, of the versions of the set, and in their order
pub record HoldsAs (issues : List (Issue Mail)) (rs : List Rev) (set : Versions) : Type 0 where
  pub each : (r : Rev) → In r rs → IsTrueRevision issues r
  pub same : (v : Name) → holds rs v ≡ set v
  pub in_order : AreInVersionOrder rs

-- the version of a revision, if there is one
abbrev pub version_alone : Option Rev → List Name
version_alone None = []
version_alone (Some r) = r.version ∷ []

module _ {K : Type 0} (form : Form K) where
  -- what r holds
  pub record HoldingsAgree (issues : List (Issue Mail)) (filters : ℕ → List ClauseParts) (r : ℕ) (h : Holding) (feed : List (Entry MailCard)) (retired : Bool) (s : State K) : Type 0 where
    pub id : s.id ≡ r
    pub filter : s.filter ≡ filters r
    pub is_retired : retired ≡ s.is_retired
    pub knows : Shows issues (form.known s.knowledge) h.known
    pub heads : HoldsAs issues s.heads h.stored
    pub push_outs : HoldsAs issues s.push_outs h.pushed_out
    pub entries : feed ≡ told s.feed
    pub count : issue_count issues r ≡ s.issued
    pub last : (item : Name) → last_own issues r item ≡ version_alone (last_of s.trail item)
    pub last_below : (item : Name) (l : Rev) → last_of s.trail item ≡ Some l → IsBelow issues item l.version l.below

  -- the pools, the ports and each replica agree
  pub record Agrees (filters : ℕ → List ClauseParts) (w : World K) (m : MailMoment) : Type 0 where
    pub asks : SeesAsks m.issues filters m.asks w.asks
    pub given : m.given ≡ map seen_record w.records
    pub records : RecordsAgree m.issues w.records m.known_at_answer m.held_at_draw
    pub vouched : m.receipts ≡ map seen_receipt w.receipts
    pub receipts : ReceiptsAgree m.issues w.receipts
    pub holdings : (r : ℕ) → HoldingsAgree m.issues filters r (m.holding r) (m.feed r) (m.is_retired r) (w.replicas r)
    pub sessions : (r : ℕ) → SessionsAgree w.records (m.taken_in r) (w.replicas r).sessions
    pub streams : (r : ℕ) → StreamsAgree m.issues filters w.records m.given r (m.ask_of r) (m.known_at_answer r) (m.held_at_draw r) (w.replicas r).streams
    pub ports : (r u : ℕ) → PortAgrees (m.offered r u) (m.taken r u) (w.ports r u)
