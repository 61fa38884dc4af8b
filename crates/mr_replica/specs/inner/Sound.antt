-- what each replica keeps
use Rattle.std.specs.Prelude.{◌≡◌, ◌≤◌, ℕ, true, List, length, All}
use Rattle.mr_version.specs.Name.{Name}
use Rattle.mr_forms.specs.Known.{Pairs, Form}
use Rattle.mr_concise.specs.Vector.{vector_has}
use Rattle.mr_concise.specs.declared.vector.AuthorColumn.{AuthorColumn}
use Rattle.mr_feed.specs.declared.entry.Entry.{Entry}
use Rattle.mr_madewith.specs.Revision.{Rev, IsRevision}
use Rattle.mr_store.specs.Revisions.{AreInVersionOrder}
use Rattle.mr_session.specs.Table.{Table, Numbered}
use Rattle.mr_replica.specs.State.{State}
use Rattle.mr_replica.specs.Folded.{FoldsTo}
use Rattle.mr_replica.specs.declared.replica.TheConstants.{MAX_EVENTS}

-- the version is no own one, or one of those issued
abbrev pub IsNoLater : ℕ → ℕ → Name → Type 0
IsNoLater id issued v = v.author ≡ id → v.counter ≤ issued

-- the version and all that it supersedes are no own ones, or ones of those issued
pub record AreNoLater (id issued : ℕ) (version : Name) (below : List AuthorColumn) : Type 0 where
  pub itself : IsNoLater id issued version
  pub all_below : (v : Name) → vector_has below v ≡ true → IsNoLater id issued v

-- the revision is one, of a known version, and it and what it supersedes are no own versions that were not issued
pub record IsKept (pairs : Pairs) (id count : ℕ) (r : Rev) : Type 0 where
  pub is : IsRevision r.item r.version r.below
  pub no_later : AreNoLater id count r.version r.below
  pub known : pairs r.item r.version ≡ true

-- such revisions stand in version order, and their feed folds to them
pub record AreHeld (pairs : Pairs) (id count : ℕ) (rs : List Rev) (feed : List Entry) : Type 0 where
  pub in_order : AreInVersionOrder rs
  pub each : All (IsKept pairs id count) rs
  pub fold : FoldsTo feed rs

-- no more of these were opened than there were events, and none of them has come further than that
pub record AreWithin {T : Type 0} (next : T → ℕ) (events : ℕ) (table : Table T) : Type 0 where
  pub opened : table.opened ≤ events
  pub next_few : All (λ (x : Numbered T). next x.value ≤ events) table.open_ones

pub record IsSound {K : Type 0} (form : Form K) (s : State K) : Type 0 where
  pub limit_from : 1 ≤ s.event_limit
  pub limit_to : s.event_limit ≤ MAX_EVENTS
  pub issued_few : s.issued ≤ length s.log
  pub heads : AreHeld (form.known s.knowledge) s.id s.issued s.heads s.feed
  pub push_outs : AreHeld (form.known s.knowledge) s.id s.issued s.push_outs s.push_out_feed
  pub trail : All (IsKept (form.known s.knowledge) s.id s.issued) s.trail
  pub sessions : AreWithin (λ session. session.next) (length s.log) s.sessions
  pub streams : AreWithin (λ stream. stream.next) (length s.log) s.streams
