-- events of a replica whose host writes
use Rattle.std.proofs.Common.{◌≡◌, ℕ, List, Option, None, Err, subst, true}
use Rattle.mr_desk.proofs.Names.{Answered, AtOnce, Call, Fault, HostCommits, Hosted, IsEventOf, IsMergeIn, IsUnnoted, KeptAnswers, KeptCommits, KeptMerges}
use Rattle.mr_desk.proofs.Names.{Normal, SameHost, SameJournal, State, TakesMeant, KeptTakesNote, VersionNumbers, call_fault, inside}
use Rattle.mr_desk.proofs.Names.{journal_of, journaled_of, leaving, may_show, merge_fault_in, note_of, of_kept, sparing_form}
use Rattle.mr_kept.specs.declared.fault.KeptFault.{KeptFault}
use Rattle.mr_kept.specs.declared.fault.KeptFault.TheVariants as kept
use Rattle.mr_replica.specs.declared.event.Event.{Event}
use Rattle.mr_replica.proofs.Replaying.{refused_same}
use Rattle.mr_desk.specs.inner.Kept.{KeptTells}

module _ {V : Type 0} where
  -- an event that isn't taken leaves the replica as it was
  same : (old : Hosted Normal V) (event : Event) (e : KeptFault) (s : State Normal) → Answered sparing_form (journal_of (journaled_of old)) (inside old) event (Err e) s → s ≡ inside old
  same old event kept.OutOfMemory s is = is
  same old event (kept.Refused e) s is = refused_same sparing_form (inside old) event e s is.1
  same old event kept.Failed s is = is.1
  same old event kept.TooLarge s is = is.1
  same old event kept.Unsettled s is = absurd is

  -- and with it all else
  pub untaken : (old new : Hosted Normal V) (event : Event) (e : KeptFault) → AtOnce sparing_form (journaled_of old) event (Err e) (journaled_of new) → SameJournal (journaled_of old) (journaled_of new) → SameHost old new → KeptTells old event (Err e) new
  untaken old new event e is journal host =
      let stays = same old event e (inside new) is.0 in
      (subst (λ (s : State Normal). Answered sparing_form (journal_of (journaled_of old)) (inside old) event (Err e) s) stays is.0, record { replica = stays; held_back = is.1; journal = journal; host = host })

  -- an event that is meant and isn't taken
  pub untaken-meant : (wrong : Option Fault) (IsMeant : Event → Type 0) (old new : Hosted Normal V) (event : Event) (e : KeptFault) → (wrong ≡ None) × IsMeant event → KeptTells old event (Err e) new → TakesMeant wrong IsMeant old (Err (of_kept e)) new
  untaken-meant wrong IsMeant old new event kept.OutOfMemory asks is = is.1
  untaken-meant wrong IsMeant old new event (kept.Refused e) asks is = ((asks.0, event, asks.1, is.0), is.1)
  untaken-meant wrong IsMeant old new event kept.Failed asks is = ((asks.0, event, asks.1, is.0), is.1)
  untaken-meant wrong IsMeant old new event kept.TooLarge asks is = ((asks.0, event, asks.1, is.0), is.1)
  untaken-meant wrong IsMeant old new event kept.Unsettled asks is = absurd is.0

  pub untaken-call : (old new : Hosted Normal V) (call : Call) (event : Event) (e : KeptFault) → (call_fault call ≡ None) × IsEventOf call event → KeptTells old event (Err e) new → KeptAnswers old call (Err (of_kept e)) new
  untaken-call old new call event e asks is = untaken-meant (call_fault call) (IsEventOf call) old new event e asks is

  pub untaken-merge : (old new : Hosted Normal V) (item : VersionNumbers) (event : Event) (e : KeptFault) → may_show old ≡ true → (merge_fault_in (inside old) item ≡ None) × IsMergeIn (inside old) item event → KeptTells old event (Err e) new → KeptMerges old item (Err (of_kept e)) new
  untaken-merge old new item event kept.OutOfMemory shown meant is = (shown, untaken-meant (merge_fault_in (inside old) item) (IsMergeIn (inside old) item) old new event kept.OutOfMemory meant is)
  untaken-merge old new item event (kept.Refused e) shown meant is = (shown, untaken-meant (merge_fault_in (inside old) item) (IsMergeIn (inside old) item) old new event (kept.Refused e) meant is)
  untaken-merge old new item event kept.Failed shown meant is = (shown, untaken-meant (merge_fault_in (inside old) item) (IsMergeIn (inside old) item) old new event kept.Failed meant is)
  untaken-merge old new item event kept.TooLarge shown meant is = (shown, untaken-meant (merge_fault_in (inside old) item) (IsMergeIn (inside old) item) old new event kept.TooLarge meant is)
  untaken-merge old new item event kept.Unsettled shown meant is = absurd is.0

module _ {V : Type 0} where
  -- a note that isn't taken
  pub unnoted : (bytes : List ℕ) (old new : Hosted Normal V) (e : KeptFault) → IsUnnoted (journal_of (journaled_of old)) (note_of bytes) e
      → (inside new ≡ inside old) × (leaving (journaled_of new) ≡ leaving (journaled_of old)) × SameJournal (journaled_of old) (journaled_of new) → SameHost old new → KeptTakesNote bytes old (Err (of_kept e)) new
  unnoted bytes old new kept.OutOfMemory why same host = record { replica = same.0; held_back = same.1; journal = same.2; host = host }
  unnoted bytes old new (kept.Refused e) why same host = absurd why
  unnoted bytes old new kept.Unsettled why same host = absurd why
  unnoted bytes old new kept.Failed why same host = (why, record { replica = same.0; held_back = same.1; journal = same.2; host = host })
  unnoted bytes old new kept.TooLarge why same host = (why, record { replica = same.0; held_back = same.1; journal = same.2; host = host })

module _ {V : Type 0} where
  -- what isn't committed, with the desk's fault
  pub uncommitted : (old new : Hosted Normal V) (e : KeptFault) → HostCommits sparing_form old (Err e) new → KeptCommits old (Err (of_kept e)) new
  uncommitted old new kept.OutOfMemory h = h
  uncommitted old new (kept.Refused e) h = absurd h.1.uncommitted.why
  uncommitted old new kept.Failed h = h
  uncommitted old new kept.TooLarge h = h
  uncommitted old new kept.Unsettled h = h
