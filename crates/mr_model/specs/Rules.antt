-- Which changes the engine's rules allow at a moment, in words of the sets alone.
use Rattle.std.specs.Prelude.{◌≡◌, ◌≢◌, ℕ, ◌+◌, ◌<◌, ◌⊎◌, Bool, IsTrue, IsFalse, if◌then◌else◌, List, [], ◌∷◌, ◌++◌, Option, Some, None, ⊤}
use Rattle.mr_version.specs.Name.{Name}
use Rattle.mr_model.specs.Versions.{Issue, issue_count, item_of, is_before, made_with}
use Rattle.mr_model.specs.History.{Setting, Ask, claims, Body, Body.Start, Body.Item, Body.MoveOut, Body.Held, Body.Know, Body.End, Record, Receipt, Entry, History}
use Rattle.mr_model.specs.Moment.{Moment, known, pushed_out, only, ◌with◌, Knows, Stores, Holds, Selects, is_start, is_held, starts_full}
use Rattle.mr_model.specs.Changes.{Reception, Reception.AsTaken, Reception.AsKnown, Reception.AsFinished, Change, Change.Issues, Change.Asks, Change.Opens, Change.Gives, Change.Takes, Change.Retires, Change.Offers, Change.Closes, Change.TakesEntry, Change.Vouches, Change.Releases, Change.Stays, Change.Misfits, entries_of, is_closed, happens, change}

-- x is an element of the list
abbrev pub In : {A : Type 0} → A → List A → Type 0
In x [] = ⊥
In x (y ∷ ys) = (y ≡ x) ⊎ In x ys

-- r has not retired
abbrev pub IsAlive : {M C : Type 0} → Moment M C → ℕ → Type 0
IsAlive m r = IsFalse (m.is_retired r)

-- ---- an issue

-- a living author issues its next version. Its bases are versions of the item that the author holds; with no base it is its own item
pub record IsIssue {M C : Type 0} (m : Moment M C) (r : ℕ) (x : Issue M) : Type 0 where
  pub alive : IsAlive m r
  pub author : x.version.author ≡ r
  pub counter : x.version.counter ≡ issue_count m.issues r + 1
  pub held : (b : Name) → In b x.bases → Holds m r b
  pub one_item : (b : Name) → In b x.bases → item_of m.issues b ≡ x.item
  pub own_item : x.bases ≡ [] → x.item ≡ x.version

-- ---- streams

-- a living replica asks for itself, and claims no more than it knows
pub record IsAsk {M C : Type 0} (m : Moment M C) (r : ℕ) (ask : Ask) : Type 0 where
  pub alive : IsAlive m r
  pub target : ask.target ≡ r
  pub claims_known : (v : Name) → IsTrue (claims ask v) → Knows m r v

-- an Ask of the pool, of another replica, is answered by a stream with a new number
pub record IsOpened {M C : Type 0} (m : Moment M C) (k t : ℕ) (ask : Ask) : Type 0 where
  pub asked : In ask m.asks
  pub other : ask.target ≢ k
  pub fresh : m.ask_of k t ≡ None

-- the filter of the source selects what that of the target selects
abbrev pub Covers : {M C : Type 0} → Setting M C → (source target : ℕ) → Type 0
Covers {M} s source target = (message : M) → IsTrue (s.selects target message) → IsTrue (s.selects source message)

-- the version of an Item or a MoveOut
abbrev pub version_in : Body → Option Name
version_in (Item w) = Some w
version_in (MoveOut w) = Some w
version_in _ = None

-- x is a record of the stream, and was given
pub record IsOf (given : List Record) (source stream : ℕ) (x : Record) : Type 0 where
  pub is_given : In x given
  pub source_is : x.source ≡ source
  pub stream_is : x.stream ≡ stream

-- the stream has given its Start
abbrev pub HasStart : List Record → (source stream : ℕ) → Type 0
HasStart given k t = (x : Record) × IsOf given k t x × IsTrue (is_start x.body)

-- the stream has given the Start of a full stream
abbrev pub HasFullStart : List Record → (source stream : ℕ) → Type 0
HasFullStart given k t = (x : Record) × IsOf given k t x × IsTrue (starts_full x.body)

-- the stream has given a Held record
abbrev pub HasHeld : List Record → (source stream : ℕ) → Type 0
HasHeld given k t = (x : Record) × IsOf given k t x × IsTrue (is_held x.body)

-- the walk of the stream has not come to v: each version that it gave stands before v
abbrev pub IsAhead : List Record → (source stream : ℕ) → Name → Type 0
IsAhead given k t v = (x : Record) (w : Name) → IsOf given k t x → version_in x.body ≡ Some w → IsTrue (is_before w v)

-- v is an edit of an item whose creating version the Ask claims
pub record IsKnownEdit {M : Type 0} (issues : List (Issue M)) (ask : Ask) (v : Name) : Type 0 where
  pub edit : item_of issues v ≢ v
  pub creator : IsTrue (claims ask (item_of issues v))

-- the walk still has to tell v: the source holds it, the Ask does not claim it, and its target's filter selects it or it may have to be moved out
pub record IsDue {M C : Type 0} (s : Setting M C) (m : Moment M C) (k t : ℕ) (ask : Ask) (v : Name) : Type 0 where
  pub held : Holds m k v
  pub unclaimed : IsFalse (claims ask v)
  pub told : Selects s m ask.target v ⊎ IsKnownEdit m.issues ask v
  pub ahead : IsAhead m.given k t v

-- the walk has nothing more to tell
abbrev pub NoneDue : {M C : Type 0} → Setting M C → Moment M C → (k t : ℕ) → Ask → Type 0
NoneDue s m k t ask = (v : Name) → ¬ IsDue s m k t ask v

-- a Start comes first, and is full only under a filter that covers the target's
pub record IsStart {M C : Type 0} (s : Setting M C) (m : Moment M C) (k t : ℕ) (ask : Ask) (full : Bool) : Type 0 where
  pub first : (x : Record) → ¬ IsOf m.given k t x
  pub covers : IsTrue full → Covers s k ask.target

-- the walk comes to w, which is due, and leaves out nothing due before it
pub record IsWalked {M C : Type 0} (s : Setting M C) (m : Moment M C) (k t : ℕ) (ask : Ask) (w : Name) : Type 0 where
  pub begun : HasStart m.given k t
  pub walking : ¬ HasHeld m.given k t
  pub due : IsDue s m k t ask w
  pub none_skipped : (v : Name) → IsDue s m k t ask v → (v ≡ w) ⊎ IsTrue (is_before w v)

-- a full stream has walked to its end: nothing is due any more, or a Held record was given
pub record IsShowing {M C : Type 0} (s : Setting M C) (m : Moment M C) (k t : ℕ) (ask : Ask) : Type 0 where
  pub full : HasFullStart m.given k t
  pub walked : NoneDue s m k t ask ⊎ HasHeld m.given k t

-- a stream that began comes to its end: a full one after its Held records, another one once nothing is due
pub record IsEnding {M C : Type 0} (s : Setting M C) (m : Moment M C) (k t : ℕ) (ask : Ask) : Type 0 where
  pub begun : HasStart m.given k t
  pub after_held : HasFullStart m.given k t → HasHeld m.given k t
  pub after_walk : ¬ HasFullStart m.given k t → NoneDue s m k t ask

-- what stream t of k may give next
abbrev pub IsDraw : {M C : Type 0} → Setting M C → Moment M C → (k t : ℕ) → Ask → Body → Type 0
IsDraw s m k t ask (Start full) = IsStart s m k t ask full
IsDraw s m k t ask (Item w) = IsWalked s m k t ask w × Selects s m ask.target w
IsDraw s m k t ask (MoveOut w) = IsWalked s m k t ask w × ¬ Selects s m ask.target w
IsDraw s m k t ask Held = IsShowing s m k t ask
IsDraw s m k t ask Know = HasHeld m.given k t
IsDraw s m k t ask End = IsEnding s m k t ask

-- a stream that was opened and has not ended gives its next record, for the session that asked
pub record IsNext {M C : Type 0} (s : Setting M C) (m : Moment M C) (k t : ℕ) (x : Record) : Type 0 where
  pub source : x.source ≡ k
  pub stream : x.stream ≡ t
  pub ask : Ask
  pub opened : m.ask_of x.source x.stream ≡ Some ask
  pub target : x.target ≡ ask.target
  pub session : x.session ≡ ask.session
  pub index : (y : Record) → IsOf m.given x.source x.stream y → y.index < x.index
  pub open_still : (y : Record) → IsOf m.given x.source x.stream y → y.body ≢ End
  pub draw : IsDraw s m x.source x.stream ask x.body

-- how r answers a record: an End is finished, a version that it knows is known, any other record is taken
abbrev pub reception_of : {M C : Type 0} → Moment M C → ℕ → Body → Reception
reception_of m r (Item w) = if known m r w then AsKnown else AsTaken
reception_of m r (MoveOut w) = if known m r w then AsKnown else AsTaken
reception_of m r End = AsFinished
reception_of m r _ = AsTaken

-- a living replica takes a record of the pool that is for it. Any session and index will do: it is for `completes` to see what they make
pub record IsReceived {M C : Type 0} (m : Moment M C) (r : ℕ) (x : Record) (reception : Reception) : Type 0 where
  pub alive : IsAlive m r
  pub in_pool : In x m.given
  pub target : x.target ≡ r
  pub answer : reception ≡ reception_of m r x.body

-- ---- receipts and retirement

-- a living replica vouches for a version of its store
pub record IsVouched {M C : Type 0} (m : Moment M C) (r : ℕ) (v : Name) (x : Receipt) : Type 0 where
  pub alive : IsAlive m r
  pub giver : x.giver ≡ r
  pub version : x.version ≡ v
  pub stored : Stores m r v

-- v is what the receipt vouches for, or is superseded by that
abbrev pub IsFreedBy : {M C : Type 0} → Moment M C → Receipt → Name → Type 0
IsFreedBy m x v = IsTrue ((only x.version with made_with m.issues x.version) v)

-- a living replica releases what a receipt of the pool frees, and there is a push-out to release
pub record IsReleased {M C : Type 0} (m : Moment M C) (r : ℕ) (x : Receipt) : Type 0 where
  pub alive : IsAlive m r
  pub in_pool : In x m.receipts
  pub frees : (v : Name) × IsTrue (pushed_out m r v) × IsFreedBy m x v

-- a living replica retires with no push-outs
pub record IsRetirement {M C : Type 0} (m : Moment M C) (r : ℕ) : Type 0 where
  pub alive : IsAlive m r
  pub clean : (v : Name) → IsFalse (pushed_out m r v)

-- ---- subscribers

-- e is the next entry of the feed of r, and the port is not closed
pub record IsOffer {M C : Type 0} (m : Moment M C) (r u : ℕ) (e : Entry C) : Type 0 where
  pub rest : List (Entry C)
  pub next : m.feed r ≡ entries_of (m.offered r u) ++ e ∷ rest
  pub not_closed : IsFalse (is_closed (m.offered r u))

-- e is the next of what was offered
pub record IsTake {M C : Type 0} (m : Moment M C) (r u : ℕ) (e : Entry C) : Type 0 where
  pub rest : List (Entry C)
  pub next : entries_of (m.offered r u) ≡ m.taken r u ++ e ∷ rest

-- ---- the rules

-- the rules allow this change at the moment
abbrev pub IsAllowed : {M C : Type 0} → Setting M C → Moment M C → Change M C → Type 0
IsAllowed s m (Issues r x) = IsIssue m r x
IsAllowed s m (Asks r ask) = IsAsk m r ask
IsAllowed s m (Opens k t ask) = IsOpened m k t ask
IsAllowed s m (Gives k t x) = IsNext s m k t x
IsAllowed s m (Takes r x reception) = IsReceived m r x reception
IsAllowed s m (Retires r) = IsRetirement m r
IsAllowed s m (Offers r u e) = IsOffer m r u e
IsAllowed s m (Closes r u) = ⊤
IsAllowed s m (TakesEntry r u e) = IsTake m r u e
IsAllowed s m (Vouches r v x) = IsVouched m r v x
IsAllowed s m (Releases r x) = IsReleased m r x
IsAllowed s m Stays = ⊤
IsAllowed s m Misfits = ⊥

-- each change of the history, from m on, is one that the rules allow
abbrev pub IsRun : {M C : Type 0} → Setting M C → Moment M C → History M C → Type 0
IsRun s m [] = ⊤
IsRun s m (x ∷ later) = IsAllowed s m (change m x) × IsRun s (happens s m (change m x)) later
