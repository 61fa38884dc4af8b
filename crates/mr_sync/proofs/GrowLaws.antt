-- logs that grow by some events only
use Rattle.std.proofs.Common.{Bool, IsTrue, ◌≡◌, ◌+◌, ◌<◌, ℕ, List, [], ◌∷◌, ◌++◌, length, get_or, take, map, Option, Some, None, Result, Ok, Err, refl, sym, ap, subst, ◌∙◌, append_assoc, append-nil}
use Rattle.mr_sync.specs.Named.{HasOrListsOf}
use Rattle.mr_sync.specs.Taken.{TakesNamed}
use Rattle.mr_sync.proofs.Names.{All, AllByRecursion, Answered, AreFrames, Failed, Form, Frame, GrowsOnlyBy, GrowsOnlyByTheirs, Hello, IsRecordOf, Journal}
use Rattle.mr_sync.proofs.Names.{KeptFault, Normal, Receive, Refused, Reply, State, TakesRecordOf, TakesRecords, TooLarge, Unpacks, Unsettled, append_cancel_left, journal_of, replica_of, sparing_form}
use Rattle.mr_sync.proofs.Names.{map-append, option_map, some_is, step_refused, take_one}
use Rattle.mr_folder.specs.Tree.{Tree}
use Rattle.mr_kept.specs.Kept.{Later}
use Rattle.mr_kept.specs.declared.journaled.Journaled.{Journaled}
use Rattle.mr_replica.specs.declared.event.Event.{Event}
use Rattle.mr_replica.proofs.Replaying.{step_log}
use Rattle.mr_kept.specs.declared.fault.KeptFault.TheVariants.{OutOfMemory}

all_append : (P : Event → Type 0) (xs ys : List Event) → AllByRecursion P xs → AllByRecursion P ys → AllByRecursion P (xs ++ ys)
all_append P [] ys a b = b
all_append P (x ∷ xs) ys a b = (a.0, all_append P xs ys a.1 b)

-- a log that is as it was
pub grows_not : (P : Event → Type 0) (old new : List Event) → new ≡ old → GrowsOnlyBy P old new
grows_not P old new same = record { events = []; log = same ∙ sym (append-nil old); are = tt }

-- by one event
pub grows_one : (P : Event → Type 0) (old new : List Event) (event : Event) → new ≡ old ++ event ∷ [] → P event → GrowsOnlyBy P old new
grows_one P old new event log is = record { events = event ∷ []; log = log; are = (is, tt) }

-- first so, then so
pub grows_on : (P : Event → Type 0) (old mid new : List Event) → GrowsOnlyBy P old mid → GrowsOnlyBy P mid new → GrowsOnlyBy P old new
grows_on P old mid new first second = record {
  events = first.events ++ second.events;
  log = second.log ∙ ap (λ (es : List Event). es ++ second.events) first.log ∙ append_assoc old first.events second.events;
  are = all_append P first.events second.events first.are second.are;
}

module _ {K : Type 0} (form : Form K) where
  -- an event that is answered is the log's last
  pub answered_log : {D : Type 0} (journal : Journal D) (s : State K) (event : Event) (reply : Reply) (new : State K) → Answered form journal s event (Ok reply) new → new.log ≡ s.log ++ event ∷ []
  answered_log journal s event reply new h = step_log form s new event (Ok reply) h.1

  -- one that is refused leaves the replica as it was
  pub refused_stays : {D : Type 0} (journal : Journal D) (s : State K) (event : Event) (e : KeptFault) (new : State K) → Answered form journal s event (Err e) new → new ≡ s
  refused_stays journal s event (Refused e) new h = step_refused form s event e new h.1
  refused_stays journal s event Failed new h = h.1
  refused_stays journal s event TooLarge new h = h.1
  refused_stays journal s event Unsettled new h = absurd h
  refused_stays journal s event OutOfMemory new h = h

  pub answered_grows : {D : Type 0} (P : Event → Type 0) (journal : Journal D) (s : State K) (event : Event) (answer : Result Reply KeptFault) (new : State K) → Answered form journal s event answer new → P event → GrowsOnlyBy P s.log new.log
  answered_grows P journal s event (Ok reply) new h is = grows_one P s.log new.log event (answered_log journal s event reply new h) is
  answered_grows P journal s event (Err e) new h is = grows_not P s.log new.log (ap (λ (z : State K). z.log) (refused_stays journal s event e new h))

-- by an event of which comes what is handed out later
pub later_grows : {D V : Type 0} (P : Event → Type 0) (old new : Journaled Normal D V) (event : Event) (answer : Result (Unit {0}) KeptFault) → Later sparing_form old event answer new → P event → GrowsOnlyBy P (replica_of old).log (replica_of new).log
later_grows P old new event (Ok done) h is = grows_one P (replica_of old).log (replica_of new).log event (answered_log sparing_form (journal_of old) (replica_of old) event h.0 (replica_of new) h.1) is
later_grows P old new event (Err e) h is = grows_not P (replica_of old).log (replica_of new).log (ap (λ (z : State Normal). z.log) (refused_stays sparing_form (journal_of old) (replica_of old) event e (replica_of new) h.0))

-- what is taken and what is left is all, one event more
pub taken_more : (start mid new : List Event) (left rest : List Frame) (f : Frame) → mid ++ map Receive left ≡ start → left ≡ f ∷ rest → new ≡ mid ++ Receive f ∷ [] → new ++ map Receive rest ≡ start
taken_more start mid new left rest f all is log =
    ap (λ (es : List Event). es ++ map Receive rest) log
    ∙ append_assoc mid (Receive f ∷ []) (map Receive rest)
    ∙ ap (λ (fs : List Frame). mid ++ map Receive fs) (sym is)
    ∙ all

-- one event for each of a list, one more
pub told_more : {X : Type 0} (f : X → Event) (xs : List X) (i : ℕ) (x : X) (start old new : List Event) → old ≡ start ++ map f (take i xs) → i < length xs → x ≡ get_or xs i x → new ≡ old ++ f x ∷ [] → new ≡ start ++ map f (take (i + 1) xs)
told_more f xs i x start old new so_far within is log =
    log
    ∙ ap (λ (es : List Event). es ++ f x ∷ []) so_far
    ∙ append_assoc start (map f (take i xs)) (f x ∷ [])
    ∙ ap (λ (es : List Event). start ++ es) (sym (map-append f (take i xs) (x ∷ [])))
    ∙ ap (λ ys. start ++ map f ys) (sym (take_one xs i x within is))

-- ---- by what the other side gave

-- no id is said by nobody
pub said_none : (other : ℕ) → ◌≡◌ {A = Option ℕ} None (Some other) → ⊥
said_none other e = cc

-- where the other side said who it is
pub grows_theirs : (P : ℕ → Event → Type 0) (theirs : Option Hello) (other : ℕ) (old new : List Event) → option_map (λ h. h.id) theirs ≡ Some other → GrowsOnlyBy (P other) old new → GrowsOnlyByTheirs P theirs old new
grows_theirs P None other old new met grows = absurd (said_none other met)
grows_theirs P (Some theirs) other old new met grows = subst (λ (id : ℕ). GrowsOnlyBy (P id) old new) (sym (some_is theirs.id other met)) grows

-- where it didn't
pub grows_unmet : (P : ℕ → Event → Type 0) (theirs : Option Hello) (old : List Event) → theirs ≡ None → GrowsOnlyByTheirs P theirs old old
grows_unmet P theirs old none = subst (λ (o : Option Hello). GrowsOnlyByTheirs P o old old) (sym none) refl

-- a log that is then as it was
pub grows_so : (P : ℕ → Event → Type 0) (theirs : Option Hello) (other : ℕ) (old mid new : List Event) → option_map (λ h. h.id) theirs ≡ Some other → GrowsOnlyBy (P other) old mid → new ≡ mid → GrowsOnlyByTheirs P theirs old new
grows_so P theirs other old mid new met grows same = grows_theirs P theirs other old new met (subst (λ (l : List Event). GrowsOnlyBy (P other) old l) (sym same) grows)

all_records : (source : ℕ) (frames : List Frame) → AllByRecursion (TakesRecordOf source) (map Receive frames) → AllByRecursion (IsRecordOf source) frames
all_records source [] h = tt
all_records source (f ∷ frames) h = (h.0, all_records source frames h.1)

-- what is taken are records of the source
records_given : (source : ℕ) (frames : List Frame) (old new : List Event) → GrowsOnlyBy (TakesRecordOf source) old new → new ≡ old ++ map Receive frames → AllByRecursion (IsRecordOf source) frames
records_given source frames old new grows all =
    all_records source frames (subst (AllByRecursion (TakesRecordOf source)) (append_cancel_left old grows.events (map Receive frames) (sym grows.log ∙ all)) grows.are)

-- so a message of records is taken
pub takes_records : (theirs : Option Hello) (other : ℕ) (last bytes text mid after : List ℕ) (frames : List Frame) (old taken new : State Normal) → option_map (λ h. h.id) theirs ≡ Some other → Unpacks last bytes text mid → AreFrames frames text →
    GrowsOnlyBy (TakesRecordOf other) old.log taken.log → taken.log ≡ old.log ++ map Receive frames → after ≡ mid → new ≡ taken → TakesRecords theirs last old bytes after new
takes_records theirs other last bytes text mid after frames old taken new met unpacked spelled grows all same_last same = record {
  other = other;
  met = met;
  text = text;
  unpacked = subst (Unpacks last bytes text) (sym same_last) unpacked;
  frames = frames;
  spelled = spelled;
  given = records_given other frames old.log taken.log grows all;
  log = ap (λ (z : State Normal). z.log) same ∙ all;
}

-- with the files that they need
pub takes_named : (is_told : Bool) (tree : Tree) (lacking : List (List ℕ)) (theirs : Option Hello) (other : ℕ) (last bytes text mid after : List ℕ) (frames : List Frame) (old taken new : State Normal) → option_map (λ h. h.id) theirs ≡ Some other → Unpacks last bytes text mid → AreFrames frames text →
    GrowsOnlyBy (TakesRecordOf other) old.log taken.log → taken.log ≡ old.log ++ map Receive frames → after ≡ mid → new ≡ taken → (IsTrue is_told → All (HasOrListsOf tree lacking) frames) → TakesNamed is_told theirs last old bytes after new tree lacking
unfolding takes_records
takes_named is_told tree lacking theirs other last bytes text mid after frames old taken new met unpacked spelled grows all same_last same named = record {
  taken = takes_records theirs other last bytes text mid after frames old taken new met unpacked spelled grows all same_last same;
  named = named;
}
