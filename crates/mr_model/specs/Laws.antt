-- What else holds of every run: how versions are numbered and supersede one another, that nothing issued or known is lost, and that what a stream teaches is of an earlier moment.
use Rattle.std.specs.Prelude.{◌≡◌, ℕ, ◌<◌, ◌≤◌, ◌↔◌, IsTrue, List, ◌∷◌, ◌++◌, map}
use Rattle.mr_version.specs.Name.{Name}
use Rattle.mr_model.specs.Versions.{Versions, is_before, in_version_order, Issue, IsIssued, item_of, issue_count, replaces, made_with, Supersedes}
use Rattle.mr_model.specs.History.{◌does◌, Setting, Record, Entry, Reply.Streaming, Reply.Gave, History}
use Rattle.mr_model.specs.declared.event.Act.TheVariants.{Answer, Next}
use Rattle.mr_model.specs.Moment.{Moment, known, stored, Knows, Holds}
use Rattle.mr_model.specs.Changes.{added_entry, dropped_entry, is_first_held, now}
use Rattle.mr_model.specs.Rules.{In, HasHeld}
use Rattle.mr_model.specs.Headline.{EachPair}

-- on the issue list of a run each author counts its versions from 1, and items are the versions that created them
pub record IsNumbered {M : Type 0} (issues : List (Issue M)) : Type 0 where
  pub from_one : (v : Name) → IsIssued issues v → 1 ≤ v.counter
  pub to_count : (v : Name) → IsIssued issues v → v.counter ≤ issue_count issues v.author
  pub each_counter : (v : Name) → 1 ≤ v.counter → v.counter ≤ issue_count issues v.author → IsIssued issues v
  -- the item of an issued version is an issued version, which is of that item
  pub item_issued : (v : Name) → IsIssued issues v → IsIssued issues (item_of issues v)
  pub item_created : (v : Name) → IsIssued issues v → item_of issues (item_of issues v) ≡ item_of issues v

-- a relation of versions that holds wherever w replaces b
abbrev pub HoldsOfReplaced : {M : Type 0} → List (Issue M) → (Name → Versions) → Type 0
HoldsOfReplaced issues R = (w b : Name) → IsTrue (replaces issues w b) → IsTrue (R w b)

-- the relation reaches on from what it reaches
abbrev pub IsTransitive : (Name → Versions) → Type 0
IsTransitive R = (w v u : Name) → IsTrue (R w v) → IsTrue (R v u) → IsTrue (R w u)

-- supersession is the transitive closure of replacing: the least transitive relation that holds wherever one version replaces another
pub record IsClosure {M : Type 0} (issues : List (Issue M)) : Type 0 where
  pub replaced : HoldsOfReplaced issues (made_with issues)
  pub transitive : IsTransitive (made_with issues)
  pub least : (R : Name → Versions) → HoldsOfReplaced issues R → IsTransitive R → (w v : Name) → Supersedes issues w v → IsTrue (R w v)

-- supersession on the issue list of a run is a strict order, within one item
pub record IsSupersession {M : Type 0} (issues : List (Issue M)) : Type 0 where
  pub irreflexive : (w : Name) → ¬ Supersedes issues w w
  pub transitive : (u v w : Name) → Supersedes issues w v → Supersedes issues v u → Supersedes issues w u
  pub one_item : (v w : Name) → Supersedes issues w v → item_of issues w ≡ item_of issues v
  pub issued : (v w : Name) → Supersedes issues w v → IsIssued issues w × IsIssued issues v
  -- an author's later version of an item supersedes its earlier ones
  pub chain : (v w : Name) → IsIssued issues v → IsIssued issues w → v.author ≡ w.author → item_of issues v ≡ item_of issues w →
      v.counter < w.counter → Supersedes issues w v

-- what r knows was issued, and r knows with each version what it supersedes, each that it holds, and each that it issued
pub record KnowsDownward {M C : Type 0} (m : Moment M C) (r : ℕ) : Type 0 where
  pub issued : (v : Name) → Knows m r v → IsIssued m.issues v
  pub downward : (w v : Name) → Knows m r w → Supersedes m.issues w v → Knows m r v
  pub held_known : (v : Name) → Holds m r v → Knows m r v
  pub own : (v : Name) → IsIssued m.issues v → v.author ≡ r → Knows m r v

-- from a moment to a later one: what was issued stays so, with its item and what it was made with; and what a replica knows it goes on knowing
pub record Grows {M C : Type 0} (m later : Moment M C) : Type 0 where
  pub issued : (v : Name) → IsIssued m.issues v → IsIssued later.issues v
  pub item_stays : (v : Name) → IsIssued m.issues v → item_of later.issues v ≡ item_of m.issues v
  pub made_with_stays : (w v : Name) → IsIssued m.issues w → made_with later.issues w v ≡ made_with m.issues w v
  pub known_stays : (r : ℕ) (v : Name) → Knows m r v → Knows later r v

-- the issues in version order are those issued, each once, by rising versions
pub record IsOrdered {M : Type 0} (issues : List (Issue M)) : Type 0 where
  pub same : (x : Issue M) → In x (in_version_order issues) ↔ In x issues
  pub rising : EachPair (λ x y. IsTrue (is_before x.version y.version)) (in_version_order issues)

-- a feed grew as its store changed: by Dropped for each version that left, by rising versions, then by Added for the one that entered, if any
pub record TellsChange {M C : Type 0} (s : Setting M C) (issues : List (Issue M)) (old_feed new_feed : List (Entry C)) (old new : Versions) : Type 0 where
  pub left : List (Issue M)
  pub entered : List (Issue M)
  pub tells : new_feed ≡ old_feed ++ map dropped_entry left ++ map (added_entry s) entered
  pub left_are : (x : Issue M) → In x left ↔ (In x issues × IsTrue (old x.version) × ¬ IsTrue (new x.version))
  pub left_rising : EachPair (λ x y. IsTrue (is_before x.version y.version)) left
  pub entered_are : (x : Issue M) → In x entered ↔ (In x issues × IsTrue (new x.version) × ¬ IsTrue (old x.version))
  pub one_at_most : EachPair (λ x y. ⊥) entered

-- what the feed of r tells between two moments
abbrev pub Tells : {M C : Type 0} → Setting M C → (m later : Moment M C) → ℕ → Type 0
Tells s m later r = TellsChange s later.issues (m.feed r) (later.feed r) (stored m r) (stored later r)

-- to take a version that is known changes no set of any replica, and no feed
pub record ChangesNothing {M C : Type 0} (m later : Moment M C) : Type 0 where
  pub holding : (r : ℕ) → later.holding r ≡ m.holding r
  pub feed : (r : ℕ) → later.feed r ≡ m.feed r

-- `known_at_answer` is what the source knew at the Answer that opened the stream
abbrev pub ReadsAnswer : {M C : Type 0} → Setting M C → (before later : History M C) → (k n t : ℕ) → Type 0
ReadsAnswer s before later k n t =
    (now s (before ++ record { event = k does Answer n; reply = Streaming t } ∷ later)).known_at_answer k t ≡ known (now s before) k

-- `held_at_draw` is what the source stored as the stream's first Held record was drawn
abbrev pub ReadsHeld : {M C : Type 0} → Setting M C → (before later : History M C) → (k t : ℕ) → Record → Type 0
ReadsHeld s before later k t x = IsTrue (is_first_held (now s before).given x) →
    (now s (before ++ record { event = k does Next t; reply = Gave x } ∷ later)).held_at_draw k t ≡ stored (now s before) k

-- the Answer of the history that opened stream t of k, and what the history held before and after it
pub record WasOpened {M C : Type 0} (s : Setting M C) (h : History M C) (k t : ℕ) : Type 0 where
  pub before : History M C
  pub later : History M C
  pub ask_number : ℕ
  pub answered : h ≡ before ++ record { event = k does Answer ask_number; reply = Streaming t } ∷ later
  pub knew : (now s h).known_at_answer k t ≡ known (now s before) k

-- the draw of the history that gave the first Held record of stream t of k, and what the history held before and after it
pub record WasShown {M C : Type 0} (s : Setting M C) (h : History M C) (k t : ℕ) : Type 0 where
  pub before : History M C
  pub later : History M C
  pub record_given : Record
  pub drawn : h ≡ before ++ record { event = k does Next t; reply = Gave record_given } ∷ later
  pub none_before : ¬ HasHeld (now s before).given k t
  pub stored_then : (now s h).held_at_draw k t ≡ stored (now s before) k
