-- What holds at every moment of every run: sound holding, no loss, and the headline.
use Rattle.std.specs.Prelude.{◌≡◌, ◌≢◌, ℕ, ◌<◌, ◌⊎◌, ◌↔◌, IsTrue, IsFalse, if◌then◌else◌, List, [], ◌∷◌, ◌++◌, Option, Some, None, ⊤}
use Rattle.mr_version.specs.Name.{Name}
use Rattle.mr_model.specs.Versions.{is, Issue, IsIssued, item_of, Supersedes, IsSuperseded}
use Rattle.mr_model.specs.History.{◌does◌, Setting, Entry, Entry.Added, Entry.Dropped, Reply.Done, History}
use Rattle.mr_model.specs.declared.event.Act.TheVariants.{Retire}
use Rattle.mr_model.specs.Moment.{Moment, Mark, Mark.Moved, Mark.CloseMark, stored, pushed_out, Knows, Stores, Holds, Selects, card_of}
use Rattle.mr_model.specs.Changes.{entries_of, now}

-- ---- lists

-- P of each element
abbrev pub Each : {A : Type 0} → (A → Type 0) → List A → Type 0
Each P [] = ⊤
Each P (x ∷ xs) = P x × Each P xs

-- R of each element and each later one
abbrev pub EachPair : {A : Type 0} → (A → A → Type 0) → List A → Type 0
EachPair R [] = ⊤
EachPair R (x ∷ xs) = Each (R x) xs × EachPair R xs

-- ys begins with xs
abbrev pub IsPrefix : {A : Type 0} → List A → List A → Type 0
IsPrefix {A} xs ys = (rest : List A) × (xs ++ rest ≡ ys)

-- ---- feeds

-- the versions of the Added entries
abbrev pub added : {C : Type 0} → List (Entry C) → List Name
added [] = []
added (Added item v card ∷ entries) = v ∷ added entries
added (Dropped item v ∷ entries) = added entries

-- versions with their cards
abbrev pub Cards : Type 0 → Type 0
Cards C = Name → Option C

-- the cards once these entries were gone through: Added puts its version in, in place of an older card, and Dropped takes it out
abbrev pub fold_from : {C : Type 0} → Cards C → List (Entry C) → Cards C
fold_from cards [] = cards
fold_from cards (Added item v card ∷ entries) = fold_from (λ u. if is v u then Some card else cards u) entries
fold_from cards (Dropped item v ∷ entries) = fold_from (λ u. if is v u then None else cards u) entries

-- where a fold starts
abbrev pub no_cards : {C : Type 0} → Cards C
no_cards u = None

-- a feed, folded from its first entry on
abbrev pub fold : {C : Type 0} → List (Entry C) → Cards C
fold entries = fold_from no_cards entries

-- the store of r, each version with the card of its message
abbrev pub stored_cards : {M C : Type 0} → Setting M C → Moment M C → ℕ → Cards C
stored_cards s m r u = if stored m r u then card_of s m.issues u else None

-- nothing comes after the close mark
abbrev pub EndsAtClose : {C : Type 0} → List (Mark C) → Type 0
EndsAtClose [] = ⊤
EndsAtClose (Moved e ∷ marks) = EndsAtClose marks
EndsAtClose (CloseMark ∷ marks) = marks ≡ []

-- ---- holdings

-- the holding of r is sound
pub record IsSoundHolding {M C : Type 0} (s : Setting M C) (m : Moment M C) (r : ℕ) : Type 0 where
  -- what it stores was issued, is known and is selected by its filter
  pub stored_is : (v : Name) → Stores m r v → IsIssued m.issues v × Knows m r v × Selects s m r v
  -- what it knows and selects it stores, or it is superseded
  pub complete : (v : Name) → Knows m r v → Selects s m r v → Stores m r v ⊎ IsSuperseded m.issues v
  -- nothing that it stores is superseded by what it knows
  pub heads : (v w : Name) → Stores m r v → Knows m r w → ¬ Supersedes m.issues w v

-- each issued version that is not superseded is in the store or among the push-outs of some replica
abbrev pub LosesNothing : {M C : Type 0} → Moment M C → Type 0
LosesNothing m = (v : Name) → IsIssued m.issues v → ¬ IsSuperseded m.issues v → (r : ℕ) × Holds m r v

-- a retired replica has no push-outs
abbrev pub RetiresClean : {M C : Type 0} → Moment M C → Type 0
RetiresClean m = (r : ℕ) → IsTrue (m.is_retired r) → (v : Name) → IsFalse (pushed_out m r v)

-- the fold of each replica's feed is its store
abbrev pub FoldsToStore : {M C : Type 0} → Setting M C → Moment M C → Type 0
FoldsToStore s m = (r : ℕ) (v : Name) → fold (m.feed r) v ≡ stored_cards s m r v

-- r knows every issued version of the item
abbrev pub KnowsItem : {M C : Type 0} → Moment M C → ℕ → Name → Type 0
KnowsItem m r item = (v : Name) → IsIssued m.issues v → item_of m.issues v ≡ item → Knows m r v

-- v is an unsuperseded version of the item that the filter of r selects
pub record IsCurrent {M C : Type 0} (s : Setting M C) (m : Moment M C) (r : ℕ) (item v : Name) : Type 0 where
  pub issued : IsIssued m.issues v
  pub of_item : item_of m.issues v ≡ item
  pub wanted : Selects s m r v
  pub newest : ¬ IsSuperseded m.issues v

-- ---- the headline

-- w has the higher counter, if it is of the author and the item of v
abbrev pub InIssueOrder : {M : Type 0} → List (Issue M) → Name → Name → Type 0
InIssueOrder issues v w = v.author ≡ w.author → item_of issues v ≡ item_of issues w → v.counter < w.counter

-- the history retires r between the two parts
abbrev pub RetiresBetween : {M C : Type 0} → History M C → ℕ → (before later : History M C) → Type 0
RetiresBetween h r before later = h ≡ before ++ record { event = r does Retire; reply = Done } ∷ later

-- what holds of every run
pub record Headline {M C : Type 0} (s : Setting M C) (h : History M C) : Type 0 where
  -- no version is added to a feed twice
  pub once : (r : ℕ) → EachPair (λ v w. v ≢ w) (added ((now s h).feed r))
  -- of one author's versions of one item those with lower counters are added first
  pub in_order : (r : ℕ) → EachPair (InIssueOrder (now s h).issues) (added ((now s h).feed r))
  -- a feed stays as it is once its replica has retired
  pub none_after : (r : ℕ) (before later : History M C) → RetiresBetween h r before later → (now s h).feed r ≡ (now s before).feed r
  -- what a subscriber took begins what it was offered, that begins the feed, and the close mark comes last
  pub taken : (r u : ℕ) → IsPrefix ((now s h).taken r u) (entries_of ((now s h).offered r u))
  pub offered : (r u : ℕ) → IsPrefix (entries_of ((now s h).offered r u)) ((now s h).feed r)
  pub closed : (r u : ℕ) → EndsAtClose ((now s h).offered r u)
  -- a replica that knows all issued versions of an item stores its current ones and no others
  pub holds : (r : ℕ) (item v : Name) → KnowsItem (now s h) r item →
      (Stores (now s h) r v × (item_of (now s h).issues v ≡ item)) ↔ IsCurrent s (now s h) r item v
