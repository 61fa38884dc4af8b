-- A moment of a history: what is in the pools, and what each replica knows, holds and told.
use Rattle.std.specs.Prelude.{◌⊎◌, IsTrue, ℕ, ◌+◌, ◌==◌, Bool, true, false, ◌&&◌, ◌||◌, not, if◌then◌else◌, List, [], ◌∷◌, length, filter, Option, Some, None}
use Rattle.std.specs.List.{list_any}
use Rattle.mr_version.specs.Name.{Name}
use Rattle.mr_model.specs.Versions.{Versions, nothing, Issue, is}
use Rattle.mr_model.specs.History.{Setting, Ask, Body, Body.Start, Body.Held, Record, Receipt, Entry}

-- the three sets of a replica: the versions that it knows, those in its store, and its push-outs
pub record Holding : Type 0 where
  pub known : Versions
  pub stored : Versions
  pub pushed_out : Versions

-- what was offered to a subscriber: entries, and the close mark
pub data Mark (C : Type 0) : Type 0 where
  Moved : Entry C → Mark C
  CloseMark : Mark C

-- What holds between two events. Issues, pools and taken records have the newest first; feeds and what subscribers get, the oldest. In all that follows r is a replica, k the source and t the number of a stream, u a subscriber.
pub record Moment (M C : Type 0) : Type 0 where
  pub issues : List (Issue M)
  -- the three pools
  pub asks : List Ask
  pub given : List Record
  pub receipts : List Receipt
  pub is_retired : (replica : ℕ) → Bool
  pub holding : (replica : ℕ) → Holding
  pub feed : (replica : ℕ) → List (Entry C)
  -- the records that a replica took
  pub taken_in : (replica : ℕ) → List Record
  -- the Ask that a source's stream was opened for, and what the source knew then
  pub ask_of : (source stream : ℕ) → Option Ask
  pub known_at_answer : (source stream : ℕ) → Versions
  -- what the source stored as the stream's first Held record was drawn
  pub held_at_draw : (source stream : ℕ) → Versions
  pub offered : (replica subscriber : ℕ) → List (Mark C)
  pub taken : (replica subscriber : ℕ) → List (Entry C)

-- the versions that r knows
abbrev pub known : {M C : Type 0} → Moment M C → ℕ → Versions
known m r = (m.holding r).known

-- those in its store
abbrev pub stored : {M C : Type 0} → Moment M C → ℕ → Versions
stored m r = (m.holding r).stored

-- its push-outs
abbrev pub pushed_out : {M C : Type 0} → Moment M C → ℕ → Versions
pushed_out m r = (m.holding r).pushed_out

-- r knows v
abbrev pub Knows : {M C : Type 0} → Moment M C → ℕ → Name → Type 0
Knows m r v = IsTrue (known m r v)

-- r has v in its store
abbrev pub Stores : {M C : Type 0} → Moment M C → ℕ → Name → Type 0
Stores m r v = IsTrue (stored m r v)

-- r has v in its store or among its push-outs
abbrev pub Holds : {M C : Type 0} → Moment M C → ℕ → Name → Type 0
Holds m r v = Stores m r v ⊎ IsTrue (pushed_out m r v)

-- before the first event
abbrev pub start : {M C : Type 0} → Moment M C
start = record {
  issues = [];
  asks = [];
  given = [];
  receipts = [];
  is_retired = λ r. false;
  holding = λ r. record { known = nothing; stored = nothing; pushed_out = nothing };
  feed = λ r. [];
  taken_in = λ r. [];
  ask_of = λ s t. None;
  known_at_answer = λ s t. nothing;
  held_at_draw = λ s t. nothing;
  offered = λ r u. [];
  taken = λ r u. [];
}

-- ---- words

-- f, but x at r
abbrev pub at : {A : Type 0} → (ℕ → A) → ℕ → A → ℕ → A
at f r x q = if q == r then x else f q

-- f, but x at r and u
abbrev pub at_two : {A : Type 0} → (ℕ → ℕ → A) → ℕ → ℕ → A → ℕ → ℕ → A
at_two f r u x q t = if (q == r) && (t == u) then x else f q t

-- what is in one of two sets
abbrev pub ◌with◌ : Versions → Versions → Versions
◌with◌ a b v = a v || b v

-- what is in the first and not in the second
abbrev pub ◌without◌ : Versions → Versions → Versions
◌without◌ a b v = a v && not (b v)

-- w alone where the test holds, else nothing
abbrev pub only_if : Bool → Name → Versions
only_if b w v = b && is w v

-- w alone
abbrev pub only : Name → Versions
only w v = is w v

infixl 45 ◌with◌
infixl 45 ◌without◌
-- the element of that number, from 1, of a list that has the newest first
abbrev pub numbered : {A : Type 0} → List A → ℕ → Option A
numbered [] n = None
numbered (x ∷ older) n = if n == length older + 1 then Some x else numbered older n

-- the filter of r selects the message that v was issued with
abbrev pub selection : {M C : Type 0} → Setting M C → List (Issue M) → ℕ → Versions
selection s [] r v = false
selection s (x ∷ earlier) r v = if is x.version v then s.selects r x.message else selection s earlier r v

-- the filter of r selects the message that v was issued with
abbrev pub Selects : {M C : Type 0} → Setting M C → Moment M C → ℕ → Name → Type 0
Selects s m r v = IsTrue (selection s m.issues r v)

-- the card of the message that v was issued with
abbrev pub card_of : {M C : Type 0} → Setting M C → List (Issue M) → Name → Option C
card_of s [] v = None
card_of s (x ∷ earlier) v = if is x.version v then Some (s.card x.message) else card_of s earlier v

-- ---- records, and complete sessions in words of the records that a replica took

-- whether a body is a Start
abbrev pub is_start : Body → Bool
is_start (Start full) = true
is_start _ = false

-- whether it is that of a full stream
abbrev pub starts_full : Body → Bool
starts_full (Start full) = full
starts_full _ = false

-- whether it is a Held
abbrev pub is_held : Body → Bool
is_held Held = true
is_held _ = false

-- x is for that session
abbrev pub in_session : ℕ → Record → Bool
in_session k x = x.session == k

-- two records are of one stream of one source
abbrev pub same_stream : Record → Record → Bool
same_stream x y = (x.source == y.source) && (x.stream == y.stream)

-- x and the records before it, newest first, are one stream by index, none left out, down to its Start
abbrev pub is_whole : Record → List Record → Bool
is_whole x [] = (x.index == 0) && is_start x.body
is_whole x (y ∷ before) = same_stream x y && ((x.index == y.index + 1) && is_whole y before)

-- r took in the session of x one stream from its Start up to x, and the stream is full
abbrev pub completes : {M C : Type 0} → Moment M C → ℕ → Record → Bool
completes m r x = let before = filter (in_session x.session) (m.taken_in r) in
    is_whole x before && list_any (λ y. starts_full y.body) before
