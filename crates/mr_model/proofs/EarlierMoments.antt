-- What a stream teaches and shows is what its source knew and stored at two moments of the history.
use Rattle.std.proofs.Common.{◌≡◌, refl, sym, ap, subst, ◌∙◌, ℕ, ◌==◌, true, not, ◌&&◌, List, [], ◌∷◌, ◌++◌, ◌⊎◌, inl, inr, IsTrue, eqb-true, eq-eqb, Option, Some, None, arith}
use Rattle.mr_model.proofs.Names.{Act, Answer, Ask, Change, Change.Asks, Change.Closes, Change.Gives, Change.Issues, Change.Misfits, Change.Offers}
use Rattle.mr_model.proofs.Names.{Change.Opens, Change.Releases, Change.Retires, Change.Stays, Change.Takes, Change.TakesEntry, Change.Vouches, Close, Create}
use Rattle.mr_model.proofs.Names.{CutIn, CutOut, DeliverPart, Edit, HasHeld, History, IsAllowed, IsNext, IsRun, Mark.CloseMark, Moment, Next, Offer, Pull}
use Rattle.mr_model.proofs.Names.{ReadsAnswer, ReadsHeld, Receive, Reception.AsFinished, Reception.AsKnown, Reception.AsTaken, Record, Release, Reply}
use Rattle.mr_model.proofs.Names.{Reply.Asked, Reply.Done, Reply.Finished, Reply.Gave, Reply.Issued, Reply.Known, Reply.Offered, Reply.Streaming, Reply.Took}
use Rattle.mr_model.proofs.Names.{Reply.TookEntry, Reply.Vouched, Retire, Setting, Step, Take, Versions, Vouch, WasOpened, WasShown, after, after_giving}
use Rattle.mr_model.proofs.Names.{after_opening, and_from, and_parts, at_two, both_ways, change, change_if_found, change_of, happens, is_closed}
use Rattle.mr_model.proofs.Names.{is_first_held, is_held, known, list_any, now, numbered, same_stream, start, with_mark, ◌does◌}
use Rattle.mr_model.specs.Moment.{stored}
use Rattle.mr_model.proofs.Basics.{cases, any_elim, any_intro}
use Rattle.mr_model.proofs.Sets.{choice, two_elim, two_same}
use Rattle.mr_model.proofs.Draws.{held_split, same_or_other}
use Rattle.mr_model.proofs.Theorem.{after-append, run_later}

-- ---- a stream that was opened stays as it was opened

pub change_opened : {M C : Type 0} (s : Setting M C) (m : Moment M C) (k t : ℕ) (ask : Ask) → m.ask_of k t ≡ Some ask → (c : Change M C) → IsAllowed s m c →
    ((happens s m c).ask_of k t ≡ Some ask) × ((happens s m c).known_at_answer k t ≡ m.known_at_answer k t)
change_opened s m k t ask e (Opens q u a) rule = grind (arith, two_elim)
change_opened {M} {C} s m k t ask e (Closes r u) rule = choice (λ (n : Moment M C). (n.ask_of k t ≡ Some ask) × (n.known_at_answer k t ≡ m.known_at_answer k t)) (is_closed (m.offered r u)) m (with_mark m r u CloseMark) (λ j. (e, refl)) (λ j. (e, refl))
change_opened s m k t ask e Misfits rule = absurd rule
change_opened s m k t ask e _ rule = (e, refl)

pub run_opened : {M C : Type 0} (s : Setting M C) (m : Moment M C) (k t : ℕ) (ask : Ask) → m.ask_of k t ≡ Some ask → (h : History M C) → IsRun s m h → (after s m h).known_at_answer k t ≡ m.known_at_answer k t
run_opened s m k t ask e [] run = refl
run_opened s m k t ask e (x ∷ later) run = let j = change_opened s m k t ask e (change m x) run.0 in
    run_opened s (happens s m (change m x)) k t ask j.0 later run.1 ∙ j.1

-- the steps that answer a stream and that give a record
abbrev pub answer_step : {M C : Type 0} → (k n t : ℕ) → Step M C
answer_step k n t = record { event = k does Answer n; reply = Streaming t }

abbrev pub next_step : {M C : Type 0} → (k t : ℕ) → Record → Step M C
next_step k t x = record { event = k does Next t; reply = Gave x }

-- the stream that an allowed Answer opens teaches from then on what its source knew
pub opening_lasts : {M C : Type 0} (s : Setting M C) (m : Moment M C) (k n t : ℕ) (later : History M C) → IsRun s m (answer_step k n t ∷ later) → (after s m (answer_step k n t ∷ later)).known_at_answer k t ≡ known m k
opening_lasts {M} {C} s m k n t later run = go (numbered m.asks n) run
  where
    go : (o : Option Ask) → IsAllowed s m (change_if_found o (Opens k t)) × IsRun s (happens s m (change_if_found o (Opens k t))) later →
        (after s (happens s m (change_if_found o (Opens k t))) later).known_at_answer k t ≡ known m k
    go None r = absurd r.0
    go (Some a) r = run_opened s (after_opening m k t a) k t a (two_same m.ask_of k t (Some a)) later r.1 ∙ two_same m.known_at_answer k t (known m k)

pub reads_answer : {M C : Type 0} (s : Setting M C) (before later : History M C) (k n t : ℕ) → IsRun s start (before ++ answer_step k n t ∷ later) → ReadsAnswer s before later k n t
reads_answer {M} {C} s before later k n t run = grind (arith, after-append, opening_lasts, run_later)

-- ---- each open stream was opened by an Answer

-- the change opens stream t of k
abbrev pub OpensIt : {M C : Type 0} → (k t : ℕ) → Change M C → Type 0
OpensIt k t (Opens q u ask) = (q ≡ k) × (u ≡ t)
OpensIt k t _ = ⊥

pub open_before : {M C : Type 0} (s : Setting M C) (m : Moment M C) (k t : ℕ) (ask : Ask) (c : Change M C) → (happens s m c).ask_of k t ≡ Some ask → (m.ask_of k t ≡ Some ask) ⊎ OpensIt k t c
open_before s m k t ask (Opens q u a) e = two_elim (λ y z (o : Option Ask). o ≡ Some ask → (m.ask_of y z ≡ Some ask) ⊎ ((q ≡ y) × (u ≡ z))) m.ask_of q u (Some a) k t (λ j. inr (refl, refl)) (λ other j. inl j) e
open_before {M} {C} s m k t ask (Closes r u) e = choice (λ (n : Moment M C). n.ask_of k t ≡ Some ask → (m.ask_of k t ≡ Some ask) ⊎ ⊥) (is_closed (m.offered r u)) m (with_mark m r u CloseMark) (λ _ j. inl j) (λ _ j. inl j) e
open_before s m k t ask _ e = inl e

-- where each change of a frame is none of a kind, so is the change of a frame that may be missing
pub found_none : {M C A : Type 0} (P : Change M C → Type 0) (o : Option A) (f : A → Change M C) → ((x : A) → P (f x) → ⊥) → (P Misfits → ⊥) → P (change_if_found o f) → ⊥
found_none P None f each none p = none p
found_none P (Some x) f each none p = each x p

-- only an Answer opens a stream
pub opened_by : {M C : Type 0} (m : Moment M C) (r : ℕ) (act : Act M) (reply : Reply C) (k t : ℕ) → OpensIt k t (change_of m r act reply) → (n : ℕ) × ((record { event = r does act; reply = reply }) ≡ answer_step {M = M} {C = C} k n t)
opened_by {M} {C} m r (Answer n) (Streaming u) k t e = (n, go (numbered m.asks n) e)
  where
    go : (o : Option Ask) → OpensIt k t (change_if_found {M = M} {C = C} o (Opens r u)) → record { event = r does Answer n; reply = Streaming u } ≡ answer_step {M = M} {C = C} k n t
    go None j = absurd j
    go (Some a) j = λ i. record { event = (j.0 i) does Answer n; reply = Streaming (j.1 i) }
opened_by m r (Receive n) Took k t e = absurd (found_none (OpensIt k t) (numbered m.given n) (λ x. Takes r x AsTaken) (λ x j. j) (λ j. j) e)
opened_by m r (Receive n) Known k t e = absurd (found_none (OpensIt k t) (numbered m.given n) (λ x. Takes r x AsKnown) (λ x j. j) (λ j. j) e)
opened_by m r (Receive n) Finished k t e = absurd (found_none (OpensIt k t) (numbered m.given n) (λ x. Takes r x AsFinished) (λ x j. j) (λ j. j) e)
opened_by m r (DeliverPart n bytes) Took k t e = absurd (found_none (OpensIt k t) (numbered m.given n) (λ x. Takes r x AsTaken) (λ x j. j) (λ j. j) e)
opened_by m r (DeliverPart n bytes) Known k t e = absurd (found_none (OpensIt k t) (numbered m.given n) (λ x. Takes r x AsKnown) (λ x j. j) (λ j. j) e)
opened_by m r (DeliverPart n bytes) Finished k t e = absurd (found_none (OpensIt k t) (numbered m.given n) (λ x. Takes r x AsFinished) (λ x j. j) (λ j. j) e)
opened_by m r (Release n) Done k t e = absurd (found_none (OpensIt k t) (numbered m.receipts n) (Releases r) (λ x j. j) (λ j. j) e)
opened_by m r (Create message) (Issued v) k t e = absurd e
opened_by m r (Edit bases message) (Issued v) k t e = absurd e
opened_by m r Retire Done k t e = absurd e
opened_by m r Pull (Asked ask) k t e = absurd e
opened_by m r (Next u) (Gave x) k t e = absurd e
opened_by m r (Offer u) (Offered x) k t e = absurd e
opened_by m r (Close u) Done k t e = absurd e
opened_by m r (Take u) (TookEntry x) k t e = absurd e
opened_by m r (Vouch v) (Vouched x) k t e = absurd e
opened_by m r (CutIn n) Done k t e = absurd e
opened_by m r (CutOut u) Done k t e = absurd e
opened_by m r _ _ k t e = absurd e

-- stream t of k was opened by an Answer of the history that begins at m
pub record WasOpenedFrom {M C : Type 0} (s : Setting M C) (m : Moment M C) (h : History M C) (k t : ℕ) : Type 0 where
  pub before : History M C
  pub later : History M C
  pub ask_number : ℕ
  pub answered : h ≡ before ++ answer_step k ask_number t ∷ later
  pub knew : (after s m h).known_at_answer k t ≡ known (after s m before) k

pub opened_from : {M C : Type 0} (s : Setting M C) (m : Moment M C) (h : History M C) (k t : ℕ) (ask : Ask) → IsRun s m h → (after s m h).ask_of k t ≡ Some ask → (m.ask_of k t ≡ Some ask) ⊎ WasOpenedFrom s m h k t
opened_from s m [] k t ask run e = inl e
opened_from {M} {C} s m (x ∷ later) k t ask run e = elim (opened_from s (happens s m (change m x)) later k t ask run.1 e) [
  | inr w ↦ inr (record { before = x ∷ w.before; later = w.later; ask_number = w.ask_number; answered = ap (λ (g : History M C). x ∷ g) w.answered; knew = w.knew })
  | inl j ↦ elim (open_before s m k t ask (change m x) j) [
    | inl l ↦ inl l
    | inr l ↦ (let o = opened_by m x.event.replica x.event.act x.reply k t l in inr (record {
      before = [];
      later = later;
      ask_number = o.0;
      answered = ap (λ (y : Step M C). y ∷ later) o.1;
      knew = subst (λ (y : Step M C). IsRun s m (y ∷ later) → (after s m (y ∷ later)).known_at_answer k t ≡ known m k) (sym o.1) (opening_lasts s m k o.0 t later) run;
    }))
  ]
]

pub was_opened : {M C : Type 0} (s : Setting M C) (h : History M C) (k t : ℕ) (ask : Ask) → IsRun s start h → (now s h).ask_of k t ≡ Some ask → WasOpened s h k t
was_opened s h k t ask run e = grind (arith, opened_from)

-- ---- a Held record that was drawn first stays the first

pub change_held : {M C : Type 0} (s : Setting M C) (m : Moment M C) (k t : ℕ) → HasHeld m.given k t → (c : Change M C) → HasHeld (happens s m c).given k t × ((happens s m c).held_at_draw k t ≡ m.held_at_draw k t)
change_held {M} {C} s m k t h (Gives q u x) = grind (arith, choice, two_elim, and_parts, any_intro, and_from, eq-eqb)
change_held {M} {C} s m k t h (Closes r u) = choice (λ (n : Moment M C). HasHeld n.given k t × (n.held_at_draw k t ≡ m.held_at_draw k t)) (is_closed (m.offered r u)) m (with_mark m r u CloseMark) (λ j. (h, refl)) (λ j. (h, refl))
change_held s m k t h _ = (h, refl)

pub after_held : {M C : Type 0} (s : Setting M C) (m : Moment M C) (k t : ℕ) → HasHeld m.given k t → (h : History M C) → (after s m h).held_at_draw k t ≡ m.held_at_draw k t
after_held s m k t g [] = refl
after_held s m k t g (x ∷ later) = let j = change_held s m k t g (change m x) in after_held s (happens s m (change m x)) k t j.0 later ∙ j.1

-- the first Held record of a stream is drawn: what its source stores now, the stream shows from then on
pub drawing_lasts : {M C : Type 0} (s : Setting M C) (m : Moment M C) (k t : ℕ) (x : Record) (later : History M C) → IsNext s m k t x → IsTrue (is_first_held m.given x) → (after s m (next_step k t x ∷ later)).held_at_draw k t ≡ stored m k
drawing_lasts {M} {C} s m k t x later rule first = grind (arith, after_held, and_parts, choice, two_same, both_ways)

pub reads_held : {M C : Type 0} (s : Setting M C) (before later : History M C) (k t : ℕ) (x : Record) → IsRun s start (before ++ next_step k t x ∷ later) → ReadsHeld s before later k t x
reads_held {M} {C} s before later k t x run first = grind (arith, after-append, drawing_lasts, run_later)

-- ---- each Held record comes of a draw, and one of them was the first

-- the change gives a Held record of stream t of k
abbrev pub ShowsIt : {M C : Type 0} → (k t : ℕ) → Change M C → Type 0
ShowsIt k t (Gives q u x) = IsTrue (is_held x.body) × ((x.source ≡ k) × (x.stream ≡ t))
ShowsIt k t _ = ⊥

pub shown_before : {M C : Type 0} (s : Setting M C) (m : Moment M C) (k t : ℕ) (c : Change M C) → HasHeld (happens s m c).given k t → HasHeld m.given k t ⊎ ShowsIt k t c
shown_before s m k t (Gives q u x) h = elim (held_split x m.given k t h) [ inl new ↦ inr new | inr old ↦ inl old ]
shown_before {M} {C} s m k t (Closes r u) h = choice (λ (n : Moment M C). HasHeld n.given k t → HasHeld m.given k t ⊎ ⊥) (is_closed (m.offered r u)) m (with_mark m r u CloseMark) (λ _ j. inl j) (λ _ j. inl j) h
shown_before s m k t _ h = inl h

-- a Next gave the Held record, and the rules allowed it
abbrev pub IsDrawn : {M C : Type 0} → Setting M C → Moment M C → (k t : ℕ) → Step M C → Type 0
IsDrawn s m k t y = (x : Record) × (y ≡ next_step k t x) × IsNext s m k t x × IsTrue (is_held x.body)

-- only a Next gives a record
pub drawn_by : {M C : Type 0} (s : Setting M C) (m : Moment M C) (r : ℕ) (act : Act M) (reply : Reply C) (k t : ℕ) → IsAllowed s m (change_of m r act reply) → ShowsIt k t (change_of m r act reply) →
    IsDrawn s m k t (record { event = r does act; reply = reply })
drawn_by s m r act reply k t rule e = grind arith

pub record WasShownFrom {M C : Type 0} (s : Setting M C) (m : Moment M C) (h : History M C) (k t : ℕ) : Type 0 where
  pub before : History M C
  pub later : History M C
  pub record_given : Record
  pub drawn : h ≡ before ++ next_step k t record_given ∷ later
  pub none_before : ¬ HasHeld (after s m before).given k t
  pub stored_then : (after s m h).held_at_draw k t ≡ stored (after s m before) k

-- a Held record of a stream that had given none is its first
pub first_held : {M C : Type 0} (s : Setting M C) (m : Moment M C) (k t : ℕ) (x : Record) → IsNext s m k t x → IsTrue (is_held x.body) → ¬ HasHeld m.given k t → IsTrue (is_first_held m.given x)
first_held s m k t x rule held none = grind (arith, cases, and_from, any_elim, and_parts, eqb-true)

pub shown_from : {M C : Type 0} (s : Setting M C) (m : Moment M C) (h : History M C) (k t : ℕ) → ¬ HasHeld m.given k t → IsRun s m h → HasHeld (after s m h).given k t → WasShownFrom s m h k t
shown_from s m [] k t none run g = absurd (none g)
shown_from {M} {C} s m (x ∷ later) k t none run g = elim (held_yet (happens s m (change m x)).given k t) [
  | inr n ↦ (let w = shown_from s (happens s m (change m x)) later k t n run.1 g in
      record { before = x ∷ w.before; later = w.later; record_given = w.record_given; drawn = ap (λ (h : History M C). x ∷ h) w.drawn; none_before = w.none_before; stored_then = w.stored_then })
  | inl j ↦ elim (shown_before s m k t (change m x) j) [
    | inl l ↦ absurd (none l)
    | inr l ↦ (let d = drawn_by s m x.event.replica x.event.act x.reply k t run.0 l in record {
      before = [];
      later = later;
      record_given = d.0;
      drawn = ap (λ (y : Step M C). y ∷ later) d.1;
      none_before = none;
      stored_then = subst (λ (y : Step M C). (after s m (y ∷ later)).held_at_draw k t ≡ stored m k) (sym d.1) (drawing_lasts s m k t d.0 later d.2 (first_held s m k t d.0 d.2 d.3 none));
    })
  ]
]
  where
    held_yet : (given : List Record) (k t : ℕ) → HasHeld given k t ⊎ ¬ HasHeld given k t
    held_yet [] k t = inr (λ h. elim h.1.is_given [ ])
    held_yet (y ∷ ys) k t = grind (arith, held_yet ys k t, cases (is_held y.body), held_split y ys k t, same_or_other y k t)

pub was_shown : {M C : Type 0} (s : Setting M C) (h : History M C) (k t : ℕ) → IsRun s start h → HasHeld (now s h).given k t → WasShown s h k t
was_shown s h k t run g = let w = shown_from s start h k t (λ j. elim j.1.is_given [ ]) run g in
    record { before = w.before; later = w.later; record_given = w.record_given; drawn = w.drawn; none_before = w.none_before; stored_then = w.stored_then }
