-- A history without the steps that a crash lost is a run.
-- The moment of the whole history and that of what is left go side by side, and agree on all but what r lost (`Agrees`). A step of r moves the first alone;
-- a step of another replica moves both: it is allowed at the second too (`allowed_there`) and makes the same of its replica (`change_same`), since what it reads is the same at both (`Sees`).
use Rattle.std.proofs.Common.{◌≡◌, ◌≢◌, refl, sym, ap, subst, ◌∙◌, ℕ, ◌==◌, Bool, if◌then◌else◌, List, [], ◌∷◌, ◌++◌, inl, inr, IsTrue, IsFalse, eqb-true, eq-eqb, arith}
use Rattle.std.proofs.lemmas.Bool.{both_ways}
use Rattle.std.proofs.lemmas.List.{append_assoc, append-nil}
use Rattle.mr_model.specs.History.{Setting, Step, History}
use Rattle.mr_model.specs.declared.event.Act.{Act}
use Rattle.mr_model.specs.Moment.{Moment, Knows, start}
use Rattle.mr_model.specs.Changes.{Change, happens, change, after, now}
use Rattle.mr_model.specs.Rules.{In, IsAllowed, IsRun}
use Rattle.mr_model.specs.Laws.{Grows}
use Rattle.mr_model.proofs.Basics.{cases, in_append}
use Rattle.mr_model.proofs.Core.{Inv}
use Rattle.mr_model.proofs.Runs.{change_keeps, run_keeps}
use Rattle.mr_model.proofs.Readings.{after_grows}
use Rattle.mr_model.proofs.Theorem.{run_inv, after-append, run_later, run_before, run_more}
use Rattle.mr_crash.specs.Frames.{Frame, frames, gives}
use Rattle.mr_crash.specs.Crash.{is_of, OthersTakeOnly, NobodyTook, Deed, unnumbered, deeds, of_others, IsLeftOf, Replica, replica, HoldsOfCrash, IsWithCrashes, IsWithCrashes.Nothing, IsWithCrashes.OneMore, IsWithCrashes.Crash}
use Rattle.mr_crash.proofs.LostIssues.{left_all, is_left, item_same, made_same}
use Rattle.mr_crash.proofs.Changes.{IsBy, change_by, InPools, frames_in, pools_grow, pools_new}
use Rattle.mr_crash.proofs.Agreeing.{Agrees, agrees_first, agrees_lost, agrees_left, same_or_other}
use Rattle.mr_crash.proofs.Sees.{sees}
use Rattle.mr_crash.proofs.Allowed.{IsFound, allowed_there}
use Rattle.mr_crash.proofs.Same.{change_same}
use Rattle.mr_crash.proofs.Anew.{IsAnew, step_anew}

-- ---- the deeds of others

pub others_gone : {M C : Type 0} (r : ℕ) (d : Deed M C) (ds : List (Deed M C)) → IsTrue (d.replica == r) → of_others r (d ∷ ds) ≡ of_others r ds
others_gone r d ds t = rw t refl

pub others_stay : {M C : Type 0} (r : ℕ) (d : Deed M C) (ds : List (Deed M C)) → IsFalse (d.replica == r) → of_others r (d ∷ ds) ≡ d ∷ of_others r ds
others_stay r d ds n = rw n refl

-- ---- the steps after the first that may be lost

-- what is left of the steps from m on, as steps from m'
pub record IsRest {M C : Type 0} (s : Setting M C) (r : ℕ) (b m m' : Moment M C) (later left : History M C) : Type 0 where
  pub left_are : deeds s m' left ≡ of_others r (deeds s m later)
  pub run : IsRun s m' left
  pub agree : Agrees r b (after s m later) (after s m' left)

-- what has to hold where the step that stays makes the change d at m'
abbrev pub IsWell : {M C : Type 0} → Setting M C → ℕ → (b m m' : Moment M C) → Step M C → (later left : History M C) → Act M → Change M C → Type 0
IsWell {M} {C} s r b m m' x later left act d =
    (◌≡◌ {A = List (Deed M C)} (record { replica = x.event.replica; act = unnumbered act; reply = x.reply; change = d } ∷ deeds s (happens s m' d) left) (of_others r (deeds s m (x ∷ later))))
    × IsAllowed s m' d
    × IsRun s (happens s m' d) left
    × Agrees r b (after s m (x ∷ later)) (after s (happens s m' d) left)

module _ {M C : Type 0} (s : Setting M C) (r : ℕ) (b : Moment M C) where
  -- a step of r goes
  rest_gone : (m m' : Moment M C) (x : Step M C) (later left : History M C) → IsTrue (is_of r x) → IsRest s r b (happens s m (change m x)) m' later left → IsRest s r b m m' (x ∷ later) left
  rest_gone m m' x later left t rest = grind (arith, rest.left_are, others_gone, rest.run, rest.agree)

  -- a step of another replica stays
  rest_stays : (m m' : Moment M C) (x : Step M C) (later left : History M C) → IsFalse (is_of r x) → (step : IsAnew m m' x.event.replica x.event.act x.reply) → IsAllowed s m' (change m x) →
      IsRest s r b (happens s m (change m x)) (happens s m' (change m x)) later left →
      IsRest s r b m m' (x ∷ later) (record { event = record { replica = x.event.replica; act = step.anew }; reply = x.reply } ∷ left)
  rest_stays m m' x later left n step rule' rest = record { left_are = all.0; run = (all.1, all.2); agree = all.3 }
    where
      same : IsWell s r b m m' x later left step.anew (change m x)
      same = (
        (λ i. record { replica = x.event.replica; act = step.alike i; reply = x.reply; change = change m x } ∷ rest.left_are i)
            ∙ sym (others_stay r (record { replica = x.event.replica; act = unnumbered x.event.act; reply = x.reply; change = change m x }) (deeds s (happens s m (change m x)) later) n),
        rule',
        rest.run,
        rest.agree,
      )

      all : IsWell s r b m m' x later left step.anew (change m' (record { event = record { replica = x.event.replica; act = step.anew }; reply = x.reply }))
      all = subst (IsWell s r b m m' x later left step.anew) (sym step.same) same

  pub rest_of : (m m' : Moment M C) (kept : List Frame) (later : History M C) → Agrees r b m m' → Inv s m → Inv s m' → ((f : Frame) → In f kept → InPools m' f) → IsRun s m later → OthersTakeOnly s r m kept later →
      (left : History M C) × IsRest s r b m m' later left
  rest_of m m' kept [] a inv inv' there run only = ([], record { left_are = refl; run = tt; agree = a })
  rest_of m m' kept (x ∷ later) a inv inv' there run only = elim (cases (is_of r x)) [
    | inl t ↦ (let rest = rest_of (happens s m c) m' kept later (agrees_lost s r b m m' c a (own t) run.0) (change_keeps s m c run.0 inv) inv' there run.1
        (subst (λ (is_own : Bool). OthersTakeOnly s r (happens s m c) (if is_own then kept else gives c ++ kept) later) t only.1) in
        (rest.0, rest_gone m m' x later rest.0 t rest.1))
    | inr n ↦ (let rest = rest_of (happens s m c) (happens s m' c) (gives c ++ kept) later
        (agrees_left s r x.event.replica b m m' c a by (other n) run.0 (allowed n) (change_same s r x.event.replica b m m' c a inv inv' (other n) by run.0 (allowed n)))
        (change_keeps s m c run.0 inv) (change_keeps s m' c (allowed n) inv')
        (λ f i. elim (in_append (gives c) kept f i) [ inl j ↦ pools_new s m' c f j | inr j ↦ pools_grow s m' c f (there f j) ]) run.1
        (subst (λ (is_own : Bool). OthersTakeOnly s r (happens s m c) (if is_own then kept else gives c ++ kept) later) n only.1) in
        (record { event = record { replica = x.event.replica; act = (step n).anew }; reply = x.reply } ∷ rest.0, rest_stays m m' x later rest.0 n (step n) (allowed n) rest.1))
  ]
    where
      c : Change M C
      c = change m x

      by : IsBy x.event.replica c
      by = change_by m x.event.replica x.event.act x.reply

      own : IsTrue (is_of r x) → IsBy r c
      own t = subst (λ (k : ℕ). IsBy k c) (eqb-true x.event.replica r t) by

      other : IsFalse (is_of r x) → x.event.replica ≢ r
      other n e = both_ways (is_of r x) n (eq-eqb x.event.replica r e)

      found : IsFalse (is_of r x) → IsFound m' c
      found n f i = there f (only.0 n f i)

      allowed : IsFalse (is_of r x) → IsAllowed s m' c
      allowed n = allowed_there s r x.event.replica b m m' c a inv inv' (other n) by (found n) run.0

      step : IsFalse (is_of r x) → IsAnew m m' x.event.replica x.event.act x.reply
      step n = step_anew s m m' x.event.replica (sees s r x.event.replica b m m' a inv inv' (other n)) x.event.act x.reply run.0 (found n)

-- ---- the law

pub run_on : {M C : Type 0} (s : Setting M C) (m : Moment M C) (before later : History M C) → IsRun s m before → IsRun s (after s m before) later → IsRun s m (before ++ later)
run_on s m [] later run more = more
run_on s m (x ∷ before) later run more = (run.0, run_on s (happens s m (change m x)) before later run.1 more)

-- the moment without what was lost grows into the whole one
pub agrees_grow : {M C : Type 0} (s : Setting M C) (r : ℕ) (b m m' : Moment M C) → Agrees r b m m' → Inv s m → Inv s m' → Grows b m → Grows m' m
agrees_grow {M} {C} s r b m m' a inv inv' grown = record {
  issued = left_all r b.issues a.lost;
  item_stays = λ v h. item_same r b.issues a.lost inv.core.sets.list v (is_left r b.issues a.lost v h);
  made_with_stays = λ w v h. made_same r b.issues a.lost inv.core.sets.list inv'.core.sets.list w v (is_left r b.issues a.lost w h);
  known_stays = λ q v h. grind (arith, same_or_other q r, grown.known_stays r v, a.itself, a.others q);
}

-- ---- what is left is told by what the steps do

-- the change of the first deed, where there is one
abbrev pub first_change : {M C : Type 0} → Change M C → List (Deed M C) → Change M C
first_change c [] = c
first_change c (d ∷ ds) = d.change

-- the deeds after the first
abbrev pub later_deeds : {M C : Type 0} → List (Deed M C) → List (Deed M C)
later_deeds [] = []
later_deeds (d ∷ ds) = ds

-- steps that do the same are alike allowed, and come to the same moment
pub same_deeds : {M C : Type 0} (s : Setting M C) (m : Moment M C) (h g : History M C) → deeds s m h ≡ deeds s m g → IsRun s m h → IsRun s m g × (after s m h ≡ after s m g)
same_deeds s m [] [] e run = (tt, refl)
same_deeds s m [] (y ∷ g) e run = absurd (cc)
same_deeds s m (x ∷ h) [] e run = absurd (cc)
same_deeds {M} {C} s m (x ∷ h) (y ∷ g) e run = with_rest (same_deeds s (happens s m (change m x)) h g later run.1)
  where
    first : change m x ≡ change m y
    first = ap (first_change (change m x)) e

    later : deeds s (happens s m (change m x)) h ≡ deeds s (happens s m (change m x)) g
    later = subst (λ (c : Change M C). deeds s (happens s m (change m x)) h ≡ deeds s (happens s m c) g) (sym first) (ap later_deeds e)

    with_rest : IsRun s (happens s m (change m x)) g × (after s (happens s m (change m x)) h ≡ after s (happens s m (change m x)) g) → IsRun s m (y ∷ g) × (after s m (x ∷ h) ≡ after s m (y ∷ g))
    with_rest rest = (
      subst (λ (c : Change M C). IsAllowed s m c × IsRun s (happens s m c) g) first (run.0, rest.0),
      rest.1 ∙ ap (λ (c : Change M C). after s (happens s m c) g) first,
    )

-- ---- one crash

-- something is left
pub leaves : {M C : Type 0} (s : Setting M C) (before later : History M C) (r : ℕ) → IsRun s start (before ++ later) → NobodyTook s before later r →
    (left : History M C) × IsRest s r (now s before) (now s before) (now s before) later left
leaves s before later r run nobody =
    rest_of s r (now s before) (now s before) (now s before) (frames (now s before)) later (agrees_first r (now s before)) inv inv (frames_in (now s before)) (run_later s start before later run) nobody
  where
    inv : Inv s (now s before)
    inv = run_inv s before (run_before s start before later run)

pub crash_holds : {M C : Type 0} (s : Setting M C) (before later : History M C) (r : ℕ) → IsRun s start (before ++ later) → NobodyTook s before later r → (left : History M C) → IsLeftOf s before later r left →
    HoldsOfCrash s before later r left
crash_holds {M} {C} s before later r run nobody left is_left = record {
  run = run_on s start before left first same.0;
  others = λ q n. ap (λ (m : Moment M C). replica m q) short ∙ (sym (rest.1.agree.others q n) ∙ sym (ap (λ (m : Moment M C). replica m q) whole));
  itself = ap (λ (m : Moment M C). replica m r) short ∙ sym rest.1.agree.itself;
  versions = subst (λ (m : Moment M C). Grows m (now s (before ++ later))) (sym short) (subst (λ (m : Moment M C). Grows (after s b rest.0) m) (sym whole) grown);
}
  where
    b : Moment M C
    b = now s before

    first : IsRun s start before
    first = run_before s start before later run

    more : IsRun s b later
    more = run_later s start before later run

    inv : Inv s b
    inv = run_inv s before first

    rest : (found : History M C) × IsRest s r b b b later found
    rest = leaves s before later r run nobody

    same : IsRun s b left × (after s b rest.0 ≡ after s b left)
    same = same_deeds s b rest.0 left (rest.1.left_are ∙ sym is_left) rest.1.run

    short : now s (before ++ left) ≡ after s b rest.0
    short = after-append s start before left ∙ sym same.1

    whole : now s (before ++ later) ≡ after s b later
    whole = after-append s start before later

    grown : Grows (after s b rest.0) (after s b later)
    grown = agrees_grow s r b (after s b later) (after s b rest.0) rest.1.agree (run_keeps s b later more inv) (run_keeps s b rest.0 rest.1.run inv) (after_grows s b later more inv)

-- ---- any number

pub with_crashes : {M C : Type 0} (s : Setting M C) (h : History M C) → IsWithCrashes s h → IsRun s start h
with_crashes s h Nothing = tt
with_crashes s h (OneMore before x w rule) = run_more s start before x (with_crashes s before w) rule
with_crashes s h (Crash before later left r w nobody is_left) = (crash_holds s before later r (with_crashes s (before ++ later) w) nobody left is_left).run

-- each run is a history with no crash
pub run_on_with : {M C : Type 0} (s : Setting M C) (before later : History M C) → IsWithCrashes s before → IsRun s (now s before) later → IsWithCrashes s (before ++ later)
run_on_with s before [] w run = subst (IsWithCrashes s) (sym (append-nil before)) w
run_on_with {M} {C} s before (x ∷ later) w run = subst (IsWithCrashes s) (append_assoc before (x ∷ []) later)
    (run_on_with s (before ++ x ∷ []) later (OneMore before x w run.0) (subst (λ (m : Moment M C). IsRun s m later) (sym (after-append s start before (x ∷ []))) run.1))

pub no_crash : {M C : Type 0} (s : Setting M C) (h : History M C) → IsRun s start h → IsWithCrashes s h
no_crash s h run = run_on_with s [] h Nothing run
