-- The headline follows from what holds at every moment.
use Rattle.std.proofs.Common.{◌≡◌, ◌≢◌, refl, sym, ap, subst, ◌∙◌, ℕ, Bool, true, List, [], ◌∷◌, ◌++◌, ◌↔◌, inl, inr, IsTrue, arith, eq-eqb}
use Rattle.mr_model.proofs.Names.{Change, Change.Asks, Change.Closes, Change.Gives, Change.Issues, Change.Misfits, Change.Offers, Change.Opens}
use Rattle.mr_model.proofs.Names.{Change.Releases, Change.Retires, Change.Stays, Change.Takes, Change.TakesEntry, Change.Vouches, Entry, Headline, History}
use Rattle.mr_model.proofs.Names.{Holding, InIssueOrder, IsAllowed, IsCurrent, IsRun, IsSoundHolding, KnowsItem, LosesNothing, Mark.CloseMark, Moment, Name}
use Rattle.mr_model.proofs.Names.{Reply.Done, Retire, RetiresBetween, Setting, Step, Versions, added, after, cases_order, change, feed_after, happens}
use Rattle.mr_model.proofs.Names.{holding_after_issue, holding_after_record, holding_after_release, is_closed, is_issued, item_of, now, start, with_holding}
use Rattle.mr_model.proofs.Names.{with_issue, with_mark, ◌does◌}
use native.Mathlib.Decide.{dec_lt}
use Rattle.mr_model.specs.Moment.{stored}
use Rattle.mr_model.proofs.Basics.{In}
use Rattle.mr_model.proofs.Issues.{superseded_in, made_issued, made_item, chain}
use Rattle.mr_model.proofs.Lists.{pairs_map}
use Rattle.mr_model.proofs.Feeds.{IsAfter, feed_stays}
use Rattle.mr_model.proofs.Sets.{choice, at_elim}
use Rattle.mr_model.proofs.Core.{Inv, IsSafe}
use Rattle.mr_model.proofs.Safe.{issue_safe, record_safe, release_safe}
use Rattle.mr_model.proofs.Runs.{start_holds, change_keeps, run_keeps}

pub run_inv : {M C : Type 0} (s : Setting M C) (h : History M C) → IsRun s start h → Inv s (now s h)
run_inv s h run = run_keeps s start h run (start_holds s)

pub is_sound : {M C : Type 0} (s : Setting M C) (m : Moment M C) → Inv s m → (r : ℕ) → IsSoundHolding s m r
is_sound s m inv r = let sets = inv.core.sets.each r in let sound = inv.core.sound r in search (sets.stored, sets.issued, sound.wanted, sound.complete, sound.heads)

pub loses_nothing : {M C : Type 0} (s : Setting M C) (m : Moment M C) → Inv s m → LosesNothing m
loses_nothing s m inv v h current = elim (inv.kept v h) [ inl a ↦ absurd (current a) | inr k ↦ k ]

pub holds_current : {M C : Type 0} (s : Setting M C) (m : Moment M C) → Inv s m → (r : ℕ) (item v : Name) → KnowsItem m r item → (IsTrue (stored m r v) × (item_of m.issues v ≡ item)) ↔ IsCurrent s m r item v
holds_current s m inv r item v knows = let sets = inv.core.sets.each r in let sound = inv.core.sound r in let list = inv.core.sets.list in
    grind (arith, sets.stored, sets.issued, sound.wanted, sound.complete, sound.heads, knows, superseded_in m.issues v, made_issued m.issues list, made_item m.issues list)

-- ---- order

-- of two versions of one author and item, the one that came later has the higher counter
pub later_counter : {M C : Type 0} (s : Setting M C) (m : Moment M C) → Inv s m → (r : ℕ) (v w : Name) → In v (added (m.feed r)) → In w (added (m.feed r)) → IsAfter m.issues v w → InIssueOrder m.issues v w
later_counter s m inv r v w i j late ea ei =
    let issued = λ (u : Name) (k : In u (added (m.feed r))). (inv.core.sets.each r).issued u ((inv.core.fed r).added_known u k) in
    let hv = issued v i in let hw = issued w j in
    elim (cases_order v.counter w.counter) [ inl e ↦ absurd (late.differ (name_path v w ea e)) | inr o ↦ elim o [ inl lt ↦ lt | inr gt ↦ absurd (late.not_made_with (chain m.issues inv.core.sets.list w v hw hv (sym ea) (sym ei) gt)) ] ]
  where
    name_path : (v w : Name) → v.author ≡ w.author → v.counter ≡ w.counter → v ≡ w
    name_path v w a c = λ i. record { author = a i; counter = c i }

-- ---- retirement

-- r is retired at m', and its feed is that of m
abbrev pub Rests : {M C : Type 0} → Moment M C → ℕ → Moment M C → Type 0
Rests m r m' = (m'.feed r ≡ m.feed r) × IsTrue (m'.is_retired r)

pub changed_rests : {M C : Type 0} (s : Setting M C) (m : Moment M C) (q r : ℕ) (h : Holding) → IsSafe s m q h → IsTrue (m.is_retired r) → (with_holding s m q h).feed r ≡ m.feed r
changed_rests {M} {C} s m q r h safe k = grind (arith, at_elim, feed_stays)

pub change_rests : {M C : Type 0} (s : Setting M C) (m : Moment M C) (r : ℕ) (c : Change M C) → IsAllowed s m c → Inv s m → IsTrue (m.is_retired r) → Rests m r (happens s m c)
change_rests s m r (Issues q x) rule inv k = (changed_rests s (with_issue m x) q r (holding_after_issue s (with_issue m x) q x) (issue_safe s m q x rule inv) k, k)
change_rests s m r (Takes q x reception) rule inv k = (changed_rests s m q r (holding_after_record s m q x x.body) (record_safe s m q x reception x.body rule inv.core refl).safe k, k)
change_rests s m r (Retires q) rule inv k = (refl, at_elim (λ z (b : Bool). IsTrue (m.is_retired z) → IsTrue b) m.is_retired q true r (λ j. refl) (λ j. j) k)
change_rests s m r (Closes q u) rule inv k = choice (Rests m r) (is_closed (m.offered q u)) m (with_mark m q u CloseMark) (λ j. (refl, k)) (λ j. (refl, k))
change_rests s m r (Releases q x) rule inv k = (changed_rests s m q r (holding_after_release m q x.version) (release_safe s m q x rule.in_pool inv.core) k, k)
change_rests s m r Misfits rule inv k = absurd rule
change_rests s m r _ rule inv k = (refl, k)

pub run_rests : {M C : Type 0} (s : Setting M C) (m : Moment M C) (r : ℕ) (h : History M C) → IsRun s m h → Inv s m → IsTrue (m.is_retired r) → (after s m h).feed r ≡ m.feed r
run_rests s m r [] run inv k = refl
run_rests s m r (x ∷ later) run inv k = let a = change_rests s m r (change m x) run.0 inv k in
    run_rests s (happens s m (change m x)) r later run.1 (change_keeps s m (change m x) run.0 inv) a.1 ∙ a.0

pub after-append : {M C : Type 0} (s : Setting M C) (m : Moment M C) (before later : History M C) → after s m (before ++ later) ≡ after s (after s m before) later
after-append s m [] later = refl
after-append s m (x ∷ before) later = after-append s (happens s m (change m x)) before later

pub run_later : {M C : Type 0} (s : Setting M C) (m : Moment M C) (before later : History M C) → IsRun s m (before ++ later) → IsRun s (after s m before) later
run_later s m [] later run = run
run_later s m (x ∷ before) later run = run_later s (happens s m (change m x)) before later run.1

pub run_before : {M C : Type 0} (s : Setting M C) (m : Moment M C) (before later : History M C) → IsRun s m (before ++ later) → IsRun s m before
run_before s m [] later run = tt
run_before s m (x ∷ before) later run = (run.0, run_before s (happens s m (change m x)) before later run.1)

pub run_more : {M C : Type 0} (s : Setting M C) (m : Moment M C) (h : History M C) (x : Step M C) → IsRun s m h → IsAllowed s (after s m h) (change (after s m h) x) → IsRun s m (h ++ x ∷ [])
run_more s m [] x run ok = (ok, tt)
run_more s m (y ∷ h) x run ok = (run.0, run_more s (happens s m (change m y)) h x run.1 ok)

-- ---- the headline

pub headline_holds : {M C : Type 0} (s : Setting M C) (h : History M C) → IsRun s start h → Headline s h
headline_holds {M} {C} s h run = record {
  once = λ r. pairs_map (IsAfter (now s h).issues) (λ v w. v ≢ w) (added ((now s h).feed r)) (λ v w i j late. late.differ) (inv.core.fed r).in_order;
  in_order = λ r. pairs_map (IsAfter (now s h).issues) (InIssueOrder (now s h).issues) (added ((now s h).feed r))
      (λ v w i j late. later_counter s (now s h) inv r v w i j late) (inv.core.fed r).in_order;
  none_after = none_after;
  taken = inv.core.ports.took;
  offered = inv.core.ports.moved;
  closed = inv.core.ports.closed;
  holds = holds_current s (now s h) inv;
}
  where
    inv : Inv s (now s h)
    inv = run_inv s h run

    none_after : (r : ℕ) (before later : History M C) → RetiresBetween h r before later → (now s h).feed r ≡ (now s before).feed r
    none_after r before later e = ap (λ (g : History M C). (now s g).feed r) e ∙ (ap (λ (m : Moment M C). m.feed r) (after-append s start before (record { event = r does Retire; reply = Done } ∷ later))
        ∙ run_rests s (happens s (now s before) (Retires r)) r later rest.1 (change_keeps s (now s before) (Retires r) rest.0 (run_inv s before (run_before s start before (record { event = r does Retire; reply = Done } ∷ later) run'))) retired)
      where
        run' : IsRun s start (before ++ record { event = r does Retire; reply = Done } ∷ later)
        run' = subst (IsRun s start) e run

        rest : IsRun s (now s before) (record { event = r does Retire; reply = Done } ∷ later)
        rest = run_later s start before (record { event = r does Retire; reply = Done } ∷ later) run'

        retired : IsTrue ((happens s (now s before) (Retires r)).is_retired r)
        retired = rw (eq-eqb r r refl) refl
