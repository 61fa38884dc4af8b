-- The laws beside the headline.
use Rattle.std.proofs.Common.{◌≡◌, refl, sym, ap, subst, ◌∙◌, ℕ, Bool, false, List, [], ◌∷◌, ◌++◌, IsTrue, Some, arith}
use Rattle.mr_version.specs.Name.{Name}
use Rattle.mr_model.specs.Versions.{Versions, is, Issue, is_issued, item_of, made_with}
use Rattle.mr_model.specs.History.{Setting, Body, Body.Start, Body.Item, Body.MoveOut, Body.Held, Body.Know, Body.End, Record, Entry, History}
use Rattle.mr_model.specs.Moment.{Holding, Mark.CloseMark, Moment, known, stored, pushed_out, selection, start}
use Rattle.mr_model.specs.Changes.{Change, Change.Issues, Change.Asks, Change.Opens, Change.Gives, Change.Takes, Change.Retires, Change.Offers, Change.Closes, Change.TakesEntry, Change.Vouches, Change.Releases, Change.Stays, Change.Misfits, feed_after, holding_after_issue, holding_after_version, holding_after_record, holding_after_release, after_taking, with_issue, with_mark, is_closed, happens, change, after, now}
use Rattle.mr_model.specs.Laws.{IsNumbered, IsClosure, IsSupersession, KnowsDownward, Grows, ChangesNothing}
use Rattle.mr_model.specs.Rules.{IsAllowed, IsRun, version_in}
use Rattle.mr_model.proofs.Basics.{or_right}
use Rattle.mr_model.proofs.Issues.{made_irrefl, made_trans, made_item, made_issued, made_kept, chain, not_new, item_back, counter_within, counter_issued, item_is_issued, made_with_replaced, made_with_least}
use Rattle.mr_model.proofs.Sets.{choice, at_elim, held_known, known_grows}
use Rattle.mr_model.proofs.Feeds.{feed_stays}
use Rattle.mr_model.proofs.Core.{Core, Inv}
use Rattle.mr_model.proofs.Safe.{issuable, issue_safe, known_again, record_safe, release_safe}
use Rattle.mr_model.proofs.Runs.{change_keeps}
use Rattle.mr_model.proofs.Theorem.{run_inv, after-append, run_later, run_before}

pub supersession_holds : {M C : Type 0} (s : Setting M C) (h : History M C) → IsRun s start h → IsSupersession (now s h).issues
supersession_holds s h run = grind (arith, run_inv, made_irrefl, made_trans, made_item, made_issued, chain)

pub numbering_holds : {M C : Type 0} (s : Setting M C) (h : History M C) → IsRun s start h → IsNumbered (now s h).issues
numbering_holds s h run = let list = (run_inv s h run).core.sets.list in grind (arith, counter_within (now s h).issues list, counter_issued (now s h).issues list, item_is_issued (now s h).issues list)

pub closure_holds : {M C : Type 0} (s : Setting M C) (h : History M C) → IsRun s start h → IsClosure (now s h).issues
closure_holds s h run = let list = (run_inv s h run).core.sets.list in search (made_with_replaced (now s h).issues, made_trans (now s h).issues list, made_with_least (now s h).issues list)

pub knows_downward : {M C : Type 0} (s : Setting M C) (h : History M C) (r : ℕ) → IsRun s start h → KnowsDownward (now s h) r
knows_downward s h r run = let inv = run_inv s h run in let sets = inv.core.sets.each r in grind (arith, sets.issued, sets.downward, sets.stored, sets.outed, inv.own)

-- ---- growth

pub grows_not : {M C : Type 0} (m : Moment M C) → Grows m m
grows_not m = record { issued = λ v k. k; item_stays = λ v k. refl; made_with_stays = λ w v k. refl; known_stays = λ r v k. k }

-- only the holding of r changes, and it knows no less
pub grows_known : {M C : Type 0} (m later : Moment M C) → later.issues ≡ m.issues → ((r : ℕ) (v : Name) → IsTrue (known m r v) → IsTrue (known later r v)) → Grows m later
grows_known {M} m later same more = grind arith

pub change_grows : {M C : Type 0} (s : Setting M C) (m : Moment M C) (c : Change M C) → IsAllowed s m c → Inv s m → Grows m (happens s m c)
change_grows s m (Issues r x) rule inv = grind (arith, or_right, item_back, not_new, issuable, made_kept, known_grows, issue_safe)
change_grows s m (Takes r x reception) rule inv = grind (arith, grows_known, known_grows, record_safe)
change_grows s m (Releases r x) rule inv = grind (arith, grows_known, known_grows, release_safe)
change_grows s m (Closes r u) rule inv = choice (Grows m) (is_closed (m.offered r u)) m (with_mark m r u CloseMark) (λ k. grows_not m) (λ k. grows_known m (with_mark m r u CloseMark) refl (λ q v j. j))
change_grows s m Stays rule inv = grows_not m
change_grows s m Misfits rule inv = absurd rule
change_grows s m c rule inv = grows_known m (happens s m c) refl (λ q v k. k)

pub after_grows : {M C : Type 0} (s : Setting M C) (m : Moment M C) (h : History M C) → IsRun s m h → Inv s m → Grows m (after s m h)
after_grows s m [] run inv = grows_not m
after_grows s m (x ∷ later) run inv = let one = change_grows s m (change m x) run.0 inv in
    let rest = after_grows s (happens s m (change m x)) later run.1 (change_keeps s m (change m x) run.0 inv) in record {
      issued = λ v k. rest.issued v (one.issued v k);
      item_stays = λ v k. rest.item_stays v (one.issued v k) ∙ one.item_stays v k;
      made_with_stays = λ w v k. rest.made_with_stays w v (one.issued w k) ∙ one.made_with_stays w v k;
      known_stays = λ r v k. rest.known_stays r v (one.known_stays r v k);
    }

pub run_grows : {M C : Type 0} (s : Setting M C) (before later : History M C) → IsRun s start (before ++ later) → Grows (now s before) (now s (before ++ later))
run_grows {M} {C} s before later run = grind (arith, after_grows, run_later, run_inv, run_before, after-append)

-- ---- a version that is known already

pub version_again : {M C : Type 0} (s : Setting M C) (m : Moment M C) (r : ℕ) (w : Name) (enters : Bool) → Core s m → IsTrue (known m r w) → holding_after_version m r w enters ≡ m.holding r
version_again s m r w enters core h = rw h (ap (λ (k : Versions). record { known = k; stored = stored m r; pushed_out = pushed_out m r }) (known_again s m r w core h))

pub record_again : {M C : Type 0} (s : Setting M C) (m : Moment M C) (r : ℕ) (x : Record) (b : Body) (w : Name) → Core s m → version_in b ≡ Some w → IsTrue (known m r w) → holding_after_record s m r x b ≡ m.holding r
record_again s m r x (Item u) w core e h = let p : u ≡ w = cc in version_again s m r u (selection s m.issues r u) core (subst (λ (z : Name). IsTrue (known m r z)) (sym p) h)
record_again s m r x (MoveOut u) w core e h = let p : u ≡ w = cc in version_again s m r u false core (subst (λ (z : Name). IsTrue (known m r z)) (sym p) h)
record_again s m r x _ w core e h = absurd (cc)

pub nothing_changes : {M C : Type 0} (s : Setting M C) (h : History M C) (r : ℕ) (x : Record) (w : Name) → IsRun s start h → version_in x.body ≡ Some w → IsTrue (known (now s h) r w) →
    ChangesNothing (now s h) (after_taking s (now s h) r x)
nothing_changes {M} {C} s h r x w run e k = grind (arith, at_elim, feed_stays, record_again, run_inv)
