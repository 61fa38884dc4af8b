-- The invariant holds at every moment of a run.
use Rattle.std.proofs.Common.{refl, sym, subst, ℕ, Bool, true, false, not, [], ◌∷◌, ◌⊎◌, inl, inr, IsTrue, IsFalse, arith}
use Rattle.mr_version.specs.Name.{Name}
use Rattle.mr_model.specs.Versions.{Versions, is, Issue, is_issued, made_with}
use Rattle.mr_model.specs.History.{Setting, Record, Receipt, History}
use Rattle.mr_model.specs.Moment.{Holding, Mark.CloseMark, Moment, known, stored, pushed_out, start, at}
use Rattle.mr_model.specs.Changes.{Reception, Change, Change.Issues, Change.Asks, Change.Opens, Change.Gives, Change.Takes, Change.Retires, Change.Offers, Change.Closes, Change.TakesEntry, Change.Vouches, Change.Releases, Change.Stays, Change.Misfits, holding_after_issue, holding_after_record, holding_after_release, with_holding, with_issue, after_issue, after_taking, with_mark, is_closed, happens, change, after}
use Rattle.mr_model.specs.Rules.{IsIssue, IsReceived, IsAllowed, IsRun}
use Rattle.mr_model.proofs.Basics.{In, cases, or_parts, or_right, is_refl, is_path}
use Rattle.mr_model.proofs.Issues.{IsIssuable, superseded_kept}
use Rattle.mr_model.proofs.Sets.{choice, at_elim, at_same, known_grows, remains_new}
use Rattle.mr_model.proofs.Streams.{pools_of, taking_streams, asking_streams, opening_streams, opening_sets}
use Rattle.mr_model.proofs.Draws.{giving_streams, giving_sets}
use Rattle.mr_model.proofs.Ports.{offering_ports, closing_ports, taking_ports}
use Rattle.mr_model.proofs.Core.{IsStored, IsKept, Inv, IsSafe, kept_stays, changing_core, changing_inv, listing_core}
use Rattle.mr_model.proofs.Safe.{issuable, issue_safe, IsTaken, record_safe, release_safe}

-- ---- an issue

-- its author holds what it issued
pub landed : {M C : Type 0} (s : Setting M C) (m : Moment M C) (r : ℕ) (x : Issue M) → IsKept m.issues (at m.holding r (holding_after_issue s m r x)) x.version
landed s m r x =
    let new = λ (a : Versions) (b : Bool). remains_new a (made_with m.issues x.version) b x.version x.version in
    grind (arith, cases (s.selects r x.message), at_same m.holding r (holding_after_issue s m r x), new (stored m r) (s.selects r x.message), new (pushed_out m r) (not (s.selects r x.message)))

pub issue_keeps : {M C : Type 0} (s : Setting M C) (m : Moment M C) (r : ℕ) (x : Issue M) → IsIssue m r x → Inv s m → Inv s (after_issue s m r x)
issue_keeps {M} {C} s m r x rule inv = record {
  core = changing_core s (with_issue m x) r h safe (listing_core s m x ok inv.core);
  kept = λ v k. elim (or_parts (is x.version v) (is_issued m.issues v) k) [
    | inl t ↦ subst (IsKept (x ∷ m.issues) (at m.holding r h)) (is_path x.version v t) (landed s (with_issue m x) r x)
    | inr old ↦ kept_stays s (with_issue m x) r h safe v (elim (inv.kept v old) [ inl a ↦ inl (superseded_kept x m.issues (ok, inv.core.sets.list) v a) | inr b ↦ inr b ])
  ];
  own = λ v k. elim (or_parts (is x.version v) (is_issued m.issues v) k) [
    | inl t ↦ subst (λ (z : Name). IsTrue ((at m.holding r h z.author).known z)) (is_path x.version v t) own_new
    | inr old ↦ known_grows m.holding r h safe.grows v.author v (inv.own v old)
  ];
}
  where
    ok : IsIssuable m.issues x
    ok = issuable s m r x rule inv.core

    h : Holding
    h = holding_after_issue s (with_issue m x) r x

    safe : IsSafe s (with_issue m x) r h
    safe = issue_safe s m r x rule inv

    own_new : IsTrue ((at m.holding r h x.version.author).known x.version)
    own_new = subst (λ (q : ℕ). IsTrue ((at m.holding r h q).known x.version)) (sym rule.author)
        (subst (λ (a : Holding). IsTrue (a.known x.version)) (sym (at_same m.holding r h)) (or_right (known m r x.version) (is x.version x.version) (is_refl x.version)))

-- ---- a taken record

pub take_keeps : {M C : Type 0} (s : Setting M C) (m : Moment M C) (r : ℕ) (x : Record) (reception : Reception) → IsReceived m r x reception → Inv s m → Inv s (after_taking s m r x)
take_keeps s m r x reception rule inv = let done : Inv s (with_holding s m r h) = changing_inv s m r h taken.safe inv in
    assumption (taking_streams s m.issues (at m.holding r h) (pools_of m) r x rule.in_pool rule.target (λ w e. subst (λ (a : Holding). IsTrue (a.known w)) (sym (at_same m.holding r h)) (taken.learned w e)) done.core.streams, done)
  where
    h : Holding
    h = holding_after_record s m r x x.body

    taken : IsTaken s m r x.body h
    taken = record_safe s m r x reception x.body rule inv.core refl

-- ---- one change

pub change_keeps : {M C : Type 0} (s : Setting M C) (m : Moment M C) (c : Change M C) → IsAllowed s m c → Inv s m → Inv s (happens s m c)
change_keeps s m (Issues r x) rule inv = issue_keeps s m r x rule inv
change_keeps s m (Asks r ask) rule inv =
    assumption (asking_streams s m.issues m.holding (pools_of m) ask (λ v h. subst (λ (q : ℕ). IsTrue (known m q v)) (sym rule.target) (rule.claims_known v h)) inv.core.streams)
change_keeps s m (Opens k t ask) rule inv = assumption (opening_sets m k t ask inv.core.sets, opening_streams s m k t ask rule inv.core.streams)
change_keeps s m (Gives k t x) rule inv = assumption (giving_sets s m k t x rule inv.core.sets, giving_streams s m k t x rule inv.core.sets (inv.core.sound x.source) inv.core.streams)
change_keeps s m (Takes r x reception) rule inv = take_keeps s m r x reception rule inv
change_keeps s m (Retires r) rule inv =
    assumption (λ (q : ℕ). at_elim (λ z (b : Bool). IsTrue b → (v : Name) → IsFalse (pushed_out m z v)) m.is_retired r true q (λ k. rule.clean) (inv.core.clean q))
change_keeps s m (Offers r u e) rule inv = assumption (offering_ports m r u e rule inv.core.ports)
change_keeps s m (Closes r u) rule inv = choice (Inv s) (is_closed (m.offered r u)) m (with_mark m r u CloseMark) (λ t. inv) (λ n. assumption (closing_ports m r u n inv.core.ports))
change_keeps s m (TakesEntry r u e) rule inv = assumption (taking_ports m r u e rule inv.core.ports)
change_keeps s m (Vouches r v x) rule inv =
    let vouched : (y : Receipt) → In y (x ∷ m.receipts) → IsStored m.issues m.holding y.version = λ y i. elim i [
      | inl p ↦ subst (λ (z : Receipt). IsStored m.issues m.holding z.version) p (inr (r, subst (λ (z : Name). IsTrue (stored m r z)) (sym rule.version) rule.stored))
      | inr j ↦ inv.core.vouched y j
    ] in assumption vouched
change_keeps s m (Releases r x) rule inv = changing_inv s m r (holding_after_release m r x.version) (release_safe s m r x rule.in_pool inv.core) inv
change_keeps s m Stays rule inv = inv
change_keeps s m Misfits rule inv = absurd rule

-- ---- a run

pub start_holds : {M C : Type 0} (s : Setting M C) → Inv s (start {M = M} {C = C})
start_holds s = grind arith

pub run_keeps : {M C : Type 0} (s : Setting M C) (m : Moment M C) (h : History M C) → IsRun s m h → Inv s m → Inv s (after s m h)
run_keeps s m [] run inv = inv
run_keeps s m (x ∷ later) run inv = run_keeps s (happens s m (change m x)) later run.1 (change_keeps s m (change m x) run.0 inv)
