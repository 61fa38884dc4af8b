-- What each step of a run adds to the feeds.
use Rattle.std.proofs.Common.{◌≡◌, refl, sym, subst, ◌∙◌, ℕ, List, [], ◌∷◌, ◌++◌, filter, inl, inr, IsTrue, IsFalse, append-nil, arith}
use Rattle.std.specs.declared.cmp.Ordering.{Ordering}
use Rattle.std.specs.declared.cmp.Ordering.TheVariants.{Less, Equal, Greater}
use Rattle.std.specs.Ordering.{is_lt, ordering_reverse}
use Rattle.mr_model.proofs.Names.{Change, Change.Asks, Change.Closes, Change.Gives, Change.Issues, Change.Misfits, Change.Offers, Change.Opens}
use Rattle.mr_model.proofs.Names.{Change.Releases, Change.Retires, Change.Stays, Change.Takes, Change.TakesEntry, Change.Vouches, EachPair, Entry, History}
use Rattle.mr_model.proofs.Names.{Holding, In, IsAllowed, IsOrdered, IsRun, Issue, Mark.CloseMark, Moment, Name, Setting, Tells, TellsChange, Versions}
use Rattle.mr_model.proofs.Names.{both_ways, exact_names, feed_after, happens, holding_after_issue, holding_after_record, holding_after_release}
use Rattle.mr_model.proofs.Names.{in_version_order, insert_in_order, is_before, is_closed, is_issued, name_cmp, names_total, now, start, with_holding}
use Rattle.mr_model.proofs.Names.{with_issue, with_mark, ◌without◌}
use Rattle.mr_model.specs.Moment.{stored}
use Rattle.mr_model.proofs.Basics.{cases, false_from}
use Rattle.mr_model.proofs.Issues.{IsIssueList, fresh}
use Rattle.mr_model.proofs.Lists.{each_from, each_at, pairs_map, in_filter, filter_in, pairs_filter, in_placed, ordered_in, in_ordered, in_issued, Differ, ordered_distinct}
use Rattle.mr_model.proofs.Sets.{choice, at_elim₂, without_parts, without_from}
use Rattle.mr_model.proofs.Core.{Core, Inv, IsSafe, listing_core}
use Rattle.mr_model.proofs.Safe.{issuable, issue_safe, record_safe, release_safe}
use Rattle.mr_model.proofs.Theorem.{run_inv}

-- ---- the order of versions

less_from : (o : Ordering) → IsTrue (is_lt o) → o ≡ Less
less_from Less h = refl
less_from _ h = absurd (cc)

pub before_from : (v w : Name) → name_cmp v w ≡ Less → IsTrue (is_before v w)
before_from v w e = rw e refl

pub before_trans : (u v w : Name) → IsTrue (is_before u v) → IsTrue (is_before v w) → IsTrue (is_before u w)
before_trans u v w h k = before_from u w (names_total.trans u v w (less_from (name_cmp u v) h) (less_from (name_cmp v w) k))

-- of two versions one stands before the other
pub before_or_after : (v w : Name) → ¬ (v ≡ w) → IsFalse (is_before v w) → IsTrue (is_before w v)
before_or_after v w differ h = grind (arith, before_from, exact_names, names_total.antisymm w v)

abbrev pub Rises : {M : Type 0} → Issue M → Issue M → Type 0
Rises x y = IsTrue (is_before x.version y.version)

pub placed_rising : {M : Type 0} (x : Issue M) (ys : List (Issue M)) → EachPair Rises ys → ((u : Issue M) → In u ys → Differ x u) → EachPair Rises (insert_in_order x ys)
placed_rising x [] rising new = (tt, tt)
placed_rising x (y ∷ ys) rising new = elim (cases (is_before x.version y.version)) [
  | inl t ↦ rw t (each_from (Rises x) (y ∷ ys) (λ u i. grind (arith, t, before_trans x.version y.version u.version t, each_at (Rises y) ys rising.0 u)), rising)
  | inr n ↦ rw n (
    each_from (Rises y) (insert_in_order x ys) (λ u i. grind (arith, in_placed x ys u i, before_or_after x.version y.version (new y (inl refl)) n, each_at (Rises y) ys rising.0 u)),
    placed_rising x ys rising.1 (λ u i. new u (inr i)),
  )
]

pub ordered_rising : {M : Type 0} (issues : List (Issue M)) → IsIssueList issues → EachPair Rises (in_version_order issues)
ordered_rising [] ok = tt
ordered_rising (x ∷ e) ok = grind (arith, ordered_rising e ok.1, placed_rising, fresh, in_issued, ordered_in)

pub order_holds : {M C : Type 0} (s : Setting M C) (h : History M C) → IsRun s start h → IsOrdered (now s h).issues
order_holds s h run = grind (arith, ordered_in, in_ordered, ordered_rising, run_inv)

-- ---- what one change tells

pub tells_nothing : {M C : Type 0} (s : Setting M C) (issues : List (Issue M)) (feed : List (Entry C)) (store : Versions) → TellsChange s issues feed feed store store
tells_nothing s issues feed store = record {
  left = [];
  entered = [];
  tells = sym (append-nil (feed ++ []) ∙ append-nil feed);
  left_are = λ x. ((λ i. elim i [ ]), (λ h. absurd (h.2 h.1)));
  left_rising = tt;
  entered_are = λ x. ((λ i. elim i [ ]), (λ h. absurd (h.2 h.1)));
  one_at_most = tt;
}

-- the issues whose versions are in a and not in b
pub chosen : {M : Type 0} (issues : List (Issue M)) (a b : Versions) (x : Issue M) → In x (filter (λ y. (a without b) y.version) (in_version_order issues)) → In x issues × IsTrue (a x.version) × ¬ IsTrue (b x.version)
chosen issues a b x i = grind (arith, in_filter, without_parts, ordered_in, both_ways)

pub choosing : {M : Type 0} (issues : List (Issue M)) (a b : Versions) (x : Issue M) → In x issues × IsTrue (a x.version) × ¬ IsTrue (b x.version) → In x (filter (λ y. (a without b) y.version) (in_version_order issues))
choosing issues a b x h = filter_in (λ y. (a without b) y.version) (in_version_order issues) x (in_ordered issues x h.0) (without_from a b x.version h.1 (false_from (b x.version) h.2))

pub tells_safe : {M C : Type 0} (s : Setting M C) (m : Moment M C) (r : ℕ) (h : Holding) → Core s m → IsSafe s m r h → TellsChange s m.issues (m.feed r) (feed_after s m.issues (stored m r) h.stored (m.feed r)) (stored m r) h.stored
tells_safe {M} s m r h core safe = grind (arith, chosen, choosing, pairs_filter, ordered_rising, pairs_map, ordered_distinct)

pub holding_tells : {M C : Type 0} (s : Setting M C) (m : Moment M C) (r : ℕ) (h : Holding) → Core s m → IsSafe s m r h → (q : ℕ) → Tells s m (with_holding s m r h) q
holding_tells {M} {C} s m r h core safe q = grind (arith, at_elim₂, tells_safe, tells_nothing)

pub change_tells : {M C : Type 0} (s : Setting M C) (m : Moment M C) (c : Change M C) → IsAllowed s m c → Inv s m → (q : ℕ) → Tells s m (happens s m c) q
change_tells s m (Issues r x) rule inv q = holding_tells s (with_issue m x) r (holding_after_issue s (with_issue m x) r x) (listing_core s m x (issuable s m r x rule inv.core) inv.core) (issue_safe s m r x rule inv) q
change_tells s m (Takes r x reception) rule inv q = holding_tells s m r (holding_after_record s m r x x.body) inv.core (record_safe s m r x reception x.body rule inv.core refl).safe q
change_tells s m (Releases r x) rule inv q = holding_tells s m r (holding_after_release m r x.version) inv.core (release_safe s m r x rule.in_pool inv.core) q
change_tells {M} {C} s m (Closes r u) rule inv q = choice (λ (n : Moment M C). Tells s m n q) (is_closed (m.offered r u)) m (with_mark m r u CloseMark) (λ t. tells_nothing s m.issues (m.feed q) (stored m q)) (λ n. tells_nothing s m.issues (m.feed q) (stored m q))
change_tells s m Misfits rule inv q = absurd rule
change_tells s m _ rule inv q = tells_nothing s m.issues (m.feed q) (stored m q)

pub step_tells : {M C : Type 0} (s : Setting M C) (h : History M C) (c : Change M C) (r : ℕ) → IsRun s start h → IsAllowed s (now s h) c → Tells s (now s h) (happens s (now s h) c) r
step_tells s h c r run ok = change_tells s (now s h) c ok (run_inv s h run) r
