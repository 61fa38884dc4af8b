-- What an issue, a taken record and a release make of a replica's sets is safe.
use Rattle.std.proofs.Common.{◌≡◌, refl, sym, ap, subst, ◌∙◌, ℕ, ◌+◌, ◌==◌, Bool, false, not, ◌&&◌, List, [], ◌∷◌, inl, inr, IsTrue, IsFalse, Some, eqb-true, arith}
use Rattle.mr_model.proofs.Names.{Body, Body.End, Body.Held, Body.Item, Body.Know, Body.MoveOut, Body.Start, Holding, IsIssue, IsReceived, Issue, Moment}
use Rattle.mr_model.proofs.Names.{Name, Receipt, Reception, Record, Setting, Versions, and_parts, both_ways, completes, holding_after_end}
use Rattle.mr_model.proofs.Names.{holding_after_issue, holding_after_record, holding_after_release, holding_after_version, is, is_issued, issue_count}
use Rattle.mr_model.proofs.Names.{item_of, known, last_own, made_with, only, only_if, pushed_out, selection, version_in, with_issue, ◌without◌, ◌with◌}
use Rattle.mr_model.specs.Moment.{stored}
use Rattle.mr_model.proofs.Basics.{In, cases, or_parts, or_left, or_right, is_refl, is_path, in_append}
use Rattle.mr_model.proofs.Issues.{HasItem, IsIssuable, later_from_count, item_is_issued, last_own_issued, made_by, made_issued, made_trans, superseded_by, fresh}
use Rattle.mr_model.proofs.Sets.{Within, held_known, choice, with_known, learned_cases, learned_from, without_parts, without_from, remains_cases, remains_old, IsKnowing}
use Rattle.mr_model.proofs.Sound.{IsLesson, learned_holding, learns_sound, end_leaves, end_sound, kept_parts, selected_new}
use Rattle.mr_model.proofs.Lessons.{end_lesson}
use Rattle.mr_model.proofs.Core.{IsStored, Core, Inv, IsSafe, listing_core}

pub stay_safe : {M C : Type 0} (s : Setting M C) (m : Moment M C) (r : ℕ) → Core s m → IsSafe s m r (m.holding r)
stay_safe s m r core = record {
  grows = λ v k. k;
  knowing = core.sets.each r;
  newcomer = record { author = 0; counter = 0 };
  enters = λ v k n. absurd (n k);
  sound = core.sound r;
  leaves = λ v k. inl k;
  frees = λ v k. inl k;
  rests = λ k. (refl, λ v j. j);
}

-- r learns a w that it did not know
pub learned_safe : {M C : Type 0} (s : Setting M C) (m : Moment M C) (r : ℕ) (w : Name) (enters joins_out : Bool) → Core s m → IsTrue (is_issued m.issues w) → ¬ IsTrue (known m r w) → enters ≡ selection s m.issues r w → IsFalse (m.is_retired r) →
    IsSafe s m r (learned_holding m.issues (m.holding r) w enters joins_out)
learned_safe s m r w enters joins_out core iss new same alive = record {
  grows = λ v k. learned_from (known m r) lower w v (inl k);
  knowing = record {
    issued = λ v k. grind (arith, learned_cases (known m r) lower w v k, own.issued v, made_issued m.issues core.sets.list w v);
    downward = λ u v k j. grind (arith, learned_from (known m r) lower w v, learned_cases (known m r) lower w u k, own.downward u v, made_trans m.issues core.sets.list w u v);
    stored = λ v k. grind (arith, learned_from (known m r) lower w v, remains_cases (stored m r) lower enters w v k, own.stored v);
    outed = λ v k. grind (arith, learned_from (known m r) lower w v, remains_cases (pushed_out m r) lower joins_out w v k, own.outed v);
  };
  newcomer = w;
  enters = λ v k n. grind (arith, remains_cases (stored m r) lower enters w v k);
  sound = learns_sound s m.issues r (m.holding r) w enters joins_out core.sets.list own new same (core.sound r);
  leaves = λ v k. grind (arith, cases (lower v), superseded_by m.issues core.sets.list w v, remains_old (stored m r) lower enters w v k);
  frees = λ v k. grind (arith, cases (lower v), superseded_by m.issues core.sets.list w v, remains_old (pushed_out m r) lower joins_out w v k);
  rests = λ k. absurd (both_ways (m.is_retired r) alive k);
}
  where
    lower : Versions
    lower = made_with m.issues w

    own : IsKnowing m.issues (m.holding r)
    own = core.sets.each r

-- ---- an issue

pub last_own_author : {M : Type 0} (e : List (Issue M)) (a : ℕ) (i b : Name) → In b (last_own e a i) → b.author ≡ a
last_own_author [] a i b h = elim h [ ]
last_own_author (x ∷ e) a i b h = grind (arith, last_own_author e a i b, cases, eqb-true, and_parts)

pub issuable : {M C : Type 0} (s : Setting M C) (m : Moment M C) (r : ℕ) (x : Issue M) → IsIssue m r x → Core s m → IsIssuable m.issues x
issuable {M} s m r x rule core = record {
  counter = counted;
  later = later_from_count m.issues core.sets.list x.version.author x.version.counter counted;
  bases_issued = issued;
  bases_item = rule.one_item;
  item = of_item x.bases issued rule.one_item rule.own_item;
}
  where
    counted : x.version.counter ≡ issue_count m.issues x.version.author + 1
    counted = grind (arith, rule.author, rule.counter)

    issued : (b : Name) → In b x.bases → IsTrue (is_issued m.issues b)
    issued b i = (core.sets.each r).issued b (held_known m.issues (m.holding r) b (core.sets.each r) (rule.held b i))

    of_item : (bases : List Name) → ((b : Name) → In b bases → IsTrue (is_issued m.issues b)) → ((b : Name) → In b bases → item_of m.issues b ≡ x.item) → (bases ≡ [] → x.item ≡ x.version) → HasItem m.issues x
    of_item [] old one own = inl (own refl)
    of_item (b ∷ bases) old one own = grind (arith, one b, old b, item_is_issued m.issues core.sets.list b)

-- its author knows what it supersedes: so to learn it alone is to learn all that
pub author_knows : {M C : Type 0} (s : Setting M C) (m : Moment M C) (r : ℕ) (x : Issue M) → IsIssue m r x → Inv s m → Within (made_with (x ∷ m.issues) x.version) (known m r)
author_knows s m r x rule inv v h = let b = made_by x m.issues x.version v (is_refl x.version) h in
    grind (arith, b.2, in_append x.bases (last_own m.issues x.version.author x.item) b.0 b.1, rule.held b.0, held_known m.issues (m.holding r) b.0 (inv.core.sets.each r), last_own_author m.issues x.version.author x.item b.0, rule.author, inv.own b.0, last_own_issued m.issues x.version.author x.item b.0, (inv.core.sets.each r).downward b.0 v)

pub issue_safe : {M C : Type 0} (s : Setting M C) (m : Moment M C) (r : ℕ) (x : Issue M) → IsIssue m r x → Inv s m → IsSafe s (with_issue m x) r (holding_after_issue s (with_issue m x) r x)
issue_safe s m r x rule inv = subst (λ (k : Versions). IsSafe s (with_issue m x) r (record { known = k; stored = stored m r without lower with only_if picked x.version; pushed_out = pushed_out m r without lower with only_if (not picked) x.version }))
    (with_known (known m r with only x.version) lower (λ v h. or_left (known m r v) (only x.version v) (author_knows s m r x rule inv v h)))
    (learned_safe s (with_issue m x) r x.version picked (not picked) (listing_core s m x ok inv.core)
    (or_left (is x.version x.version) (is_issued m.issues x.version) (is_refl x.version))
    (λ h. fresh x m.issues ok ((inv.core.sets.each r).issued x.version h))
    (sym (selected_new s x m.issues r)) rule.alive)
  where
    ok : IsIssuable m.issues x
    ok = issuable s m r x rule inv.core

    lower : Versions
    lower = made_with (x ∷ m.issues) x.version

    picked : Bool
    picked = s.selects r x.message

-- ---- a taken version

-- to take what is known changes nothing
pub known_again : {M C : Type 0} (s : Setting M C) (m : Moment M C) (r : ℕ) (w : Name) → Core s m → IsTrue (known m r w) → known m r with only w with made_with m.issues w ≡ known m r
known_again s m r w core h = grind (arith, with_known, or_left, is_path, (core.sets.each r).downward w)

pub version_safe : {M C : Type 0} (s : Setting M C) (m : Moment M C) (r : ℕ) (w : Name) (enters : Bool) → Core s m → IsTrue (is_issued m.issues w) → enters ≡ selection s m.issues r w → IsFalse (m.is_retired r) →
    IsSafe s m r (holding_after_version m r w enters)
version_safe s m r w enters core iss same alive = choice (IsSafe s m r) (known m r w)
    (record { known = learned; stored = stored m r; pushed_out = pushed_out m r })
    (record { known = learned; stored = stored m r without lower with only_if enters w; pushed_out = pushed_out m r without lower })
    (λ t. subst (λ (k : Versions). IsSafe s m r (record { known = k; stored = stored m r; pushed_out = pushed_out m r })) (sym (known_again s m r w core t)) (stay_safe s m r core))
    (λ n. subst (λ (o : Versions). IsSafe s m r (record { known = learned; stored = stored m r without lower with only_if enters w; pushed_out = o }))
    (with_known (pushed_out m r without lower) (only_if false w) (λ v k. absurd (let j : IsTrue false = k in cc)))
    (learned_safe s m r w enters false core iss (both_ways (known m r w) n) same alive))
  where
    lower : Versions
    lower = made_with m.issues w

    learned : Versions
    learned = known m r with only w with lower

-- ---- the End of a full session

pub end_safe : {M C : Type 0} (s : Setting M C) (m : Moment M C) (r : ℕ) (x : Record) (reception : Reception) → IsReceived m r x reception → Core s m → x.body ≡ End → IsTrue (completes m r x) → IsSafe s m r (holding_after_end m r x)
end_safe s m r x reception rule core end done = record {
  grows = λ v k. or_left (known m r v) (learned v) k;
  knowing = record {
    issued = λ v k. grind (arith, or_parts (known m r v) (learned v) k, (core.sets.each r).issued v, (core.sets.each x.source).issued v, core.sets.answer_known x.source x.stream v);
    downward = λ w v k j. grind (arith, or_parts (known m r w) (learned w) k, or_left (known m r v) (learned v), or_right (known m r v) (learned v), (core.sets.each r).downward w v, core.sets.answer_downward x.source x.stream w v);
    stored = λ v k. or_left (known m r v) (learned v) ((core.sets.each r).stored v (kept_parts (stored m r) learned held v k).0);
    outed = λ v k. or_left (known m r v) (learned v) ((core.sets.each r).outed v k);
  };
  newcomer = record { author = 0; counter = 0 };
  enters = λ v k n. absurd (n (kept_parts (stored m r) learned held v k).0);
  sound = end_sound s m.issues r (m.holding r) learned held lesson (core.sound r);
  leaves = end_leaves s m.issues r (m.holding r) learned held lesson (core.sound r);
  frees = λ v k. inl k;
  rests = λ k. absurd (both_ways (m.is_retired r) rule.alive k);
}
  where
    learned : Versions
    learned = m.known_at_answer x.source x.stream

    held : Versions
    held = m.held_at_draw x.source x.stream

    lesson : IsLesson s m.issues r (known m r) learned held
    lesson = end_lesson s m r x core.sets core.streams rule.in_pool rule.target end done

-- ---- a taken record

-- r may take x, and then knows the version of x
pub record IsTaken {M C : Type 0} (s : Setting M C) (m : Moment M C) (r : ℕ) (b : Body) (h : Holding) : Type 0 where
  pub safe : IsSafe s m r h
  pub learned : (w : Name) → version_in b ≡ Some w → IsTrue (h.known w)

pub learns_version : {M C : Type 0} (m : Moment M C) (r : ℕ) (w : Name) (enters : Bool) → IsTrue ((holding_after_version m r w enters).known w)
learns_version m r w enters = grind (arith, choice, learned_from)

pub record_safe : {M C : Type 0} (s : Setting M C) (m : Moment M C) (r : ℕ) (x : Record) (reception : Reception) (b : Body) → IsReceived m r x reception → Core s m → x.body ≡ b → IsTaken s m r b (holding_after_record s m r x b)
record_safe s m r x reception (Item w) rule core e = record {
  safe = version_safe s m r w (selection s m.issues r w) core ((core.sets.each x.source).issued w (core.sets.given_known x w rule.in_pool (ap version_in e))) refl rule.alive;
  learned = λ u k. (let p : w ≡ u = cc in subst (λ (z : Name). IsTrue ((holding_after_version m r w (selection s m.issues r w)).known z)) p (learns_version m r w (selection s m.issues r w)));
}
record_safe s m r x reception (MoveOut w) rule core e = record {
  safe = version_safe s m r w false core ((core.sets.each x.source).issued w (core.sets.given_known x w rule.in_pool (ap version_in e)))
      (sym (subst (λ (q : ℕ). IsFalse (selection s m.issues q w)) rule.target (core.streams.move_outs x w rule.in_pool e))) rule.alive;
  learned = λ u k. (let p : w ≡ u = cc in subst (λ (z : Name). IsTrue ((holding_after_version m r w false).known z)) p (learns_version m r w false));
}
record_safe s m r x reception End rule core e = record {
  safe = choice (IsSafe s m r) (completes m r x) (holding_after_end m r x) (m.holding r) (λ t. end_safe s m r x reception rule core e t) (λ n. stay_safe s m r core);
  learned = λ w k. absurd (cc);
}
record_safe s m r x reception _ rule core e = record { safe = stay_safe s m r core; learned = λ w k. absurd (cc) }

-- ---- a release

pub release_safe : {M C : Type 0} (s : Setting M C) (m : Moment M C) (r : ℕ) (x : Receipt) → In x m.receipts → Core s m → IsSafe s m r (holding_after_release m r x.version)
release_safe s m r x i core = record {
  grows = λ v k. k;
  knowing = (let own = core.sets.each r in grind (arith, own.issued, own.downward, own.stored, own.outed, without_parts (pushed_out m r) gone));
  newcomer = record { author = 0; counter = 0 };
  enters = λ v k n. absurd (n k);
  sound = (let own = core.sound r in assumption own);
  leaves = λ v k. inl k;
  frees = λ v k. grind (arith, cases (gone v), without_from (pushed_out m r) gone v k, or_parts (only x.version v) (made_with m.issues x.version v), is_path x.version v, core.vouched x i, superseded_by m.issues core.sets.list x.version v);
  rests = λ k. (refl, λ v j. (without_parts (pushed_out m r) gone v j).0);
}
  where
    gone : Versions
    gone = only x.version with made_with m.issues x.version
