-- A replica learns a version and its below: what it holds is what the history says.
use Rattle.std.proofs.Common.{◌≡◌, ap, ℕ, refl, sym, subst, ◌∙◌, Bool, true, false, not, ◌||◌, ◌&&◌, List, [], ◌∷◌, filter, inl, inr, IsTrue, arith, Option, Some, None}
use Rattle.mr_world.proofs.Names.Lists.{and_from, and_parts}
use Rattle.mr_world.proofs.Names.Replica.{arrival_alone, arrived, told_more}
use Rattle.mr_world.proofs.Names.Model.{Issue, Versions, feed_after, is, is_issued, item_of, made_with, nothing, only, only_if, ◌without◌, ◌with◌}
use Rattle.mr_world.proofs.Names.Laws.{IsIssueList, false_from, in_filter, is_from, is_path, item_is_issued, made_item, one_test, or_parts}
use Rattle.mr_world.proofs.Names.Mails.{AreSame, AuthorColumn, ClauseParts, Entry, Mail, Name, Pairs, Rev, entered, holds, left_by, revision_of}
use Rattle.mr_world.proofs.Names.Mails.{rises-filter, rises-inserted, rises_from, rises_none, supersedes, told, vector_has, version_of, with_below}
use Rattle.mr_world.proofs.Names.Mails.{with_first, with_learned, with_pairs}
use Rattle.mr_world.proofs.Names.World.{HoldsAs, IsBelow, IsTrueRevision, Shows, setting_of}
use Rattle.mr_world.proofs.Agreement.Feeds.{feed_is}
use Rattle.mr_world.proofs.Groundwork.Orders.{held_entered, held_more, held_some, in_entered}
use Rattle.mr_world.proofs.Groundwork.Tools.{none_of, or_none, or_swap}

-- ---- sets of revisions

module _ (issues : List (Issue Mail)) where
  pub none_hold : HoldsAs issues [] nothing
  none_hold = record { each = λ r i. elim i [ ]; same = λ v. refl; in_order = rises_none version_of }

  -- what is held of a set is held of another with the same versions
  pub hold_same : (rs : List Rev) (set other : Versions) → HoldsAs issues rs set → ((v : Name) → set v ≡ other v) → HoldsAs issues rs other
  hold_same rs set other h same = record { each = h.each; same = λ v. h.same v ∙ same v; in_order = h.in_order }

  -- those that pass a test which is one of versions
  pub some_hold : (rs : List Rev) (set q : Versions) (p : Rev → Bool) → HoldsAs issues rs set → ((r : Rev) → IsTrueRevision issues r → p r ≡ q r.version) → HoldsAs issues (filter p rs) (λ v. set v && q v)
  some_hold rs set q p h tests = grind (arith, in_filter, held_some, rises-filter, version_of)

  -- one more
  one_more_hold : (rs : List Rev) (set : Versions) (r : Rev) → IsTrueRevision issues r → ¬ IsTrue (set r.version) → HoldsAs issues rs set → HoldsAs issues (entered r rs) (set with only r.version)
  one_more_hold rs set r t new h = record {
    each = λ x i. elim (in_entered r rs x i) [ inl e ↦ subst (IsTrueRevision issues) e t | inr j ↦ h.each x j ];
    same = λ v. held_entered r rs v ∙ (or_swap (is r.version v) (holds rs v) ∙ ap (λ b. b || is r.version v) (h.same v));
    in_order = rises-inserted version_of r rs (none_of (revision_of rs r.version) (h.same r.version ∙ false_from (set r.version) new)) h.in_order;
  }

  one_hold : (r : Rev) → IsTrueRevision issues r → HoldsAs issues (r ∷ []) (only r.version)
  one_hold r t = record {
    each = λ x i. elim i [ inl e ↦ subst (IsTrueRevision issues) e t | inr n ↦ absurd n ];
    same = λ v. held_more r [] v ∙ or_none (is r.version v);
    in_order = rises_from version_of r [] tt (rises_none version_of);
  }

  -- ---- sets of pairs

  -- what is shown besides
  pub shows_with : (old more new : Pairs) (known added : Versions) → Shows issues old known → Shows issues more added → AreSame new (with_pairs old more) → Shows issues new (known with added)
  shows_with old more new known added o m l = grind (arith, or_parts, item_of, or_swap)

module _ (issues : List (Issue Mail)) (ok : IsIssueList issues) (item w : Name) (b : List AuthorColumn) (isb : IsBelow issues item w b) where
  -- what the version was made with
  abbrev lower : Versions
  lower = made_with issues w

  -- is what it supersedes
  pub lower_is : (r : Rev) → IsTrueRevision issues r → supersedes item (vector_has b) r ≡ lower r.version
  lower_is r t = grind (arith, one_test, supersedes, vector_has, and_parts, is, is_path, item_of, made_item, and_from, is_from)

  -- the version is learned
  pub shows_version : (for_all : Bool) (old new : Pairs) (known : Versions) → Shows issues old known → AreSame new (with_learned for_all old item w) → Shows issues new (known with only w)
  shows_version for_all old new known sh l = shows_with issues old (λ i v. (for_all || is item i) && is w v) new known (only w) sh (record {
    issued = λ i v h. subst (λ (z : Name). IsTrue (is_issued issues z)) (is_path w v (and_parts (for_all || is item i) (is w v) h).1) isb.is_one;
    same = λ v h. (let its = λ (t : IsTrue (is w v)). is_from item (item_of issues v) (sym isb.of_item ∙ ap (item_of issues) (is_path w v t)) in both_for for_all (is item (item_of issues v)) (is w v) its);
  }) l
    where
      both_for : (a c d : Bool) → (IsTrue d → IsTrue c) → ((a || c) && d) ≡ d
      both_for a c d h = grind arith

  -- the item's own version is one of the item
  item_is_its : IsTrue (is_issued issues item) × (item_of issues item ≡ item)
  item_is_its = subst (λ (i : Name). IsTrue (is_issued issues i) × (item_of issues i ≡ i)) isb.of_item (item_is_issued issues ok w isb.is_one)

  -- with all that it supersedes, and the item's first version for all items, where it is in that
  pub shows_revision : (for_all first_too : Bool) (old new : Pairs) (known : Versions) → Shows issues old known →
      AreSame new (with_below (with_first (first_too && vector_has b item) (with_learned for_all old item w) item) item (vector_has b)) → Shows issues new (known with only w with lower)
  shows_revision for_all first_too old new known sh l =
      shows_with issues above (λ i v. (is item i && vector_has b v) || (first && is item v)) new (known with only w) lower (shows_version for_all old above known sh (λ i v. refl)) (record {
        issued = λ i v h. elim (or_parts (is item i && vector_has b v) (first && is item v) h) [
          | inl a ↦ isb.issued v (and_parts (is item i) (vector_has b v) a).1
          | inr a ↦ subst (λ (z : Name). IsTrue (is_issued issues z)) (is_path item v (and_parts first (is item v) a).1) item_is_its.0
        ];
        same = λ v h. either (is item (item_of issues v)) (vector_has b v) first (is item v) (lower v) (λ t. isb.same v h (sym (is_path item (item_of issues v) t)))
            (λ t. is_from item (item_of issues v) (sym isb.of_item ∙ made_item issues ok w v t)) (λ f t. ap lower (sym (is_path item v t)) ∙ (sym (isb.same item item_is_its.0 item_is_its.1) ∙ (and_parts first_too (vector_has b item) f).1));
      }) (λ i v. l i v ∙ or_three (is item i && vector_has b v) (first && is item v) (above i v))
    where
      first : Bool
      first = first_too && vector_has b item

      above : Pairs
      above = with_learned for_all old item w

      either : (a c d e f : Bool) → (IsTrue a → c ≡ f) → (IsTrue f → IsTrue a) → (IsTrue d → IsTrue e → IsTrue f) → ((a && c) || (d && e)) ≡ f
      either a c d e f g h k = grind arith

      or_three : (a c d : Bool) → (a || (c || d)) ≡ ((a || c) || d)
      or_three a c d = grind arith

  -- ---- what is held

  -- what it supersedes leaves
  pub out_learned : (rs : List Rev) (set : Versions) → HoldsAs issues rs set → HoldsAs issues (left_by item (vector_has b) rs) (set without lower)
  out_learned rs set h = some_hold issues rs set (λ v. not (lower v)) (λ r. not (supersedes item (vector_has b) r)) h (λ r t. ap not (lower_is r t))

  -- a revision of the version comes where it enters, and none where it does not
  abbrev pub Comes : (enters : Bool) → (comer : Option Rev) → Type 0
  Comes true (Some r) = IsTrueRevision issues r × (r.version ≡ w)
  Comes false None = Unit {0}
  Comes enters comer = ⊥

  -- what is held once the version is learned
  pub held_learned : (rs : List Rev) (comer : Option Rev) (set : Versions) (enters : Bool) → HoldsAs issues rs set → Comes enters comer → ¬ IsTrue (set w) →
      HoldsAs issues (arrived comer (left_by item (vector_has b) rs)) (set without lower with only_if enters w)
  held_learned rs (Some r) set true h c new = subst (λ (u : Name). HoldsAs issues (entered r (left_by item (vector_has b) rs)) (set without lower with only u)) c.1
      (one_more_hold issues (left_by item (vector_has b) rs) (set without lower) r c.0 (λ k. new (subst (λ (u : Name). IsTrue (set u)) c.1 (and_parts (set r.version) (not (lower r.version)) k).0)) (out_learned rs set h))
  held_learned rs None set false h c new = hold_same issues (left_by item (vector_has b) rs) (set without lower) (set without lower with only_if false w) (out_learned rs set h) (λ v. sym (or_none ((set without lower) v)))
  held_learned rs comer set enters h c new = grind (arith, entered, left_by, vector_has, only, one_more_hold, and_parts, out_learned, hold_same, only_if, or_none)

  -- ---- what the feed tells

  -- what leaves
  gone_as : (rs : List Rev) (set : Versions) (enters : Bool) → HoldsAs issues rs set → ¬ IsTrue (lower w) → HoldsAs issues (filter (supersedes item (vector_has b)) rs) (set without (set without lower with only_if enters w))
  gone_as rs set enters h irr = hold_same issues (filter (supersedes item (vector_has b)) rs) (λ v. set v && lower v) (set without (set without lower with only_if enters w))
      (some_hold issues rs set lower (supersedes item (vector_has b)) h lower_is) (λ v. left (set v) (lower v) (enters && is w v) (λ k l. irr (subst (λ (u : Name). IsTrue (lower u)) (sym (is_path w v (and_parts enters (is w v) k).1)) l)))
    where
      left : (a c d : Bool) → (IsTrue d → ¬ IsTrue c) → (a && c) ≡ (a && not ((a && not c) || d))
      left a c d h = grind arith

  -- what comes
  come_as : (comer : Option Rev) (set : Versions) (enters : Bool) → Comes enters comer → ¬ IsTrue (set w) → HoldsAs issues (arrival_alone comer) ((set without lower with only_if enters w) without set)
  come_as (Some r) set true c new = hold_same issues (r ∷ []) (only r.version) ((set without lower with only w) without set) (one_hold issues r c.0)
      (λ v. ap (λ (u : Name). is u v) c.1 ∙ came (set v) (lower v) (is w v) (λ k l. new (subst (λ (u : Name). IsTrue (set u)) (sym (is_path w v k)) l)))
    where
      came : (a c d : Bool) → (IsTrue d → ¬ IsTrue a) → d ≡ (((a && not c) || d) && not a)
      came a c d h = grind arith
  come_as None set false c new = hold_same issues [] nothing ((set without lower with only_if false w) without set) (none_hold issues) (λ v. none (set v) (lower v))
    where
      none : (a c : Bool) → false ≡ (((a && not c) || false) && not a)
      none a c = grind arith
  come_as comer set enters c new = absurd c

  pub feed_learned : (filters : ℕ → List ClauseParts) (rs : List Rev) (comer : Option Rev) (set : Versions) (enters : Bool) (feed : List Entry) → HoldsAs issues rs set → Comes enters comer → ¬ IsTrue (set w) → ¬ IsTrue (lower w) →
      feed_after (setting_of filters) issues set (set without lower with only_if enters w) (told feed) ≡ told (told_more feed (filter (supersedes item (vector_has b)) rs) (arrival_alone comer))
  feed_learned filters rs comer set enters feed h c new irr = feed_is filters issues ok set (set without lower with only_if enters w) feed (filter (supersedes item (vector_has b)) rs) (arrival_alone comer)
      (gone_as rs set enters h irr) (come_as comer set enters c new)
