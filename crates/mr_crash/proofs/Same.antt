-- What another replica does makes of it the same without the lost steps.
use Rattle.std.proofs.Common.{◌≡◌, ◌≢◌, refl, sym, ap, subst, ◌∙◌, ℕ, ◌==◌, true, false, not, ◌&&◌, if◌then◌else◌, List, [], ◌∷◌, ◌++◌, map, filter, inl, inr, IsTrue, Bool, Some, eqb-true, arith}
use Rattle.std.specs.List.{list_any}
use Rattle.mr_version.specs.Name.{Name}
use Rattle.mr_model.specs.Versions.{Versions, Issue, is_issued, made_with}
use Rattle.mr_model.specs.History.{Setting, Body, Body.Start, Body.Item, Body.MoveOut, Body.Held, Body.Know, Body.End, Record, Receipt, Entry}
use Rattle.mr_model.specs.Moment.{Holding, Mark.Moved, Mark.CloseMark, Moment, stored, at_two, ◌with◌, ◌without◌, only_if, only, selection, is_held, starts_full, same_stream, in_session, is_whole}
use Rattle.mr_model.specs.Changes.{Reception, Change, Change.Issues, Change.Asks, Change.Opens, Change.Gives, Change.Takes, Change.Retires, Change.Offers, Change.Closes, Change.TakesEntry, Change.Vouches, Change.Releases, Change.Stays, Change.Misfits, holding_after_issue, holding_after_version, holding_after_record, holding_after_release, feed_after, added_entry, dropped_entry, with_holding, with_issue, with_mark, after_giving, after_issue, after_taking, is_first_held, is_closed, happens}
use Rattle.mr_model.specs.Rules.{In, IsAllowed, IsIssue, IsReceived, version_in}
use Rattle.mr_model.proofs.Basics.{one_test, any_elim, any_intro}
use Rattle.std.proofs.lemmas.Bool.{and_parts}
use Rattle.mr_model.proofs.Issues.{IsIssueList}
use Rattle.mr_model.proofs.Sets.{Within, without_parts}
use Rattle.mr_model.proofs.Core.{Core, Inv, IsSafe, listing_core}
use Rattle.mr_model.proofs.Safe.{issuable, issue_safe, record_safe, release_safe}
use Rattle.mr_crash.specs.Crash.{Replica, replica}
use Rattle.mr_crash.proofs.LostIssues.{Lost, Lost.stays, is_left, made_same, selection_same, order_same}
use Rattle.mr_crash.proofs.Changes.{IsBy}
use Rattle.mr_crash.proofs.Agreeing.{Agrees, same_or_other}
use Rattle.mr_crash.proofs.Allowed.{vouched_issued}

-- ---- a replica's sets become others

-- a feed tells the same, where no lost version entered or left the store
pub feed_same : {M C : Type 0} (s : Setting M C) (r : ℕ) (e : List (Issue M)) {all left : List (Issue M)} → Lost r e all left → IsIssueList all → IsIssueList left → (old new : Versions) (feed : List (Entry C)) →
    Within old (is_issued left) → Within new (is_issued left) → feed_after s all old new feed ≡ feed_after s left old new feed
feed_same s r e l ok okl old new feed ho hn = λ i. feed
    ++ map dropped_entry (order_same r e (old without new) l ok okl (λ v t. is_left r e l v (ho v (without_parts old new v t).0)) i)
    ++ map (added_entry s) (order_same r e (new without old) l ok okl (λ v t. is_left r e l v (hn v (without_parts new old v t).0)) i)

-- z, whose sets become h
abbrev pub put : {M C : Type 0} → Setting M C → List (Issue M) → ℕ → Replica C → Holding → Replica C
put s issues q z h = record z {
  holding = if q == q then h else z.holding;
  feed = if q == q then feed_after s issues z.holding.stored h.stored z.feed else z.feed;
}

pub put_same : {M C : Type 0} (s : Setting M C) (r q : ℕ) (e : List (Issue M)) (m m' : Moment M C) → Lost r e m.issues m'.issues → IsIssueList m.issues → IsIssueList m'.issues → replica m q ≡ replica m' q →
    (h h' : Holding) → h ≡ h' → Within (stored m' q) (is_issued m'.issues) → Within h'.stored (is_issued m'.issues) → replica (with_holding s m q h) q ≡ replica (with_holding s m' q h') q
put_same {M} {C} s r q e m m' l ok okl same h h' eh ho hn = both ∙ told
  where
    both : put s m.issues q (replica m q) h ≡ put s m.issues q (replica m' q) h'
    both = λ i. put s m.issues q (same i) (eh i)

    told : put s m.issues q (replica m' q) h' ≡ put s m'.issues q (replica m' q) h'
    told = λ i. record (replica m' q) {
      holding = if q == q then h' else m'.holding q;
      feed = if q == q then feed_same s r e l ok okl (stored m' q) h'.stored (m'.feed q) ho hn i else m'.feed q;
    }

-- what is stored was issued
pub stored_issued : {M C : Type 0} (s : Setting M C) (m : Moment M C) (q : ℕ) → Core s m → Within (stored m q) (is_issued m.issues)
stored_issued s m q core v h = (core.sets.each q).issued v ((core.sets.each q).stored v h)

pub safe_issued : {M C : Type 0} (s : Setting M C) (m : Moment M C) (q : ℕ) (h : Holding) → IsSafe s m q h → Within h.stored (is_issued m.issues)
safe_issued s m q h safe v k = safe.knowing.issued v (safe.knowing.stored v k)

-- ---- an issue

pub issue_same : {M C : Type 0} (s : Setting M C) (r q : ℕ) (b m m' : Moment M C) (x : Issue M) → Agrees r b m m' → Inv s m → Inv s m' → q ≢ r → IsIssue m q x → IsIssue m' q x →
    replica (after_issue s m q x) q ≡ replica (after_issue s m' q x) q
issue_same {M} {C} s r q b m m' x a inv inv' other rule rule' =
    put_same s r q b.issues (with_issue m x) (with_issue m' x) l ok ok' (a.others q other) (holding_after_issue s (with_issue m x) q x) (holding_after_issue s (with_issue m' x) q x) sets
    (stored_issued s (with_issue m' x) q (listing_core s m' x ok'.0 inv'.core))
    (safe_issued s (with_issue m' x) q (holding_after_issue s (with_issue m' x) q x) (issue_safe s m' q x rule' inv'))
  where
    foreign : x.version.author ≢ r
    foreign = λ own. other (sym rule.author ∙ own)

    l : Lost r b.issues (x ∷ m.issues) (x ∷ m'.issues)
    l = stays foreign a.lost

    ok : IsIssueList (x ∷ m.issues)
    ok = (issuable s m q x rule inv.core, inv.core.sets.list)

    ok' : IsIssueList (x ∷ m'.issues)
    ok' = (issuable s m' q x rule' inv'.core, inv'.core.sets.list)

    lower : made_with (x ∷ m.issues) x.version ≡ made_with (x ∷ m'.issues) x.version
    lower = λ i v. made_same r b.issues l ok ok' x.version v (λ own. absurd (foreign own)) i

    sets : holding_after_issue s (with_issue m x) q x ≡ holding_after_issue s (with_issue m' x) q x
    sets = λ i. let z = (a.others q other i).holding in record {
      known = z.known with only x.version;
      stored = z.stored without lower i with only_if (s.selects q x.message) x.version;
      pushed_out = z.pushed_out without lower i with only_if (not (s.selects q x.message)) x.version;
    }

-- ---- a taken record

module _ {M C : Type 0} (s : Setting M C) (r q : ℕ) (b m m' : Moment M C) (a : Agrees r b m m') (inv : Inv s m) (inv' : Inv s m') (other : q ≢ r) where
  -- learning a version that was not lost
  version_same : (w : Name) → IsTrue (is_issued m'.issues w) → (enters enters' : Bool) → enters ≡ enters' → holding_after_version m q w enters ≡ holding_after_version m' q w enters'
  version_same w issued enters enters' e = λ i. let z = (a.others q other i).holding in
      let learned = z.known with only w with lower i in
      if z.known w then record { known = learned; stored = z.stored; pushed_out = z.pushed_out }
      else record { known = learned; stored = z.stored without lower i with only_if (e i) w; pushed_out = z.pushed_out without lower i }
    where
      lower : made_with m.issues w ≡ made_with m'.issues w
      lower = λ i v. made_same r b.issues a.lost inv.core.sets.list inv'.core.sets.list w v (is_left r b.issues a.lost w issued) i

  -- what a stream that has ended teaches, and what it showed
  taught_same : (x : Record) → In x m'.given → x.body ≡ End → (m.known_at_answer x.source x.stream ≡ m'.known_at_answer x.source x.stream) × (m.held_at_draw x.source x.stream ≡ m'.held_at_draw x.source x.stream)
  taught_same x i e = elim (same_or_other x.source r) [
    | inl own ↦ (let opened = inv'.core.streams.asked x.source x.stream x (record { is_given = i; source_is = refl; stream_is = refl }) in
        let opened_by_r = subst (λ (k : ℕ). m'.ask_of k x.stream ≡ Some opened.0) own opened.1 in
        subst (λ (k : ℕ). (m.known_at_answer k x.stream ≡ m'.known_at_answer k x.stream) × (m.held_at_draw k x.stream ≡ m'.held_at_draw k x.stream)) (sym own)
        ((a.on_from.opened x.stream opened.0 opened_by_r).1, a.on_from.ended x i own e))
    | inr foreign ↦ (ap (λ (z : Replica C). z.known_at_answer x.stream) (a.others x.source foreign), ap (λ (z : Replica C). z.held_at_draw x.stream) (a.others x.source foreign))
  ]

  end_same : (x : Record) → In x m'.given → x.body ≡ End → holding_after_record s m q x End ≡ holding_after_record s m' q x End
  end_same x j e = λ i. let z = a.others q other i in
      let before = filter (in_session x.session) z.taken_in in
      if is_whole x before && list_any (λ y. starts_full y.body) before then record {
        known = z.holding.known with t.0 i;
        stored = z.holding.stored without (t.0 i without t.1 i);
        pushed_out = z.holding.pushed_out;
      } else z.holding
    where
      t : (m.known_at_answer x.source x.stream ≡ m'.known_at_answer x.source x.stream) × (m.held_at_draw x.source x.stream ≡ m'.held_at_draw x.source x.stream)
      t = taught_same x j e

  record_same : (x : Record) (body : Body) → In x m'.given → x.body ≡ body → holding_after_record s m q x body ≡ holding_after_record s m' q x body
  record_same x (Item w) j e = version_same w issued (selection s m.issues q w) (selection s m'.issues q w) (selection_same r b.issues s a.lost inv.core.sets.list q w (is_left r b.issues a.lost w issued))
    where
      issued : IsTrue (is_issued m'.issues w)
      issued = (inv'.core.sets.each x.source).issued w (inv'.core.sets.given_known x w j (ap version_in e))
  record_same x (MoveOut w) j e = version_same w ((inv'.core.sets.each x.source).issued w (inv'.core.sets.given_known x w j (ap version_in e))) false false refl
  record_same x End j e = end_same x j e
  record_same x _ j e = λ i. (a.others q other i).holding

  pub take_same : (x : Record) (reception : Reception) → IsReceived m' q x reception → replica (after_taking s m q x) q ≡ replica (after_taking s m' q x) q
  take_same x reception rule' = λ i. record (sets i) { taken_in = if q == q then x ∷ (a.others q other i).taken_in else (a.others q other i).taken_in }
    where
      sets : replica (with_holding s m q (holding_after_record s m q x x.body)) q ≡ replica (with_holding s m' q (holding_after_record s m' q x x.body)) q
      sets = put_same s r q b.issues m m' a.lost inv.core.sets.list inv'.core.sets.list (a.others q other) (holding_after_record s m q x x.body) (holding_after_record s m' q x x.body) (record_same x x.body rule'.in_pool refl)
          (stored_issued s m' q inv'.core) (safe_issued s m' q (holding_after_record s m' q x x.body) (record_safe s m' q x reception x.body rule' inv'.core refl).safe)

  -- ---- a release

  pub release_same : (x : Receipt) → In x m'.receipts → replica (with_holding s m q (holding_after_release m q x.version)) q ≡ replica (with_holding s m' q (holding_after_release m' q x.version)) q
  release_same x j = put_same s r q b.issues m m' a.lost inv.core.sets.list inv'.core.sets.list (a.others q other) (holding_after_release m q x.version) (holding_after_release m' q x.version) sets
      (stored_issued s m' q inv'.core) (safe_issued s m' q (holding_after_release m' q x.version) (release_safe s m' q x j inv'.core))
    where
      lower : made_with m.issues x.version ≡ made_with m'.issues x.version
      lower = λ i v. made_same r b.issues a.lost inv.core.sets.list inv'.core.sets.list x.version v (is_left r b.issues a.lost x.version (vouched_issued s m' inv' x j)) i

      sets : holding_after_release m q x.version ≡ holding_after_release m' q x.version
      sets = λ i. let z = (a.others q other i).holding in record { known = z.known; stored = z.stored; pushed_out = z.pushed_out without (only x.version with lower i) }

  -- ---- a draw

  first_held_same : (x : Record) → x.source ≢ r → is_first_held m.given x ≡ is_first_held m'.given x
  first_held_same x foreign = λ i. is_held x.body && not (any_held i)
    where
      there : IsTrue (list_any (λ y. same_stream y x && is_held y.body) m.given) → IsTrue (list_any (λ y. same_stream y x && is_held y.body) m'.given)
      there h = let f = any_elim (λ (y : Record). same_stream y x && is_held y.body) m.given h in
          any_intro (λ (y : Record). same_stream y x && is_held y.body) m'.given f.0
          (a.back f.0 f.1 (λ own. foreign (sym (eqb-true f.0.source x.source (and_parts (f.0.source == x.source) (f.0.stream == x.stream) (and_parts (same_stream f.0 x) (is_held f.0.body) f.2).0).0) ∙ own))) f.2

      back : IsTrue (list_any (λ y. same_stream y x && is_held y.body) m'.given) → IsTrue (list_any (λ y. same_stream y x && is_held y.body) m.given)
      back h = let f = any_elim (λ (y : Record). same_stream y x && is_held y.body) m'.given h in
          any_intro (λ (y : Record). same_stream y x && is_held y.body) m.given f.0 (a.there f.0 f.1) f.2

      any_held : list_any (λ y. same_stream y x && is_held y.body) m.given ≡ list_any (λ y. same_stream y x && is_held y.body) m'.given
      any_held = one_test (list_any (λ y. same_stream y x && is_held y.body) m.given) (list_any (λ y. same_stream y x && is_held y.body) m'.given) there back

-- what a draw makes of its source
abbrev pub shown : {C : Type 0} → ℕ → ℕ → Bool → Replica C → Replica C
shown q t true z = record z { held_at_draw = λ u. if (q == q) && (u == t) then z.holding.stored else z.held_at_draw u }
shown q t false z = z

pub shown_by : {M C : Type 0} (m : Moment M C) (q t : ℕ) (b : Bool) → record (replica m q) { held_at_draw = (if b then at_two m.held_at_draw q t (stored m q) else m.held_at_draw) q } ≡ shown q t b (replica m q)
shown_by m q t true = refl
shown_by m q t false = refl

pub give_same : {M C : Type 0} (s : Setting M C) (r : ℕ) (b m m' : Moment M C) (x : Record) → Agrees r b m m' → Inv s m → Inv s m' → x.source ≢ r → replica (after_giving m x) x.source ≡ replica (after_giving m' x) x.source
give_same s r b m m' x a inv inv' other = shown_by m x.source x.stream (is_first_held m.given x)
    ∙ ((λ i. shown x.source x.stream (first_held_same s r x.source b m m' a inv inv' other x other i) (a.others x.source other i))
    ∙ sym (shown_by m' x.source x.stream (is_first_held m'.given x)))

-- ---- a port closes

abbrev pub closed : {C : Type 0} → ℕ → ℕ → Replica C → Replica C
closed q u z = if is_closed (z.offered u) then z else record z { offered = λ v. if (q == q) && (v == u) then z.offered u ++ CloseMark ∷ [] else z.offered v }

pub closed_by : {M C : Type 0} (b : Bool) (m n : Moment M C) (q : ℕ) → replica (if b then m else n) q ≡ (if b then replica m q else replica n q)
closed_by true m n q = refl
closed_by false m n q = refl

-- ---- one change

pub change_same : {M C : Type 0} (s : Setting M C) (r k : ℕ) (b m m' : Moment M C) (c : Change M C) → Agrees r b m m' → Inv s m → Inv s m' → k ≢ r → IsBy k c → IsAllowed s m c → IsAllowed s m' c →
    replica (happens s m c) k ≡ replica (happens s m' c) k
change_same s r k b m m' (Issues q x) a inv inv' other by rule rule' =
    subst (λ (z : ℕ). replica (after_issue s m q x) z ≡ replica (after_issue s m' q x) z) by (issue_same s r q b m m' x a inv inv' (λ e. other (sym by ∙ e)) rule rule')
change_same s r k b m m' (Opens q t ask) a inv inv' other by rule rule' = λ i. let z = a.others k other i in record z {
  ask_of = λ u. if (k == q) && (u == t) then Some ask else z.ask_of u;
  known_at_answer = λ u. if (k == q) && (u == t) then (a.others q (λ e. other (sym by ∙ e)) i).holding.known else z.known_at_answer u;
}
change_same s r k b m m' (Gives q t x) a inv inv' other by rule rule' =
    subst (λ (z : ℕ). replica (after_giving m x) z ≡ replica (after_giving m' x) z) (rule.source ∙ by) (give_same s r b m m' x a inv inv' (λ e. other (sym by ∙ (sym rule.source ∙ e))))
change_same s r k b m m' (Takes q x reception) a inv inv' other by rule rule' =
    subst (λ (z : ℕ). replica (after_taking s m q x) z ≡ replica (after_taking s m' q x) z) by (take_same s r q b m m' a inv inv' (λ e. other (sym by ∙ e)) x reception rule')
change_same s r k b m m' (Retires q) a inv inv' other by rule rule' = λ i. record (a.others k other i) { is_retired = if k == q then true else (a.others k other i).is_retired }
change_same s r k b m m' (Offers q u e) a inv inv' other by rule rule' = λ i. let z = a.others k other i in
    record z { offered = λ v. if (k == q) && (v == u) then (a.others q (λ p. other (sym by ∙ p)) i).offered u ++ Moved e ∷ [] else z.offered v }
change_same {M} {C} s r k b m m' (Closes q u) a inv inv' other by rule rule' = subst (λ (z : ℕ). replica (happens s m (Closes q u)) z ≡ replica (happens s m' (Closes q u)) z) by
    (closed_by (is_closed (m.offered q u)) m (with_mark m q u CloseMark) q ∙ ((λ i. closed q u (a.others q (λ p. other (sym by ∙ p)) i)) ∙ sym (closed_by (is_closed (m'.offered q u)) m' (with_mark m' q u CloseMark) q)))
change_same s r k b m m' (TakesEntry q u e) a inv inv' other by rule rule' = λ i. let z = a.others k other i in
    record z { taken = λ v. if (k == q) && (v == u) then (a.others q (λ p. other (sym by ∙ p)) i).taken u ++ e ∷ [] else z.taken v }
change_same {M} {C} s r k b m m' (Releases q x) a inv inv' other by rule rule' =
    subst (λ (z : ℕ). replica (with_holding s m q (holding_after_release m q x.version)) z ≡ replica (with_holding s m' q (holding_after_release m' q x.version)) z) by
    (release_same s r q b m m' a inv inv' (λ e. other (sym by ∙ e)) x rule'.in_pool)
change_same s r k b m m' Misfits a inv inv' other by rule rule' = absurd rule
change_same s r k b m m' _ a inv inv' other by rule rule' = a.others k other
