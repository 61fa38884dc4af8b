-- Create and Edit: the below of the new revision is the closure, and the rules allow the answer.
use Rattle.std.proofs.Common.{◌≡◌, refl, sym, ap, subst, ◌∙◌, ℕ, ◌≤◌, ◌==◌, nat_le, nat_lt, ◌+◌, ◌<◌, Bool, true, false, not, ◌||◌, ◌&&◌, List, [], ◌∷◌, ◌++◌, ◌⊎◌, inl, inr, IsTrue, IsFalse, arith, eqb-true, Option, Some, None}
use Rattle.std.specs.List.{cons_option}
use Rattle.mr_world.proofs.Names.Lists.{and_parts, filter_map, is_none, leb-true, list_any, ltb-true, option_map, option_map_or}
use Rattle.mr_world.proofs.Names.Replica.{Event, Issues, MixedItems, NotHeld, OwnHeadLeft, Refusal, State, are_all_of, below_for, edit_refusal, held}
use Rattle.mr_world.proofs.Names.Replica.{item_of_held, item_refusal, log_full, map_none, next_version, not_held, not_refused, own_left, refused_if}
use Rattle.mr_world.proofs.Names.Replica.{retired, ◌orelse◌}
use Rattle.mr_world.proofs.Names.Model.{Holds, In, IsIssue, Issue, after_issue, is, is_issued, issue_count, item_of, last_own, made_with, pushed_out}
use Rattle.mr_world.proofs.Names.Model.{replacements, stored}
use Rattle.mr_world.proofs.Names.Laws.{Inv, IsIssuable, Reaches, any_elim, any_intro, append_left, append_right, chain, counter_issued, false_from}
use Rattle.mr_world.proofs.Names.Laws.{in_append, is_from, is_path, is_refl, item_here, item_is_issued, last_own_issued, last_own_item}
use Rattle.mr_world.proofs.Names.Laws.{later_from_count, made_by, made_from, made_issued, made_item, one_test, or_left, or_parts, or_right}
use Rattle.mr_world.proofs.Names.Mails.{AuthorColumn, ClauseParts, Form, IsSame, Mail, Name, Rev, by_base, last_of, vector_has}
use Rattle.mr_world.proofs.Names.World.{Agrees, HoldingsAgree, IsBelow, IsTrueRevision, MailMoment, World, setting_of, version_alone}
use Rattle.mr_concise.specs.Source.{in_some}
use Rattle.mr_madewith.specs.MadeWith.{own_before}
use Rattle.mr_model.proofs.Safe.{issuable}
use Rattle.mr_replica.specs.Create.{create_refusal}
use Rattle.mr_replica.specs.declared.event.Event.TheVariants.{Create, Edit}
use Rattle.mr_replica.specs.declared.refusal.Refusal.TheVariants.{Retired}
use Rattle.mr_world.proofs.Moving.ByParts.{with_replica}
use Rattle.mr_world.proofs.Agreement.Issuing.{issue_agrees}
use Rattle.mr_world.proofs.Agreement.OneMore.{issued_more, item_more}
use Rattle.mr_world.proofs.Groundwork.Orders.{in_held}
use Rattle.mr_model.proofs.CheckSound.{all_elim}
use Rattle.mr_world.proofs.Groundwork.Tools.{find_in, find_none, orelse_none, to_true}

not_none : {A : Type 0} (o : Option A) → IsFalse (is_none o) → (x : A) × (o ≡ Some x)
not_none o h = grind arith

cons_in : {B : Type 0} (o : Option B) (ys : List B) (y : B) → In y (cons_option o ys) → (o ≡ Some y) ⊎ In y ys
cons_in o ys y i = grind arith

in_cons : {B : Type 0} (o : Option B) (ys : List B) (y : B) → (o ≡ Some y) ⊎ In y ys → In y (cons_option o ys)
in_cons o ys y h = grind arith

-- what is among the found
filter_map_in : {A B : Type 0} (f : A → Option B) (xs : List A) (y : B) → In y (filter_map f xs) → (x : A) × In x xs × (f x ≡ Some y)
filter_map_in f [] y i = elim i [ ]
filter_map_in f (x ∷ xs) y i = elim (cons_in (f x) (filter_map f xs) y i) [ inl e ↦ (x, inl refl, e) | inr j ↦ (let r = filter_map_in f xs y j in (r.0, inr r.1, r.2)) ]

in_filter_map : {A B : Type 0} (f : A → Option B) (xs : List A) (x : A) (y : B) → In x xs → f x ≡ Some y → In y (filter_map f xs)
in_filter_map f [] x y i e = elim i [ ]
in_filter_map f (z ∷ xs) x y i e = in_cons (f z) (filter_map f xs) y (elim i [ inl p ↦ inl (ap f p ∙ e) | inr j ↦ inr (in_filter_map f xs x y j e) ])

module _ {K : Type 0} (form : Form K) (filters : ℕ → List ClauseParts) (w : World K) (m : MailMoment) (inv : Inv (setting_of filters) m) (a : Agrees form filters w m) (r : ℕ) where
  hold : HoldingsAgree form m.issues filters r (m.holding r) (m.feed r) (m.is_retired r) (w.replicas r)
  hold = a.holdings r

  abbrev v : Name
  v = next_version (w.replicas r)

  counter_is : v.counter ≡ issue_count m.issues r + 1
  counter_is = ap (λ (n : ℕ). n + 1) (sym hold.count)

  not_issued : ¬ IsTrue (is_issued m.issues v)
  not_issued h = let lt : v.counter < v.counter = later_from_count m.issues inv.core.sets.list r v.counter counter_is v h hold.id in omega arith

  own_last : (item : Name) → last_own m.issues v.author item ≡ version_alone (last_of (w.replicas r).trail item)
  own_last item = subst (λ (q : ℕ). last_own m.issues q item ≡ version_alone (last_of (w.replicas r).trail item)) (sym hold.id) (hold.last item)

  -- a held revision
  held_is : (b : Name) (x : Rev) → held (w.replicas r) b ≡ Some x → (x.version ≡ b) × IsTrueRevision m.issues x × Holds m r b
  held_is b x e = let f = find_in (λ (y : Rev). is y.version b) ((w.replicas r).heads ++ (w.replicas r).push_outs) x e in let p = is_path x.version b f.1 in
      elim (in_append (w.replicas r).heads (w.replicas r).push_outs x f.0) [
        | inl i ↦ (p, hold.heads.each x i, inl (subst (λ (z : Name). IsTrue (stored m r z)) p (sym (hold.heads.same x.version) ∙ in_held (w.replicas r).heads x i)))
        | inr i ↦ (p, hold.push_outs.each x i, inr (subst (λ (z : Name). IsTrue (pushed_out m r z)) p (sym (hold.push_outs.same x.version) ∙ in_held (w.replicas r).push_outs x i)))
      ]

  item_is : (b : Name) (x : Rev) → held (w.replicas r) b ≡ Some x → item_of_held (w.replicas r) b ≡ item_of m.issues b
  item_is b x e = let h = held_is b x e in ap (λ (o : Option Rev). option_map_or (λ (y : Rev). y.item) o b) e ∙ (sym h.1.below.of_item ∙ ap (item_of m.issues) h.0)

  -- what the replica issues next
  abbrev pub issue_of : (item : Name) → (bases : List Name) → Mail → Issue Mail
  issue_of item bases message = record { version = v; item = item; bases = bases; message = message }

  -- the change of an issue that the rules allow
  issued_agrees : (item : Name) (bases : List Name) (message : Mail) (event : Event) (u : Name) (new : State K) → IsIssue m r (issue_of item bases message) →
      ((columns : List AuthorColumn) → IsSame (vector_has columns) (below_for (w.replicas r) item bases) → IsBelow (issue_of item bases message ∷ m.issues) item v columns) →
      Issues form (w.replicas r) (record { item = item; bases = bases; message = message }) u event new →
      Agrees form filters (with_replica w r new) (after_issue (setting_of filters) m r (issue_of item bases message))
  issued_agrees item bases message event u new rule isb step =
      subst (λ (z : State K). Agrees form filters (with_replica w r z) (after_issue (setting_of filters) m r (issue_of item bases message))) (sym step.4)
      (issue_agrees form filters w m inv a r (issue_of item bases message) rule.author (issuable (setting_of filters) m r (issue_of item bases message) rule inv.core) step.1 (isb step.1 step.2.same) new.knowledge event step.3)

  -- ---- Create

  module _ (message : Mail) where
    abbrev pub created : Issue Mail
    created = issue_of v [] message

    create_is : IsFalse (w.replicas r).is_retired → IsIssue m r created
    create_is alive = record { alive = hold.is_retired ∙ alive; author = hold.id; counter = counter_is; held = λ b i. elim i [ ]; one_item = λ b i. elim i [ ]; own_item = λ e. refl }

    none_below : (u : Name) → ¬ IsTrue (made_with (created ∷ m.issues) v u)
    none_below u t = grind (arith, made_by, is_refl, last_own_item, not_issued, is_issued, item_is_issued, last_own_issued)

    created_below : (columns : List AuthorColumn) → IsSame (vector_has columns) (below_for (w.replicas r) v []) → IsBelow (created ∷ m.issues) v v columns
    created_below columns same = grind (arith, or_left, is, is_issued, is_refl, item_here, false_from, made_with, none_below)

    pub create_agrees : (u : Name) (new : State K) → create_refusal (w.replicas r) ≡ None → Issues form (w.replicas r) (record { item = v; bases = []; message = message }) u (Create message) new →
        IsIssue m r created × Agrees form filters (with_replica w r new) (after_issue (setting_of filters) m r created)
    create_agrees u new none step = let rule = create_is (not_refused (w.replicas r).is_retired Retired (orelse_none (retired (w.replicas r)) (log_full (w.replicas r)) none).0) in
        (rule, issued_agrees v [] message (Create message) u new rule created_below step)

  -- ---- Edit

  module _ (b : Name) (bs : List Name) (message : Mail) (none : edit_refusal (w.replicas r) (b ∷ bs) ≡ None) where
    abbrev bases : List Name
    bases = b ∷ bs

    abbrev rest_refusal : Option Refusal
    rest_refusal = option_map OwnHeadLeft (own_left (w.replicas r) (item_of_held (w.replicas r) b) bases) orelse log_full (w.replicas r)

    refusals : (retired (w.replicas r) ≡ None) × (not_held (w.replicas r) bases ≡ None) × IsTrue (are_all_of (w.replicas r) (item_of_held (w.replicas r) b) bases)
    refusals = grind (arith, orelse_none, retired, item_refusal, option_map, not_held, refused_if, are_all_of, item_of_held, map_none, to_true, not_refused)

    -- each base is held, and is of the first one's item
    base_is : (c : Name) → In c bases → (x : Rev) × (held (w.replicas r) c ≡ Some x)
    base_is c i = not_none (held (w.replicas r) c) (find_none (λ c. is_none (held (w.replicas r) c)) bases refusals.1 c i)

    abbrev item : Name
    item = item_of m.issues b

    item_same : item_of_held (w.replicas r) b ≡ item
    item_same = let x = base_is b (inl refl) in item_is b x.0 x.1

    one_item : (c : Name) → In c bases → item_of m.issues c ≡ item
    one_item c i = grind (arith, base_is, item_is, is_path, item_of_held, all_elim, is, refusals, item_same)

    abbrev pub edited : Issue Mail
    edited = issue_of item bases message

    edit_is : IsIssue m r edited
    edit_is = record {
      alive = hold.is_retired ∙ not_refused (w.replicas r).is_retired Retired refusals.0;
      author = hold.id;
      counter = counter_is;
      held = λ c i. (let x = base_is c i in (held_is c x.0 x.1).2);
      one_item = one_item;
      own_item = λ (e : (b ∷ bs) ≡ []). absurd (cc);
    }

    editable : IsIssuable m.issues edited
    editable = issuable (setting_of filters) m r edited edit_is inv.core

    abbrev of_bases : Name → Bool
    of_bases u = list_any (λ base. by_base base u) (filter_map (held (w.replicas r)) bases)

    abbrev of_trail : Name → Bool
    of_trail u = in_some by_base (last_of (w.replicas r).trail item) u

    abbrev of_own : Name → Bool
    of_own u = own_before v u

    -- what is in the below was issued, and if it is of the item, the new version supersedes it
    record Found (u : Name) : Type 0 where
      was_issued : IsTrue (is_issued m.issues u)
      closed : item_of m.issues u ≡ item → IsTrue (made_with (edited ∷ m.issues) v u)

    -- by a version that is replaced
    by_replaced : (c u : Name) → In c (replacements m.issues edited) → (below : List AuthorColumn) → IsBelow m.issues item c below → IsTrue (is c u || vector_has below u) → Found u
    by_replaced c u i below isb h = elim (or_parts (is c u) (vector_has below u) h) [
      | inl t ↦ (let p = is_path c u t in record {
        was_issued = subst (λ (z : Name). IsTrue (is_issued m.issues z)) p isb.is_one;
        closed = λ e. made_from edited m.issues v u c (is_refl v) i (inl p);
      })
      | inr t ↦ record {
        was_issued = isb.issued u t;
        closed = λ e. made_from edited m.issues v u c (is_refl v) i (inr (sym (isb.same u (isb.issued u t) e) ∙ t));
      }
    ]

    -- the below of a held base
    base_below : (c : Name) → In c bases → (x : Rev) → held (w.replicas r) c ≡ Some x → IsBelow m.issues item x.version x.below
    base_below c i x e = let d = held_is c x e in subst (λ (z : Name). IsBelow m.issues z x.version x.below) (sym d.1.below.of_item ∙ (ap (item_of m.issues) d.0 ∙ one_item c i)) d.1.below

    from_bases : (u : Name) → IsTrue (of_bases u) → Found u
    from_bases u h =
        let x = any_elim (λ base. by_base base u) (filter_map (held (w.replicas r)) bases) h in
        let c = filter_map_in (held (w.replicas r)) bases x.0 x.1 in
        let d = held_is c.0 x.0 c.2 in
        by_replaced x.0.version u (append_left bases (last_own m.issues v.author item) x.0.version (subst (λ (z : Name). In z bases) (sym d.0) c.1)) x.0.below (base_below c.0 c.1 x.0 c.2) x.2

    from_trail : (u : Name) → IsTrue (of_trail u) → Found u
    from_trail u h = go (last_of (w.replicas r).trail item) refl h
      where
        go : (o : Option Rev) → last_of (w.replicas r).trail item ≡ o → IsTrue (in_some by_base o u) → Found u
        go None e h = absurd (cc)
        go (Some l) e h = by_replaced l.version u (append_right bases (last_own m.issues v.author item) l.version (subst (In l.version) (sym (own_last item ∙ ap version_alone e)) (inl refl))) l.below (hold.last_below item l e) h

    from_own : (u : Name) → IsTrue (of_own u) → Found u
    from_own u h =
        let one = and_parts (u.author == v.author) (nat_le 1 u.counter && nat_lt u.counter v.counter) h in
        let two = and_parts (nat_le 1 u.counter) (nat_lt u.counter v.counter) one.1 in
        let author : u.author ≡ v.author = eqb-true u.author v.author one.0 in
        let low : 1 ≤ u.counter = leb-true 1 u.counter two.0 in
        let high : u.counter < v.counter = ltb-true u.counter v.counter two.1 in
        let count : issue_count m.issues u.author ≡ (w.replicas r).issued = ap (issue_count m.issues) (author ∙ hold.id) ∙ hold.count in
        let iss : IsTrue (is_issued m.issues u) = counter_issued m.issues inv.core.sets.list u low (omega arith) in record {
          was_issued = iss;
          closed = λ e. chain (edited ∷ m.issues) (editable, inv.core.sets.list) u v (issued_more edited m.issues editable inv.core.sets.list u iss) (or_left (is v v) (is_issued m.issues v) (is_refl v)) author
              (item_more edited m.issues editable inv.core.sets.list u iss ∙ (e ∙ sym (item_here edited m.issues v (is_refl v)))) high;
        }

    found : (u : Name) → IsTrue (below_for (w.replicas r) item bases u) → Found u
    found u h = elim (or_parts (of_bases u || of_trail u) (of_own u) h) [
      | inl k ↦ elim (or_parts (of_bases u) (of_trail u) k) [ inl l ↦ from_bases u l | inr l ↦ from_trail u l ]
      | inr k ↦ from_own u k
    ]

    -- and what the new version supersedes is in it
    reached : (c u : Name) (below : List AuthorColumn) → IsBelow m.issues item c below → Reaches m.issues c u → IsTrue (is c u || vector_has below u)
    reached c u below isb h = grind (arith, or_left, is, vector_has, is_from, or_right, made_issued, made_item)

    back : (u : Name) → IsTrue (made_with (edited ∷ m.issues) v u) → IsTrue (below_for (w.replicas r) item bases u)
    back u t =
        let c = made_by edited m.issues v u (is_refl v) t in
        or_left (of_bases u || of_trail u) (of_own u) (elim (in_append bases (last_own m.issues v.author item) c.0 c.1) [
          | inl i ↦ or_left (of_bases u) (of_trail u) (base c.0 i c.2)
          | inr i ↦ or_right (of_bases u) (of_trail u) (last c.0 (subst (In c.0) (own_last item) i) c.2)
        ])
      where
        base : (c : Name) → In c bases → Reaches m.issues c u → IsTrue (of_bases u)
        base c i h = let x = base_is c i in let d = held_is c x.0 x.1 in
            any_intro (λ base. by_base base u) (filter_map (held (w.replicas r)) bases) x.0 (in_filter_map (held (w.replicas r)) bases c x.0 i x.1)
            (reached x.0.version u x.0.below (base_below c i x.0 x.1) (subst (λ (z : Name). Reaches m.issues z u) (sym d.0) h))

        last : (c : Name) → In c (version_alone (last_of (w.replicas r).trail item)) → Reaches m.issues c u → IsTrue (of_trail u)
        last c i h = go (last_of (w.replicas r).trail item) refl i
          where
            go : (o : Option Rev) → last_of (w.replicas r).trail item ≡ o → In c (version_alone o) → IsTrue (in_some by_base o u)
            go None e i = elim i [ ]
            go (Some l) e i = elim i [ inr n ↦ absurd n | inl p ↦ reached l.version u l.below (hold.last_below item l e) (subst (λ (z : Name). Reaches m.issues z u) (sym p) h) ]

    edited_below : (columns : List AuthorColumn) → IsSame (vector_has columns) (below_for (w.replicas r) item bases) → IsBelow (edited ∷ m.issues) item v columns
    edited_below columns same = record {
      is_one = or_left (is v v) (is_issued m.issues v) (is_refl v);
      of_item = item_here edited m.issues v (is_refl v);
      issued = λ u h. issued_more edited m.issues editable inv.core.sets.list u (found u (sym (same u) ∙ h)).was_issued;
      same = λ u h i. same u ∙ one_test (below_for (w.replicas r) item bases u) (made_with (edited ∷ m.issues) v u)
          (λ k. let f = found u k in f.closed (sym (item_more edited m.issues editable inv.core.sets.list u f.was_issued) ∙ i)) (back u);
    }

    pub edit_agrees : (u : Name) (new : State K) → Issues form (w.replicas r) (record { item = item_of_held (w.replicas r) b; bases = bases; message = message }) u (Edit bases message) new →
        IsIssue m r edited × Agrees form filters (with_replica w r new) (after_issue (setting_of filters) m r edited)
    edit_agrees u new step = (
      edit_is,
      issued_agrees item bases message (Edit bases message) u new edit_is edited_below
          (subst (λ (i : Name). Issues form (w.replicas r) (record { item = i; bases = bases; message = message }) u (Edit bases message) new) item_same step),
    )
