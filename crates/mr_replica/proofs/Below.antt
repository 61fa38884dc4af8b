-- what an admitted edit supersedes: all of it was issued before, and the item is among it
use Rattle.std.proofs.Common.{◌≡◌, ◌≤◌, ◌+◌, ℕ, Bool, true, false, not, ◌&&◌, ◌||◌, ◌==◌, nat_le, nat_lt, refl, ap, ◌∙◌, arith, List, [], ◌∷◌, ◌++◌, Option, Some, None, inl, inr}
use Rattle.mr_replica.proofs.Names.{AreColumnsOf, AreNoLater, AuthorColumn, Form, Holdings, IsKept, IsNext, IsNoLater, IsRevision, IsSame, IsSound, Mail}
use Rattle.mr_replica.proofs.Names.{MixedItems, Name, NoBase, NotHeld, OwnHeadLeft, Rev, State, and_parts, are_all_of, below_for, by_base, by_bases, by_held}
use Rattle.mr_replica.proofs.Names.{cases_Bool, cons_option, edit_refusal, edited_item, filled_below, filter_map, in_any, is_none, item_of_held, item_refusal}
use Rattle.mr_replica.proofs.Names.{last_of, list_any, log_full, ltb-true, name_eq, name_eq_self, next_version, not_held, option_map, option_map_or, or_cases}
use Rattle.mr_replica.proofs.Names.{or_left, or_right, own_before, own_left, refused_if, revision_of, revisions_of, same_names, unnamed, vector_has, ◌orelse◌}
use Rattle.mr_concise.specs.Source.{in_some}
use Rattle.mr_replica.specs.State.{held}
use Rattle.mr_replica.specs.Admission.{retired}
use Rattle.mr_replica.proofs.Choice.{first_none, later_none, map_none, found_has}
use Rattle.mr_replica.proofs.Keeping.{held_kept}

-- a counter below the next was issued
lower : (a b c n : ℕ) → ((a == b) && (nat_le 1 c && nat_lt c (n + 1))) ≡ true → c ≤ n
lower a b c n h = grind (arith, and_parts, nat_le, ltb-true)

-- ---- the sources of an edit's made-with set

found_base : (v : Name) (o : Option Rev) (has : Bool) (rest : List Rev) → has ≡ by_bases rest v → (in_some by_base o v || has) ≡ by_bases (cons_option o rest) v
found_base v o has rest is = grind arith

found_bases : (find : Name → Option Rev) (bases : List Name) (v : Name) → list_any (λ b. in_some by_base (find b) v) bases ≡ by_bases (filter_map find bases) v
found_bases find [] v = refl
found_bases find (b ∷ bs) v = found_base v (find b) (list_any (λ b. in_some by_base (find b) v) bs) (filter_map find bs) (found_bases find bs v)

-- an edit of no base is not admitted
needs_bases : {K : Type 0} (s : State K) → edit_refusal s [] ≡ None → Some NoBase ≡ None
needs_bases s admitted = later_none (retired s) (Some NoBase) admitted

module _ {K : Type 0} (s : State K) where
  -- the held bases, the last version and the own column are what an admitted edit supersedes
  pub below_for-sources : (h : Holdings) (item : Name) (bases : List Name) (last : Option Rev) (new : Name) → h.heads ≡ s.heads → h.push_outs ≡ s.push_outs → last ≡ last_of s.trail item → new ≡ next_version s
      → edit_refusal s bases ≡ None → filled_below (in_any (by_held h) bases) last new ≡ below_for s item bases
  below_for-sources h item [] last new heads push_outs last_is new_is admitted = cc (needs_bases s admitted)
  below_for-sources h item (b ∷ bs) last new heads push_outs last_is new_is admitted =
      let lists : h.heads ++ h.push_outs ≡ s.heads ++ s.push_outs = ap (λ (rs : List Rev). rs ++ h.push_outs) heads ∙ ap (λ (rs : List Rev). s.heads ++ rs) push_outs in
      let of_bases : (v : Name) → in_any (by_held h) (b ∷ bs) v ≡ by_bases (revisions_of s (b ∷ bs)) v =
      λ v. found_bases (λ u. revision_of (h.heads ++ h.push_outs) u) (b ∷ bs) v ∙ ap (λ (rs : List Rev). by_bases (filter_map (λ u. revision_of rs u) (b ∷ bs)) v) lists in
      let same : (v : Name) → filled_below (in_any (by_held h) (b ∷ bs)) last new v ≡ below_for s item (b ∷ bs) v =
      λ v. ap (λ c. (c || in_some by_base last v) || own_before new v) (of_bases v)
      ∙ ap (λ (o : Option Rev). (by_bases (revisions_of s (b ∷ bs)) v || in_some by_base o v) || own_before new v) last_is
      ∙ ap (λ (n : Name). (by_bases (revisions_of s (b ∷ bs)) v || in_some by_base (last_of s.trail item) v) || own_before n v) new_is in
      λ i v. same v i

module _ {K : Type 0} (form : Form K) (s : State K) (sound : IsSound form s) where
  -- a version with all that it supersedes
  no_later_up_to : (r : Rev) → AreNoLater s.id s.issued r.version r.below → (v : Name) → by_base r v ≡ true → IsNoLater s.id s.issued v
  no_later_up_to r h v in' = grind (arith, or_cases, same_names)

  -- a base that is held, or a later one
  no_later_by_held : (base v : Name) (rest : List Rev) (o : Option Rev) → held s base ≡ o → (by_bases rest v ≡ true → IsNoLater s.id s.issued v)
      → by_bases (cons_option o rest) v ≡ true → IsNoLater s.id s.issued v
  no_later_by_held base v rest None is later in' = later in'
  no_later_by_held base v rest (Some r) is later in' =
      elim (or_cases (by_base r v) (by_bases rest v) in') [
        | inl here ↦ no_later_up_to r (held_kept form s sound base r is).0.no_later v here
        | inr there ↦ later there
      ]

  no_later_by_bases : (v : Name) (bases : List Name) → by_bases (revisions_of s bases) v ≡ true → IsNoLater s.id s.issued v
  no_later_by_bases v [] in' = cc in'
  no_later_by_bases v (b ∷ bs) in' = no_later_by_held b v (revisions_of s bs) (held s b) refl (no_later_by_bases v bs) in'

  -- the last own version of the item
  no_later_by_last : (item v : Name) (o : Option Rev) → last_of s.trail item ≡ o → in_some by_base o v ≡ true → IsNoLater s.id s.issued v
  no_later_by_last item v None is in' = cc in'
  no_later_by_last item v (Some l) is in' =
      no_later_up_to l (found_has (IsKept (form.known s.knowledge) s.id s.issued) (λ l. name_eq l.item item) s.trail l sound.trail is).0.no_later v in'

  -- all that a version with these bases supersedes was issued before, where it is of the own ones
  below_no_later : (item : Name) (bases : List Name) (v : Name) → below_for s item bases v ≡ true → IsNoLater s.id s.issued v
  below_no_later item [] v in' = cc in'
  below_no_later item (b ∷ bs) v in' =
      let of_bases = by_bases (revisions_of s (b ∷ bs)) v in
      let of_last = in_some by_base (last_of s.trail item) v in
      elim (or_cases (of_bases || of_last) (own_before (next_version s) v) in') [
        | inl by ↦ elim (or_cases of_bases of_last by) [
          | inl base ↦ no_later_by_bases v (b ∷ bs) base
          | inr last ↦ no_later_by_last item v (last_of s.trail item) refl last
        ]
        | inr own ↦ λ _. lower v.author s.id v.counter s.issued own
      ]

  -- each revision supersedes its item's first version, or is it
  has_first : (r : Rev) → IsRevision r.item r.version r.below → by_base r r.item ≡ true
  has_first r is = grind (arith, cases_Bool, or_left, or_right, name_eq_self)

  has_item_by : (b : Name) (rest : List Rev) (last : Option Rev) (new : Name) (o : Option Rev) → held s b ≡ o → is_none o ≡ false
      → filled_below (by_bases (cons_option o rest)) last new (option_map_or (λ r. r.item) o b) ≡ true
  has_item_by b rest last new None is held_one = cc held_one
  has_item_by b rest last new (Some r) is held_one = rw (has_first r (held_kept form s sound b r is).0.is) refl

  -- an admitted edit supersedes the item's first version
  below_has_item : (bases : List Name) → edit_refusal s bases ≡ None → below_for s (edited_item s bases) bases (edited_item s bases) ≡ true
  below_has_item [] admitted = cc (needs_bases s admitted)
  below_has_item (b ∷ bs) admitted =
      let bases = b ∷ bs in
      let later = option_map OwnHeadLeft (own_left s (item_of_held s b) bases) orelse log_full s in
      let mixed = refused_if (not (are_all_of s (item_of_held s b) bases)) MixedItems in
      let one_item : item_refusal s bases ≡ None = first_none (item_refusal s bases) later (later_none (retired s) (item_refusal s bases orelse later) admitted) in
      let all_held : not_held s bases ≡ None = map_none NotHeld (not_held s bases) (first_none (option_map NotHeld (not_held s bases)) mixed one_item) in
      has_item_by b (revisions_of s bs) (last_of s.trail (item_of_held s b)) (next_version s) (held s b) refl (unnamed (is_none (held s b)) b (not_held s bs) all_held)

  -- the next version is not below itself, since its counter was not issued yet
  lacks_next : (below : List AuthorColumn) → ((v : Name) → vector_has below v ≡ true → IsNoLater s.id s.issued v) → vector_has below (next_version s) ≡ false
  lacks_next below no_later =
      elim (cases_Bool (vector_has below (next_version s))) [
        | inl in' ↦ absurd (omega (arith, no_later (next_version s) in' refl))
        | inr out ↦ out
      ]

  -- so the next version of the item, with what an admitted edit supersedes, is a revision
  pub edited_next : (bases : List Name) (message : Mail) (below : List AuthorColumn) → edit_refusal s bases ≡ None → AreColumnsOf (below_for s (edited_item s bases) bases) below
      → IsNext s (record { item = edited_item s bases; version = next_version s; below = below; message = message })
  edited_next bases message below admitted columns = grind (arith, below_no_later, lacks_next, below_has_item)

-- the columns of no version
pub no_columns : (below : List AuthorColumn) → below ≡ [] → IsSame (vector_has below) (λ _. false) → AreColumnsOf (λ _. false) below
no_columns below is none = record { vector = rw is tt; same = none }
