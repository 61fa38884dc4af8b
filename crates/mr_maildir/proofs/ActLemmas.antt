-- where a mail is deleted, and where it is new
use Rattle.std.proofs.Common.{◌≡◌, ◌≢◌, ◌↔◌, Bool, true, false, Option, Some, None, IsSome, Result, Ok, Err, IfOk, refl, sym, ap, subst}
use Rattle.mr_maildir.proofs.Names.{ViewParts, [], false≢true, if◌then◌else◌, is_nowhere, is_some, merged_view, over, view_eq, ◌∷◌}
use Rattle.mr_maildir.specs.Act.{standing, is_left, following, settled, act_on_both, act_on_seen, act_on_unseen, act_of_standing, act_of}
use Rattle.mr_maildir.specs.declared.act.Act.{Act}
use Rattle.mr_maildir.specs.declared.act.Act.TheVariants.{Agree, Create, Edit, Delete, Follow, Remove}
use Rattle.mr_maildir.proofs.ViewLemmas.{view_eq-Decides}

either : (b : Bool) (P : Act → Type 0) (x y : Act) → P x → P y → P (if b then x else y)
either true P x y one other = one
either false P x y one other = other

-- where a file is seen and the mail is held, the act is none of two
never_on_both : (P : Act → Type 0) → P Agree → P Remove → P Follow → ((v : ViewParts) → P (Edit v)) → (left : Option ViewParts) (seen held : ViewParts) → P (act_on_both left seen held)
never_on_both P agree remove follow edit left seen held =
    let together = merged_view (over left) (seen ∷ held ∷ []) in
    let followed : P (following held) = either (is_nowhere held) P Remove Follow remove follow in
    let settles : P (settled together held) = either (view_eq together held) P (following held) (Edit together) followed (edit together) in
    let told : P (if is_left left held then Edit seen else settled together held) = either (is_left left held) P (Edit seen) (settled together held) (edit seen) settles in
    let left_so : P (if is_left left seen then following held else (if is_left left held then Edit seen else settled together held)) =
    either (is_left left seen) P (following held) (if is_left left held then Edit seen else settled together held) followed told in
    either (view_eq seen held) P Agree (if is_left left seen then following held else (if is_left left held then Edit seen else settled together held)) agree left_so

undeleted_on_both : (left : Option ViewParts) (seen held : ViewParts) → act_on_both left seen held ≢ Delete
undeleted_on_both left seen held =
    never_on_both (λ act. act ≢ Delete) (λ e. cc) (λ e. cc) (λ e. cc) (λ v e. cc) left seen held

uncreated_on_both : (left : Option ViewParts) (seen held : ViewParts) → act_on_both left seen held ≢ Create
uncreated_on_both left seen held =
    never_on_both (λ act. act ≢ Create) (λ e. cc) (λ e. cc) (λ e. cc) (λ v e. cc) left seen held

undeleted_on_seen : (left : Option ViewParts) (seen : ViewParts) (held : Option ViewParts) → act_on_seen left seen held ≢ Delete
undeleted_on_seen left seen None = either (is_some (standing left)) (λ act. act ≢ Delete) Remove Create (λ e. cc) (λ e. cc)
undeleted_on_seen left seen (Some held) = undeleted_on_both left seen held

-- what is held and stands is deleted exactly where it was left so
deletes_held : (left : Option ViewParts) (held : ViewParts) → ((if is_left left held then Delete else Follow) ≡ Delete) ↔ (Some held ≡ left)
deletes_held None held = (λ e. cc, λ e. cc)
deletes_held (Some left) held =
    let decides = view_eq-Decides left held in (
      λ e. elim (view_eq left held) as (λ b. view_eq left held ≡ b → (if b then Delete else Follow) ≡ Delete → Some held ≡ Some left) [
        | true ↦ λ same _. ap Some (sym (decides.0 same))
        | false ↦ λ _ wrong. cc
      ] refl e,
      λ e. let same : left ≡ held = cc in rw (decides.1 same) refl,
    )

deletes_unseen : (left held : Option ViewParts) → (act_on_unseen left (standing held) ≡ Delete) ↔ ((held ≡ left) × IsSome (standing held))
deletes_unseen left None = (λ e. cc, λ h. absurd (false≢true h.1))
deletes_unseen left (Some held) =
    elim (is_nowhere held) as (λ b. (act_on_unseen left (if b then None else Some held) ≡ Delete) ↔ ((Some held ≡ left) × IsSome (if b then None else Some held))) [
      | true ↦ (λ e. cc, λ h. absurd (false≢true h.1))
      | false ↦ (λ e. ((deletes_held left held).0 e, refl), λ h. (deletes_held left held).1 h.0)
    ]

pub deletes_exactly : (left seen held : Option ViewParts) → (act_of left seen held ≡ Delete) ↔ ((standing seen ≡ None) × (held ≡ left) × IsSome (standing held))
deletes_exactly left seen held = go (standing seen)
  where
    go : (s : Option ViewParts) → (act_of_standing left s held ≡ Delete) ↔ ((s ≡ None) × (held ≡ left) × IsSome (standing held))
    go None = (λ e. (refl, ((deletes_unseen left held).0 e).0, ((deletes_unseen left held).0 e).1), λ h. (deletes_unseen left held).1 (h.1, h.2))
    go (Some s) = (λ e. absurd (undeleted_on_seen left s held e), λ h. let wrong : Some s ≡ None = h.0 in cc)

uncreated_unseen : (left held : Option ViewParts) → act_on_unseen left held ≢ Create
uncreated_unseen left None = λ e. cc
uncreated_unseen left (Some held) = either (is_left left held) (λ act. act ≢ Create) Delete Follow (λ e. cc) (λ e. cc)

creates_unheld : (left : Option ViewParts) → ((if is_some left then Remove else Create) ≡ Create) ↔ (left ≡ None)
creates_unheld None = (λ _. refl, λ _. refl)
creates_unheld (Some left) = (λ e. cc, λ e. cc)

pub creates_exactly : (left seen held : Option ViewParts) → (act_of left seen held ≡ Create) ↔ (IsSome (standing seen) × (standing left ≡ None) × (held ≡ None))
creates_exactly left seen held = go (standing seen) held
  where
    go : (s h : Option ViewParts) → (act_of_standing left s h ≡ Create) ↔ (IsSome s × (standing left ≡ None) × (h ≡ None))
    go None h = (λ e. absurd (uncreated_unseen left (standing h) e), λ p. absurd (false≢true p.0))
    go (Some s) None = (λ e. (refl, (creates_unheld (standing left)).0 e, refl), λ p. (creates_unheld (standing left)).1 p.1)
    go (Some s) (Some h) = (λ e. absurd (uncreated_on_both left s h e), λ p. let wrong : Some h ≡ None = p.2 in cc)

-- what isn't held is not deleted
pub undeleted : (left seen held : Option ViewParts) → held ≡ None → act_of left seen held ≢ Delete
undeleted left seen held none e =
    let had = ((deletes_exactly left seen held).0 e).2 in
    let lacks : IsSome (standing None) = subst (λ h. IsSome (standing h)) none had in
    absurd (false≢true lacks)

-- ---- of an answer that is such an act

pub where_deleted : {E : Type 0} (r : Result Act E) (left seen held : Option ViewParts) → IfOk r (λ act. act ≡ act_of left seen held) → IfOk r (λ act. (act ≡ Delete) ↔ ((standing seen ≡ None) × (held ≡ left) × IsSome (standing held)))
where_deleted (Ok act) left seen held is = rw is (deletes_exactly left seen held)
where_deleted (Err e) left seen held is = is

pub where_created : {E : Type 0} (r : Result Act E) (left seen held : Option ViewParts) → IfOk r (λ act. act ≡ act_of left seen held) → IfOk r (λ act. (act ≡ Create) ↔ (IsSome (standing seen) × (standing left ≡ None) × (held ≡ None)))
where_created (Ok act) left seen held is = rw is (creates_exactly left seen held)
where_created (Err e) left seen held is = is

pub where_undeleted : {E : Type 0} (r : Result Act E) (left seen held : Option ViewParts) → IfOk r (λ act. act ≡ act_of left seen held) → IfOk r (λ act. held ≡ None → act ≢ Delete)
where_undeleted (Ok act) left seen held is = rw is (undeleted left seen held)
where_undeleted (Err e) left seen held is = is
