-- what comes of a version that a record tells of
use Rattle.std.proofs.Common.{◌≡◌, ◌↔◌, IsErrOf, false, refl, sym, ap, subst, ◌∙◌, [], ◌∷◌, Some, Result, Ok, inl, inr}
use Rattle.mr_replica.proofs.Names.{All, All-cons, All-nil, Body, DescentParts, Fits, Form, FormFault, IsOverHolesInTurn, IsOverItemsInTurn, Item, MoveOut}
use Rattle.mr_replica.proofs.Names.{Pairs, Rev, State, Wanted.Knowledge, cond_some, entering, is_early_line, is_forged, is_misfiled, is_selected, learned_of}
use Rattle.mr_replica.proofs.Names.{line_learned, line_of, or_parts, told_line, vector_has, wanted_by_line}
use Rattle.mr_forms.specs.declared.fault.FormFault.TheVariants as fault
use Rattle.mr_replica.proofs.Choice.{some_same}

-- what a record tells that is not forged was issued where it is an own version, and the revision that it brings is that version, filed where it is held
pub told_parts : {K : Type 0} (s : State K) (body : Body) (line : DescentParts) → told_line body ≡ Some line → is_forged s body ≡ false
    → (is_early_line s line ≡ false) × ((r : Rev) → entering s body ≡ Some r → (line_of r ≡ line) × (is_misfiled s r.item r.version ≡ false))
told_parts s (Item q) line told sure =
    let same = some_same (line_of q) line told in
    let parts = or_parts (is_early_line s (line_of q)) (is_misfiled s q.item q.version) sure in (
      ap (is_early_line s) (sym same) ∙ parts.0,
      λ r comes.
          let one = sym (cond_some (is_selected s q) q r comes).1 in
          (ap line_of one ∙ same, ap (λ (x : Rev). is_misfiled s x.item x.version) one ∙ parts.1),
    )
told_parts s (MoveOut l) line told sure = (ap (is_early_line s) (sym (some_same l line told)) ∙ sure, λ r comes. absurd (cc))
told_parts s body line told sure = cc

-- ---- what is wanted

module _ {K : Type 0} (form : Form K) (s : State K) (line : DescentParts) (unknown : form.known s.knowledge line.item line.version ≡ false) where
  abbrev first : Pairs
  first = learned_of form s.knowledge line.item line.version (vector_has line.below)

  abbrev second : Pairs
  second = line_learned form s line

  wants : wanted_by_line form s line ≡ Knowledge first ∷ Knowledge second ∷ []
  wants = rw unknown refl

  -- both have a value, or the first fault is told
  module _ (made : Result (Unit {0}) FormFault) (holes : IsErrOf made fault.TooManyHoles ↔ IsOverHolesInTurn form first second) (items : IsErrOf made fault.TooManyItems ↔ IsOverItemsInTurn form first second) where
    pub line_fits : made ≡ Ok tt → All (Fits form) (wanted_by_line form s line)
    line_fits is =
        let no_holes : ¬ IsOverHolesInTurn form first second = λ over. cc (sym is ∙ holes.1 over) in
        let no_items : ¬ IsOverItemsInTurn form first second = λ over. cc (sym is ∙ items.1 over) in
        let first_fits : Fits form (Knowledge first) = (λ many. no_holes (inl many), λ many. no_items (inl (many, λ h. no_holes (inl h)))) in
        let second_fits : Fits form (Knowledge second) = (λ many. no_holes (inr (first_fits, many)), λ many. no_items (inr (first_fits, (many, λ h. no_holes (inr (first_fits, h)))))) in
        subst (All (Fits form)) (sym wants) (All-cons (Fits form) (Knowledge first) (Knowledge second ∷ []) first_fits (All-cons (Fits form) (Knowledge second) [] second_fits (All-nil (Fits form))))
