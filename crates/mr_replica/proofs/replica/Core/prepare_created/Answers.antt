use Rattle.std.proofs.Common.{◌≡◌, ◌↔◌, IsErrOf, refl, Result, Ok, Err, List, sym, ap, subst, ◌∙◌}
use Rattle.mr_replica.proofs.Names.{AreColumnsOf, AuthorColumn, Changes, Create, FormFault, HasTooManyHoles, OutOfMemory, created, err_from_is_err_and}
use Rattle.mr_replica.proofs.Names.{few-vector, nothing}
use Rattle.mr_forms.specs.declared.fault.FormFault.TheVariants as faults
use Rattle.mr_replica.proofs.Below.{no_columns}
use Rattle.mr_replica.proofs.Answered.{all_fit, refused_issue, late_create}
use Rattle.mr_replica.proofs.Preparing.{late_refused, issue_prepared}
use Rattle.mr_replica.proofs.replica.Core.prepare_created.Goals as goal

-- there is a vector of nothing
fits_nothing : (below : List AuthorColumn) → AreColumnsOf nothing below → (made : Result (List AuthorColumn) FormFault) → made ≡ Ok below → IsErrOf made faults.TooManyHoles ↔ HasTooManyHoles nothing
fits_nothing below of made is = (λ many. cc (sym is ∙ many), λ many. absurd (few-vector below nothing of.vector of.same many))

ok_same : (a b : List AuthorColumn) → (let made : Result (List AuthorColumn) FormFault = Ok a in made ≡ Ok b) → a ≡ b
ok_same a b h = cc

pub returns-in_err-below : goal.returns-in_err-below
returns-in_err-below g c =
    let form = g.K.Knowledge.form in
    let s = c.args.self.now in
    let m = c.args.message.now in
    let none = no_columns c.new.result c.new.ensures.is c.new.ensures.none in
    let p = err_from_is_err_and c.from_residual.result c.from_residual.ensures.1 in
    let refused = rw (c.new-item.ensures, c.next_version-version.ensures) at c.in_err-below.ensures.refused in
    let e = c.in_err-below.field-0.0 in
    late_refused form s (Create m) e c.from_residual.result (p.1 ∙ ap Err p.2) (late_create form s m e (refused_issue form s (created s m) (Ok c.new.result) (fits_nothing c.new.result none (Ok c.new.result) refl) e refused))

pub returns-in_err-arrival : goal.returns-in_err-arrival
returns-in_err-arrival g c =
    let form = g.K.Knowledge.form in
    let s = c.args.self.now in
    let m = c.args.message.now in
    let none = no_columns c.new.result c.new.ensures.is c.new.ensures.none in
    let p = err_from_is_err_and c.from_residual-in_err-arrival.result c.from_residual-in_err-arrival.ensures.1 in
    let fits = rw (c.new-item.ensures, c.next_version-version.ensures) at c.in_ok-below.ensures.fits in
    late_refused form s (Create m) OutOfMemory c.from_residual-in_err-arrival.result (p.1 ∙ ap Err p.2)
    (all_fit form s (created s m) (Ok c.new.result) (fits_nothing c.new.result none (Ok c.new.result) refl) (λ many. cc many) fits)

pub returns : goal.returns
returns g c =
    let form = g.K.Knowledge.form in
    let s = c.args.self.now in
    let m = c.args.message.now in
    let none = no_columns c.new.result c.new.ensures.is c.new.ensures.none in
    let same : c.new.result ≡ c.in_ok-below.below = ok_same c.new.result c.in_ok-below.below c.in_ok-below.ensures.ok in
    let fits = rw (c.new-item.ensures, c.next_version-version.ensures) at c.in_ok-below.ensures.fits in
    issue_prepared form s (created s m) (Create m) c.next_version-version.result c.next_version-version.ensures c.in_ok-below.below (subst (AreColumnsOf nothing) same none) c.in_ok-arrival.arrival
    (rw (c.new-item.ensures, c.next_version-version.ensures) at c.in_ok-arrival.ensures.revision) c.in_ok-arrival.ensures.to_enter (Changes form s (Create m)) (λ new h. h)
    (all_fit form s (created s m) (Ok c.new.result) (fits_nothing c.new.result none (Ok c.new.result) refl) (λ many. cc many) fits)
