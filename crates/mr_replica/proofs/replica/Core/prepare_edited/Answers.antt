use Rattle.std.proofs.Common.{Err, sym, ap, ◌∙◌}
use Rattle.mr_replica.proofs.Names.{Changes, Edit, OutOfMemory, edited, err_from_is_err_and}
use Rattle.mr_replica.proofs.Answered.{all_fit, refused_issue, late_edit}
use Rattle.mr_replica.proofs.Preparing.{late_refused, issue_prepared}
use Rattle.mr_replica.proofs.replica.Core.prepare_edited.Goals as goal

pub returns-in_err-below : goal.returns-in_err-below
returns-in_err-below g c =
    let form = g.K.Knowledge.form in
    let s = c.args.self.now in
    let bases = c.args.bases.now in
    let m = c.args.message.now in
    let p = err_from_is_err_and c.from_residual.result c.from_residual.ensures.1 in
    let holes = rw (c.as_slice.ensures, c.requires.item) at c.edited_below-made.ensures.holes in
    let refused = rw c.requires.item at c.in_err-below.ensures.refused in
    let e = c.in_err-below.field-0.0 in
    late_refused form s (Edit bases m) e c.from_residual.result (p.1 ∙ ap Err p.2) (late_edit form s bases m e (refused_issue form s (edited s bases m) c.edited_below-made.result holes e refused))

pub arrival-requires-clause-next : goal.arrival-requires-clause-next
arrival-requires-clause-next g c = (rw c.in_ok-below.ensures.ok at c.edited_below-made.ensures.next) c.args.message.now

pub returns-in_err-arrival : goal.returns-in_err-arrival
returns-in_err-arrival g c =
    let form = g.K.Knowledge.form in
    let s = c.args.self.now in
    let bases = c.args.bases.now in
    let m = c.args.message.now in
    let p = err_from_is_err_and c.from_residual-in_err-arrival.result c.from_residual-in_err-arrival.ensures.1 in
    let holes = rw (c.as_slice.ensures, c.requires.item) at c.edited_below-made.ensures.holes in
    let fits = rw c.requires.item at c.in_ok-below.ensures.fits in
    late_refused form s (Edit bases m) OutOfMemory c.from_residual-in_err-arrival.result (p.1 ∙ ap Err p.2)
    (all_fit form s (edited s bases m) c.edited_below-made.result holes (λ many. cc (sym c.in_ok-below.ensures.ok ∙ many)) fits)

pub returns : goal.returns
returns g c =
    let form = g.K.Knowledge.form in
    let s = c.args.self.now in
    let bases = c.args.bases.now in
    let m = c.args.message.now in
    let holes = rw (c.as_slice.ensures, c.requires.item) at c.edited_below-made.ensures.holes in
    let fits = rw c.requires.item at c.in_ok-below.ensures.fits in
    let columns = rw (c.in_ok-below.ensures.ok, c.as_slice.ensures, c.requires.item) at c.edited_below-made.ensures.ok in
    issue_prepared form s (edited s bases m) (Edit bases m) c.next_version-version.result c.next_version-version.ensures c.in_ok-below.below columns c.in_ok-arrival.arrival
    (rw (c.requires.item, c.next_version-version.ensures) at c.in_ok-arrival.ensures.revision) c.in_ok-arrival.ensures.to_enter (Changes form s (Edit bases m)) (λ new h. h)
    (all_fit form s (edited s bases m) c.edited_below-made.result holes (λ many. cc (sym c.in_ok-below.ensures.ok ∙ many)) fits)
