use Rattle.std.proofs.Common.{◌∙◌, ap}
use Rattle.mr_draw.proofs.Names.{IfOk-weaker, dots}
use Rattle.mr_draw.proofs.DotLemmas.{draws_each_version}
use Rattle.mr_draw.proofs.HappeningLemmas.{shown_by_place}
use Rattle.mr_draw.proofs.happening.happenings.Goals as goal

pub returns-clause-shown : goal.returns-clause-shown
returns-clause-shown c =
    let shown = rw c.in_ok-notes.ensures at c.happenings_by.ensures in
    IfOk-weaker c.happenings_by.result _ _ (λ found is. is ∙ shown_by_place _ 0 c.args.answers.now) shown

pub returns-clause-dots : goal.returns-clause-dots
returns-clause-dots c =
    let shown = rw c.in_ok-notes.ensures at c.happenings_by.ensures in
    IfOk-weaker c.happenings_by.result _ _ (λ found is. ap dots (is ∙ shown_by_place _ 0 c.args.answers.now) ∙ draws_each_version c.args.answers.now) shown
