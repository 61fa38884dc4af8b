use Rattle.std.proofs.Common.{Err, ap, ◌∙◌}
use Rattle.mr_replica.proofs.Names.{State, below_told, err_from_is_err_and, told_by}
use Rattle.mr_replica.proofs.Told.{line_fits}
use Rattle.mr_replica.proofs.replica.Core.told.Goals as goal

-- what is wanted has a value
pub returns-clause-fits : goal.returns-clause-fits
returns-clause-fits g c =
    let below = c.told_below-below.ensures.is ∙ ap below_told c.body.ensures in
    let holes = rw (ap (λ (t : State g.row.K.Denot). t.knowledge) c.self.view_is, below) at c.may_learn_with.ensures.holes in
    let items = rw (ap (λ (t : State g.row.K.Denot). t.knowledge) c.self.view_is, below) at c.may_learn_with.ensures.items in
    line_fits g.K.Knowledge.form c.args.self.now (told_by c.args.item c.args.version c.args.sent.now.body) c.requires.unknown c.may_learn_with.result holes items c.in_ok-may_learn_with.was

pub returns-in_err-comer-clause-refused : goal.returns-in_err-comer-clause-refused
returns-in_err-comer-clause-refused g c =
    let below = c.told_below-below.ensures.is ∙ ap below_told c.body.ensures in
    let holes = rw (ap (λ (t : State g.row.K.Denot). t.knowledge) c.self.view_is, below) at c.may_learn_with.ensures.holes in
    let items = rw (ap (λ (t : State g.row.K.Denot). t.knowledge) c.self.view_is, below) at c.may_learn_with.ensures.items in
    let line = told_by c.args.item c.args.version c.args.sent.now.body in
    let fits = line_fits g.K.Knowledge.form c.args.self.now line c.requires.unknown c.may_learn_with.result holes items c.in_ok-may_learn_with.was in
    let p = err_from_is_err_and c.from_residual-in_err-comer.result c.from_residual-in_err-comer.ensures.1 in
    rw (p.1 ∙ ap Err p.2) fits

pub returns-in_err-entries-clause-refused : goal.returns-in_err-entries-clause-refused
returns-in_err-entries-clause-refused g c =
    let below = c.told_below-below.ensures.is ∙ ap below_told c.body.ensures in
    let holes = rw (ap (λ (t : State g.row.K.Denot). t.knowledge) c.self.view_is, below) at c.may_learn_with.ensures.holes in
    let items = rw (ap (λ (t : State g.row.K.Denot). t.knowledge) c.self.view_is, below) at c.may_learn_with.ensures.items in
    let line = told_by c.args.item c.args.version c.args.sent.now.body in
    let fits = line_fits g.K.Knowledge.form c.args.self.now line c.requires.unknown c.may_learn_with.result holes items c.in_ok-may_learn_with.was in
    let p = err_from_is_err_and c.from_residual-in_err-entries.result c.from_residual-in_err-entries.ensures.1 in
    rw (p.1 ∙ ap Err p.2) fits

pub returns-in_err-push_out_entries-clause-refused : goal.returns-in_err-push_out_entries-clause-refused
returns-in_err-push_out_entries-clause-refused g c =
    let below = c.told_below-below.ensures.is ∙ ap below_told c.body.ensures in
    let holes = rw (ap (λ (t : State g.row.K.Denot). t.knowledge) c.self.view_is, below) at c.may_learn_with.ensures.holes in
    let items = rw (ap (λ (t : State g.row.K.Denot). t.knowledge) c.self.view_is, below) at c.may_learn_with.ensures.items in
    let line = told_by c.args.item c.args.version c.args.sent.now.body in
    let fits = line_fits g.K.Knowledge.form c.args.self.now line c.requires.unknown c.may_learn_with.result holes items c.in_ok-may_learn_with.was in
    let p = err_from_is_err_and c.from_residual-in_err-push_out_entries.result c.from_residual-in_err-push_out_entries.ensures.1 in
    rw (p.1 ∙ ap Err p.2) fits

pub returns-clause-is : goal.returns-clause-is
returns-clause-is g c =
    let kept = c.told_below-below.ensures.kept in
    rw (c.body.ensures, c.requires.told) at kept
