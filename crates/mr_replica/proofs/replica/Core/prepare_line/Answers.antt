use Rattle.std.proofs.Common.{sym, ap, ◌∙◌}
use Rattle.mr_replica.proofs.Names.{State, entering, told_by}
use Rattle.mr_replica.proofs.Preparing.{known_prepared, told_prepared}
use Rattle.mr_replica.proofs.replica.Core.prepare_line.Goals as goal

pub returns-then-knows : goal.returns-then-knows
returns-then-knows g c =
    let form = g.K.Knowledge.form in
    let s = c.args.self.now in
    let sent = c.args.sent.now in
    let known = ap (λ (t : State g.row.K.Denot). form.known t.knowledge c.args.item c.args.version) (sym c.self.view_is) ∙ sym c.knows.ensures ∙ c.if-knows.true in
    known_prepared form s sent c.requires.kept c.requires.taken (told_by c.args.item c.args.version sent.body) (entering s sent.body) known

pub returns : goal.returns
returns g c =
    let form = g.K.Knowledge.form in
    let s = c.args.self.now in
    let sent = c.args.sent.now in
    let unknown = ap (λ (t : State g.row.K.Denot). form.known t.knowledge c.args.item c.args.version) (sym c.self.view_is) ∙ sym c.knows.ensures ∙ c.if-knows.false in
    let told = c.in_ok-told.ensures in
    told_prepared form s sent c.requires.kept c.requires.taken c.args.item c.args.version c.in_ok-told.told c.requires.told told.is unknown told.comer told.entries told.push_out_entries told.fits
