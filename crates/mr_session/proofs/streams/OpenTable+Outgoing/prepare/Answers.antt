use Rattle.std.proofs.Common.{◌≡◌, Some, sym, ap, ◌∙◌}
use Rattle.mr_session.proofs.Names.{open_at, option_copied}
use Rattle.mr_session.proofs.DrawnLemmas.{only_draw}
use Rattle.mr_session.proofs.OnwardLemmas.{number_from, prepared_in}
use Rattle.mr_session.proofs.streams.OpenTable+Outgoing.prepare.Goals as goal

-- it is a number that was given
pub prepare-requires-clause-number : goal.prepare-requires-clause-number
prepare-requires-clause-number c =
    let found : open_at c.args.self.now c.args.number ≡ Some c.in-Some.stream.now = sym c.get.ensures ∙ ap option_copied c.in-Some.is in
    number_from c.args.number c.args.self.now c.in-Some.stream.now c.opened-given.ensures.kept found

pub returns-clause-gives : goal.returns-clause-gives
returns-clause-gives c =
    let found : open_at c.args.self.now c.args.number ≡ Some c.in-Some.stream.now = sym c.get.ensures ∙ ap option_copied c.in-Some.is in
    prepared_in c.args.source c.args.number c.args.self.now c.args.store.now c.prepare.result c.in-Some.stream.now found c.prepare.ensures.gives c.prepare.ensures.last

pub returns-clause-one : goal.returns-clause-one
returns-clause-one c = only_draw c.args.source c.args.number c.args.self.now c.args.store.now c.prepare.result (returns-clause-gives c)
