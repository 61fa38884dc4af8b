use Rattle.std.proofs.Common.{sym, ap, is_some, ◌∙◌, Option}
use Rattle.mr_session.proofs.ViewLemmas.{at-by_number, is_some-map}
use Rattle.mr_session.proofs.open_table.OpenTable.has.Goals as goal

pub returns : goal.returns
returns g c =
    rw (← c.self.view_is) (c.is_some.ensures ∙ (is_some-map _ c.value.result ∙ ap (λ (o : Option g.row.T.Denot). is_some o) (c.value.ensures ∙ sym (at-by_number c.self.inside.slots.slots c.args.number))))
