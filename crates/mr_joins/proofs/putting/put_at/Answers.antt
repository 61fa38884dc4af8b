use Rattle.std.proofs.Common.{◌∙◌, sym, ap}
use Rattle.std.specs.Ordering.{is_eq}
use Rattle.mr_joins.proofs.Marks.{set_there, insert_there}
use Rattle.mr_joins.proofs.putting.put_at.Goals as goal

pub returns-then-is_eq : goal.returns-then-is_eq
returns-then-is_eq c =
    set_there c.args.mark c.index.result.now c.index_mut-own.result.now c.args.marks.now.items c.args.place c.larger-own.result c.requires c.index.ensures c.index_mut-own.ensures.value
    (ap is_eq (sym c.cmp_key.ensures) ∙ sym c.is_eq.ensures ∙ c.if-is_eq.true) c.larger-own.ensures

pub returns : goal.returns
returns c =
    c.in_ok-insert.ensures.items
    ∙ insert_there c.args.mark c.index.result.now c.args.marks.now.items c.args.place c.requires c.index.ensures
    (ap is_eq (sym c.cmp_key.ensures) ∙ sym c.is_eq.ensures ∙ c.if-is_eq.false)
