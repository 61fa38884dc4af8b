use Rattle.std.proofs.Common.{◌<◌, sym, subst, arith}
use Rattle.std.proofs.lemmas.List.Elements.{recursion_from_All}
use Rattle.mr_joins.specs.declared.count.Count.{Count}
use Rattle.mr_joins.specs.declared.mark.Mark.{Mark}
use Rattle.mr_joins.proofs.Marks.{says-bound}
use Rattle.mr_joins.proofs.editing.raised_mark.Goals as goal

pub to_next_odd-requires : goal.to_next_odd-requires
to_next_odd-requires c =
    subst (λ (x : Count). x.raised < 4294967294) (sym c.count_at.ensures)
    (says-bound 4294967294 c.args.marks.now (c.args.item, c.args.element.now) (omega arith) (recursion_from_All (λ (m : Mark). m.count.raised < 4294967294) c.args.marks.now c.requires))
