use Rattle.std.proofs.Common.{Bool, ◌||◌, ap, sym, ◌∙◌}
use Rattle.mr_concise.specs.Vector.{vector_has}
use Rattle.mr_itemset.proofs.AtMostLemmas.{united_same}
use Rattle.mr_itemset.proofs.item.add_all.Goals as goal

pub returns-in-Some-clause-ok : goal.returns-in-Some-clause-ok
returns-in-Some-clause-ok g c = record { columns_ok = c.author_columns-columns.ensures.vector; has = λ w. c.in-Ok.ensures.ok w ∙ ap (λ (b : Bool). b || vector_has c.args.vector.now w) (sym (c.in-Some.ensures w)) }

pub returns-clause-ok : goal.returns-clause-ok
returns-clause-ok g c = record {
  columns_ok = c.author_columns-united.ensures.vector;
  has = united_same c.union.new.self c.args.vector.now c.in-Ok-gather.more (g.A.Source.has c.args.learned.now) c.in-Ok-union.ensures.ok c.in-Ok-gather.ensures.ok;
}
