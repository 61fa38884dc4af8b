use Rattle.mr_itemset.proofs.NormalLemmas.{normal_unique}
use Rattle.mr_itemset.proofs.form.one_value.Goals as goal

pub returns : goal.returns
returns g c same = normal_unique c.args.first.now c.args.second.now c.parts-first.ensures.normal c.parts-second.ensures.normal same
