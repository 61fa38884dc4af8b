use Rattle.mr_itemset.proofs.GroupedLemmas.{one_form}
use Rattle.mr_itemset.proofs.form.one_normal_form.Goals as goal

pub returns : goal.returns
returns c limit k normal = one_form {limit = limit} k normal
