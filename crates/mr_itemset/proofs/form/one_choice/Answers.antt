use Rattle.std.proofs.Common.{◌≡◌, ap}
use Rattle.mr_itemset.proofs.Names.{Normal, sparing_form}
use Rattle.mr_itemset.proofs.form.one_choice.Goals as goal

pub returns-clause-one : goal.returns-clause-one
returns-clause-one c = rw (c.items.ensures.is, c.items-2.ensures.is) at c.one_value.ensures

pub returns-clause-spreads : goal.returns-clause-spreads
returns-clause-spreads c same item version set =
    let one : c.args.first.now ≡ c.args.second.now = returns-clause-one c same in
    ap (λ (k : Normal). sparing_form.learns_for_all k item version set) one

pub returns-clause-firsts : goal.returns-clause-firsts
returns-clause-firsts c same item version set =
    let one : c.args.first.now ≡ c.args.second.now = returns-clause-one c same in
    ap (λ (k : Normal). sparing_form.firsts_for_all k item version set) one
