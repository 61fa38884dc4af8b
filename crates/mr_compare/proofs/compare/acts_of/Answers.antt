use Rattle.std.proofs.Common.{refl, arith, ◌∙◌}
use Rattle.mr_compare.specs.Sides.{standings_by}
use Rattle.mr_compare.proofs.CompareLemmas.{count_is, unmerged}
use Rattle.mr_compare.proofs.compare.acts_of.Goals as goal

pub returns-then-count-most-clause-fault : goal.returns-then-count-most-clause-fault
returns-then-count-most-clause-fault c =
    let standings = standings_by c.args.sides.now c.args.mails.now c.args.others.now in
    let is = count_is standings c.in_ok-acts.acts.items c.deref.result.now c.count_of_deletions-count.result c.in_ok-acts.ensures c.deref.ensures.value c.count_of_deletions-count.ensures in
    (is, refl, omega arith)

pub returns-clause-few : goal.returns-clause-few
returns-clause-few c =
    let standings = standings_by c.args.sides.now c.args.mails.now c.args.others.now in
    let is = count_is standings c.in_ok-acts.acts.items c.deref.result.now c.count_of_deletions-count.result c.in_ok-acts.ensures c.deref.ensures.value c.count_of_deletions-count.ensures in
    omega arith

pub returns-clause-unmerged : goal.returns-clause-unmerged
returns-clause-unmerged c = λ undue. c.in_ok-acts.ensures ∙ unmerged (standings_by c.args.sides.now c.args.mails.now c.args.others.now) undue
