use Rattle.std.proofs.Common.{◌∙◌}
use Rattle.mr_compare.proofs.HeldLemmas.{differ_any_order}
use Rattle.mr_compare.proofs.held.is_merge_due.Goals as goal

pub returns-clause-any_order : goal.returns-clause-any_order
returns-clause-any_order c = λ others moved. c.do_differ.ensures ∙ differ_any_order c.args.heads.now others moved
