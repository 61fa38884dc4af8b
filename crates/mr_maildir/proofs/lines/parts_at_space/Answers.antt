use Rattle.std.proofs.Common.{None, Some, refl, ap, ◌∙◌}
use Rattle.mr_maildir.proofs.LinesLemmas.{space_cut}
use Rattle.mr_maildir.proofs.lines.parts_at_space.Goals as goal

pub returns-clause-before : goal.returns-clause-before
returns-clause-before c = rw c.unwrap_or.ensures (space_cut c.args.text.now c.split_once.result _ _ c.split_once.ensures.cases refl refl).0

pub returns-clause-behind : goal.returns-clause-behind
returns-clause-behind c = rw c.unwrap_or.ensures (space_cut c.args.text.now c.split_once.result _ _ c.split_once.ensures.cases refl refl).1
