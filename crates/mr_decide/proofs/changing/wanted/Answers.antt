use Rattle.std.proofs.Common.{◌∙◌, ap}
use Rattle.std.specs.Option.{option_copied}
use Rattle.mr_joins.specs.View.{is_nowhere}
use Rattle.mr_decide.proofs.ChangingLemmas.{wanted-somewhere}
use Rattle.mr_decide.proofs.changing.wanted.Goals as goal

pub returns-clause-somewhere : goal.returns-clause-somewhere
returns-clause-somewhere c = ap is_nowhere c.in_ok-view.ensures ∙ wanted-somewhere c.args.shown.now (option_copied c.args.left) c.args.seen.now c.requires
