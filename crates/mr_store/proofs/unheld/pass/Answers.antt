use Rattle.std.proofs.Common.{◌∙◌}
use Rattle.mr_store.proofs.unheld.pass.Goals as goal

pub returns-then-lists_items-clause-unheld : goal.returns-then-lists_items-clause-unheld
returns-then-lists_items-clause-unheld c = c.pass_held-rest.ensures.unheld c.args.learned.now

pub returns-else-lists_items-clause-unheld : goal.returns-else-lists_items-clause-unheld
returns-else-lists_items-clause-unheld c = c.pass_uncovered.ensures.unheld c.args.held.now ∙ c.pass_held-rest.ensures.unheld c.args.learned.now
