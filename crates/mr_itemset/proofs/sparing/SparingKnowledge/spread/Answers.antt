use Rattle.std.proofs.Common.{sym, ◌∙◌}
use Rattle.mr_itemset.proofs.Names.{in_some, name_eq}
use Rattle.mr_itemset.proofs.SparingLemmas.{spread_all}
use Rattle.mr_itemset.proofs.sparing.SparingKnowledge.spread.Goals as goal

pub returns-clause-all : goal.returns-clause-all
returns-clause-all g c = spread_all c.args.self.now c.args.item c.args.version (g.S.VersionSet.has c.args.below.now) (in_some name_eq c.first_along.result) (sym c.spreads.ensures ∙ c.if-not-spreads.false) c.first_along.ensures
