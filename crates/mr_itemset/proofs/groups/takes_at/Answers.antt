use Rattle.std.proofs.Common.{ap, sym, ◌∙◌}
use Rattle.mr_itemset.proofs.Names.{Alike, MAX_ITEMS, get_or_default, takes}
use Rattle.mr_itemset.proofs.groups.takes_at.Goals as goal

pub returns-then-at-groups : goal.returns-then-at-groups
returns-then-at-groups c = (
  λ ours. (c.if-at-groups.true, λ d. ap (λ (g : Alike). takes MAX_ITEMS g c.args.vector.now) (get_or_default c.args.groups.now c.args.at d c.index-groups-at.result c.if-at-groups.true ∙ sym c.index-groups-at.is) ∙ sym c.takes.ensures ∙ ours),
  λ there. c.takes.ensures ∙ ap (λ (g : Alike). takes MAX_ITEMS g c.args.vector.now) c.index-groups-at.is ∙ there.1 c.index-groups-at.result,
)
