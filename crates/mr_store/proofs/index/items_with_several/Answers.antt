use Rattle.std.proofs.Common.{◌≡◌, sym, subst, ◌∙◌, ap, List}
use Rattle.mr_store.proofs.Names.{IsStrictlySortedBy, Name, append-nil, is_listed, name_cmp}
use Rattle.mr_store.proofs.Several.{several, several-rises, is_listed-several}
use Rattle.mr_store.proofs.index.items_with_several.Goals as goal

-- nothing is left, so the items are those of all entries
pub returns-clause-rising : goal.returns-clause-rising
returns-clause-rising c =
    let all : c.loop-item.items.items ≡ several c.args.index.now.entries = rw (c.in-None.ensures.steps.0, append-nil) at c.loop-item.invariant in
    subst (IsStrictlySortedBy name_cmp) (sym all) (several-rises c.args.index.now.entries c.iter-item-items.ensures.ordered)

pub returns-clause-exact : goal.returns-clause-exact
returns-clause-exact c i =
    let all : c.loop-item.items.items ≡ several c.args.index.now.entries = rw (c.in-None.ensures.steps.0, append-nil) at c.loop-item.invariant in
    ap (λ (is : List Name). is_listed is i) all ∙ is_listed-several c.args.index.now.entries c.iter-item-items.ensures.ordered i
