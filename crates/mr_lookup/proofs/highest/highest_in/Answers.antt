use Rattle.std.proofs.Common.{◌+◌, ℕ, Option, subst, sym, take}
use Rattle.mr_lookup.proofs.Names.{ConciseFragment, HasItems, IsHighestFound, all_covered, vector_has}
use Rattle.mr_lookup.proofs.HighestLemmas.{found_more}
use Rattle.mr_lookup.proofs.highest.highest_in.Goals as goal

pub loop-fragment-preserved : goal.loop-fragment-preserved
loop-fragment-preserved c =
    let fs = c.args.fragments.now in
    let k = c.loop-fragment.fragment-index in
    let f = c.fragment-item.result in
    let has = subst (λ (g : ConciseFragment). HasItems g.items) (sym c.fragment-item.is) (c.requires k f c.loop-fragment-test.true) in
    subst (λ (o : Option ℕ). IsHighestFound (all_covered vector_has (take (k + 1) fs)) c.args.author o) (sym c.higher-highest.ensures)
    (found_more c.args.author fs k f c.loop-fragment.highest c.last.result c.loop-fragment-test.true c.fragment-item.is has c.loop-fragment.invariant c.last.ensures)
