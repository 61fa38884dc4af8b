use Rattle.std.proofs.Common.{sym, subst, take, take_all}
use Rattle.mr_store.proofs.Names.{NextIn, NextIn-lower, Versions, by_vector, in_any, in_any-more_is, of_author}
use Rattle.mr_store.proofs.unheld.next_in_some.Goals as goal

pub loop-fragment-preserved : goal.loop-fragment-preserved
loop-fragment-preserved c =
    let fs = c.args.learned.now in
    let k = c.loop-fragment.fragment-index in
    let f = c.fragment-item.result in
    subst (λ (t : Versions). NextIn (of_author t c.args.author) c.args.from c.lower_counter-next.result) (sym (in_any-more_is by_vector fs k f c.loop-fragment-test.true c.fragment-item.is))
    (rw c.lower_counter-next.ensures (NextIn-lower (of_author (in_any by_vector (take k fs)) c.args.author) (of_author (by_vector f) c.args.author) c.args.from c.loop-fragment.next c.next_in.result c.loop-fragment.invariant c.next_in.ensures.next))

pub returns : goal.returns
returns c = let all = take_all c.loop-fragment.fragment-index c.args.learned.now c.loop-fragment-test.false in rw all at c.loop-fragment.invariant
