use Rattle.std.proofs.Common.{rules, arith, ◌≡◌, []}
use Rattle.mr_concise.proofs.Names.{IsTooHoley, common_steps, into_iter_items}
use Rattle.mr_concise.proofs.FragmentLemmas.{ConciseSoFar-begin, ConciseSoFar-more, ConciseSoFar-end, holey-among}
use Rattle.mr_concise.proofs.fragments.concise_fragments.Goals as goal

pub loop-fragment-init : goal.loop-fragment-init
loop-fragment-init g c = rw c.in_ok-concise.ensures.items (ConciseSoFar-begin g.V.VersionSet.has c.args.fragments.items (into_iter_items c.into_iter-fragment-iterator.result) c.into_iter-fragment-iterator.ensures.into_iter_gives.0)

pub returns-in_err-concise_fragment-clause-holes :
    goal.returns-in_err-concise_fragment-clause-holes
returns-in_err-concise_fragment-clause-holes g c h =
    let holey : IsTooHoley g.V.VersionSet.has c.in-Some.fragment = search rules in
    holey-among g.V.VersionSet.has c.args.fragments.items c.loop-fragment.yielded (into_iter_items c.loop-fragment.fragment-iterator) (into_iter_items c.next.new.self) c.loop-fragment.concise.items c.in-Some.fragment c.loop-fragment.invariant c.in-Some.ensures.steps.0 holey

pub loop-fragment-preserved : goal.loop-fragment-preserved
loop-fragment-preserved g c = rw c.in_ok-push.ensures.items (ConciseSoFar-more g.V.VersionSet.has c.args.fragments.items c.loop-fragment.yielded (into_iter_items c.loop-fragment.fragment-iterator) (into_iter_items c.next.new.self) c.loop-fragment.concise.items c.in-Some.fragment c.in_ok-concise_fragment.field-0 c.loop-fragment.invariant c.in-Some.ensures.steps.0 c.in_ok-concise_fragment.ensures.ok c.in_ok-concise_fragment.ensures.few)

pub returns-clause-ok : goal.returns-clause-ok
returns-clause-ok g c =
    let none : into_iter_items c.loop-fragment.fragment-iterator ≡ [] = grind (arith, common_steps) in
    (ConciseSoFar-end g.V.VersionSet.has c.args.fragments.items c.loop-fragment.yielded (into_iter_items c.loop-fragment.fragment-iterator) c.loop-fragment.concise.items c.loop-fragment.invariant none).0

pub returns-clause-few : goal.returns-clause-few
returns-clause-few g c =
    let none : into_iter_items c.loop-fragment.fragment-iterator ≡ [] = grind (arith, common_steps) in
    (ConciseSoFar-end g.V.VersionSet.has c.args.fragments.items c.loop-fragment.yielded (into_iter_items c.loop-fragment.fragment-iterator) c.loop-fragment.concise.items c.loop-fragment.invariant none).1
