use Rattle.std.proofs.Common.{rules}
use Rattle.mr_replica.proofs.Names.{IsTooHoley, into_iter_items}
use Rattle.mr_replica.proofs.PieceLemmas.{pieces_more, among}
use Rattle.mr_replica.proofs.pieces.pieces_of.Goals as goal

pub returns-in_err-piece_of-clause-holes : goal.returns-in_err-piece_of-clause-holes
returns-in_err-piece_of-clause-holes g c h =
    let has = g.V.VersionSet.has in
    let holey : IsTooHoley has c.in-Some.fragment = search rules in
    among has c.args.fragments.items c.loop-fragment.yielded (into_iter_items c.loop-fragment.fragment-iterator) (into_iter_items c.next.new.self) c.loop-fragment.pieces.items c.in-Some.fragment c.loop-fragment.invariant c.in-Some.ensures.steps.0 holey

pub loop-fragment-preserved : goal.loop-fragment-preserved
loop-fragment-preserved g c =
    rw c.in_ok-push_back.ensures.items
    (pieces_more g.V.VersionSet.has c.args.fragments.items c.loop-fragment.yielded (into_iter_items c.loop-fragment.fragment-iterator) (into_iter_items c.next.new.self) c.loop-fragment.pieces.items c.in-Some.fragment c.in_ok-piece_of.field-0 c.loop-fragment.invariant c.in-Some.ensures.steps.0 c.in_ok-piece_of.ensures.ok)
