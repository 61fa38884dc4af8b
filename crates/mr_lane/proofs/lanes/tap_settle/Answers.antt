use Rattle.std.proofs.Common.{rules}
use Rattle.mr_lane.proofs.TapLemmas.{tap_merges, tap_settled}
use Rattle.mr_lane.proofs.lanes.tap_settle.Goals as goal

pub absorb-requires-clause-rule : goal.absorb-requires-clause-rule
absorb-requires-clause-rule g c = tap_merges _ _ _ _ c.spout.invariant.1.offers c.tap.invariant.1.takes

pub returns-clause-order : goal.returns-clause-order
returns-clause-order g c = let all = c.learn_as.ensures.rule in let r = tap_settled _ _ _ _ _ c.absorb.ensures.rule all.0 all.1 _ _ c.spout.invariant.1.in_order c.tap.invariant.1.in_order in
    rw (← c.spout.view_is, ← c.tap.view_is) r.0

pub returns-clause-all : goal.returns-clause-all
returns-clause-all g c = let all = c.learn_as.ensures.rule in let r = tap_settled _ _ _ _ _ c.absorb.ensures.rule all.0 all.1 _ _ c.spout.invariant.1.in_order c.tap.invariant.1.in_order in
    rw (← c.spout.view_is, ← c.tap.view_is) (λ p. search (rules, r.1))
