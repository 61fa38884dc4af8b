use Rattle.std.proofs.Common.{◌++◌, ◌∷◌, []}
use Rattle.mr_subs.specs.Subscriber.{Applies-append}
use Rattle.mr_subs.proofs.SubscriberLemmas.{took-nothing}
use Rattle.mr_subs.proofs.subscriber.fold_all.Goals as goal

pub loop-preserved-in-Ok : goal.loop-preserved-in-Ok
loop-preserved-in-Ok g c = (
  c.loop.invariant.0 ++ c.in-Entry.entry ∷ [],
  g.met.P.PortOut.took_more c.args.port.now c.loop.invariant.0 c.loop.port (c.in-Entry.entry ∷ []) c.take.new.self c.loop.invariant.1 c.in-Entry.ensures.takes.0,
  Applies-append g.F.Fold.shows c.args.fold.now c.loop.fold c.fold_in.new.self c.loop.invariant.0 (c.in-Entry.entry ∷ []) c.loop.invariant.2 c.in-Ok.ensures.ok,
)

pub loop-preserved : goal.loop-preserved
loop-preserved g c = (
  c.loop.invariant.0 ++ c.in-Entry.entry ∷ [],
  g.met.P.PortOut.took_more c.args.port.now c.loop.invariant.0 c.loop.port (c.in-Entry.entry ∷ []) c.take.new.self c.loop.invariant.1 c.in-Entry.ensures.takes.0,
  Applies-append g.F.Fold.shows c.args.fold.now c.loop.fold c.fold_in.new.self c.loop.invariant.0 (c.in-Entry.entry ∷ []) c.loop.invariant.2 c.in-Ok.ensures.ok,
)

pub returns-in-Closed-clause-ok : goal.returns-in-Closed-clause-ok
returns-in-Closed-clause-ok g c = (
  c.loop.invariant.0,
  took-nothing g.P.PortOut.took g.met.P.PortOut.took_more c.args.port.now c.loop.port c.take.new.self c.loop.invariant.0 c.loop.invariant.1 c.in-Closed.ensures.takes.0,
  c.loop.invariant.2,
  c.in-Closed.ensures.takes.1,
)
