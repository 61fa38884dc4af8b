use Rattle.std.proofs.Common.{◌<◌, refl, arith}
use Rattle.std.proofs.lemmas.Option.{IfSome_then}
use Rattle.std.proofs.lemmas.Result.{err_from_is_err_and}
use Rattle.mr_live.proofs.ReadLemmas.{asks_unread, came_further}
use Rattle.mr_live.proofs.source.read_plan.Goals as goal

pub returns-in_err-source-clause-asks : goal.returns-in_err-source-clause-asks
returns-in_err-source-clause-asks g c =
    let p = err_from_is_err_and c.from_residual.result c.from_residual.ensures.1 in
    rw (p.1, p.2) (asks_unread _ _ c.in_err-source.ensures.fault)

pub loop-number-preserved : goal.loop-number-preserved
loop-number-preserved g c =
    let more : c.loop-number.source.taken < c.take_line.new.source.taken = c.in_ok-is_line.ensures.more (rw c.if-not-is_line.false refl) in
    let next = rw c.if-not-is_line.false at c.in_ok-is_line.ensures.asks in (
      record {
        within = c.in_ok-is_line.ensures.few;
        counted = c.in_ok-is_line.ensures.counted _ c.loop-number.invariant.0.counted;
        lines = omega (arith, more);
      },
      IfSome_then _ c.loop-number.invariant.1 (λ script came.
          came_further script _ _ _ _ came c.take_line.new.plan c.take_line.new.source.taken c.take_line.new.source.left next),
      c.in_ok-is_line.ensures.can_run c.loop-number.invariant.2,
    )
