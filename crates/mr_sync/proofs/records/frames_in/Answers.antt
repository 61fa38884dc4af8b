use Rattle.std.proofs.Common.{ℕ, List, take, arith, ap, length, length-drop, subst}
use Rattle.mr_sync.proofs.Names.{Spells, take_rest}
use Rattle.mr_sync.proofs.FrameRuns.{frames_more}
use Rattle.mr_sync.proofs.records.frames_in.Goals as goal

pub loop-preserved : goal.loop-preserved
loop-preserved c = record {
  within = omega (arith, c.in_ok-frame.ensures.within, ap length (take_rest c.args.bytes.now c.loop.at), length-drop c.loop.at c.args.bytes.now);
  are = frames_more c.loop.frames.items c.push.new.self.items c.args.bytes.now c.loop.at c.in_ok-frame.used c.in_ok-frame.frame c.loop.invariant.are c.in_ok-push.ensures.items
      (subst (λ (s : List ℕ). (format : ℕ) × Spells format c.in_ok-frame.frame (take c.in_ok-frame.used s)) (take_rest c.args.bytes.now c.loop.at) c.in_ok-frame.ensures.spelled);
}
