use Rattle.std.proofs.Common.{◌≡◌, ◌++◌, arith, length, length-append, ap, ◌∙◌}
use Rattle.mr_sync.proofs.SayLaws.{front_more}
use Rattle.mr_sync.proofs.said.front_frames.Goals as goal

pub loop-preserved : goal.loop-preserved
loop-preserved c =
    let grown : c.extend_from_slice.new.self.items ≡ c.loop.bytes.items ++ c.in-Some.frame.items = c.in_ok-extend_from_slice.ensures.items ∙ ap (λ l. c.loop.bytes.items ++ l) c.deref.ensures.value in
    record {
      short = omega (arith, ap length grown, length-append c.loop.bytes.items c.in-Some.frame.items, c.in-Some.ensures.short, c.loop.invariant.short);
      told = front_more c.args.frames.now.items c.loop.frames.items c.next_frame.new.frames.items c.in-Some.frame c.loop.bytes.items c.extend_from_slice.new.self.items c.loop.invariant.told c.in-Some.ensures.first grown;
    }
