use Rattle.std.proofs.Common.{ℕ, ◌+◌, ◌≤◌, ap, arith, length, length-drop, subst, sym}
use Rattle.std.proofs.lemmas.List.{take_rest}
use Rattle.mr_talk.proofs.PackedLaws.{frame_tells, place_inside, run_more, run_small}
use Rattle.mr_talk.proofs.packing.packed_runs.Goals as goal

pub loop-preserved : goal.loop-preserved
loop-preserved c =
    let frame = c.args.frame.now in
    let before = c.args.before.now in
    let rest = take_rest frame c.loop.at in
    let small = run_small before _ c.loop.place c.next_run-run.result c.next_run-run.ensures in
    record {
      within = omega (arith, small.2, c.size_of-at.ensures, c.loop.invariant.within, ap length rest, length-drop c.loop.at frame);
      inside = subst (λ (k : ℕ). k ≤ length before) (sym c.place_behind-place.ensures) (place_inside c.next_run-run.result c.loop.place (length before));
      tells = run_more before frame _ c.loop.packed.items c.write_run.new.packed.items c.loop.place c.loop.at c.place_behind-place.result _ c.next_run-run.result rest c.next_run-run.ensures c.in_ok-write_run.ensures c.place_behind-place.ensures
          (ap (λ (k : ℕ). c.loop.at + k) c.size_of-at.ensures) c.loop.invariant.tells;
    }

pub returns : goal.returns
returns c =
    frame_tells c.args.before.now c.args.frame.now c.loop.packed.items _ c.write_rest.new.packed.items c.loop.place c.loop.at (omega (arith, length-drop c.loop.at c.args.frame.now, c.requires)) c.loop.invariant.tells
    (take_rest c.args.frame.now c.loop.at) c.in_ok-write_rest.ensures
