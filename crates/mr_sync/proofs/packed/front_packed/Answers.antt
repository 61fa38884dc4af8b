use Rattle.std.proofs.Common.{List, ℕ, ◌+◌, ◌-◌, arith, ap, subst, sym, ◌++◌, ◌∙◌}
use Rattle.mr_sync.proofs.Names.{MAX_PACKED_BYTES, PacksSoFar}
use Rattle.mr_sync.proofs.PackLaws.{packs_more, packs_none}
use Rattle.mr_sync.proofs.packed.front_packed.Goals as goal

pub loop-init : goal.loop-init
loop-init c =
    subst (λ (l : List ℕ). PacksSoFar c.args.frames.now.items c.args.last.now l c.args.frames.now.items c.args.last.now MAX_PACKED_BYTES) (sym c.new-bytes.ensures.items)
    (packs_none c.args.frames.now.items c.args.last.now)

pub loop-preserved : goal.loop-preserved
loop-preserved c =
    packs_more c.args.frames.now.items c.loop.frames.items c.next_frame.new.frames.items c.in-Some.frame c.args.last.now c.loop.last c.pack.new.self c.loop.bytes.items c.in_ok-packed.packed.items c.extend_from_slice.new.self.items _ c.loop.room (c.loop.room - (c.len-in-loop.result + 6))
    c.loop.invariant c.in-Some.ensures.first c.deref.ensures.value c.in_ok-packed.ensures.packed c.in_ok-packed.ensures.short
    (c.in_ok-extend_from_slice.ensures.items ∙ ap (λ (l : List ℕ). c.loop.bytes.items ++ l) c.deref-in-loop.ensures.value) c.in-Some.ensures.short (omega (arith, c.len-in-loop.ensures, c.in-Some.ensures.short))
