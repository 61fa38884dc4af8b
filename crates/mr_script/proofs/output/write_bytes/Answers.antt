use Rattle.std.proofs.Common.{◌-◌, ◌++◌, length, take, drop, sym, ap, subst, ◌∙◌, arith, length-take}
use Rattle.mr_script.proofs.Names.{Appends, take-add, take-take}
use Rattle.mr_script.proofs.Written.{Appends-both}
use Rattle.mr_script.proofs.output.write_bytes.Goals as goal

pub loop-written-preserved : goal.loop-written-preserved
loop-written-preserved g c =
    let done = c.loop-written.written in
    let count = c.in-Ok.count in
    let bytes = c.args.bytes.now in
    let before = c.loop-written.invariant in
    let fits = c.in-Ok.ensures.within in
    let most = length-take (length bytes - done) (drop done bytes) in
    let joined = ap (λ l. take done bytes ++ l) (take-take count (length bytes - done) (drop done bytes) (omega arith)) ∙ sym (take-add done count bytes) in
    (omega arith, subst (Appends _ _) joined (Appends-both _ _ _ _ _ before.1 c.in-Ok.ensures.written))
