use Rattle.std.proofs.Common.{◌++◌, arith}
use Rattle.std.proofs.lemmas.List.{length-append}
use Rattle.mr_compare.proofs.HeldLemmas.{few_heads}
use Rattle.mr_compare.proofs.held.passed_over.Goals as goal

pub overflow_sub-result : goal.overflow_sub-result
overflow_sub-result c =
    let few = few_heads (c.args.heads.now ++ c.args.push_outs.now) c.args.read.now c.requires in
    omega (arith, few, length-append c.args.heads.now c.args.push_outs.now)

pub returns : goal.returns
returns c =
    let few = few_heads (c.args.heads.now ++ c.args.push_outs.now) c.args.read.now c.requires in
    omega (arith, few, length-append c.args.heads.now c.args.push_outs.now)
