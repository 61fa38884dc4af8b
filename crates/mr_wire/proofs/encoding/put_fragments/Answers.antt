use Rattle.std.proofs.Common.{subst}
use Rattle.mr_wire.proofs.Names.{All-more, IsFramed, fragment_bytes}
use Rattle.mr_wire.proofs.PutLemmas.{run_more}
use Rattle.mr_wire.proofs.encoding.put_fragments.Goals as goal

pub loop-fragment-preserved : goal.loop-fragment-preserved
loop-fragment-preserved c = record {
  written = run_more fragment_bytes c.args.fragments.now c.loop-fragment.fragment-index c.fragment-item.result c.args.out.now.items _ _ c.loop-fragment.invariant.written c.loop-fragment-test.true c.fragment-item.is c.in_ok-put_fragment.ensures.written;
  in_grammar = All-more IsFramed c.args.fragments.now c.loop-fragment.fragment-index c.fragment-item.result c.loop-fragment-test.true c.loop-fragment.invariant.in_grammar (subst IsFramed c.fragment-item.is c.in_ok-put_fragment.ensures.in_grammar);
}
