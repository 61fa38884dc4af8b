use Rattle.std.proofs.Common.{◌∙◌, subst}
use Rattle.mr_compare.proofs.Names.{All-more, IsItem, name_bytes}
use Rattle.mr_wire.proofs.PutLemmas.{run_more}
use Rattle.mr_compare.proofs.note.put_items.Goals as goal

pub loop-item-preserved : goal.loop-item-preserved
loop-item-preserved c =
    let e = c.creator.ensures in
    record {
      written = run_more name_bytes c.args.items.now c.loop-item.item-index c.item-item.result c.args.out.now.items _ _ c.loop-item.invariant.written c.loop-item-test.true c.item-item.is (rw e at c.in_ok-put_version.ensures.written);
      in_grammar = All-more IsItem c.args.items.now c.loop-item.item-index c.item-item.result c.loop-item-test.true c.loop-item.invariant.in_grammar (subst IsItem (e ∙ c.item-item.is) c.in_ok-put_version.ensures.in_grammar);
    }
