use Rattle.std.proofs.Common.{subst}
use Rattle.std.proofs.lemmas.List.Elements.{All-more}
use Rattle.mr_entry.proofs.Names.{IsItem, name_bytes}
use Rattle.mr_wire.proofs.PutLemmas.{run_more}
use Rattle.mr_entry.proofs.event.bases.put_versions.Goals as goal

pub loop-version-preserved : goal.loop-version-preserved
loop-version-preserved c = record {
  written = run_more name_bytes c.args.versions.now c.loop-version.version-index c.version-item.result c.args.out.now.items _ _ c.loop-version.invariant.written c.loop-version-test.true c.version-item.is c.in_ok-put_version.ensures.written;
  in_grammar = All-more IsItem c.args.versions.now c.loop-version.version-index c.version-item.result c.loop-version-test.true c.loop-version.invariant.in_grammar (subst IsItem c.version-item.is c.in_ok-put_version.ensures.in_grammar);
}
