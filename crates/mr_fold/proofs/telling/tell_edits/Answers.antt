use Rattle.std.proofs.Common.{[], refl, subst}
use Rattle.mr_kept.specs.Kept.{replica_of}
use Rattle.mr_compare.specs.declared.joining.ItemHeads.{ItemHeads}
use Rattle.mr_fold.specs.Telling.{TellsEdit, TellsEdits, Grows}
use Rattle.mr_fold.proofs.TellingLemmas.{grows_not, grows_by_one}
use Rattle.mr_fold.proofs.SettlingLemmas.{same_journal, same_then}
use Rattle.mr_fold.proofs.telling.tell_edits.Goals as goal

pub loop-heads-init : goal.loop-heads-init
loop-heads-init g c = record {
  told = grows_not (TellsEdits c.args.view.now []) (replica_of c.args.kept.now) (refl, refl);
  journal = same_journal c.args.kept.now;
}

pub loop-heads-preserved : goal.loop-heads-preserved
loop-heads-preserved g c = record {
  told =
      grows_by_one (λ (heads : ItemHeads). TellsEdit c.args.view.now heads.versions.items) c.args.items.now c.loop-heads.heads-index c.heads-item.result (replica_of c.args.kept.now) (replica_of c.loop-heads.kept) (replica_of c.tell_edit.new.kept) c.loop-heads-test.true c.heads-item.is c.loop-heads.invariant.told
      (subst (λ vs. Grows (TellsEdit c.args.view.now vs) (replica_of c.loop-heads.kept) (replica_of c.tell_edit.new.kept)) c.deref.ensures.value c.in_ok-tell_edit.ensures.told);
  journal = same_then c.args.kept.now c.loop-heads.kept c.tell_edit.new.kept c.loop-heads.invariant.journal c.tell_edit.ensures.journal;
}

pub returns-in_err-tell_edit-clause-journal : goal.returns-in_err-tell_edit-clause-journal
returns-in_err-tell_edit-clause-journal g c = same_then c.args.kept.now c.loop-heads.kept c.tell_edit.new.kept c.loop-heads.invariant.journal c.tell_edit.ensures.journal
