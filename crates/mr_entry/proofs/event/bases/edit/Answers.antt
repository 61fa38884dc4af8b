use Rattle.mr_entry.proofs.EventLemmas.{stands_edit}
use Rattle.mr_entry.proofs.event.bases.edit.Goals as goal

pub returns : goal.returns
returns c =
    stands_edit c.args.input.now c.versions.new.input c.message.new.input c.in_ok-versions.versions c.in_ok-message.message c.edit_of.result c.in_ok-versions.ensures c.in_ok-message.ensures c.edit_of.ensures
