use Rattle.std.proofs.Common.{◌∙◌, List, subst}
use Rattle.mr_desk.proofs.Names.{IsEditOver, Reads, Rev, edit_fault_over}
use Rattle.mr_desk.proofs.merging.merge_of.Goals as goal

pub returns : goal.returns
returns c = subst (λ (own : List Rev). Reads (Unit {0}) (edit_fault_over own c.args.feed.now) (IsEditOver own c.args.feed.now) c.edit_over.result) (c.deref.ensures.value ∙ c.in_ok-own.ensures) c.edit_over.ensures
