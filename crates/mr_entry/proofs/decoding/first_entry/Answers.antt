use Rattle.mr_entry.proofs.EntryLaws.{left_within}
use Rattle.mr_entry.proofs.decoding.first_entry.Goals as goal

pub overflow_sub-result : goal.overflow_sub-result
overflow_sub-result c = left_within _ _ _ _ _ c.len.ensures c.new-input.ensures c.in_ok-entry.ensures
