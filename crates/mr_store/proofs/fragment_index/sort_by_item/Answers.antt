use Rattle.std.proofs.Common.{rules}
use Rattle.mr_store.proofs.Names.{answers_always, item_of}
use Rattle.mr_store.proofs.fragment_index.sort_by_item.Goals as goal

pub returns-clause-sorted : goal.returns-clause-sorted
returns-clause-sorted c = c.sort_unstable_by_key.ensures.sorted item_of (answers_always _ _ _ (λ f a r g called. search rules))
