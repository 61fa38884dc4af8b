use Rattle.std.proofs.Common.{rules}
use Rattle.std.proofs.lemmas.List.Sorted.{answers_always}
use Rattle.mr_madewith.specs.Trail.{item_of_last}
use Rattle.mr_madewith.proofs.Found.{searched}
use Rattle.mr_madewith.proofs.trail.search.Goals as goal

-- the closure gives the item
pub returns : goal.returns
returns c =
    let facts = c.binary_search_by_key.ensures in
    let by_item = facts.position item_of_last (answers_always _ _ _ (λ f a r g called. search rules)) in
    searched item_of_last c.args.item c.args.lasts.now c.requires _ facts.bound by_item
