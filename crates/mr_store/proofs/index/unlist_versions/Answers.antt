use Rattle.std.proofs.Common.{not, rules}
use Rattle.mr_store.specs.Revisions.{holds}
use Rattle.mr_store.proofs.RetainLemmas.{lists_kept, keeps_room}
use Rattle.mr_store.proofs.index.unlist_versions.Goals as goal

pub returns-clause-lists : goal.returns-clause-lists
returns-clause-lists c = lists_kept (λ v. not (holds c.args.left.now v)) c.args.room _ _ (λ k v b w f' t. (search rules, record { items = search rules; fewer = search rules; capacity = search rules }, search rules)) c.args.index.now c.retain.new.self c.retain.ensures.was_ordered c.retain.ensures.filtered

pub returns-clause-room : goal.returns-clause-room
returns-clause-room c = keeps_room (λ v. not (holds c.args.left.now v)) c.args.room _ _ (λ k v b w f' t. (search rules, record { items = search rules; fewer = search rules; capacity = search rules }, search rules)) c.args.index.now c.retain.new.self c.retain.ensures.was_ordered c.retain.ensures.filtered
