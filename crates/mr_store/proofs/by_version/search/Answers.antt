use Rattle.std.proofs.Common.{rules}
use Rattle.mr_store.proofs.Names.{answers_always, searched, version_of}
use Rattle.mr_store.proofs.by_version.search.Goals as goal

-- the closure gives a revision's version
pub returns : goal.returns
returns c =
    let facts = c.binary_search_by_key.ensures in
    let by_version = facts.position version_of (answers_always _ _ _ (λ f a r g called. search rules)) in
    searched version_of c.args.version c.args.revisions.now c.requires _ facts.bound by_version
