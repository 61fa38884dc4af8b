use Rattle.std.proofs.Common.{sym, subst, take}
use Rattle.mr_store.proofs.Names.{NextAuthor, NextAuthor-lower, Versions, by_held, in_any, in_any-more_is}
use Rattle.mr_store.proofs.HeldVersionLemmas.{looked_up}
use Rattle.mr_store.proofs.held_versions.HeldVersionsSource.next_author.Goals as goal

pub loop-version-preserved : goal.loop-version-preserved
loop-version-preserved c =
    let held = by_held c.args.self.now.store.now in
    let vs = c.args.self.now.versions.now in
    let k = c.loop-version.version-index in
    let v = c.version-item.result in
    let one : NextAuthor (held v) c.args.id c.next_author.result = subst (λ (t : Versions). NextAuthor t c.args.id c.next_author.result) (looked_up c.args.self.now.store.now v c.held.result c.held.ensures) c.next_author.ensures in
    subst (λ (t : Versions). NextAuthor t c.args.id c.lower_author-next.result) (sym (in_any-more_is held vs k v c.loop-version-test.true c.version-item.is))
    (rw c.lower_author-next.ensures (NextAuthor-lower (in_any held (take k vs)) (held v) c.args.id c.loop-version.next c.next_author.result c.loop-version.invariant one))
