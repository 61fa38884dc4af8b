use Rattle.std.proofs.Common.{◌≡◌, false, sym, subst, take}
use Rattle.mr_concise.specs.Next.{IsNextOut}
use Rattle.mr_store.proofs.Names.{IsPassed, IsPassed-more, Versions, by_held, in_any, in_any-more_is, of_author}
use Rattle.mr_store.proofs.HeldVersionLemmas.{looked_up}
use Rattle.mr_store.proofs.held_versions.passed.Goals as goal

pub loop-version-preserved : goal.loop-version-preserved
loop-version-preserved c =
    let held = by_held c.args.store.now in
    let vs = c.args.versions.now in
    let k = c.loop-version.version-index in
    let v = c.version-item.result in
    let at = c.loop-version.at in
    let same = looked_up c.args.store.now v c.held.result c.held.ensures in
    let next : IsNextOut (of_author (held v) c.args.author) at c.next_out-at.result = subst (λ (t : Versions). IsNextOut (of_author t c.args.author) at c.next_out-at.result) same c.next_out-at.ensures.next in
    let zero : of_author (held v) c.args.author 0 ≡ false = subst (λ (t : Versions). of_author t c.args.author 0 ≡ false) same c.next_out-at.ensures.zero in
    subst (λ (t : Versions). IsPassed (of_author t c.args.author) c.args.from c.next_out-at.result) (sym (in_any-more_is held vs k v c.loop-version-test.true c.version-item.is))
    (IsPassed-more (of_author (in_any held (take k vs)) c.args.author) (of_author (held v) c.args.author) c.args.from at c.next_out-at.result c.loop-version.invariant next c.next_out-at.ensures.bound zero)
