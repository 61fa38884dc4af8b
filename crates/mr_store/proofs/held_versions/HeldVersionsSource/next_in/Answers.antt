use Rattle.std.proofs.Common.{sym, subst, take, take_all}
use Rattle.mr_store.proofs.Names.{NextIn, NextIn-lower, Versions, bound-lower, by_held, in_any, in_any-more_is, of_author}
use Rattle.mr_store.proofs.HeldVersionLemmas.{looked_up}
use Rattle.mr_store.proofs.held_versions.HeldVersionsSource.next_in.Goals as goal

pub loop-version-preserved : goal.loop-version-preserved
loop-version-preserved c =
    let held = by_held c.args.self.now.store.now in
    let vs = c.args.self.now.versions.now in
    let k = c.loop-version.version-index in
    let v = c.version-item.result in
    let one : NextIn (of_author (held v) c.args.author) c.args.from c.next_in.result = subst (λ (t : Versions). NextIn (of_author t c.args.author) c.args.from c.next_in.result) (looked_up c.args.self.now.store.now v c.held.result c.held.ensures) c.next_in.ensures.next in
    record {
      next = subst (λ (t : Versions). NextIn (of_author t c.args.author) c.args.from c.lower_counter-next.result) (sym (in_any-more_is held vs k v c.loop-version-test.true c.version-item.is))
          (rw c.lower_counter-next.ensures (NextIn-lower (of_author (in_any held (take k vs)) c.args.author) (of_author (held v) c.args.author) c.args.from c.loop-version.next c.next_in.result c.loop-version.invariant.next one));
      bound = rw c.lower_counter-next.ensures (bound-lower 1000000 c.loop-version.next c.next_in.result c.loop-version.invariant.bound c.next_in.ensures.bound);
    }

pub returns-clause-next : goal.returns-clause-next
returns-clause-next c = let all = take_all c.loop-version.version-index c.args.self.now.versions.now c.loop-version-test.false in rw all at c.loop-version.invariant.next
