use Rattle.std.proofs.Common.{List, sym, ◌∙◌}
use Rattle.mr_lookup.proofs.Names.{Event, at_drop_all, versions_after, versions_told}
use Rattle.mr_lookup.proofs.VersionLemmas.{found, newest_of}
use Rattle.mr_lookup.proofs.versions.newest_in.Goals as goal

pub returns : goal.returns
returns c =
    let log = c.args.log.now in
    let loop = c.loop-event in
    found (versions_told c.args.id log) c.args.author loop.newest
    (sym (at_drop_all (λ (es : List Event). newest_of c.args.author loop.newest (versions_after c.args.id loop.issued es)) log loop.event-index c.loop-event-test.false) ∙ loop.invariant.left)
