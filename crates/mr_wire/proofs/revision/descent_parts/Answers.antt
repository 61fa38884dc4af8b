use Rattle.mr_wire.proofs.DescentLemmas.{stands_parts}
use Rattle.mr_wire.proofs.revision.descent_parts.Goals as goal

pub returns : goal.returns
returns c =
    stands_parts c.args.input.now c.version.new.self c.version-2.new.self c.watched_vector.new.input c.in_ok-item.item c.in_ok-version.version c.in_ok-item.ensures c.in_ok-version.ensures
    (record { version = c.of.result; item = c.of-2.result }) c.in_ok-below.told c.in_ok-below.below c.in_ok-below.ensures c.of.ensures c.of-2.ensures c.fits.result c.fits.ensures c.if-not-fits.false
