use Rattle.std.proofs.Common.{ap}
use Rattle.mr_desk.proofs.Names.{VersionNumbers, err_from_is_err_and, option_map}
use Rattle.mr_desk.specs.declared.fault.Fault.TheVariants as fault
use Rattle.mr_desk.proofs.VersionLemmas.{first-fault, named-more, versions-more}
use Rattle.mr_desk.proofs.event.versions_of.Goals as goal

pub returns-in_err-version : goal.returns-in_err-version
returns-in_err-version c =
    let p = err_from_is_err_and c.from_residual.result c.from_residual.ensures.1 in
    rw (p.1, p.2) (ap (option_map fault.Version) (first-fault c.args.numbers.now c.loop-named.named-index (record { author = 0; counter = 0 }) _ c.loop-named-test.true c.loop-named.invariant.named c.in_err-version.ensures))

pub loop-named-preserved : goal.loop-named-preserved
loop-named-preserved c =
    let ns = c.args.numbers.now in
    let k = c.loop-named.named-index in
    let zeros : VersionNumbers = record { author = 0; counter = 0 } in
    record {
      named = named-more ns k zeros c.loop-named-test.true c.loop-named.invariant.named c.in_ok-version.ensures.0;
      versions = versions-more ns k zeros c.loop-named.versions.items c.push.new.self.items c.in_ok-version.field-0 c.loop-named-test.true c.loop-named.invariant.versions c.in_ok-version.ensures.1 c.in_ok-push.ensures.items;
    }
