use Rattle.mr_lookup.specs.Versions.{versions_told}
use Rattle.mr_sync.proofs.MarkLaws.{told_of}
use Rattle.mr_sync.proofs.marks.message_told.Goals as goal

pub returns : goal.returns
returns c =
    let s = c.args.replica.now in
    told_of (versions_told s.id s.log) c.args.author c.args.counter _ c.in_ok-version_of.ensures.some c.in_ok-version_of.ensures.is c.told_message.result c.told_message.ensures
