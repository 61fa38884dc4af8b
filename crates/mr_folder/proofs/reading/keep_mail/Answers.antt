use Rattle.mr_folder.proofs.KeepLemmas.{kept_synced}
use Rattle.mr_folder.proofs.reading.keep_mail.Goals as goal

pub returns-clause-kept : goal.returns-clause-kept
returns-clause-kept g c = λ told is.
    kept_synced c.args.digest.now _ c.in_ok-path.ensures (c.has_mail.ensures.untouched told) (c.sync.ensures.untouched told) (c.sync_path.ensures.untouched told) ((c.in_ok-has_mail.ensures.has told).0 c.if-not-branch.false) (c.in_ok-sync.ensures.durable told) (c.in_ok-sync_path.ensures.durable told)
