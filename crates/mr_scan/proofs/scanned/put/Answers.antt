use Rattle.std.proofs.Common.{sym, ◌∙◌}
use Rattle.std.proofs.lemmas.Result.{on_ok_weaker}
use Rattle.mr_scan.proofs.ScanLemmas.{put_first, put_more}
use Rattle.mr_scan.proofs.scanned.put.Goals as goal

pub returns-in-Some : goal.returns-in-Some
returns-in-Some c =
    on_ok_weaker c.put_behind.result
    (put_more c.args.mails.now.entries c.insert.new.self.entries c.put_behind.new.mails.entries c.args.digest c.args.file c.in_ok-one.one c.in-Some.before
    c.in_ok-one.ensures (sym c.in_ok-before.ensures.old ∙ c.in-Some.is) c.in_ok-before.ensures.updates.0)
    c.put_behind.ensures

pub returns-in-None : goal.returns-in-None
returns-in-None c =
    put_first c.args.mails.now.entries c.insert.new.self.entries c.args.digest c.args.file c.in_ok-one.one
    c.in_ok-one.ensures (sym c.in_ok-before.ensures.old ∙ c.in-None.is) c.in_ok-before.ensures.updates.0
