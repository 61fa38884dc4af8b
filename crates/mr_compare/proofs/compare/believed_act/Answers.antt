use Rattle.mr_compare.proofs.BelievedLemmas.{where_deleted, where_created, where_edited, where_undeleted, where_lacking}
use Rattle.mr_compare.proofs.compare.believed_act.Goals as goal

pub returns : goal.returns
returns c =
    let r = c.judged_act.result in
    let mail = c.args.mail.now in
    let is = c.judged_act.ensures in
    record {
      value = is;
      deletes = where_deleted r mail is;
      creates = where_created r mail is;
      edits = where_edited r mail is;
      left_the_filter = where_undeleted r mail is;
      lacking = where_lacking r mail is;
    }
