use Rattle.std.proofs.Common.{string_bytes}
use Rattle.mr_maildir.proofs.CountsLemmas.{counts_pushed}
use Rattle.mr_maildir.proofs.counts.push_counts.Goals as goal

pub returns : goal.returns
returns c =
    counts_pushed c.args.own c.in-Some.first.now c.in-Some.others.now c.args.marks.now (string_bytes c.args.text.now) _ _ _ _
    c.in_ok-push_item.ensures c.in_ok-push_mark.ensures c.in_ok-push_marks_behind.ensures c.in_ok-push_str.ensures.bytes c.in-Some.ensures.cases.0
