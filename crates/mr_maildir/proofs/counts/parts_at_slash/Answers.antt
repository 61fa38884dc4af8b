use Rattle.std.proofs.Common.{Some, None}
use Rattle.mr_maildir.proofs.CountsLemmas.{count_cut}
use Rattle.mr_maildir.proofs.counts.parts_at_slash.Goals as goal

pub returns-in-Some : goal.returns-in-Some
returns-in-Some c = λ count is same. count_cut count c.args.text.now (Some (c.in-Some.front, c.in-Some.back)) c.in-Some.ensures.cases is same

pub returns-in-None : goal.returns-in-None
returns-in-None c = λ count is same. count_cut count c.args.text.now None c.in-None.ensures.cases is same
