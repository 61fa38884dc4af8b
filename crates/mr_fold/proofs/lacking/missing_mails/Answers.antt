use Rattle.std.proofs.Common.{arith}
use Rattle.std.proofs.lemmas.Grind.{common_steps}
use Rattle.mr_fold.proofs.lacking.missing_mails.Goals as goal

pub loop-mail-preserved : goal.loop-mail-preserved
loop-mail-preserved c = λ digest. grind (arith, common_steps, c.loop-mail.invariant digest, c.in_ok-stored.ensures c.mail-item.result.digest)
