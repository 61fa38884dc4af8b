use Rattle.std.proofs.Common.{◌∙◌, ap}
use Rattle.mr_maildir.specs.Merging.{differ}
use Rattle.mr_maildir.proofs.MergingLemmas.{differ-alike}
use Rattle.mr_maildir.proofs.heads.is_merge_due.Goals as goal

pub returns-clause-alike : goal.returns-clause-alike
returns-clause-alike c =
    λ head more alike. c.do_differ.ensures ∙ (ap differ alike ∙ differ-alike head more)
