use Rattle.mr_maildir.proofs.MergingLemmas.{has_label-merged, has_flag-merged, merged-moved, merged-all_alike}
use Rattle.mr_maildir.proofs.merging.merged.Goals as goal

pub returns-clause-labels : goal.returns-clause-labels
returns-clause-labels c = λ label. has_label-merged c.args.ancestor.now c.args.heads.now c.requires label

pub returns-clause-flags : goal.returns-clause-flags
returns-clause-flags c = λ flag. has_flag-merged c.args.ancestor.now c.args.heads.now flag

pub returns-clause-any_order : goal.returns-clause-any_order
returns-clause-any_order c = λ others moved. merged-moved c.args.ancestor.now c.args.heads.now others moved

pub returns-clause-alike : goal.returns-clause-alike
returns-clause-alike c =
    λ head more is alike. merged-all_alike c.args.ancestor.now c.args.heads.now head more is alike
