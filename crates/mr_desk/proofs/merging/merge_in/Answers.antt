use Rattle.std.proofs.Common.{◌∙◌}
use Rattle.mr_desk.proofs.MergeLemmas.{merge-named}
use Rattle.mr_desk.proofs.merging.merge_in.Goals as goal

pub returns : goal.returns
returns c = merge-named c.args.replica.now c.args.item c.heads.result.now c.feed.result.now c.new-item.result c.merge_of.result c.in_ok-version.ensures.0 (c.new-item.ensures ∙ c.in_ok-version.ensures.1) c.heads.ensures.all c.feed.ensures.all c.merge_of.ensures
