use Rattle.std.proofs.Common.{lit<}
use Rattle.mr_maildir.proofs.Names.{YieldsList-from_str_split, map_from_collect}
use Rattle.mr_maildir.proofs.lines.lines_in.Goals as goal

pub returns : goal.returns
returns c =
    map_from_collect _ c.collect.ensures.ran
    (YieldsList-from_str_split 10 c.args.text.now (lit< tt) c.split.ensures.text c.split.ensures.has_more c.split.ensures.pattern)
