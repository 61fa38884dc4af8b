use Rattle.std.proofs.Common.{codes, string_bytes}
use Rattle.mr_draw.specs.Escape.{escaped}
use Rattle.mr_draw.proofs.ListLemmas.{joined2, joined3}
use Rattle.mr_draw.proofs.sheet.push_title.Goals as goal

pub returns : goal.returns
returns c =
    let front = joined3 (string_bytes c.args.svg.now) _ _ _ (codes "<g class='name'><title>") (escaped c.args.name.now) (codes ": ")
    c.in_ok-push_str.ensures.bytes c.in_ok-push_escaped.ensures c.in_ok-push_str-2.ensures.bytes in
    joined2 _ _ _ _ (escaped c.args.filter.now) front c.in_ok-push_escaped-2.ensures
