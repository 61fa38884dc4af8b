use Rattle.std.proofs.Common.{rules, tests}
use Rattle.mr_draw.proofs.Names.{YieldsList-from_filter_map, YieldsList-from_slice, items_from_collect}
use Rattle.mr_draw.specs.Notes.{gave_by}
use Rattle.mr_draw.proofs.notes.records.Goals as goal

pub returns : goal.returns
returns c =
    items_from_collect _ c.collect.ensures.ran
    (YieldsList-from_filter_map _ gave_by (YieldsList-from_slice c.args.answers.now (cc)) c.filter_map.ensures.closure (λ x r q k. search (rules, tests)))
