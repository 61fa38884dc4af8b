use Rattle.std.proofs.Common.{ℕ, rules, tests}
use Rattle.std.proofs.lemmas.Iterator.Consumers.{YieldsList-from_enumerate}
use Rattle.mr_draw.proofs.Names.{Answered, YieldsList-from_filter_map, YieldsList-from_slice, happening_at, items_from_collect}
use Rattle.mr_draw.proofs.happening.happenings_by.Goals as goal

pub returns : goal.returns
returns c =
    items_from_collect _ c.collect.ensures.ran (YieldsList-from_filter_map _ (λ (p : ℕ × Answered). happening_at c.args.notes.now p.0 p.1)
    (YieldsList-from_enumerate (YieldsList-from_slice c.args.answers.now (cc)) (cc)) c.filter_map.ensures.closure (λ x r q k. search (rules, tests)))
