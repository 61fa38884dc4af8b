use Rattle.std.proofs.Common.{map, ap, sym, ◌∙◌}
use Rattle.mr_compare.proofs.Names.{differ, not, view_at, view_eq}
use Rattle.mr_compare.proofs.HeldLemmas.{all-map}
use Rattle.mr_compare.proofs.held.do_differ.Goals as goal

pub returns-in-Some : goal.returns-in-Some
returns-in-Some c =
    ap not (c.are_like.ensures ∙ sym (all-map (view_eq c.in-Some.first.now.view) c.in-Some.others.now))
    ∙ sym (ap (λ hs. differ (map view_at hs)) c.in-Some.ensures.cases.0)
