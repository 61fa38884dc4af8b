use Rattle.std.proofs.Common.{◌≡◌, ◌∙◌, ◌++◌, take, drop, arith, sym, ap, List}
use Rattle.std.proofs.lemmas.Grind.{common_steps}
use Rattle.std.proofs.lemmas.List.{take-append-drop}
use Rattle.mr_replica.specs.declared.event.Event.{Event}
use Rattle.mr_audit.proofs.BeginningLemmas.{replayed_beginning}
use Rattle.mr_audit.proofs.beginning.beginning_of.Goals as goal

pub returns-in-Ok-clause-beginning : goal.returns-in-Ok-clause-beginning
returns-in-Ok-clause-beginning g c =
    let log = c.args.end.now.log in
    let n = c.args.events in
    let first : c.in_ok-first.first.items ≡ take n log = grind (arith, common_steps) in
    let whole : log ≡ c.in_ok-first.first.items ++ drop n log = sym (take-append-drop n log) ∙ ap (λ (l : List Event). l ++ drop n log) (sym first) in
    replayed_beginning g.K.Knowledge.form c.args.end.now c.in-Ok.start c.id.result c.in_ok-copy.field-0 c.event_limit.result c.in_ok-first.first.items (drop n log)
    c.id.ensures (c.in_ok-copy.ensures ∙ c.filter.ensures) c.event_limit.ensures.is c.in-Ok.ensures.replayed c.in-Ok.ensures.is_its_log c.in-Ok.ensures.log whole
