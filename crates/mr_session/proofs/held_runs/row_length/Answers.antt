use Rattle.std.proofs.Common.{rules, ◌<◌, ◌+◌, ◌-◌, length, sym, ◌∙◌, ap}
use Rattle.mr_session.proofs.Names.{Name, counter_on, name_eq}
use Rattle.mr_session.proofs.RowLemmas.{row_up_to, found_on}
use Rattle.mr_session.proofs.held_runs.row_length.Goals as goal

pub loop-low-preserved-then-is_on : goal.loop-low-preserved-then-is_on
loop-low-preserved-then-is_on c =
    let rs = c.args.revisions.now in
    let first = c.args.first in
    let probe = c.loop-low.low + c.min.result - 1 in
    let within : probe < length rs = search rules in
    let on = ap (λ (v : Name). name_eq v (counter_on first probe)) (sym c.version.ensures) ∙ (sym c.is_on.ensures ∙ c.if-is_on.true) in
    record {
      some = search rules;
      ordered = search rules;
      within = c.loop-low.invariant.within;
      step = search rules;
      row = row_up_to rs first probe c.requires.in_order within c.requires.first (found_on rs first probe c.index-revisions-probe.result within c.index-revisions-probe.is on);
    }
