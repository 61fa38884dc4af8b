use Rattle.std.proofs.Common.{◌||◌, ◌∙◌, ap, sym, take_all}
use Rattle.mr_forms.proofs.Names.{false≢true, in_run, in_runs, is_listed}
use Rattle.mr_forms.proofs.ListLemmas.{list_any-here}
use Rattle.mr_forms.proofs.versions.versions_in.Goals as goal

pub returns-clause-versions : goal.returns-clause-versions
returns-clause-versions g c = c.loop-run.invariant.alone

pub loop-run-preserved : goal.loop-run-preserved
loop-run-preserved g c = record {
  have = λ v.
      c.in_ok-push_run.ensures.ok v
      ∙ ap (λ b. in_run c.run-item.result v || b) (c.loop-run.invariant.have v)
      ∙ sym (list_any-here (λ run. in_run run v) c.deref-run-items.result.now c.loop-run.run-index c.run-item.result c.loop-run-test.true c.run-item.is);
  alone = c.in_ok-push_run.ensures.versions c.loop-run.invariant.alone;
}

pub loop-run-init : goal.loop-run-init
loop-run-init g c = record {
  have = λ v. ap (λ xs. is_listed xs v) c.new-versions.ensures.items;
  alone = λ v listed. absurd (false≢true (sym (ap (λ xs. is_listed xs v) c.new-versions.ensures.items) ∙ listed));
}

pub returns-clause-ok : goal.returns-clause-ok
returns-clause-ok g c = λ v.
    c.loop-run.invariant.have v
    ∙ ap (λ runs. in_runs runs v) (take_all c.loop-run.run-index _ c.loop-run-test.false ∙ c.deref-run-items.ensures.value)
    ∙ sym (c.in_ok-columns.ensures.ok.have v)
