use Rattle.std.proofs.Common.{sym, ◌∙◌, ap, take_all}
use Rattle.mr_concise.specs.Vector.{vector_has}
use Rattle.mr_concise.proofs.UnionLemmas.{item-IsColumn}
use Rattle.mr_concise.proofs.RunLemmas.{RunsOfFirst-none, RunsOfFirst-more}
use Rattle.mr_concise.proofs.set.ConciseVectorVersionSet.columns.Goals as goal

pub push_runs-requires-clause-column : goal.push_runs-requires-clause-column
push_runs-requires-clause-column c = (item-IsColumn 0 c.self.inside.columns.items c.loop-x.x-index c.x-item.result c.self.invariant (rw c.deref-x-items.ensures.value at c.loop-x-test.true) (rw c.deref-x-items.ensures.value at c.x-item.is)).0

pub push_runs-requires-clause-some : goal.push_runs-requires-clause-some
push_runs-requires-clause-some c = (item-IsColumn 0 c.self.inside.columns.items c.loop-x.x-index c.x-item.result c.self.invariant (rw c.deref-x-items.ensures.value at c.loop-x-test.true) (rw c.deref-x-items.ensures.value at c.x-item.is)).1

pub loop-x-preserved : goal.loop-x-preserved
loop-x-preserved c = RunsOfFirst-more c.args.self.now c.loop-x.x-index c.x-item.result c.loop-x.runs.items c.push_runs.new.runs.items (rw c.self.view_is at c.self.invariant) (rw (c.deref-x-items.ensures.value, c.self.view_is) at c.loop-x-test.true) (rw (c.deref-x-items.ensures.value, c.self.view_is) at c.x-item.is) c.loop-x.invariant c.in_ok-push_runs.ensures

pub loop-x-init : goal.loop-x-init
loop-x-init c = rw c.in_ok-runs.ensures.items (RunsOfFirst-none c.args.self.now)

pub returns-clause-ok : goal.returns-clause-ok
returns-clause-ok c = record {
  have = λ v. sym (c.loop-x.invariant.have v ∙ ap (λ xs. vector_has xs v) (take_all c.loop-x.x-index c.args.self.now (rw (c.deref-x-items.ensures.value, c.self.view_is) at c.loop-x-test.false)));
  apart = c.loop-x.invariant.apart;
}
