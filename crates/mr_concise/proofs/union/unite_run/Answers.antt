use Rattle.std.proofs.Common.{arith, refl}
use Rattle.mr_concise.proofs.ChangeLemmas.{many-run, few-run, run-united}
use Rattle.mr_concise.proofs.union.unite_run.Goals as goal

pub returns-then-has_many_holes-clause-holes : goal.returns-then-has_many_holes-clause-holes
returns-then-has_many_holes-clause-holes c = (λ _. many-run c.args.columns.now.items c.args.run (omega arith) (rw (c.column_at.ensures, c.deref.ensures.value) at (c.has_many_holes.ensures.many c.if-has_many_holes.true)), λ _. refl)

pub returns-in_default-clause-holes : goal.returns-in_default-clause-holes
returns-in_default-clause-holes c = (λ h. absurd (cc), λ many. absurd (few-run c.args.columns.now.items c.args.run c.requires.columns (rw (c.column_at.ensures, c.deref.ensures.value) at (c.has_many_holes.ensures.few c.if-has_many_holes.false)) many))

pub returns-in_default-put-clause-holes : goal.returns-in_default-put-clause-holes
returns-in_default-put-clause-holes c = (λ h. absurd (cc), λ many. absurd (few-run c.args.columns.now.items c.args.run c.requires.columns (rw (c.column_at.ensures, c.deref.ensures.value) at (c.has_many_holes.ensures.few c.if-has_many_holes.false)) many))

pub returns-clause-columns : goal.returns-clause-columns
returns-clause-columns c = (run-united c.args.columns.now.items c.put.new.columns.items c.args.run c.in-Ok.column c.requires.columns (omega arith) c.in-Ok.ensures.column (rw (c.column_at.ensures, c.deref.ensures.value) at c.in-Ok.ensures.means) c.in-Ok-put.ensures.ok).0

pub returns-clause-united : goal.returns-clause-united
returns-clause-united c = (run-united c.args.columns.now.items c.put.new.columns.items c.args.run c.in-Ok.column c.requires.columns (omega arith) c.in-Ok.ensures.column (rw (c.column_at.ensures, c.deref.ensures.value) at c.in-Ok.ensures.means) c.in-Ok-put.ensures.ok).1

pub returns-clause-holes : goal.returns-clause-holes
returns-clause-holes c = (λ h. absurd (cc), λ many. absurd (few-run c.args.columns.now.items c.args.run c.requires.columns (rw (c.column_at.ensures, c.deref.ensures.value) at (c.has_many_holes.ensures.few c.if-has_many_holes.false)) many))
