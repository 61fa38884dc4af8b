use Rattle.std.proofs.Common.{arith}
use Rattle.mr_concise.proofs.SweepLemmas.{GatheredTo-none, GatheredTo-put, GatheredTo-skip, GatheredTo-whole}
use Rattle.mr_concise.proofs.sweep.gathered_columns.Goals as goal
use Rattle.mr_concise.proofs.sweep.gathered_columns.Goals.{then-upto-gt0+in_ok-put, else-upto-gt0}

pub loop-author-preserved : goal.loop-author-preserved
loop-author-preserved g c = rw c.id-id.ensures.is (elim c.if-upto-gt0.branch [
  | then-upto-gt0+in_ok-put w ↦ rw (w.columns-is, w.in_ok-put.ensures.ok) (GatheredTo-put (g.S.Source.has c.args.source.now) c.loop-author.columns.items c.loop-author.id c.in-Some.author c.in_ok-column.column c.loop-author.invariant c.in-Some.ensures c.in_ok-column.ensures.column c.in_ok-column.ensures.means (let t = w.if-upto-gt0.true in let u = c.upto.ensures in omega arith))
  | else-upto-gt0 w ↦ rw w.columns-is (GatheredTo-skip (g.S.Source.has c.args.source.now) c.loop-author.columns.items c.loop-author.id c.in-Some.author c.in_ok-column.column c.loop-author.invariant c.in-Some.ensures c.in_ok-column.ensures.means (let f = w.if-upto-gt0.false in let u = c.upto.ensures in omega arith))
])

pub loop-author-init : goal.loop-author-init
loop-author-init g c = rw c.new-columns.ensures.items (GatheredTo-none (g.S.Source.has c.args.source.now))

pub returns-clause-vector : goal.returns-clause-vector
returns-clause-vector g c = c.loop-author.invariant.vector

pub returns-clause-means : goal.returns-clause-means
returns-clause-means g c = GatheredTo-whole (g.S.Source.has c.args.source.now) c.loop-author.columns.items c.loop-author.id c.loop-author.invariant c.in_default.ensures
