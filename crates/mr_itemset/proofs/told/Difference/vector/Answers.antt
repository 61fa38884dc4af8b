use Rattle.std.proofs.Common.{arith}
use Rattle.mr_concise.specs.Vector.{vector_has}
use Rattle.mr_itemset.proofs.ToldWalk.{told_push, told_skip, told_whole}
use Rattle.mr_itemset.proofs.told.Difference.vector.Goals as goal
use Rattle.mr_itemset.proofs.told.Difference.vector.Goals.{then-upto-gt0+in_ok-push, else-upto-gt0}

pub loop-author-preserved : goal.loop-author-preserved
loop-author-preserved c = rw c.id-id.ensures.is (elim c.if-upto-gt0.branch [
  | then-upto-gt0+in_ok-push w ↦ rw (w.columns-is, w.in_ok-push.ensures.items) (told_push (vector_has c.args.self.now.all.now) (vector_has c.args.self.now.own.now) c.loop-author.columns.items c.loop-author.id c.in-Some.author c.in_ok-column.column c.loop-author.invariant c.in-Some.ensures c.in_ok-column.ensures.told c.in_ok-column.ensures.column (let t = w.if-upto-gt0.true in let u = c.upto.ensures in omega arith))
  | else-upto-gt0 w ↦ rw w.columns-is (told_skip (vector_has c.args.self.now.all.now) (vector_has c.args.self.now.own.now) c.loop-author.columns.items c.loop-author.id c.in-Some.author c.in_ok-column.column c.loop-author.invariant c.in-Some.ensures c.in_ok-column.ensures.told (let f = w.if-upto-gt0.false in let u = c.upto.ensures in omega arith))
])

pub loop-author-preserved-then-if-drop : goal.loop-author-preserved-then-if-drop
loop-author-preserved-then-if-drop c = rw c.id-id.ensures.is (elim c.if-upto-gt0.branch [
  | then-upto-gt0+in_ok-push w ↦ rw (w.columns-is, w.in_ok-push.ensures.items) (told_push (vector_has c.args.self.now.all.now) (vector_has c.args.self.now.own.now) c.loop-author.columns.items c.loop-author.id c.in-Some.author c.in_ok-column.column c.loop-author.invariant c.in-Some.ensures c.in_ok-column.ensures.told c.in_ok-column.ensures.column (let t = w.if-upto-gt0.true in let u = c.upto.ensures in omega arith))
  | else-upto-gt0 w ↦ rw w.columns-is (told_skip (vector_has c.args.self.now.all.now) (vector_has c.args.self.now.own.now) c.loop-author.columns.items c.loop-author.id c.in-Some.author c.in_ok-column.column c.loop-author.invariant c.in-Some.ensures c.in_ok-column.ensures.told (let f = w.if-upto-gt0.false in let u = c.upto.ensures in omega arith))
])

pub returns-clause-vector : goal.returns-clause-vector
returns-clause-vector c = rw c.from_columns.ensures c.loop-author.invariant.vector

pub returns-clause-told : goal.returns-clause-told
returns-clause-told c = rw c.from_columns.ensures (told_whole (vector_has c.args.self.now.all.now) (vector_has c.args.self.now.own.now) c.loop-author.columns.items c.loop-author.id c.loop-author.invariant c.in_default.ensures)
