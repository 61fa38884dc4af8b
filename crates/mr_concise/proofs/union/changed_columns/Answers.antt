use Rattle.std.proofs.Common.{take_all}
use Rattle.mr_concise.proofs.ChangeLemmas.{ChangedTo-begin, ChangedTo-push, ChangedTo-skip}
use Rattle.mr_concise.proofs.Names.{HasManyHoles, column_of}
use Rattle.mr_concise.proofs.ManyLemmas.{if-none, many-merged}
use Rattle.mr_concise.proofs.MergeLemmas.{has_one}
use Rattle.mr_concise.proofs.union.changed_columns.Goals as goal
use Rattle.mr_concise.proofs.union.changed_columns.Goals.{then-not-covers+in_ok-column+in-Some+in_ok-push, else-not-covers}

pub loop-x-init : goal.loop-x-init
loop-x-init c = ChangedTo-begin c.args.a.now c.args.b.now c.new-changed.result.items c.requires.a c.new-changed.ensures.items

pub loop-x-preserved : goal.loop-x-preserved
loop-x-preserved c =
    elim c.if-not-covers.branch [
      | then-not-covers+in_ok-column+in-Some+in_ok-push w ↦
          let normal = rw w.in-Some.is at w.in_ok-column.ensures.column in
          let of = rw (w.in-Some.is, c.column_at-had.ensures, c.lent-added.ensures) at w.in_ok-column.ensures.means in
          rw (w.changed-is, w.in_ok-push.ensures.items) (ChangedTo-push c.args.a.now c.args.b.now c.loop-x.changed.items c.loop-x.x-index c.x-item.result w.in-Some.column c.requires.b c.loop-x-test.true c.x-item.is c.loop-x.invariant normal of)
      | else-not-covers w ↦ rw w.changed-is (ChangedTo-skip c.args.a.now c.args.b.now c.loop-x.changed.items c.loop-x.x-index c.x-item.result c.requires.b c.loop-x-test.true c.x-item.is c.loop-x.invariant (rw (c.column_at-had.ensures, c.lent-added.ensures) at (c.covers.ensures.0 w.if-not-covers.false)))
    ]

pub returns-clause-united : goal.returns-clause-united
returns-clause-united c = let all = take_all c.loop-x.x-index c.args.b.now c.loop-x-test.false in rw all at c.loop-x.invariant.united

pub returns-in_default-clause-many : goal.returns-in_default-clause-many
returns-in_default-clause-many c =
    let both = has_one (column_of c.args.a.now c.x-item.result.author) c.x-item.result.column in
    let many = rw (c.column_at-had.ensures, c.lent-added.ensures) at c.in_ok-column.ensures.many in
    many-merged c.args.a.now c.args.b.now c.loop-x.x-index c.x-item.result c.requires.b c.loop-x-test.true c.x-item.is (if-none {P = HasManyHoles both} c.in_ok-column.field-0 c.in_default.not-Some many)
