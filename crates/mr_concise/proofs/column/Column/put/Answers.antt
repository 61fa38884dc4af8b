use Rattle.std.proofs.Common.{arith, ◌+◌, ◌-◌}
use Rattle.mr_concise.proofs.InsertLemmas.{IsColumn-above, IsColumn-within, gap-one, gap-none}
use Rattle.mr_concise.proofs.column.Column.put.Goals as goal
use Rattle.mr_concise.proofs.column.Column.put.Goals.{then-counter-self-2+in_ok-push, else-counter-self-2}

pub invariant_of-self-then-counter-self : goal.invariant_of-self-then-counter-self
invariant_of-self-then-counter-self c =
    let few = rw (← c.self.view_is) at c.requires.few in
    elim c.if-counter-self-2.branch [
      | then-counter-self-2+in_ok-push w ↦ IsColumn-above c.self.inside.upto c.args.counter c.self.inside.holes.items c.if-counter-self-2.self-inside.holes.items c.self.invariant c.if-counter-self.true c.requires.counter.1 few (rw (w.self-inside-is, w.in_ok-push.ensures.items) (gap-one (c.self.inside.upto + 1) (c.args.counter - 1) c.self.inside.holes.items (let t = w.if-counter-self-2.true in omega arith)))
      | else-counter-self-2 w ↦ IsColumn-above c.self.inside.upto c.args.counter c.self.inside.holes.items c.if-counter-self-2.self-inside.holes.items c.self.invariant c.if-counter-self.true c.requires.counter.1 few (rw w.self-inside-is (gap-none (c.self.inside.upto + 1) (c.args.counter - 1) c.self.inside.holes.items (let t = w.if-counter-self-2.false in let u = c.if-counter-self.true in omega arith)))
    ]

pub invariant_of-self-in-Continue-branch-2 : goal.invariant_of-self-in-Continue-branch-2
invariant_of-self-in-Continue-branch-2 c =
    let few = rw (← c.self.view_is) at c.requires.few in
    IsColumn-within c.self.inside.upto c.args.counter c.self.inside.holes.items c.fill.new.holes.items c.self.invariant c.if-counter-self.false c.requires.counter.0 c.requires.counter.1 few c.in_ok-fill.ensures.ok
