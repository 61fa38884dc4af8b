use Rattle.std.proofs.Common.{arith, ap, ◌≡◌, ◌+◌, ◌-◌, ◌<◌, ◌≤◌, List, [], ◌∷◌, ◌++◌, length, length-append}
use Rattle.mr_concise.proofs.Names.{Hole, MAX_HOLES, gap}
use Rattle.mr_concise.proofs.InsertLemmas.{gap-one, gap-none}
use Rattle.mr_concise.proofs.AppendLemmas.{IsColumn-appended}
use Rattle.mr_concise.proofs.column.Column.append.Goals as goal
use Rattle.mr_concise.proofs.column.Column.append.Goals.{then-self-run+else-len-ge-MAX_HOLES+in_ok-push, else-self-run}

pub invariant_of-self-2 : goal.invariant_of-self-2
invariant_of-self-2 c =
    let above : c.self.inside.upto < c.args.run.first = rw (← c.self.view_is) at c.requires in
    let holes : c.if-self-run.self-inside.holes.items ≡ c.self.inside.holes.items ++ gap (c.self.inside.upto + 1) (c.args.run.first - 1) = elim c.if-self-run.branch [
      | then-self-run+else-len-ge-MAX_HOLES+in_ok-push w ↦ rw (w.self-inside-is, w.in_ok-push.ensures.items) (gap-one (c.self.inside.upto + 1) (c.args.run.first - 1) c.self.inside.holes.items (let t = w.if-self-run.true in omega arith))
      | else-self-run w ↦ rw w.self-inside-is (gap-none (c.self.inside.upto + 1) (c.args.run.first - 1) c.self.inside.holes.items (let t = w.if-self-run.false in omega arith))
    ] in
    let few : length c.if-self-run.self-inside.holes.items ≤ MAX_HOLES = elim c.if-self-run.branch [
      | then-self-run+else-len-ge-MAX_HOLES+in_ok-push w ↦ rw (w.self-inside-is, w.in_ok-push.ensures.items) (let k = length-append c.self.inside.holes.items ((record { first = c.self.inside.upto + 1; last = c.args.run.first - 1 }) ∷ []) in let roomy = w.if-len-ge-MAX_HOLES.false in let len = w.len.ensures in omega arith)
      | else-self-run w ↦ rw w.self-inside-is c.self.invariant.few
    ] in
    IsColumn-appended (record { upto = c.self.inside.upto; holes = c.self.inside.holes.items }) c.args.run.first c.args.run.last c.if-self-run.self-inside.holes.items c.self.invariant above c.args.run.ordered c.args.run.in_range holes few

pub returns : goal.returns
returns c _ =
    let above : c.self.inside.upto < c.args.run.first = rw (← c.self.view_is) at c.requires in
    let holes : c.if-self-run.self-inside.holes.items ≡ c.self.inside.holes.items ++ gap (c.self.inside.upto + 1) (c.args.run.first - 1) = elim c.if-self-run.branch [
      | then-self-run+else-len-ge-MAX_HOLES+in_ok-push w ↦ rw (w.self-inside-is, w.in_ok-push.ensures.items) (gap-one (c.self.inside.upto + 1) (c.args.run.first - 1) c.self.inside.holes.items (let t = w.if-self-run.true in omega arith))
      | else-self-run w ↦ rw w.self-inside-is (gap-none (c.self.inside.upto + 1) (c.args.run.first - 1) c.self.inside.holes.items (let t = w.if-self-run.false in omega arith))
    ] in
    let few : length c.if-self-run.self-inside.holes.items ≤ MAX_HOLES = elim c.if-self-run.branch [
      | then-self-run+else-len-ge-MAX_HOLES+in_ok-push w ↦ rw (w.self-inside-is, w.in_ok-push.ensures.items) (let k = length-append c.self.inside.holes.items ((record { first = c.self.inside.upto + 1; last = c.args.run.first - 1 }) ∷ []) in let roomy = w.if-len-ge-MAX_HOLES.false in let len = w.len.ensures in omega arith)
      | else-self-run w ↦ rw w.self-inside-is c.self.invariant.few
    ] in
    (rw (← c.self.view_is) (ap (λ (hs : List Hole). record { upto = c.args.run.last; holes = hs }) holes), IsColumn-appended (record { upto = c.self.inside.upto; holes = c.self.inside.holes.items }) c.args.run.first c.args.run.last c.if-self-run.self-inside.holes.items c.self.invariant above c.args.run.ordered c.args.run.in_range holes few)
