use Rattle.std.proofs.Common.{◌≡◌, ◌⊎◌, inl, ℕ, ◌+◌, ◌++◌, ◌∷◌, [], List, length, OnOk, sym, subst, arith, length-append}
use Rattle.mr_journal.proofs.Names.{IsStaged, Rests}
use Rattle.mr_journal.proofs.Crashes.{staged, staged_written, gate, gate_written}
use Rattle.mr_journal.proofs.Moments.{widened, joined}
use Rattle.mr_journal.proofs.steps.publish.Goals as goal

pub returns-in_err-put-clause-any_moment : goal.returns-in_err-put-clause-any_moment
returns-in_err-put-clause-any_moment g c = λ told front len rests.
    let P : List ℕ → Type 0 = λ f. IsStaged front (length c.args.staged.now) f ⊎ (f ≡ front ++ (c.args.opened ∷ c.args.staged.now)) in
    widened P (c.put.ensures.any_moment told _ rests) (λ f torn. inl (staged front c.args.staged.now (c.args.gate + 1) f (omega (arith, len)) torn))

pub returns-clause-done : goal.returns-clause-done
returns-clause-done g c = λ told front len rests.
    let at_end = c.in_ok-put.ensures.done told _ rests (omega (arith, len, length-append front (0 ∷ []))) in
    let behind = subst (λ (f : List ℕ). Rests g.D.Device.seen g.D.Device.may_leave f c.put.new.device) (staged_written front c.args.staged.now (c.args.gate + 1) (omega (arith, len))) at_end in
    let over = c.put-2.ensures.done told _ behind (omega (arith, len, length-append front (0 ∷ c.args.staged.now))) in
    subst (λ (f : List ℕ). OnOk c.put-2.result (Rests g.D.Device.seen g.D.Device.may_leave f c.put-2.new.device)) (gate_written front c.args.staged.now c.args.gate c.args.opened (sym len)) over

pub returns-clause-any_moment : goal.returns-clause-any_moment
returns-clause-any_moment g c = λ told front len rests.
    let P : List ℕ → Type 0 = λ f. IsStaged front (length c.args.staged.now) f ⊎ (f ≡ front ++ (c.args.opened ∷ c.args.staged.now)) in
    let at_end = c.in_ok-put.ensures.done told _ rests (omega (arith, len, length-append front (0 ∷ []))) in
    let behind = subst (λ (f : List ℕ). Rests g.D.Device.seen g.D.Device.may_leave f c.put.new.device) (staged_written front c.args.staged.now (c.args.gate + 1) (omega (arith, len))) at_end in
    let first = widened P (c.put.ensures.any_moment told _ rests) (λ f torn. inl (staged front c.args.staged.now (c.args.gate + 1) f (omega (arith, len)) torn)) in
    let second = widened P (c.put-2.ensures.any_moment told _ behind) (λ f torn. gate front c.args.staged.now c.args.gate c.args.opened f (sym len) torn) in
    joined first second
