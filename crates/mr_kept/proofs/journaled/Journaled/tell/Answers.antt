use Rattle.std.proofs.Common.{◌+◌, ◌∙◌, inl, inr, ℕ, subst, sym}
use Rattle.mr_kept.proofs.TellLemmas.{GivenSoFar, end_given, enough_given, one_given, refused_by}
use Rattle.mr_kept.proofs.journaled.Journaled.tell.Goals as goal

pub returns-then-left-eq0-clause-told : goal.returns-then-left-eq0-clause-told
returns-then-left-eq0-clause-told g c =
    let a = c.args in
    enough_given g.K.Knowledge.form a.stream a.records a.bytes a.self.now c.loop.self c.loop.counter c.loop.left c.loop.invariant (inr c.if-left-eq0.true)

pub returns-in_err-given-clause-told : goal.returns-in_err-given-clause-told
returns-in_err-given-clause-told g c =
    let a = c.args in
    let refused = c.in_err-given.ensures.refused in
    refused_by g.K.Knowledge.form a.stream a.records a.bytes c.loop.invariant c.loop-test.true c.if-left-eq0.false c.give.new.self c.in_err-given.field-0.0 c.from_residual.result refused.0 refused.1 c.from_residual.ensures.1

pub returns-then-given-clause-told : goal.returns-then-given-clause-told
returns-then-given-clause-told g c =
    let a = c.args in
    let one = c.in_ok-given.ensures.gives in
    end_given g.K.Knowledge.form a.stream a.records a.bytes c.loop.invariant c.loop-test.true c.if-left-eq0.false c.give.new.self one.0 (sym one.2 ∙ c.if-given.true) one.3 one.4 c.in_ok-given.ensures.sound

pub loop-preserved : goal.loop-preserved
loop-preserved g c =
    let a = c.args in
    let one = c.in_ok-given.ensures.gives in
    let next = one_given g.K.Knowledge.form a.stream a.records a.bytes c.loop.invariant c.loop-test.true c.if-left-eq0.false c.give.new.self c.in_ok-given.given.size one.0 one.1
    (sym one.2 ∙ c.if-given.false) one.3 one.4 c.in_ok-given.ensures.sound c.give.ensures.journal in
    subst (λ (n : ℕ). GivenSoFar g.K.Knowledge.form a.stream a.records a.bytes a.self.now c.give.new.self (c.loop.counter + 1) n) (sym c.saturating_sub-left.ensures) next

pub returns-clause-told : goal.returns-clause-told
returns-clause-told g c =
    let a = c.args in
    enough_given g.K.Knowledge.form a.stream a.records a.bytes a.self.now c.loop.self c.loop.counter c.loop.left c.loop.invariant (inl c.loop-test.false)
