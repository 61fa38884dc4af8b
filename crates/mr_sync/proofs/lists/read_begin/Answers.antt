use Rattle.std.proofs.Common.{◌≡◌, ℕ, List, [], Some, length, ap, sym, ◌∙◌}
use Rattle.mr_sync.specs.inner.Lists.{begin_at}
use Rattle.mr_sync.proofs.ListLaws.{begin_spelled, begin_missed, begin_found}
use Rattle.mr_sync.proofs.lists.read_begin.Goals as goal

pub returns-in_err-found-clause-whole : goal.returns-in_err-found-clause-whole
returns-in_err-found-clause-whole c = λ digest size d s e. absurd (begin_missed c.args.bytes.now c.new-input.result digest size c.new-input.ensures c.in_err-found.ensures d s e)

pub returns-then-len-ne0-clause-whole : goal.returns-then-len-ne0-clause-whole
returns-then-len-ne0-clause-whole c = λ digest size d s e.
    let same = begin_found c.args.bytes.now c.new-input.result c.begin_in.new.input digest size c.in_ok-found.found c.new-input.ensures c.in_ok-found.ensures d s e in
    let none : c.begin_in.new.input ≡ [] = ap (λ (p : (List ℕ × ℕ) × List ℕ). p.1) same in
    absurd (c.if-len-ne0.true (c.len.ensures ∙ ap length none))

pub returns-clause-spelled : goal.returns-clause-spelled
returns-clause-spelled c = begin_spelled c.args.bytes.now c.begin_in.new.input c.in_ok-found.found (ap begin_at (sym c.new-input.ensures) ∙ c.in_ok-found.ensures) (sym c.len.ensures ∙ c.if-len-ne0.false)

pub returns-clause-whole : goal.returns-clause-whole
returns-clause-whole c = λ digest size d s e.
    let same = begin_found c.args.bytes.now c.new-input.result c.begin_in.new.input digest size c.in_ok-found.found c.new-input.ensures c.in_ok-found.ensures d s e in
    ap (λ (p : (List ℕ × ℕ) × List ℕ). Some p.0) same
