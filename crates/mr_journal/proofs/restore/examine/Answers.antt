use Rattle.std.proofs.Common.{◌≡◌, ℕ, List, min, length, take, sym, ◌∙◌, ap}
use Rattle.mr_journal.proofs.Names.{IsNew, err_from_is_err_and, false≢true, take_min}
use Rattle.mr_journal.proofs.RestoreLemmas.{reason_head}
use Rattle.mr_journal.proofs.restore.examine.Goals as goal

pub returns-in_err-check_head-clause-found : goal.returns-in_err-check_head-clause-found
returns-in_err-check_head-clause-found g c = λ told.
    let file = g.D.Device.seen c.args.device.now in
    let synced = (c.sync.ensures.untouched told).same in
    let same = (c.len.ensures.untouched told).same ∙ synced in
    let len : c.in_ok-len.len ≡ length file = c.in_ok-len.ensures.len told ∙ ap length synced in
    let read : c.in_ok-first.first.items ≡ take 10 file = c.in_ok-first.ensures.read told ∙ ap (λ (l : List ℕ). take c.min.result l) same ∙ ap (λ (n : ℕ). take n file) (c.min.ensures ∙ ap (λ (n : ℕ). min 10 n) len) ∙ take_min 10 file in
    let not_new : IsNew file → ⊥ = λ is_new. false≢true (sym c.if-is_new.false ∙ (c.is_new.ensures file (sym len) (c.deref.ensures.value ∙ read)).1 is_new) in
    let p = err_from_is_err_and c.from_residual-in_err-check_head.result c.from_residual-in_err-check_head.ensures.1 in
    rw (p.1, p.2) (reason_head c.in_err-check_head.field-0.0 c.deref-2.result.now file (c.deref-2.ensures.value ∙ read) c.in_err-check_head.ensures not_new)
