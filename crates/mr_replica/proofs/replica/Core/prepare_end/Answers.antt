use Rattle.std.proofs.Common.{◌≡◌, Some, Err, true, sym, ap, subst, ◌∙◌}
use Rattle.mr_replica.proofs.Names.{Header, IsSound, State, err_from_is_err_and, is_full, open_at, option_copied, session_for}
use Rattle.mr_replica.proofs.Preparing.{partial_prepared, full_prepared, end_refused}
use Rattle.mr_replica.proofs.replica.Core.prepare_end.Goals as goal

-- its stream is partial
pub returns-then-not-is_full : goal.returns-then-not-is_full
returns-then-not-is_full g c =
    let sent = c.args.sent.now in
    let found : session_for c.args.self.now sent ≡ Some c.in-Some.session.now =
    ap (λ (t : State g.row.K.Denot). session_for t sent) (sym c.self.view_is) ∙ ap (λ (h : Header). open_at c.self.inside.parts.sessions h.session) (sym c.header-number.ensures.is) ∙ sym c.get.ensures ∙ ap option_copied c.in-Some.is in
    partial_prepared g.K.Knowledge.form c.args.self.now sent c.requires.kept c.requires.taken c.in-Some.session.now c.header-number.result.session (ap (λ (h : Header). h.session) c.header-number.ensures.is) found (sym c.is_full.ensures ∙ c.if-not-is_full.true)

-- a fragment has no value, or there is no memory
pub returns-in_err-ended : goal.returns-in_err-ended
returns-in_err-ended g c =
    let sent = c.args.sent.now in
    let found : session_for c.args.self.now sent ≡ Some c.in-Some.session.now =
    ap (λ (t : State g.row.K.Denot). session_for t sent) (sym c.self.view_is) ∙ ap (λ (h : Header). open_at c.self.inside.parts.sessions h.session) (sym c.header-number.ensures.is) ∙ sym c.get.ensures ∙ ap option_copied c.in-Some.is in
    let full : is_full c.in-Some.session.now.origin ≡ true = sym c.is_full.ensures ∙ c.if-not-is_full.false in
    let p = err_from_is_err_and c.from_residual.result c.from_residual.ensures.1 in
    rw (p.1 ∙ ap Err p.2, found) (end_refused g.K.Knowledge.form c.args.self.now c.in-Some.session.now full c.in_err-ended.field-0.0 c.in_err-ended.ensures.refused)

-- its stream is full
pub returns : goal.returns
returns g c =
    let form = g.K.Knowledge.form in
    let sent = c.args.sent.now in
    let found : session_for c.args.self.now sent ≡ Some c.in-Some.session.now =
    ap (λ (t : State g.row.K.Denot). session_for t sent) (sym c.self.view_is) ∙ ap (λ (h : Header). open_at c.self.inside.parts.sessions h.session) (sym c.header-number.ensures.is) ∙ sym c.get.ensures ∙ ap option_copied c.in-Some.is in
    let full : is_full c.in-Some.session.now.origin ≡ true = sym c.is_full.ensures ∙ c.if-not-is_full.false in
    let sound = subst (IsSound form) c.self.view_is c.self.invariant in
    let ended = c.in_ok-ended.ensures in
    full_prepared form c.args.self.now sent c.requires.kept c.requires.taken c.in_ok-ended.ended c.in-Some.session.now (ended.number ∙ ap (λ (h : Header). h.session) c.header-number.ensures.is) found full ended.knowledge ended.left ended.entries
    sound.heads.in_order ended.fits
