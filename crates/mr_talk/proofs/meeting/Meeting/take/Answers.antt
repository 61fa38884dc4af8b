-- What came is handed over, met, or let be.
use Rattle.std.proofs.Common.{rules, sym, ◌∙◌}
use Rattle.mr_talk.proofs.HostLaws.{is_some_any, not_some, taken_broken, taken_handed, taken_met}
use Rattle.mr_talk.proofs.meeting.Meeting.take.Goals as goal
use Rattle.mr_talk.proofs.meeting.Meeting.take.Goals.{then-is_some, else-is_some+in-Hello+in_ok-theirs-in-Hello, else-is_some+in_default-2}

pub returns : goal.returns
returns g c =
    let before = c.args.self.now in
    let m = c.args.message in
    record {
      taken = λ e. c.in_default.not-Fault (c.kind.ensures ∙ e);
      fault = tt;
      taken_in = elim c.if-is_some.branch [
        | then-is_some w ↦ rw (w.self-is, w.host-is) (taken_broken g.H.Host.steps before m c.args.host.now (is_some_any before.broken w.if-is_some.ensures))
        | else-is_some+in-Hello+in_ok-theirs-in-Hello w ↦
            rw (w.self-is, w.host-is) (taken_met g.H.Host.steps before m w.in_ok-theirs-in-Hello.theirs _ c.args.host.now w.meet.new.host (not_some before.broken w.if-is_some.ensures) (search rules) (rw (sym w.bytes.ensures.is) w.in_ok-theirs-in-Hello.ensures.exact) w.meet.ensures)
        | else-is_some+in_default-2 w ↦
            rw (w.self-is, w.host-is, w.err.ensures.value)
            (taken_handed g.H.Host.steps before m w.hand_over.result c.args.host.now w.hand_over.new.host (not_some before.broken w.if-is_some.ensures) (λ e. c.in_default.not-Fault (c.kind.ensures ∙ e)) (search rules)
            (search rules) w.hand_over.ensures)
      ];
    }
