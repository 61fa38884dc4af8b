use denote.Enum.Bare.{same_false}
use Rattle.std.proofs.Common.{Some, None, Ok, inr, refl, sym}
use Rattle.mr_talk.proofs.Names.{CallerTells, Closes, the_type}
use Rattle.mr_talk.proofs.HostLaws.{acts_one, refused_at}
use Rattle.mr_talk.proofs.meeting.last_speech.Goals as goal

pub returns-in_err-knows-clause-asked : goal.returns-in_err-knows-clause-asked
returns-in_err-knows-clause-asked g c =
    refused_at g.H.Host.steps _ c.args.host.now c.done.new.self (λ x. Closes c.args.turn x) c.from_residual.result c.in_err-knows.field-0.0 c.from_residual.ensures.1 c.in_err-knows.ensures.step refl

pub returns-in-Some-clause-asked : goal.returns-in-Some-clause-asked
returns-in-Some-clause-asked g c =
    let call = Closes c.args.turn (Ok (Some c.in-Some.knows)) in
    (_, acts_one g.H.Host.steps c.args.host.now c.done.new.self call (rw (sym c.in-Some.is) c.in_ok-knows.ensures.step), inr (same_false the_type c.args.turn CallerTells (sym c.if-eq.ensures), (Some c.in-Some.knows, refl, refl)))

pub returns-in-None-clause-asked : goal.returns-in-None-clause-asked
returns-in-None-clause-asked g c =
    let call = Closes c.args.turn (Ok None) in
    (_, acts_one g.H.Host.steps c.args.host.now c.done.new.self call (rw (sym c.in-None.is) c.in_ok-knows.ensures.step), inr (same_false the_type c.args.turn CallerTells (sym c.if-eq.ensures), (None, refl, refl)))
