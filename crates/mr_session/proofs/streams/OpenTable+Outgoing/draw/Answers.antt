use Rattle.mr_session.proofs.streams.OpenTable+Outgoing.draw.Goals as goal

pub returns-clause-one : goal.returns-clause-one
returns-clause-one c = rw (c.advance.ensures) c.in_ok-record.ensures.one
