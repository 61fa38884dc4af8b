use Rattle.std.proofs.Common.{rules, ◌≡◌}
use Rattle.mr_session.specs.Onward.{after_given}
use Rattle.mr_session.proofs.OnwardLemmas.{gone_open}
use Rattle.mr_session.proofs.streams.OpenTable+Outgoing.advance.Goals as goal

pub returns : goal.returns
returns c =
    let changed = c.change.ensures.changed in
    let went : changed.1 ≡ after_given c.args.onward changed.0 = search rules in
    gone_open c.args.number c.args.onward c.args.self.now c.change.new.self changed.0 changed.1 c.in_default.not-Closed changed.2 went changed.4
