use Rattle.std.proofs.Common.{rules, ◌≡◌, OnOk, OnErr}
use Rattle.mr_session.specs.Session.{after_record}
use Rattle.mr_session.proofs.TableLemmas.{changed_by, unchanged}
use Rattle.mr_session.proofs.ViewLemmas.{on_ok, on_err}
use Rattle.mr_session.proofs.sessions.OpenTable+Incoming.take.Goals as goal

pub returns-clause-ok : goal.returns-clause-ok
returns-clause-ok c =
    let changed = c.change.ensures.changed in
    let taken : OnOk c.change.result (changed.1 ≡ after_record c.args.sent.now changed.0) = search rules in
    on_ok c.change.result _ _ taken
    (λ is. rw c.header.ensures.is at (changed_by c.args.self.now c.change.new.self c.header.result.session changed.0 changed.1 c.change.ensures.kept changed.2 changed.4 (after_record c.args.sent.now) is))

pub returns-clause-err : goal.returns-clause-err
returns-clause-err c =
    let changed = c.change.ensures.changed in
    let left : OnErr c.change.result (changed.1 ≡ changed.0) = search rules in
    on_err c.change.result _ _ left (unchanged c.args.self.now c.change.new.self c.header.result.session changed.0 changed.1 c.change.ensures.kept changed.2 changed.4)
