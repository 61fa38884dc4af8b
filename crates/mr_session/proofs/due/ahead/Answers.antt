use Rattle.std.proofs.Common.{◌∙◌}
use Rattle.mr_session.proofs.WalkLemmas.{ahead_from, all_ahead, rest_of}
use Rattle.mr_session.proofs.due.ahead.Goals as goal

pub returns-in-Some : goal.returns-in-Some
returns-in-Some c =
    let version = c.in-Some.version in
    rw c.in-Some.is (rest_of c.args.revisions.now c.place_behind.result ∙ ahead_from version c.args.revisions.now c.place_behind.result c.place_behind.ensures.place)

pub returns-in-None : goal.returns-in-None
returns-in-None c = rw c.in-None.is (all_ahead c.args.revisions.now)
