use Rattle.std.proofs.Common.{arith, sym}
use Rattle.std.proofs.lemmas.List.{length-drop}
use Rattle.mr_session.proofs.WalkLemmas.{passed, rest_of, drop_rises}
use Rattle.mr_session.proofs.due.pass_known.Goals as goal

pub returns-else-until-counter : goal.returns-else-until-counter
returns-else-until-counter c =
    let revisions = c.args.revisions.now in
    let n = c.place_before.result in
    let known = rw c.version-version.ensures at c.known_until-until.ensures in
    let place = rw (c.author.ensures, c.version-version.ensures) at c.place_before.ensures.place in
    rw (rest_of c.args.revisions.now c.place_before.result)
    (record {
      in_order = drop_rises n revisions c.requires;
      shorter = omega (arith, length-drop n revisions);
      found = passed c.args.asked.now c.in-Some.first.now c.known_until-until.result known revisions n c.requires (sym c.in-Some.ensures.value) c.place_before.ensures.bound place;
    })
