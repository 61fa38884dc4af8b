use Rattle.std.proofs.Common.{arith, sym}
use Rattle.mr_store.proofs.Names.{Rev, is_unheld, length-drop}
use Rattle.mr_store.proofs.PassLemmas.{rest_of, drop_rises, filter_passed, uncovered_stays}
use Rattle.mr_store.proofs.unheld.pass_uncovered.Goals as goal

pub returns-in-Some : goal.returns-in-Some
returns-in-Some c =
    let revisions = c.args.revisions.now in
    let learned = c.args.learned.now in
    let n = c.place_before.result in
    let first = c.in-Some.first.now in
    let until = c.uncovered_until-until.result in
    let none = rw c.version-version.ensures at c.uncovered_until-until.ensures in
    let place = rw (c.author.ensures, c.version-version.ensures) at c.place_before.ensures.place in
    rw (rest_of revisions n)
    (record {
      in_order = drop_rises n revisions c.requires;
      shorter = omega (arith, length-drop n revisions);
      unheld = λ held. filter_passed (λ (r : Rev). is_unheld learned held r.item r.version) first until (uncovered_stays learned held first until none) revisions n c.requires (sym c.in-Some.ensures.value) c.place_before.ensures.bound place;
    })
