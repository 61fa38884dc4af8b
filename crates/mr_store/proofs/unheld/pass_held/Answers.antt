use Rattle.std.proofs.Common.{arith, sym}
use Rattle.mr_store.proofs.Names.{Rev, is_unheld, length-drop}
use Rattle.mr_store.proofs.PassLemmas.{rest_of, drop_rises, filter_passed, held_stays}
use Rattle.mr_store.proofs.unheld.pass_held.Goals as goal

pub returns-in-Some : goal.returns-in-Some
returns-in-Some c =
    let revisions = c.args.revisions.now in
    let held = c.args.held.now in
    let n = c.place_before.result in
    let first = c.in-Some.first.now in
    let until = c.held_until-until.result in
    let has = rw c.version-version.ensures at c.held_until-until.ensures in
    let place = rw (c.author.ensures, c.version-version.ensures) at c.place_before.ensures.place in
    rw (rest_of revisions n)
    (record {
      in_order = drop_rises n revisions c.requires;
      shorter = omega (arith, length-drop n revisions);
      unheld = λ learned. filter_passed (λ (r : Rev). is_unheld learned held r.item r.version) first until (held_stays learned held first until has) revisions n c.requires (sym c.in-Some.ensures.value) c.place_before.ensures.bound place;
    })
