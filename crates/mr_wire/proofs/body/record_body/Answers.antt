use Rattle.mr_wire.specs.declared.frame.Body.TheVariants as body
use Rattle.mr_wire.proofs.BodyLemmas.{stands_as}
use Rattle.mr_wire.proofs.body.record_body.Goals as goal

pub returns-in_ok-kept-in-Item : goal.returns-in_ok-kept-in-Item
returns-in_ok-kept-in-Item c = rw c.in-Item.is (stands_as body.Item c.map.result c.in_ok-kept-in-Item.ensures c.map.ensures.cases)

pub returns-in_ok-kept-in-MoveOut : goal.returns-in_ok-kept-in-MoveOut
returns-in_ok-kept-in-MoveOut c = rw c.in-MoveOut.is (stands_as body.MoveOut c.map-in-MoveOut.result c.in_ok-kept-in-MoveOut.ensures c.map-in-MoveOut.ensures.cases)

pub returns-in_ok-kept-in-Held : goal.returns-in_ok-kept-in-Held
returns-in_ok-kept-in-Held c = rw c.in-Held.is (stands_as body.Held c.map-in-Held.result c.in_ok-kept-in-Held.ensures c.map-in-Held.ensures.cases)

pub returns-in_ok-kept-in-Know : goal.returns-in_ok-kept-in-Know
returns-in_ok-kept-in-Know c = rw c.in-Know.is (stands_as body.Know c.map-in-Know.result c.in_ok-kept-in-Know.ensures c.map-in-Know.ensures.cases)
