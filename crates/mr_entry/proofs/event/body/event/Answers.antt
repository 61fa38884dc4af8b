use Rattle.std.proofs.Common.{refl}
use Rattle.mr_replica.specs.declared.event.Event.TheVariants as event
use Rattle.mr_entry.proofs.EventLemmas.{stands_kind}
use Rattle.mr_entry.proofs.event.body.event.Goals as goal

pub returns-in_ok-kept-in-0 : goal.returns-in_ok-kept-in-0
returns-in_ok-kept-in-0 c = stands_kind event.Create c.map.result c.in-0.is (λ bytes. refl) c.in_ok-kept-in-0.ensures c.map.ensures.cases

pub returns-in_ok-kept-in-4 : goal.returns-in_ok-kept-in-4
returns-in_ok-kept-in-4 c = stands_kind event.Receive c.map-in-4.result c.in-4.is (λ bytes. refl) c.in_ok-kept-in-4.ensures c.map-in-4.ensures.cases

pub returns-in_ok-kept-in-6 : goal.returns-in_ok-kept-in-6
returns-in_ok-kept-in-6 c = stands_kind event.Answer c.map-in-6.result c.in-6.is (λ bytes. refl) c.in_ok-kept-in-6.ensures c.map-in-6.ensures.cases

pub returns-in_ok-kept-in-10 : goal.returns-in_ok-kept-in-10
returns-in_ok-kept-in-10 c = stands_kind event.Release c.map-in-10.result c.in-10.is (λ bytes. refl) c.in_ok-kept-in-10.ensures c.map-in-10.ensures.cases
