use Rattle.std.proofs.Common.{rules}
use Rattle.mr_command.proofs.Readings.{mapped}
use Rattle.mr_command.proofs.read.read_event.Goals as goal

pub returns-in-retire : goal.returns-in-retire
returns-in-retire g c = rw c.in-retire.is (mapped _ _ _ c.map.ensures.cases (λ x y made. search rules) c.read_alone.ensures)

pub returns-in-pull : goal.returns-in-pull
returns-in-pull g c = rw c.in-pull.is (mapped _ _ _ c.map-in-pull.ensures.cases (λ x y made. search rules) c.read_alone-in-pull.ensures)

pub returns-in-answer : goal.returns-in-answer
returns-in-answer g c = rw c.in-answer.is (mapped _ _ _ c.map-in-answer.ensures.cases (λ x y made. search rules) c.read_framed.ensures)

pub returns-in-next : goal.returns-in-next
returns-in-next g c = rw c.in-next.is (mapped _ _ _ c.map-in-next.ensures.cases (λ x y made. search rules) c.read_numbered.ensures)

pub returns-in-receive : goal.returns-in-receive
returns-in-receive g c = rw c.in-receive.is (mapped _ _ _ c.map-in-receive.ensures.cases (λ x y made. search rules) c.read_framed-in-receive.ensures)

pub returns-in-part : goal.returns-in-part
returns-in-part g c = rw c.in-part.is (mapped _ _ _ c.map-in-part.ensures.cases (λ x y made. search rules) c.read_part.ensures)

pub returns-in-cutin : goal.returns-in-cutin
returns-in-cutin g c = rw c.in-cutin.is (mapped _ _ _ c.map-in-cutin.ensures.cases (λ x y made. search rules) c.read_numbered-in-cutin.ensures)

pub returns-in-cutout : goal.returns-in-cutout
returns-in-cutout g c = rw c.in-cutout.is (mapped _ _ _ c.map-in-cutout.ensures.cases (λ x y made. search rules) c.read_numbered-in-cutout.ensures)

pub returns-in-offer : goal.returns-in-offer
returns-in-offer g c = rw c.in-offer.is (mapped _ _ _ c.map-in-offer.ensures.cases (λ x y made. search rules) c.read_followed.ensures)

pub returns-in-take : goal.returns-in-take
returns-in-take g c = rw c.in-take.is (mapped _ _ _ c.map-in-take.ensures.cases (λ x y made. search rules) c.read_followed-in-take.ensures)

pub returns-in-close : goal.returns-in-close
returns-in-close g c = rw c.in-close.is (mapped _ _ _ c.map-in-close.ensures.cases (λ x y made. search rules) c.read_followed-in-close.ensures)

pub returns-in-vouch : goal.returns-in-vouch
returns-in-vouch g c = rw c.in-vouch.is (mapped _ _ _ c.map-in-vouch.ensures.cases (λ x y made. search rules) c.read_versioned.ensures)

pub returns-in-release : goal.returns-in-release
returns-in-release g c = rw c.in-release.is (mapped _ _ _ c.map-in-release.ensures.cases (λ x y made. search rules) c.read_framed-in-release.ensures)
