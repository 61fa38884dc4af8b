use Rattle.std.proofs.Common.{rules}
use Rattle.mr_command.proofs.Readings.{mapped}
use Rattle.mr_command.proofs.read.read_question.Goals as goal

pub returns-in-heads : goal.returns-in-heads
returns-in-heads g c = rw c.in-heads.is (mapped _ _ _ c.map.ensures.cases (λ x y made. search rules) c.read_alone.ensures)

pub returns-in-pushouts : goal.returns-in-pushouts
returns-in-pushouts g c = rw c.in-pushouts.is (mapped _ _ _ c.map-in-pushouts.ensures.cases (λ x y made. search rules) c.read_alone-in-pushouts.ensures)

pub returns-in-conflicts : goal.returns-in-conflicts
returns-in-conflicts g c = rw c.in-conflicts.is (mapped _ _ _ c.map-in-conflicts.ensures.cases (λ x y made. search rules) c.read_alone-in-conflicts.ensures)

pub returns-in-know : goal.returns-in-know
returns-in-know g c = rw c.in-know.is (mapped _ _ _ c.map-in-know.ensures.cases (λ x y made. search rules) c.read_alone-in-know.ensures)

pub returns-in-feed : goal.returns-in-feed
returns-in-feed g c = rw c.in-feed.is (mapped _ _ _ c.map-in-feed.ensures.cases (λ x y made. search rules) c.read_alone-in-feed.ensures)

pub returns-in-log : goal.returns-in-log
returns-in-log g c = rw c.in-log.is (mapped _ _ _ c.map-in-log.ensures.cases (λ x y made. search rules) c.read_alone-in-log.ensures)

pub returns-in-show : goal.returns-in-show
returns-in-show g c = rw c.in-show.is (mapped _ _ _ c.map-in-show.ensures.cases (λ x y made. search rules) c.read_versioned.ensures)

pub returns-in-bytes : goal.returns-in-bytes
returns-in-bytes g c = rw c.in-bytes.is (mapped _ _ _ c.map-in-bytes.ensures.cases (λ x y made. search rules) c.read_bytes.ensures)

pub returns-in-index : goal.returns-in-index
returns-in-index g c = rw c.in-index.is (mapped _ _ _ c.map-in-index.ensures.cases (λ x y made. search rules) c.read_index.ensures)

pub returns-in-unseen : goal.returns-in-unseen
returns-in-unseen g c = rw c.in-unseen.is (mapped _ _ _ c.map-in-unseen.ensures.cases (λ x y made. search rules) c.read_alone-in-unseen.ensures)
