use Rattle.std.proofs.Common.{rules}
use Rattle.mr_command.proofs.Readings.{mapped}
use Rattle.mr_command.proofs.read.read_named.Goals as goal

pub returns-in-replica : goal.returns-in-replica
returns-in-replica g c = rw c.in-replica.is (mapped _ _ _ c.map.ensures.cases (λ x y made. search rules) c.read_opening.ensures)

pub returns-in-create : goal.returns-in-create
returns-in-create g c = rw c.in-create.is (mapped _ _ _ c.map-in-create.ensures.cases (λ x y made. search rules) c.read_create.ensures)

pub returns-in-edit : goal.returns-in-edit
returns-in-edit g c = rw c.in-edit.is (mapped _ _ _ c.map-in-edit.ensures.cases (λ x y made. search rules) c.read_edit.ensures)

pub returns-in-sync : goal.returns-in-sync
returns-in-sync g c = rw c.in-sync.is (mapped _ _ _ c.map-in-sync.ensures.cases (λ x y made. search rules) c.read_sync.ensures)
