use Rattle.std.proofs.Common.{ℕ, List, [], Option, ap, sym}
use Rattle.std.specs.Prelude.{is_none}
use Rattle.std.proofs.lemmas.List.{append-nil}
use Rattle.mr_world.proofs.Running.Tasks.{read_back}
use Rattle.mr_world.proofs.task.frame_at.Goals as goal

pub returns-in-Ok : goal.returns-in-Ok
returns-in-Ok c =
    (c.in-Some.bytes.now, sym c.in-Some.ensures, λ f s. read_back f _ c.in-Ok.found (c.in-Ok.ensures.whole 2 f c.in-Some.bytes.now [] s (sym (append-nil c.in-Some.bytes.now))))

pub returns-in-Err : goal.returns-in-Err
returns-in-Err c = ap (λ (o : Option (List ℕ)). is_none o) (sym c.in-Some.ensures)

pub returns-in-None : goal.returns-in-None
returns-in-None c = sym c.in-None.ensures
