use Rattle.std.proofs.Common.{arith, ◌<◌, ◌≤◌, length, ap, sym, subst, ◌∙◌, Option, Some, Err, refl}
use Rattle.std.specs.Option.{option_map}
use Rattle.mr_wire.specs.Frames.{Sent}
use Rattle.mr_world.specs.Asked.{delivering, receiving}
use Rattle.mr_world.specs.inner.Asked.{Finds}
use Rattle.mr_world.specs.declared.fault.WorldFault.TheVariants.{NoSuchFrame}
use Rattle.mr_world.specs.declared.task.Task.{Task}
use Rattle.mr_world.proofs.Running.Pools.{records}
use Rattle.mr_world.proofs.Running.Tasks.{enough_are_whole, few_are_part, lost, there}
use Rattle.mr_world.proofs.task.deliver_part.Goals as goal

-- there are more than so many bytes
pub returns-in-Some : goal.returns-in-Some
returns-in-Some c =
    let x = there records c.args.records.now.frames c.args.number c.requires c.in-Some.frame.now (sym c.in-Some.ensures) in
    let few : c.args.bytes < length c.in-Some.frame.now = omega arith in ap (λ (o : Option Sent). option_map (delivering c.args.bytes) o) x.1 ∙ ap (λ (t : Task). Some t) (few_are_part c.args.bytes x.0 c.in-Some.frame.now x.2 few)

pub returns-in-Some-2 : goal.returns-in-Some-2
returns-in-Some-2 c =
    let x = there records c.args.records.now.frames c.args.number c.requires c.in-Some.frame.now (sym c.in-Some.ensures) in
    let enough : length c.in-Some.frame.now ≤ c.args.bytes = omega arith in
    subst (λ (o : Option Task). Finds o c.receive.result)
    (ap (λ (o : Option Sent). option_map receiving o) x.1 ∙ (ap (λ (t : Task). Some t) (sym (enough_are_whole c.args.bytes x.0 c.in-Some.frame.now x.2 enough)) ∙ sym (ap (λ (o : Option Sent). option_map (delivering c.args.bytes) o) x.1)))
    c.receive.ensures

pub returns-in-None : goal.returns-in-None
returns-in-None c = lost records c.args.records.now.frames c.args.number c.requires (delivering c.args.bytes) NoSuchFrame (Err NoSuchFrame) refl (sym c.in-None.ensures)
