use Rattle.std.proofs.Common.{ap, ◌∙◌, ◌++◌}
use Rattle.std.specs.Vec.Iter.{into_iter_items}
use Rattle.mr_world.proofs.Running.Loops.{members_more}
use Rattle.mr_world.proofs.Running.Specs.{capacity_fits, limit_fits}
use Rattle.mr_world.proofs.world.members_of.Goals as goal

pub loop-spec-preserved : goal.loop-spec-preserved
loop-spec-preserved g c =
    rw c.in_ok-push.ensures.items
    (members_more g.K.Knowledge.form c.args.specs.items c.loop-spec.yielded (into_iter_items c.loop-spec.spec-iterator) (into_iter_items c.next.new.self) c.loop-spec.members.items c.in-Some.spec c.in_ok-member_of.field-0 c.loop-spec.invariant c.in-Some.ensures.steps.0 c.in_ok-member_of.ensures)

-- the specification is one of those that were not refused
pub member_of-requires-clause-limit : goal.member_of-requires-clause-limit
member_of-requires-clause-limit g c =
    limit_fits c.args.specs.items c.loop-spec.yielded (into_iter_items c.next.new.self) c.in-Some.spec (c.loop-spec.invariant.whole ∙ ap (λ rest. c.loop-spec.yielded ++ rest) c.in-Some.ensures.steps.0) c.requires

pub member_of-requires-clause-capacity : goal.member_of-requires-clause-capacity
member_of-requires-clause-capacity g c =
    capacity_fits c.args.specs.items c.loop-spec.yielded (into_iter_items c.next.new.self) c.in-Some.spec (c.loop-spec.invariant.whole ∙ ap (λ rest. c.loop-spec.yielded ++ rest) c.in-Some.ensures.steps.0) c.requires
