use Rattle.mr_world.specs.Kept.{world_view}
use Rattle.mr_world.proofs.Histories.Promises.{meets_keeps}
use Rattle.mr_world.proofs.world.World.happen.Goals as goal

-- what comes of the event keeps the rules
pub invariant_of-self : goal.invariant_of-self
invariant_of-self g c = (
  c.answer_event-answered.ensures.frames,
  meets_keeps g.K.Knowledge.form g.met.K.Knowledge.lists_more (world_view c.self.inside.members.items c.self.inside.pools c.self.inside.answers.items) (world_view c.answer_event-answered.new.members.items c.answer_event-answered.new.pools c.answer_event-answered.new.answers.items) c.args.event c.answer_event-answered.result c.self.invariant.1 c.answer_event-answered.ensures.meets,
)
