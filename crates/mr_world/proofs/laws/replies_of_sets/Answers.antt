use Rattle.mr_world.proofs.Histories.Replies.{asks_known, received}
use Rattle.mr_model.specs.History.{◌does◌}
use Rattle.mr_model.specs.declared.event.Act.TheVariants.{Pull, Receive}
use Rattle.mr_replica.specs.declared.event.Reply.TheVariants.{Asked, Known, Took}
use Rattle.std.specs.Prelude.{Ok}
use Rattle.mr_world.specs.declared.answer.Answer.TheVariants.{Stepped}
use Rattle.mr_world.proofs.Moving.ByParts.{by_parts}
use Rattle.mr_world.proofs.laws.replies_of_sets.Goals as goal

pub returns-clause-asks : goal.returns-clause-asks
returns-clause-asks g c filters w w' m r ask a move = asks_known g.K.Knowledge.form filters w w' m a r ask (by_parts g.K.Knowledge.form w (r does Pull) (Stepped (Ok (Asked ask))) w' move)

pub returns-clause-known : goal.returns-clause-known
returns-clause-known g c filters w w' m r n sent v a move pool is = received g.K.Knowledge.form filters w w' m a r n Known (by_parts g.K.Knowledge.form w (r does Receive n) (Stepped (Ok Known)) w' move) sent pool v is

pub returns-clause-took : goal.returns-clause-took
returns-clause-took g c filters w w' m r n sent v a move pool is = received g.K.Knowledge.form filters w w' m a r n Took (by_parts g.K.Knowledge.form w (r does Receive n) (Stepped (Ok Took)) w' move) sent pool v is

pub returns-clause-told : goal.returns-clause-told
returns-clause-told g c filters w m last first a i j one ends starts = a.records.whole last first i j one ends starts
