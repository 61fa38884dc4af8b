use Rattle.mr_world.proofs.Histories.WholeRuns.{fresh_agrees, one_more}
use Rattle.mr_world.proofs.Moving.ByParts.{by_parts}
use Rattle.mr_world.proofs.laws.one_more_event.Goals as goal

pub returns-clause-fresh : goal.returns-clause-fresh
returns-clause-fresh g c filters w f = fresh_agrees g.K.Knowledge.form filters w f

pub returns-clause-run : goal.returns-clause-run
returns-clause-run g c filters w w' h x run a move = (one_more g.K.Knowledge.form filters w w' h x run a (by_parts g.K.Knowledge.form w x.event x.answer w' move)).0

pub returns-clause-agrees : goal.returns-clause-agrees
returns-clause-agrees g c filters w w' h x run a move = (one_more g.K.Knowledge.form filters w w' h x run a (by_parts g.K.Knowledge.form w x.event x.answer w' move)).1
