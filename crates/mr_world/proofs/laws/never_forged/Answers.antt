use Rattle.mr_world.proofs.Histories.Genuine.{fresh_genuine, one_more_genuine, world_answers}
use Rattle.mr_world.proofs.Moving.ByParts.{by_parts}
use Rattle.mr_world.proofs.laws.never_forged.Goals as goal

pub returns-clause-fresh : goal.returns-clause-fresh
returns-clause-fresh g c filters w f = fresh_genuine g.K.Knowledge.form filters w f

pub returns-clause-kept : goal.returns-clause-kept
returns-clause-kept g c filters w w' h x run a genuine move = (one_more_genuine g.K.Knowledge.form filters g.met.K.Knowledge.lists_more w w' h x run a genuine (by_parts g.K.Knowledge.form w x.event x.answer w' move)).0

pub returns-clause-answer : goal.returns-clause-answer
returns-clause-answer g c filters w w' h x run a genuine move = (one_more_genuine g.K.Knowledge.form filters g.met.K.Knowledge.lists_more w w' h x run a genuine (by_parts g.K.Knowledge.form w x.event x.answer w' move)).1

pub returns-clause-runs : goal.returns-clause-runs
returns-clause-runs g c filters w w' xs x f run i = world_answers g.K.Knowledge.form filters g.met.K.Knowledge.lists_more w w' xs f run x i
