use Rattle.mr_concise.proofs.Names.{ltb-false, ltb-true, of_author}
use Rattle.mr_concise.proofs.SweepLemmas.{at_most-from_holes, many-from_holes}
use Rattle.mr_concise.proofs.sweep.has_many_holes.Goals as goal

pub returns-clause-many : goal.returns-clause-many
returns-clause-many g c many = many-from_holes (of_author (g.S.Source.has c.args.source.now) c.args.author) c.hole_count.result c.hole_count.ensures (ltb-true 4096 c.hole_count.result many)

pub returns-clause-few : goal.returns-clause-few
returns-clause-few g c few = at_most-from_holes (of_author (g.S.Source.has c.args.source.now) c.args.author) c.hole_count.result 4096 c.hole_count.ensures (ltb-false 4096 c.hole_count.result few)
