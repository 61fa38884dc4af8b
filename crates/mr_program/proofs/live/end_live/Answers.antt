use Rattle.mr_program.proofs.LiveLemmas.{ends_live}
use Rattle.mr_program.proofs.live.end_live.Goals as goal

pub returns : goal.returns
returns g c =
    let ends = c.run_live.ensures.ends in
    rw c.ending_of_live.ensures (ends_live g.K.Knowledge.form _ ends.0 _ _ _ ends.1 ends.2)
