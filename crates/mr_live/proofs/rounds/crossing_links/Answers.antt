use Rattle.mr_live.proofs.Crossing.{crosses}
use Rattle.mr_live.proofs.rounds.crossing_links.Goals as goal

pub returns : goal.returns
returns g c =
    let pulls = c.in_ok-first_pulls in
    let serves = c.in_ok-second_pulls in
    crosses pulls.first_pulls pulls.second_serves serves.second_pulls serves.first_serves c.in_ok-first.first c.in_ok-second.second pulls.ensures.ok serves.ensures.ok c.in_ok-first.ensures c.in_ok-second.ensures
