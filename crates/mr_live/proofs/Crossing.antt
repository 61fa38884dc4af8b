-- two nodes that pull over each other's links
use Rattle.mr_link.specs.LaneLink.{LaneEnd, AreJoined}
use Rattle.mr_live.specs.Rounds.{Links, Cross}
use Rattle.mr_live.specs.inner.Rounds.{PullAndServe}
use Rattle.mr_live.specs.declared.rounds.TheConstants.{LINK_PIECES}

pub crosses : (first_pulls second_serves second_pulls first_serves : LaneEnd) (first second : Links) → AreJoined LINK_PIECES first_pulls second_serves → AreJoined LINK_PIECES second_pulls first_serves → PullAndServe first_pulls first_serves first → PullAndServe second_pulls second_serves second → Cross first second
crosses first_pulls second_serves second_pulls first_serves first second over back one other = record {
  first_turns = one.turns;
  second_turns = other.turns;
  first_pulls = rw (one.first, other.second) over;
  second_pulls = rw (other.first, one.second) back;
}
