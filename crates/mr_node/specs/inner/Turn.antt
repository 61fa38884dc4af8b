-- how far a turn has come
use Rattle.std.specs.Prelude.{◌≡◌, ◌+◌, ◌==◌, ◌||◌, cond, List, [], length, Result}
use Rattle.mr_replica.specs.declared.event.Event.{Event}
use Rattle.mr_replica.specs.declared.event.Reply.{Reply}
use Rattle.mr_replica.specs.declared.refusal.Refusal.{Refusal}
use Rattle.mr_node.specs.Saying.{Saying, is_last, are_over, opened_by, opened_behind, cut_of}
use Rattle.mr_node.specs.declared.turn.Turn.{Turn}
use Rattle.mr_node.specs.declared.progress.Progress.{Progress}
use Rattle.mr_node.specs.Turn.{IsOrderly}

-- ---- what the code keeps of a turn

abbrev pub progress_of : List Saying → Progress
progress_of xs = record { said = length xs; opened = opened_behind xs; over = are_over xs }

-- one letter further, which was answered so
abbrev pub advanced : Progress → Result Reply Refusal → Progress
advanced p answer = record { said = p.said + 1; opened = cond (p.said == 0) (opened_by answer) p.opened; over = p.over || is_last answer }

abbrev pub cut_by : Progress → List Event
cut_by p = cond p.over [] (cut_of p.opened)

-- the turn has come so far, and nothing was refused
pub record IsAt (t : Turn) (xs : List Saying) (p : Progress) : Type 0 where
  pub progress : p ≡ progress_of xs
  pub orderly : IsOrderly t [] xs
