use Rattle.mr_sync.specs.Idle.{HasNoneBefore}
use Rattle.mr_sync.proofs.idle.idle_answer.Given as goal

abbrev pub invariant-loop-talk : goal.invariant-loop-talk
invariant-loop-talk l = HasNoneBefore l.talks l.theirs l.talk-index
