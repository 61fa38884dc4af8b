use Rattle.std.proofs.Common.{rules}
use Rattle.mr_live.proofs.rounds.fn.start_node.spawn_with+FnOnce.call_once.Goals as goal

pub spawn_with-requires : goal.spawn_with-requires
spawn_with-requires g c = (search rules, (search rules, (search rules, search rules)))
