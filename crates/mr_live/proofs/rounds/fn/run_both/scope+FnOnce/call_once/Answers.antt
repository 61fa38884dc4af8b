use Rattle.std.proofs.Common.{rules}
use Rattle.mr_live.proofs.rounds.fn.run_both.scope+FnOnce.call_once.Goals as goal

pub scope-requires : goal.scope-requires
scope-requires g c = (search rules, (search rules, (search rules, search rules)))
