use Rattle.std.proofs.Common.{rules}
use Rattle.mr_node.proofs.node.fn.run_in_scope.scope+FnOnce.call_once.Goals as goal

pub scope-requires : goal.scope-requires
scope-requires g c = (search rules, (search rules, (search rules, (search rules, (search rules, (search rules, search rules))))))
