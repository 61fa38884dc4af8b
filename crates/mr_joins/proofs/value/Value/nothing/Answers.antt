use Rattle.std.proofs.Common.{sym, subst}
use Rattle.mr_joins.specs.Value.{IsValue}
use Rattle.mr_joins.proofs.Values.{value-nothing}
use Rattle.mr_joins.proofs.value.Value.nothing.Goals as goal

pub value_of-requires : goal.value_of-requires
value_of-requires c = subst IsValue (sym c.new.ensures.items) value-nothing
