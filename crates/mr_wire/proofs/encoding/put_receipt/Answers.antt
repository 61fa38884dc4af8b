use Rattle.mr_wire.specs.Spelling.{u16, descent_bytes}
use Rattle.mr_wire.proofs.PutLemmas.{two_parts, on_ok}
use Rattle.mr_wire.proofs.encoding.put_receipt.Goals as goal

pub put_descent-requires : goal.put_descent-requires
put_descent-requires c = rw (c.item.ensures, c.version.ensures, c.below.ensures.is) c.below.ensures.kept

pub returns-clause-written : goal.returns-clause-written
returns-clause-written c =
    two_parts c.put_descent.result c.args.out.now.items (u16 c.args.receipt.now.giver) (descent_bytes c.args.receipt.now.descent) c.put_u16.new.out.items c.put_descent.new.out.items
    (rw c.id.ensures.is at c.in_ok-put_u16.ensures) (rw (c.item.ensures, c.version.ensures, c.below.ensures.is) at c.put_descent.ensures.written)

pub returns-clause-in_grammar : goal.returns-clause-in_grammar
returns-clause-in_grammar c = on_ok c.put_descent.result (λ descent. (c.id.ensures.in_range, descent)) (rw (c.item.ensures, c.version.ensures, c.below.ensures.is) at c.put_descent.ensures.in_grammar)
