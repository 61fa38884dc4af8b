use Rattle.mr_wire.proofs.Names.{descent_bytes, descent_of, message_bytes}
use Rattle.mr_wire.proofs.PutLemmas.{two_parts}
use Rattle.mr_wire.proofs.encoding.put_revision.Goals as goal

pub returns-clause-written : goal.returns-clause-written
returns-clause-written c =
    two_parts c.put_message.result c.args.out.now.items (descent_bytes (descent_of c.args.revision.now)) (message_bytes c.args.revision.now.message) c.put_descent.new.out.items c.put_message.new.out.items
    (rw (c.item.ensures, c.version.ensures, c.below.ensures.is) at c.in_ok-put_descent.ensures.written) (rw c.message.ensures at c.put_message.ensures.written)
