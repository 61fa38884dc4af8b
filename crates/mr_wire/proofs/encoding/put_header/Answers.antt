use Rattle.mr_wire.specs.Spelling.{u16, u32, u64}
use Rattle.mr_wire.proofs.PutLemmas.{five_parts}
use Rattle.mr_wire.proofs.encoding.put_header.Goals as goal

pub returns-clause-written : goal.returns-clause-written
returns-clause-written c =
    five_parts c.put_u32.result c.args.out.now.items (u16 c.args.header.source) (u64 c.args.header.stream) (u16 c.args.header.target) (u64 c.args.header.session) (u32 c.args.header.index)
    c.put_u16.new.out.items c.put_u64.new.out.items c.put_u16-2.new.out.items c.put_u64-2.new.out.items c.put_u32.new.out.items
    (rw c.id.ensures.is at c.in_ok-put_u16.ensures) c.in_ok-put_u64.ensures.written (rw c.id-2.ensures.is at c.in_ok-put_u16-2.ensures) c.in_ok-put_u64-2.ensures.written c.put_u32.ensures
