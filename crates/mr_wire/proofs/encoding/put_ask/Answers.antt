use Rattle.std.proofs.Common.{length}
use Rattle.mr_wire.proofs.Names.{filter_bytes, flat_map, fragment_bytes, u16, u32, u64}
use Rattle.mr_wire.proofs.PutLemmas.{five_parts}
use Rattle.mr_wire.proofs.encoding.put_ask.Goals as goal

pub returns-clause-written : goal.returns-clause-written
returns-clause-written c =
    five_parts c.put_fragments.result c.args.out.now.items (u16 c.args.ask.now.target) (u64 c.args.ask.now.session) (filter_bytes c.args.ask.now.filter) (u32 (length c.args.ask.now.fragments)) (flat_map fragment_bytes c.args.ask.now.fragments)
    c.put_u16.new.out.items c.put_u64.new.out.items c.put_filter.new.out.items c.put_u32.new.out.items c.put_fragments.new.out.items
    (rw (c.id.ensures.is, c.target.ensures) at c.in_ok-put_u16.ensures) (rw c.session.ensures.is at c.in_ok-put_u64.ensures.written) (rw c.filter.ensures at c.in_ok-put_filter.ensures.written)
    (rw c.fragments-fragments.ensures at c.in_ok-put_u32.ensures) (rw c.fragments-fragments.ensures at c.put_fragments.ensures.written)
