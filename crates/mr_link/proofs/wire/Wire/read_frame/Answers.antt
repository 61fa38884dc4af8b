use Rattle.std.proofs.Common.{[], Ok, Err, ap, subst, sym, arith}
use Rattle.mr_link.proofs.Names.{Nexts, ReadsFrame, wire_of}
use Rattle.mr_link.proofs.Passing.{well_on}
use Rattle.mr_link.proofs.Reading.{reads_on, piece_fault, starts, with_reader, drained, none_left, still_reads, found_frame, found_fault}
use Rattle.mr_link.proofs.wire.Wire.read_frame.Goals as goal

pub loop-init : goal.loop-init
loop-init g c = starts g.L.Link.tells c.args.self.now c.requires.unread

pub receive-requires : goal.receive-requires
receive-requires g c =
    let none = subst (λ found. Nexts c.loop.self.reader (Ok found) c.next_frame.new.self) c.in-None-found.is c.in-Ok.ensures.exact in
    record {
      count = let same = c.loop.invariant.downs in let low = c.requires.count in omega (arith, same, low);
      unread = still_reads g.L.Link.tells c.args.self.now c.loop.self c.next_frame.new.self c.loop.invariant none;
    }

pub loop-preserved : goal.loop-preserved
loop-preserved g c =
    let none = subst (λ found. Nexts c.loop.self.reader (Ok found) c.next_frame.new.self) c.in-None-found.is c.in-Ok.ensures.exact in
    let tells = g.L.Link.tells in
    well_on (wire_of tells c.args.self.now) (wire_of tells (with_reader tells c.loop.self c.next_frame.new.self)) (wire_of tells c.receive.new.self) [] [] [] []
    (drained tells c.args.self.now c.loop.self c.next_frame.new.self c.loop.invariant none) c.in-Ok-receive.ensures.reads

pub returns-in-Some-found : goal.returns-in-Some-found
returns-in-Some-found g c =
    found_frame g.L.Link.tells c.args.self.now c.loop.self c.next_frame.new.self c.in-Some-found.frame c.loop.invariant
    (subst (λ found. Nexts c.loop.self.reader (Ok found) c.next_frame.new.self) c.in-Some-found.is c.in-Ok.ensures.exact)

pub returns-in-Err-receive : goal.returns-in-Err-receive
returns-in-Err-receive g c =
    let none = subst (λ found. Nexts c.loop.self.reader (Ok found) c.next_frame.new.self) c.in-None-found.is c.in-Ok.ensures.exact in
    let tells = g.L.Link.tells in
    let mid = wire_of tells (with_reader tells c.loop.self c.next_frame.new.self) in
    reads_on (wire_of tells c.args.self.now) mid (wire_of tells c.receive.new.self) (Err c.in-Err-receive.snag)
    (drained tells c.args.self.now c.loop.self c.next_frame.new.self c.loop.invariant none)
    (piece_fault mid (wire_of tells c.receive.new.self) c.in-Err-receive.snag
    (λ down. none_left tells c.args.self.now c.loop.self c.receive.new.self c.next_frame.new.self c.loop.invariant none (c.in-Err-receive.ensures.down (ap Err down))) c.in-Err-receive.ensures.reads)

pub returns-in-Err : goal.returns-in-Err
returns-in-Err g c =
    let tells = g.L.Link.tells in
    subst (λ s. ReadsFrame (wire_of tells c.args.self.now) (Err s) (wire_of tells (with_reader tells c.loop.self c.next_frame.new.self))) (sym c.snag_of_reader.ensures)
    (found_fault tells c.args.self.now c.loop.self c.next_frame.new.self c.in-Err.fault c.loop.invariant c.in-Err.ensures.exact)
