use Rattle.std.proofs.Common.{◌+◌, ◌-◌, length, take, drop, arith}
use Rattle.std.proofs.lemmas.List.{length-take, length-drop}
use Rattle.mr_store.proofs.GapLemmas.{drop-to_front}
use Rattle.mr_store.proofs.gap_vector.move_to_front.Goals as goal

pub returns-clause-others : goal.returns-clause-others
returns-clause-others c =
    let k = c.args.gap + c.args.place + 1 - c.args.gap in
    let xs = c.args.slots.now in
    drop-to_front c.args.gap c.args.place k (length (take k (drop c.args.gap xs)) - 1) xs c.rotate_right.new.self c.requires (omega arith) (rw (length-take, length-drop) (omega arith)) c.rotate_right.ensures.after
