use Rattle.std.proofs.Common.{sym, ◌∙◌}
use Rattle.mr_entry.proofs.Names.{length-replicate, reads_bytes}
use Rattle.mr_entry.proofs.reading.array.Goals as goal

pub copy_from_slice-requires : goal.copy_from_slice-requires
copy_from_slice-requires g c = length-replicate g.row.N 0 ∙ sym ((reads_bytes g.row.N).takes _ _ _ c.in_ok-front.ensures.none).1.0
