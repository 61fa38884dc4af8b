use Rattle.std.proofs.Common.{sym}
use Rattle.mr_wire.proofs.Laws.{reads_bytes}
use Rattle.mr_sync.proofs.lists.digest.Goals as goal

pub copy_from_slice-requires : goal.copy_from_slice-requires
copy_from_slice-requires c = sym ((reads_bytes 32).takes _ _ _ c.in_ok-front.ensures.none).1.0
