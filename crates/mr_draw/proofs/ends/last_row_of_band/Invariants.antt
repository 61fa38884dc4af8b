use Rattle.std.proofs.Common.{◌≡◌, take, unwrap_or}
use Rattle.mr_draw.specs.Ends.{last_of_stream}
use Rattle.mr_draw.proofs.ends.last_row_of_band.Given as goal

-- that of the happenings so far
abbrev pub invariant-loop-at : goal.invariant-loop-at
invariant-loop-at l = l.last ≡ unwrap_or (last_of_stream l.source l.stream 0 (take l.at l.shown)) l.row
