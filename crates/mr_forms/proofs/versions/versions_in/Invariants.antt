use Rattle.std.proofs.Common.{take}
use Rattle.mr_forms.proofs.Names.{HasVersionsAlone, IsSame, in_runs, is_listed}
use Rattle.mr_forms.proofs.versions.versions_in.Given as goal

-- the runs up to here are listed, and nothing but versions
abbrev pub invariant-loop-run : goal.invariant-loop-run
invariant-loop-run g l = record {
  have : IsSame (is_listed l.versions.items) (in_runs (take l.run-index l.run-items));
  alone : HasVersionsAlone (is_listed l.versions.items);
}
