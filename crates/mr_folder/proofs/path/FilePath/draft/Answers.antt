use Rattle.std.proofs.Common.{sym, subst}
use Rattle.mr_folder.specs.Inside.{IsInside}
use Rattle.mr_folder.proofs.InsideLemmas.{draft_inside}
use Rattle.mr_folder.proofs.path.FilePath.draft.Goals as goal

pub invariant_of-result : goal.invariant_of-result
invariant_of-result c = subst IsInside (sym c.in_ok-text.ensures.ok) draft_inside
