use Rattle.std.proofs.Common.{refl, sym, ◌∙◌, subst}
use Rattle.mr_folder.proofs.Names.{IsFolder, false≢true}
use Rattle.mr_folder.proofs.PartLemmas.{folder_from_test, test_from_folder}
use Rattle.mr_folder.proofs.path.FolderPath.read.Goals as goal

pub returns-then-not-is_folder-clause-is : goal.returns-then-not-is_folder-clause-is
returns-then-not-is_folder-clause-is c = (
  λ no. absurd (false≢true no),
  λ is. absurd (false≢true (sym c.if-not-is_folder.true ∙ (c.is_folder.ensures ∙ test_from_folder c.args.path.now is))),
)

pub returns-clause-is : goal.returns-clause-is
returns-clause-is c = (λ yes. folder_from_test c.args.path.now (sym c.is_folder.ensures ∙ c.if-not-is_folder.false), λ is. refl)

pub invariant_of-result : goal.invariant_of-result
invariant_of-result c = subst IsFolder (sym c.in_ok-text.ensures.ok) (folder_from_test c.args.path.now (sym c.is_folder.ensures ∙ c.if-not-is_folder.false))
