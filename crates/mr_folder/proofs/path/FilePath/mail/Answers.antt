use Rattle.std.proofs.Common.{sym, ap, ◌∙◌, subst, refl}
use Rattle.mr_folder.proofs.Names.{IsInside, false≢true, first_part, mail_path}
use Rattle.mr_folder.proofs.PartLemmas.{part_from_test, test_from_part, mail_inside, mail_not_own}
use Rattle.mr_folder.proofs.path.FilePath.mail.Goals as goal

pub returns-then-not-is_part-clause-is : goal.returns-then-not-is_part-clause-is
returns-then-not-is_part-clause-is c = (
  λ no. absurd (false≢true no),
  λ is. absurd (false≢true (sym c.if-not-is_part.true ∙ (c.is_part.ensures ∙ test_from_part c.args.name.now is))),
)

pub returns-clause-value : goal.returns-clause-value
returns-clause-value c = c.in_ok-text.ensures ∙ ap (λ f. mail_path f c.args.part c.args.name.now) c.as_str.ensures.value

pub returns-clause-is : goal.returns-clause-is
returns-clause-is c = (λ yes. part_from_test c.args.name.now (sym c.is_part.ensures ∙ c.if-not-is_part.false), λ is. refl)

pub returns-clause-not_own : goal.returns-clause-not_own
returns-clause-not_own c =
    let made = c.in_ok-text.ensures ∙ ap (λ f. mail_path f c.args.part c.args.name.now) c.as_str.ensures.value in
    λ own. mail_not_own c.args.folder.now c.args.part c.args.name.now c.as_str.ensures.folder (ap first_part (sym made) ∙ own)

pub invariant_of-result : goal.invariant_of-result
invariant_of-result c =
    let made = c.in_ok-text.ensures ∙ ap (λ f. mail_path f c.args.part c.args.name.now) c.as_str.ensures.value in
    subst IsInside (sym made) (mail_inside c.args.folder.now c.args.part c.args.name.now c.as_str.ensures.folder (part_from_test c.args.name.now (sym c.is_part.ensures ∙ c.if-not-is_part.false)))
