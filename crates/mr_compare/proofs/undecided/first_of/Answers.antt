use Rattle.std.proofs.Common.{◌≡◌, ℕ, List, Option, map, sym, subst, ◌∙◌}
use Rattle.mr_compare.proofs.Names.{IfOk, standing_of_held, standing_of_unheld}
use Rattle.mr_compare.proofs.UndecidedLemmas.{first_of_both, first_of_others}
use Rattle.mr_compare.proofs.undecided.first_of.Goals as goal

pub returns-in-Some : goal.returns-in-Some
returns-in-Some c =
    first_of_both (map (standing_of_held c.args.sides.now) c.args.mails.now) (map (standing_of_unheld c.args.sides.now) c.args.others.now) c.in-Some.digest (sym c.in-Some.is ∙ c.in_ok-digest.ensures)

pub returns-in-None : goal.returns-in-None
returns-in-None c =
    let others = first_of_others (map (standing_of_held c.args.sides.now) c.args.mails.now) (map (standing_of_unheld c.args.sides.now) c.args.others.now) (sym c.in-None.is ∙ c.in_ok-digest.ensures) in
    subst (λ (found : Option (List ℕ)). IfOk c.first_of_unheld.result (λ first. first ≡ found)) (sym others) c.first_of_unheld.ensures
