use Rattle.std.proofs.Common.{◌≡◌, All, None, Option, List, ℕ, sym, ◌∙◌}
use Rattle.mr_compare.proofs.Names.{IfOk-weaker, IsHeeded, standings_by}
use Rattle.mr_compare.specs.Undecided as specs
use Rattle.mr_compare.proofs.UndecidedLemmas.{all_heeded}
use Rattle.mr_compare.proofs.undecided.first_undecided.Goals as goal

pub returns-clause-heeded : goal.returns-clause-heeded
returns-clause-heeded c =
    let mails = standings_by c.args.sides.now c.args.mails.now c.args.others.now in
    IfOk-weaker c.first_of.result (λ (first : Option (List ℕ)). first ≡ specs.first_undecided mails) (λ (first : Option (List ℕ)). first ≡ None → All IsHeeded mails)
    (λ first e none. all_heeded mails (sym e ∙ none)) c.first_of.ensures
