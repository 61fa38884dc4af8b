use Rattle.std.proofs.Common.{◌≡◌, ◌∙◌}
use Rattle.mr_command.specs.Words.{words}
use Rattle.mr_command.proofs.WordLemmas.{words-not_empty}
use Rattle.mr_command.proofs.words.Words.end.Goals as goal

pub returns-in-Some-clause-exact : goal.returns-in-Some-clause-exact
returns-in-Some-clause-exact c =
    let are : words c.in-Some.field-0.now ≡ c.args.self = rw c.in-Some.is at c.self.view_is in
    (λ e. cc, λ none. absurd (words-not_empty c.in-Some.field-0.now (are ∙ none)))
