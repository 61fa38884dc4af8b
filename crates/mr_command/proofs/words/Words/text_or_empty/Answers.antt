use Rattle.std.proofs.Common.{◌≡◌, ◌∙◌, sym, ap}
use Rattle.mr_command.specs.Words.{words, unwords}
use Rattle.mr_command.proofs.WordLemmas.{unwords-words}
use Rattle.mr_command.proofs.words.Words.text_or_empty.Goals as goal

pub returns-in-Some : goal.returns-in-Some
returns-in-Some c =
    let are : words c.in-Some.rest.now ≡ c.args.self = rw c.in-Some.is at c.self.view_is in
    sym (unwords-words c.in-Some.rest.now) ∙ ap unwords are
