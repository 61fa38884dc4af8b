use Rattle.mr_maildir.specs.Letters.{has_letter, letter_of}
use Rattle.mr_maildir.proofs.LettersLemmas.{has_flag-flags_where}
use Rattle.mr_maildir.proofs.letters.flags_of.Goals as goal

pub returns-clause-each : goal.returns-clause-each
returns-clause-each c =
    λ flag. rw (c.flags_in.ensures, c.as_bytes.ensures.value) (has_flag-flags_where (λ f. has_letter c.args.letters.now (letter_of f)) flag)
