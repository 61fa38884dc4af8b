use Rattle.mr_maildir.proofs.LettersLemmas.{flags_told-letters_with, has_letter-untold, letters_with-each}
use Rattle.mr_maildir.proofs.letters.letters_with.Goals as goal

pub returns-clause-flags : goal.returns-clause-flags
returns-clause-flags c = flags_told-letters_with c.args.letters.now c.args.flags c.bits-bits.ensures.in_range

pub returns-clause-others : goal.returns-clause-others
returns-clause-others c = λ b without. has_letter-untold c.args.letters.now c.args.flags b without

pub returns-clause-each : goal.returns-clause-each
returns-clause-each c = letters_with-each c.args.letters.now c.args.flags
