use Rattle.mr_maildir.proofs.NameLemmas.{no_letters}
use Rattle.mr_maildir.proofs.name.split_letters.Goals as goal

pub returns-in-None-letters_in-clause-none : goal.returns-in-None-letters_in-clause-none
returns-in-None-letters_in-clause-none c =
    no_letters c.args.name.now c.in-Some.unique.now c.in-Some.info.now c.in-Some.ensures.written c.in-Some.ensures.first c.in-None-letters_in.ensures.none
