use Rattle.std.proofs.Common.{[], ◌++◌, subst, sym}
use Rattle.mr_compare.specs.Held.{AreRead}
use Rattle.mr_compare.proofs.HeldLemmas.{read_none}
use Rattle.mr_compare.proofs.held.held_of.Goals as goal

pub passed_over-passed_over-requires : goal.passed_over-passed_over-requires
passed_over-passed_over-requires c =
    subst (λ rows. AreRead (c.args.heads.now ++ c.args.push_outs.now) rows) (sym c.deref.ensures.value)
    (c.in_ok-read_all-2.ensures c.args.heads.now (c.in_ok-read_all.ensures [] (subst (λ rows. AreRead [] rows) (sym c.in_ok-read.ensures.items) read_none)))

pub returns-clause-read : goal.returns-clause-read
returns-clause-read c = c.in_ok-read_all-2.ensures c.args.heads.now (c.in_ok-read_all.ensures [] (subst (λ rows. AreRead [] rows) (sym c.in_ok-read.ensures.items) read_none))
