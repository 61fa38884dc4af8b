use Rattle.std.proofs.Common.{◌∙◌}
use Rattle.mr_maildir.proofs.NameLemmas.{one_name}
use Rattle.mr_maildir.proofs.name.read_name.Goals as goal

pub returns-in-Some-clause-only : goal.returns-in-Some-clause-only
returns-in-Some-clause-only c =
    λ parts is e. one_name c.in-Some.unique.now c.in-Some.letters.now parts c.in-Some.ensures.found is (e ∙ c.in-Some.ensures.written)
