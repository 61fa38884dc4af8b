use Rattle.std.proofs.Common.{ap, subst, sym, ◌∙◌}
use Rattle.std.specs.Str.{IsUtf8}
use Rattle.mr_sync.proofs.Names.{Some}
use Rattle.mr_sync.proofs.named.needed_file.Goals as goal

pub returns-clause-needs : goal.returns-clause-needs
returns-clause-needs c = λ digest needs. c.file_of.ensures.whole needs.parts needs.is (subst IsUtf8 (sym c.body.ensures.value) needs.text) (needs.written ∙ sym c.body.ensures.value) ∙ ap (λ d. Some d) needs.digest_is
