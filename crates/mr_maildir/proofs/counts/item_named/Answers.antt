use Rattle.std.proofs.Common.{◌≡◌, codes, sym, ap, ◌∙◌}
use Rattle.mr_version.specs.Name.{name_text}
use Rattle.mr_maildir.proofs.CountsLemmas.{not_other, spelled_from, taken}
use Rattle.mr_maildir.proofs.counts.item_named.Goals as goal

pub returns-clause-spelled : goal.returns-clause-spelled
returns-clause-spelled c =
    let second = not_other _ (codes "of") (sym c.ne.ensures ∙ c.if-ne.false) in
    let third = taken _ c.read.result c.in_ok-creator.creator (sym c.ok.ensures.value ∙ c.in_ok-creator.was) c.read.ensures.spelled in
    spelled_from c.args.words.now c.new.result c.if-words-lt3.false second (third ∙ ap name_text (sym c.new.ensures))
