use Rattle.std.proofs.Common.{sym, ap, ◌∙◌}
use Rattle.mr_maildir.proofs.Names.{IfOk-weaker, admits, is_label}
use Rattle.mr_maildir.proofs.LayoutLemmas.{label_of-admitted}
use Rattle.mr_maildir.proofs.layout.label_name.Goals as goal

pub returns-clause-admitted : goal.returns-clause-admitted
returns-clause-admitted c = λ layout.
    IfOk-weaker c.from_str.result _ _
    (λ text is. ap (admits layout) (is ∙ (c.as_str-2.ensures.value ∙ c.in_ok-named.ensures))
    ∙ label_of-admitted layout c.as_str.result.now (ap is_label (sym c.in_ok-named.ensures) ∙ c.as_str-2.ensures.is_label))
    c.from_str.ensures.ok
