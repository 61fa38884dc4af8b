use Rattle.std.proofs.Common.{◌≡◌, ◌∙◌, ap, sym, subst, true, false}
use Rattle.mr_script.proofs.Names.{Indexer, Lists, cards_of, false_from_ne_true, is_label}
use Rattle.mr_script.specs.Taken.{indexed}
use Rattle.mr_script.proofs.TakenLemmas.{Lists-no_label}
use Rattle.mr_script.proofs.taken.versions_under.Goals as goal

pub returns-in_default : goal.returns-in_default
returns-in_default c =
    let word = c.args.word.now in
    let cards = cards_of c.args.answers.now c.args.id Indexer in
    let other : is_label word ≡ false =
    false_from_ne_true (is_label word) (λ h. let refused : false ≡ true = c.in_default.ensures.exact.1 (ap is_label c.in_ok-from_str.ensures.ok ∙ h) in cc) in
    subst (Lists (indexed cards word)) (sym c.new.ensures.items) (Lists-no_label cards word other)
