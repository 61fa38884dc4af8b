use Rattle.std.proofs.Common.{ℕ, List, sym, subst}
use Rattle.std.proofs.lemmas.Result.{IfOk-weaker}
use Rattle.mr_mail.specs.Day.{Spells}
use Rattle.mr_maildir.proofs.listing.list_line.Goals as goal

pub returns : goal.returns
returns c =
    let P : List ℕ → Type 0 = λ (d : List ℕ). Spells d c.args.day in
    IfOk-weaker c.line_with.result _ _
    (λ line is. record { date = c.as_str.result.now; spelled = subst P (sym c.as_str.ensures.value) c.in_ok-date.ensures.spelled; written = is })
    c.line_with.ensures
