use Rattle.std.proofs.Common.{◌≡◌, ℕ, ◌∙◌, sym, ap, subst, unwrap_or}
use Rattle.std.specs.Option.{ok_or}
use Rattle.mr_mail.specs.declared.day.DayFault.TheVariants.{BadDay}
use Rattle.mr_mail.specs.Day.{IsDayOf}
use Rattle.mr_mail.proofs.DayLemmas.{IsDayOf_bounds}
use Rattle.mr_mail.proofs.day.Day.read.Goals as goal

pub returns-in-Some-clause-complete : goal.returns-in-Some-clause-complete
returns-in-Some-clause-complete c = λ day spells.
    let within = IsDayOf_bounds _ _ _ _ spells.is_day in
    let parts = c.read_parts.ensures.complete spells.year spells.month spells.day_of_month within.0 within.1 within.2 (sym spells.written ∙ sym c.as_bytes.ensures.value) in
    let same : (spells.year, spells.month, spells.day_of_month) ≡ (c.in-Some.year, c.in-Some.month, c.in-Some.day) =
    ap (λ o. unwrap_or o (0, 0, 0)) (sym parts ∙ c.in-Some.is) in
    let is_day = subst (λ (p : ℕ × ℕ × ℕ). IsDayOf p.0 p.1 p.2 day) same spells.is_day in
    let found = c.day_of.ensures.complete day is_day in
    c.ok_or.ensures.value ∙ ap (λ o. ok_or o BadDay) found
