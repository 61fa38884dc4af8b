use Rattle.std.proofs.Common.{◌≡◌, ◌+ℤ◌, arith, FitsSigned, w64, IfOk, subst}
use Rattle.std.proofs.lemmas.Int.{to_z-of_z}
use Rattle.jiff.specs.Words.{epoch_day}
use Rattle.jiff.proofs.SpanFacts.{signed_arith, date_add-days, can_add-days}
use Rattle.mr_mail.proofs.DayLemmas.{epoch_day-1970}
use Rattle.mr_mail.proofs.day.date_of.Goals as goal

pub unwrap-requires : goal.unwrap-requires
unwrap-requires c =
    let first = epoch_day-1970 c.date.result c.date.ensures in
    let count = c.from.ensures in
    let fits : FitsSigned w64 c.from.result = omega (arith, signed_arith) in
    let only = simp to_z-of_z at c.days.ensures in
    c.checked_add.ensures.succeeds.1 ((can_add-days c.date.result c.from.result c.days.result only).1 (omega (arith, signed_arith, first, count), omega (arith, signed_arith, first, count)))

pub returns : goal.returns
returns c =
    let first = epoch_day-1970 c.date.result c.date.ensures in
    let count = c.from.ensures in
    let fits : FitsSigned w64 c.from.result = omega (arith, signed_arith) in
    let only = simp to_z-of_z at c.days.ensures in
    let value = subst (λ r. IfOk r (λ d. epoch_day d ≡ epoch_day c.date.result +ℤ c.from.result)) c.unwrap.ensures
    (rw (← date_add-days c.date.result c.from.result c.days.result only) c.checked_add.ensures.value) in
    omega (arith, signed_arith, first, count, value)
