use Rattle.std.proofs.Common.{arith, FitsSigned, w16, w8}
use Rattle.std.proofs.lemmas.Int.{to_z-of_z}
use Rattle.jiff_core.proofs.CalendarLemmas.{days_in_month_bounds}
use Rattle.jiff_core.proofs.SignedLemmas.{signed_arith}
use Rattle.mr_mail.proofs.DayLemmas.{IsDayOf_date}
use Rattle.mr_mail.proofs.day.parts_of.Goals as goal

pub returns : goal.returns
returns c =
    let year_fits : FitsSigned w16 c.year.result = omega (arith, signed_arith, c.year.type_inv) in
    let month_fits : FitsSigned w8 c.month.result = omega (arith, signed_arith, c.month.type_inv) in
    let day_fits : FitsSigned w8 c.day.result =
    omega (arith, signed_arith, c.day.ensures, c.date_of-date.result.day_in.1, (days_in_month_bounds c.date_of-date.result.year c.date_of-date.result.month).0) in
    let year = simp to_z-of_z at c.unsigned_abs.ensures.value in
    let month = simp to_z-of_z at c.unsigned_abs-2.ensures.value in
    let day = simp to_z-of_z at c.unsigned_abs-3.ensures.value in
    rw (year, month, day, c.year.ensures, c.month.ensures, c.day.ensures)
    (IsDayOf_date c.date_of-date.result c.args.days c.date_of-date.ensures (omega arith))
