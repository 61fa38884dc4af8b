use Rattle.std.proofs.Common.{rules, arith, ◌≡◌, ◌∙◌, sym, ap, pos, Some, FitsSigned, w16, w8, w32}
use Rattle.std.proofs.lemmas.Grind.{common_steps}
use Rattle.std.proofs.lemmas.Int.{to_z-of_z}
use Rattle.jiff.specs.Words.{epoch_day, IsYmd, IsDate}
use Rattle.jiff_core.proofs.SignedLemmas.{signed_arith}
use Rattle.mr_mail.proofs.DayLemmas.{IsDate-IsDayOf, epoch_day-IsDayOf, not_ok, not_ok_iff}
use Rattle.mr_mail.proofs.day.day_of.Goals as goal
use mir.Val.{to_z}

pub returns-clause-found : goal.returns-clause-found
returns-clause-found c = record { date = c.in_ok-date.date; parts = search rules; counted = grind (arith, common_steps); in_range = omega arith }

pub returns-in_err-date-clause-complete : goal.returns-in_err-date-clause-complete
returns-in_err-date-clause-complete c = λ n is_day.
    let year : to_z w16 c.args.year ≡ pos c.args.year = search rules in
    let month : to_z w8 c.args.month ≡ pos c.args.month = search rules in
    let day : to_z w8 c.args.day ≡ pos c.args.day = search rules in
    let has : IsDate (to_z w16 c.args.year) (to_z w8 c.args.month) (to_z w8 c.args.day) = rw (year, month, day) (IsDate-IsDayOf _ _ _ n is_day) in
    absurd (not_ok c.new.result (sym c.ok.ensures.value ∙ c.in_err-date.was) (c.new.ensures.succeeds.1 has))

pub returns-in_err-days-clause-complete : goal.returns-in_err-days-clause-complete
returns-in_err-days-clause-complete c = λ n is_day.
    let parts : IsYmd (pos c.args.year) (pos c.args.month) (pos c.args.day) c.in_ok-date.date = search rules in
    let counted = epoch_day-IsDayOf _ _ _ n c.in_ok-date.date parts is_day in
    let count : c.to_unix_epoch_day.result ≡ pos n = c.to_unix_epoch_day.ensures.value ∙ ap epoch_day c.to_plain.ensures ∙ counted in
    let fits : FitsSigned w32 c.to_unix_epoch_day.result = omega (arith, signed_arith, c.to_unix_epoch_day.ensures.bound) in
    absurd (not_ok_iff c.try_from.result _ _ c.try_from.ensures (sym c.ok-2.ensures.value ∙ c.in_err-days.was) (rw (to_z-of_z, count) (omega (arith, is_day.in_range))))

pub returns-clause-complete : goal.returns-clause-complete
returns-clause-complete c = λ n is_day.
    let parts : IsYmd (pos c.args.year) (pos c.args.month) (pos c.args.day) c.in_ok-date.date = search rules in
    let counted = epoch_day-IsDayOf _ _ _ n c.in_ok-date.date parts is_day in
    let found : epoch_day c.in_ok-date.date ≡ pos c.in_ok-days.days = grind (arith, common_steps) in
    let same : c.in_ok-days.days ≡ n = omega (arith, signed_arith, counted, found) in
    ap (λ d. Some d) same
