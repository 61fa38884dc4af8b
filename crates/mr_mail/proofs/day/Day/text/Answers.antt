use Rattle.std.proofs.Common.{string_bytes}
use Rattle.std.proofs.lemmas.Result.{IfOk-weaker}
use Rattle.mr_mail.proofs.DayLemmas.{Spells_text}
use Rattle.mr_mail.proofs.day.Day.text.Goals as goal

pub returns-clause-only : goal.returns-clause-only
returns-clause-only c =
    IfOk-weaker c.date_text.result _ _
    (λ text written other spells.
    Spells_text other (string_bytes text) c.args.self spells
    (record { year = c.parts_of-year.result.0; month = c.parts_of-year.result.1; day_of_month = c.parts_of-year.result.2; written = written; is_day = rw (← c.self.view_is) c.parts_of-year.ensures }))
    c.date_text.ensures
