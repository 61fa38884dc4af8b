use Rattle.std.proofs.Common.{◌∙◌, sym, refl}
use Rattle.mr_command.proofs.message.read_day.Goals as goal

pub returns-in-Err : goal.returns-in-Err
returns-in-Err c = (refl, λ day spells. let same = sym c.in-Err.is ∙ c.read.ensures.complete day spells in cc)
