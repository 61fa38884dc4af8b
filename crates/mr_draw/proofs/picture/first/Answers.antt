use Rattle.std.proofs.Common.{sym, take_all}
use Rattle.mr_draw.specs.declared.marks.TheConstants.{MAX_ROWS}
use Rattle.mr_draw.proofs.picture.first.Goals as goal

pub returns-else-happenings-gt-MAX_ROWS-clause-first : goal.returns-else-happenings-gt-MAX_ROWS-clause-first
returns-else-happenings-gt-MAX_ROWS-clause-first c = sym (take_all MAX_ROWS c.args.happenings.now c.if-happenings-gt-MAX_ROWS.false)
