use Rattle.std.proofs.Common.{take}
use Rattle.mr_concise.proofs.Names.{IsPassed, in_any, of_author}
use Rattle.mr_concise.proofs.source.passed.Given as goal

abbrev pub invariant-loop-source : goal.invariant-loop-source
invariant-loop-source g l = IsPassed (of_author (in_any g.S.Source.has (take l.source-index l.sources)) l.author) l.from l.at
