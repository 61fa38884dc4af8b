use Rattle.std.proofs.Common.{take}
use Rattle.mr_filter.proofs.Names.{AllZip, IsClauseText, texts_of}
use Rattle.mr_filter.proofs.text.clause_texts.Given as goal

abbrev pub invariant-loop-clause : goal.invariant-loop-clause
invariant-loop-clause l = AllZip IsClauseText (take l.clause-index l.clauses) (texts_of l.texts.items)
