use Rattle.std.proofs.Common.{take}
use Rattle.mr_concise.specs.AnyOf.{in_any}
use Rattle.mr_concise.proofs.AnyOfLemmas.{NextAuthor}
use Rattle.mr_concise.proofs.source.AnyOfSource.next_author.Given as goal

abbrev pub invariant-loop-source : goal.invariant-loop-source
invariant-loop-source g l = NextAuthor (in_any g.S.Source.has (take l.source-index l.self.sources.now)) l.id l.next
