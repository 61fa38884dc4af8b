use Rattle.std.proofs.Common.{take, ◌≤◌}
use Rattle.mr_concise.proofs.Names.{IfSome, MAX_COUNTER, in_any, of_author}
use Rattle.mr_concise.proofs.AnyOfLemmas.{NextIn}
use Rattle.mr_concise.proofs.source.AnyOfSource.next_in.Given as goal

abbrev pub invariant-loop-source : goal.invariant-loop-source
invariant-loop-source g l = record { next : NextIn (of_author (in_any g.S.Source.has (take l.source-index l.self.sources.now)) l.author) l.from l.next; bound : IfSome l.next (λ at. at ≤ MAX_COUNTER) }
