use Rattle.std.proofs.Common.{take_all}
use Rattle.mr_concise.proofs.source.AnyOfSource.next_in.Goals as goal

pub returns-clause-next : goal.returns-clause-next
returns-clause-next g c = let all = take_all c.loop-source.source-index c.args.self.now.sources.now c.loop-source-test.false in rw all at c.loop-source.invariant.next
