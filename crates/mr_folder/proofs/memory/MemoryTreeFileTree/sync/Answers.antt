use Rattle.mr_folder.proofs.Names.{MayLeave, NoneOr, Syncs, steps_of, tree_of}
use Rattle.mr_folder.proofs.MemoryLemmas.{write_ok, sync_untouched}
use Rattle.mr_folder.proofs.memory.MemoryTreeFileTree.sync.Goals as goal

pub returns-clause-durable : goal.returns-clause-durable
returns-clause-durable c = λ told. let old = steps_of c.args.self.now in let new = steps_of c.do_sync.new.self in let r = c.do_sync.result in write_ok (λ l. NoneOr c.args.path.now (tree_of old c.args.path.now) (MayLeave l)) r (Syncs c.args.path.now) old new (λ t may. may.2.1) c.do_sync.ensures

pub returns-clause-untouched : goal.returns-clause-untouched
returns-clause-untouched c = λ told. sync_untouched c.do_sync.result c.args.path.now c.args.self.now c.do_sync.new.self c.do_sync.ensures
