use Rattle.mr_folder.proofs.Names.{HasSame, MayLeave, SyncsPath, steps_of, tree_of}
use Rattle.mr_folder.proofs.MemoryLemmas.{write_ok, sync_path_untouched}
use Rattle.mr_folder.proofs.memory.MemoryTreeFileTree.sync_path.Goals as goal

pub returns-clause-durable : goal.returns-clause-durable
returns-clause-durable c = λ told. let old = steps_of c.args.self.now in let new = steps_of c.do_sync_path.new.self in let r = c.do_sync_path.result in write_ok (λ l. HasSame c.args.path.now (tree_of old) (MayLeave l)) r (SyncsPath c.args.path.now) old new (λ t may. may.2.1) c.do_sync_path.ensures

pub returns-clause-untouched : goal.returns-clause-untouched
returns-clause-untouched c = λ told. sync_path_untouched c.do_sync_path.result c.args.path.now c.args.self.now c.do_sync_path.new.self c.do_sync_path.ensures
