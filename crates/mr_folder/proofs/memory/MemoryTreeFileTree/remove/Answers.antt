use Rattle.std.proofs.Common.{◌≡◌, None}
use Rattle.mr_folder.proofs.Names.{Goes, MayGo, steps_of, tree_of}
use Rattle.mr_folder.proofs.ShowLemmas.{go_none}
use Rattle.mr_folder.proofs.MemoryLemmas.{write_ok, write_files, write_crash, write_time, go_does, gone}
use Rattle.mr_folder.proofs.memory.MemoryTreeFileTree.remove.Goals as goal

pub returns-clause-gone : goal.returns-clause-gone
returns-clause-gone c = λ told. let old = steps_of c.args.self.now in let new = steps_of c.do_remove.new.self in let r = c.do_remove.result in write_ok (λ l. tree_of l c.args.path.now ≡ None) r (Goes c.args.path.now) old new (gone c.args.path.now old) c.do_remove.ensures

pub returns-clause-files : goal.returns-clause-files
returns-clause-files c = λ told. let old = steps_of c.args.self.now in let new = steps_of c.do_remove.new.self in let r = c.do_remove.result in write_files (MayGo c.args.path.now) r (Goes c.args.path.now) old new (go_none c.args.path.now) (go_does c.args.path.now old) c.do_remove.ensures

pub returns-clause-crash : goal.returns-clause-crash
returns-clause-crash c = λ told. let old = steps_of c.args.self.now in let new = steps_of c.do_remove.new.self in let r = c.do_remove.result in write_crash (MayGo c.args.path.now) r (Goes c.args.path.now) old new (go_none c.args.path.now) (λ t may. may) c.do_remove.ensures

pub returns-clause-time : goal.returns-clause-time
returns-clause-time c = λ told. let old = steps_of c.args.self.now in let new = steps_of c.do_remove.new.self in let r = c.do_remove.result in write_time r (Goes c.args.path.now) old new c.do_remove.ensures
