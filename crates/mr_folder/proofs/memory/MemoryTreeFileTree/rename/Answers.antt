use Rattle.std.proofs.Common.{◌≡◌, None}
use Rattle.mr_folder.proofs.Names.{MayMove, Moves, steps_of, tree_of}
use Rattle.mr_folder.proofs.ShowLemmas.{move_none}
use Rattle.mr_folder.proofs.MemoryLemmas.{write_ok, write_files, write_crash, write_time, move_does, moved, moved_away}
use Rattle.mr_folder.proofs.memory.MemoryTreeFileTree.rename.Goals as goal

pub returns-clause-moved : goal.returns-clause-moved
returns-clause-moved c = λ told. let old = steps_of c.args.self.now in let new = steps_of c.do_rename.new.self in let r = c.do_rename.result in write_ok (λ l. tree_of l c.args.to.now ≡ tree_of old c.args.from.now) r (Moves c.args.from.now c.args.to.now) old new (moved c.args.from.now c.args.to.now old) c.do_rename.ensures

pub returns-clause-files : goal.returns-clause-files
returns-clause-files c = λ told. let old = steps_of c.args.self.now in let new = steps_of c.do_rename.new.self in let r = c.do_rename.result in write_files (MayMove c.args.from.now c.args.to.now) r (Moves c.args.from.now c.args.to.now) old new (move_none c.args.from.now c.args.to.now) (move_does c.args.from.now c.args.to.now old) c.do_rename.ensures

pub returns-clause-crash : goal.returns-clause-crash
returns-clause-crash c = λ told. let old = steps_of c.args.self.now in let new = steps_of c.do_rename.new.self in let r = c.do_rename.result in write_crash (MayMove c.args.from.now c.args.to.now) r (Moves c.args.from.now c.args.to.now) old new (move_none c.args.from.now c.args.to.now) (λ t may. may) c.do_rename.ensures

pub returns-clause-time : goal.returns-clause-time
returns-clause-time c = λ told. let old = steps_of c.args.self.now in let new = steps_of c.do_rename.new.self in let r = c.do_rename.result in write_time r (Moves c.args.from.now c.args.to.now) old new c.do_rename.ensures

pub returns-clause-gone : goal.returns-clause-gone
returns-clause-gone c = λ told apart. let old = steps_of c.args.self.now in let new = steps_of c.do_rename.new.self in let r = c.do_rename.result in write_ok (λ l. tree_of l c.args.from.now ≡ None) r (Moves c.args.from.now c.args.to.now) old new (moved_away c.args.from.now c.args.to.now old apart) c.do_rename.ensures
