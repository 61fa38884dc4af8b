use Rattle.std.proofs.Common.{◌≡◌, [], Some, refl}
use Rattle.mr_folder.proofs.Names.{OnlyAt, Puts, steps_of, tree_of}
use Rattle.mr_folder.proofs.MemoryLemmas.{write_ok, write_files, write_crash, write_time, put_only, put_there}
use Rattle.mr_folder.proofs.memory.MemoryTreeFileTree.create.Goals as goal

pub returns-clause-made : goal.returns-clause-made
returns-clause-made c = λ told. let old = steps_of c.args.self.now in let new = steps_of c.do_create.new.self in let r = c.do_create.result in write_ok (λ l. tree_of l c.args.path.now ≡ Some []) r (Puts c.args.path.now []) old new (put_there c.args.path.now [] old) c.do_create.ensures

pub returns-clause-only : goal.returns-clause-only
returns-clause-only c = λ told. let old = steps_of c.args.self.now in let new = steps_of c.do_create.new.self in let r = c.do_create.result in write_files (OnlyAt c.args.path.now) r (Puts c.args.path.now []) old new (λ t other apart. refl) (put_only c.args.path.now [] old) c.do_create.ensures

pub returns-clause-crash : goal.returns-clause-crash
returns-clause-crash c = λ told. let old = steps_of c.args.self.now in let new = steps_of c.do_create.new.self in let r = c.do_create.result in write_crash (OnlyAt c.args.path.now) r (Puts c.args.path.now []) old new (λ t other apart. refl) (λ t may. may) c.do_create.ensures

pub returns-clause-time : goal.returns-clause-time
returns-clause-time c = λ told. let old = steps_of c.args.self.now in let new = steps_of c.do_create.new.self in let r = c.do_create.result in write_time r (Puts c.args.path.now []) old new c.do_create.ensures
