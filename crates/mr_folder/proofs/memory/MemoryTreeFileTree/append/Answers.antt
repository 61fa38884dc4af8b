use Rattle.std.proofs.Common.{◌≡◌, ◌++◌, ℕ, List, [], Some, refl, ap, ◌∙◌, unwrap_or}
use Rattle.mr_folder.proofs.Names.{OnlyAt, Puts, steps_of, tree_of}
use Rattle.mr_folder.proofs.MemoryLemmas.{write_ok, write_files, write_crash, write_time, put_only, put_there}
use Rattle.mr_folder.proofs.memory.MemoryTreeFileTree.append.Goals as goal

pub returns-clause-written : goal.returns-clause-written
returns-clause-written c = λ told. let old = steps_of c.args.self.now in let new = steps_of c.do_append.new.self in let r = c.do_append.result in write_ok (λ l. (front : List ℕ) → tree_of old c.args.path.now ≡ Some front → tree_of l c.args.path.now ≡ Some (front ++ c.args.bytes.now)) r (Puts c.args.path.now (unwrap_or (tree_of old c.args.path.now) [] ++ c.args.bytes.now)) old new (λ front was. put_there c.args.path.now (unwrap_or (tree_of old c.args.path.now) [] ++ c.args.bytes.now) old ∙ ap (λ o. Some (unwrap_or o [] ++ c.args.bytes.now)) was) c.do_append.ensures

pub returns-clause-only : goal.returns-clause-only
returns-clause-only c = λ told. let old = steps_of c.args.self.now in let new = steps_of c.do_append.new.self in let r = c.do_append.result in write_files (OnlyAt c.args.path.now) r (Puts c.args.path.now (unwrap_or (tree_of old c.args.path.now) [] ++ c.args.bytes.now)) old new (λ t other apart. refl) (put_only c.args.path.now (unwrap_or (tree_of old c.args.path.now) [] ++ c.args.bytes.now) old) c.do_append.ensures

pub returns-clause-crash : goal.returns-clause-crash
returns-clause-crash c = λ told. let old = steps_of c.args.self.now in let new = steps_of c.do_append.new.self in let r = c.do_append.result in write_crash (OnlyAt c.args.path.now) r (Puts c.args.path.now (unwrap_or (tree_of old c.args.path.now) [] ++ c.args.bytes.now)) old new (λ t other apart. refl) (λ t may. may) c.do_append.ensures

pub returns-clause-time : goal.returns-clause-time
returns-clause-time c = λ told. let old = steps_of c.args.self.now in let new = steps_of c.do_append.new.self in let r = c.do_append.result in write_time r (Puts c.args.path.now (unwrap_or (tree_of old c.args.path.now) [] ++ c.args.bytes.now)) old new c.do_append.ensures
