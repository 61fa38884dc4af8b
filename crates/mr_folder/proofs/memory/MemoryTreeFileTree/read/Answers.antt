use Rattle.std.proofs.Common.{◌≡◌, subst}
use Rattle.mr_folder.proofs.Names.{IfOk, option_map, tree_of}
use Rattle.mr_folder.proofs.MemoryLemmas.{untouched}
use Rattle.mr_folder.proofs.memory.MemoryTreeFileTree.read.Goals as goal

pub returns-in_err-count-clause-untouched : goal.returns-in_err-count-clause-untouched
returns-in_err-count-clause-untouched c = λ told. untouched c.args.self.now c.count.new.self c.count.ensures

pub returns-clause-read : goal.returns-clause-read
returns-clause-read c = λ told. subst (λ l. IfOk c.copy.result (λ bytes. option_map (λ v. v.items) bytes ≡ tree_of l c.args.path.now)) c.count.ensures c.copy.ensures

pub returns-clause-untouched : goal.returns-clause-untouched
returns-clause-untouched c = λ told. untouched c.args.self.now c.count.new.self c.count.ensures
