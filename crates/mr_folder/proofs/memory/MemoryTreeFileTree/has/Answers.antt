use Rattle.std.proofs.Common.{ap, ◌∙◌}
use Rattle.mr_folder.proofs.Names.{is_some, tree_of}
use Rattle.mr_folder.proofs.MemoryLemmas.{untouched}
use Rattle.mr_folder.proofs.memory.MemoryTreeFileTree.has.Goals as goal

pub returns-in_err-count-clause-untouched : goal.returns-in_err-count-clause-untouched
returns-in_err-count-clause-untouched c = λ told. untouched c.args.self.now c.count.new.self c.count.ensures

pub returns-clause-has : goal.returns-clause-has
returns-clause-has c = λ told. c.is_there.ensures ∙ ap (λ l. is_some (tree_of l c.args.path.now)) c.count.ensures

pub returns-clause-untouched : goal.returns-clause-untouched
returns-clause-untouched c = λ told. untouched c.args.self.now c.count.new.self c.count.ensures
