use Rattle.std.proofs.Common.{subst, map, string_bytes}
use Rattle.mr_folder.proofs.Names.{IfOk, TellsDigests, steps_of, tree_of}
use Rattle.mr_folder.proofs.MemoryLemmas.{untouched}
use Rattle.mr_folder.proofs.MemoryNames.{names_ok}
use Rattle.mr_folder.proofs.memory.MemoryTreeFileTree.stored_names.Goals as goal

pub returns-in_err-count-clause-untouched : goal.returns-in_err-count-clause-untouched
returns-in_err-count-clause-untouched c = λ told. untouched c.args.self.now c.count.new.self c.count.ensures

pub returns-clause-names : goal.returns-clause-names
returns-clause-names c = λ told. subst (λ l. IfOk c.names_of.result (λ names. TellsDigests (tree_of l) (map (λ s. string_bytes s) names.items))) c.count.ensures (names_ok (steps_of c.count.new.self) c.names_of.result c.names_of.ensures)

pub returns-clause-untouched : goal.returns-clause-untouched
returns-clause-untouched c = λ told. untouched c.args.self.now c.count.new.self c.count.ensures
