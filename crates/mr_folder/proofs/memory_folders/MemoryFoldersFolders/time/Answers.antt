use Rattle.std.proofs.Common.{refl, arith}
use Rattle.mr_folder.proofs.memory_folders.MemoryFoldersFolders.time.Goals as goal

pub returns-clause-told : goal.returns-clause-told
returns-clause-told c = λ told. record { moment = c.args.self.now.moment; no_sooner = omega arith; no_later = c.count.ensures.later; holds = refl }
