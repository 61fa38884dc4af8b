use Rattle.mr_folder.proofs.MemoryNames.{behind-strip_prefix}
use Rattle.mr_folder.proofs.memory.name_in_store.Goals as goal

pub returns : goal.returns
returns c = behind-strip_prefix c.args.path.now c.strip_prefix.result c.strip_prefix.ensures.cases
