use Rattle.mr_folder.proofs.memory_folders.MemoryFoldersFolders.names.Goals as goal

pub returns-clause-told : goal.returns-clause-told
returns-clause-told c = λ told still. c.in_ok-names.ensures
