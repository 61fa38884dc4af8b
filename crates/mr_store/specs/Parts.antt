-- the parts of a store
use Rattle.mr_store.specs.declared.store.Part.{Part}
use Rattle.mr_store.specs.declared.store.Part.TheVariants.{Heads, PushOuts}

-- the part that it is not
abbrev pub other_part : Part → Part
other_part Heads = PushOuts
other_part PushOuts = Heads
