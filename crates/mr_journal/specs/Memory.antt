-- what a file in memory shows
use Rattle.std.specs.Prelude.{ℕ, Bool, List}
use Rattle.mr_journal.specs.declared.memory.MemoryDevice.{MemoryDevice}

-- its bytes
abbrev pub memory_bytes : MemoryDevice → List ℕ
memory_bytes device = device.bytes.items

-- whether a call has failed
abbrev pub memory_failed : MemoryDevice → Bool
memory_failed device = device.failed
