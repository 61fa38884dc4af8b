-- lists in messages
use Rattle.std.specs.Prelude.{◌≡◌, ◌≢◌, ℕ, List, ◌++◌, length, Result, Ok, Err}
use Rattle.std.specs.List.{AllByRecursion, flat_map}
use Rattle.std.specs.Global.{Vec}
use Rattle.mr_madewith.specs.Revision.{Rev}
use Rattle.mr_wire.specs.Grammar.{IsItem}
use Rattle.mr_wire.specs.Spelling.{name_bytes}
use Rattle.mr_sync.specs.declared.fault.SyncFault.{SyncFault}
use Rattle.mr_sync.specs.declared.fault.SyncFault.TheVariants.{OutOfMemory, BadList}
use Rattle.mr_sync.specs.declared.lists.PushOut.{PushOut}

-- an item and a version as a list tells them
abbrev pub push_out_bytes : PushOut → List ℕ
push_out_bytes p = name_bytes p.item ++ name_bytes p.version

-- both are names of versions
abbrev pub IsPushOut : PushOut → Type 0
IsPushOut p = IsItem p.item × IsItem p.version

-- the bytes of a revision: those of its item and its version
abbrev pub revision_bytes : Rev → List ℕ
revision_bytes r = name_bytes r.item ++ name_bytes r.version

-- SHA-256 has 32 bytes
abbrev pub IsDigest : List ℕ → Type 0
IsDigest digest = length digest ≡ 32

-- What is read is the list that the bytes spell, part for part, if there is one. Memory runs out only where there is.
abbrev pub ReadsList : {X : Type 0} → (X → Type 0) → (X → List ℕ) → List ℕ → Result (Vec X) SyncFault → Type 0
ReadsList {X} fits spell bytes (Ok list) = (bytes ≡ flat_map spell list.items) × AllByRecursion fits list.items
ReadsList {X} fits spell bytes (Err OutOfMemory) = (list : List X) × (bytes ≡ flat_map spell list) × AllByRecursion fits list
ReadsList {X} fits spell bytes (Err BadList) = (list : List X) → AllByRecursion fits list → bytes ≢ flat_map spell list
ReadsList {X} fits spell bytes (Err fault) = ⊥
