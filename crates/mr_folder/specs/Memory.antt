-- files in memory: what was done to them, and what a crash leaves of that
use Rattle.std.specs.Prelude.{◌≡◌, ◌⊎◌, ℕ, zero, suc, ◌-◌, if◌then◌else◌, List, [], ◌∷◌, length, map, Some, None, is_some, string_bytes}
use Rattle.std.proofs.Common.{sym, subst}
use Rattle.std.proofs.Math.Nat.{sub_self}
use Rattle.std.specs.Str.{bytes_eq}
use Rattle.mr_folder.specs.Tree.{Tree, OnlyAt, MayMove, MayLink, MayGo}
use Rattle.mr_folder.specs.declared.memory.Change.{Change}
use Rattle.mr_folder.specs.declared.memory.Change.TheVariants.{Put, Moved, Linked, Gone, Synced, SyncedPath}
use Rattle.mr_folder.specs.declared.memory.MemoryTree.{MemoryTree}

-- what is done: a file gets bytes, another path, one more, or goes; a file or a path is synced
pub data Step : Type 0 where
  Puts : (path bytes : List ℕ) → Step
  Moves : (from to : List ℕ) → Step
  Links : (from to : List ℕ) → Step
  Goes : (path : List ℕ) → Step
  Syncs : (path : List ℕ) → Step
  SyncsPath : (path : List ℕ) → Step

abbrev pub step_of : Change → Step
step_of (Put path bytes) = Puts (string_bytes path) bytes.items
step_of (Moved from to) = Moves (string_bytes from) (string_bytes to)
step_of (Linked from to) = Links (string_bytes from) (string_bytes to)
step_of (Gone path) = Goes (string_bytes path)
step_of (Synced path) = Syncs (string_bytes path)
step_of (SyncedPath path) = SyncsPath (string_bytes path)

-- what was done to the files, the last first
abbrev pub steps_of : MemoryTree → List Step
steps_of files = map step_of files.changes.items

-- the files after a step
abbrev pub after : Step → Tree → Tree
after (Puts at bytes) tree path = if bytes_eq path at then Some bytes else tree path
after (Moves from to) tree path = if bytes_eq path to then tree from else (if bytes_eq path from then None else tree path)
after (Links from to) tree path = if bytes_eq path to then tree from else tree path
after (Goes at) tree path = if bytes_eq path at then None else tree path
after (Syncs at) tree path = tree path
after (SyncsPath at) tree path = tree path

-- the files after all steps
abbrev pub tree_of : List Step → Tree
tree_of [] path = None
tree_of (step ∷ before) path = after step (tree_of before) path

-- What a crash may make of a step, with the files that are seen before it: a write is done in any part that `FileTree` allows, or lost. From a
-- sync on a file has the bytes that are seen, if it is there; from the sync of a path on there is a file where one is seen.
abbrev pub CrashStep : Step → Tree → Tree → Tree → Type 0
CrashStep (Puts at bytes) seen old new = OnlyAt at old new
CrashStep (Moves from to) seen old new = MayMove from to old new
CrashStep (Links from to) seen old new = MayLink from to old new
CrashStep (Goes at) seen old new = MayGo at old new
CrashStep (Syncs at) seen old new = (new ≡ old) × ((new at ≡ None) ⊎ (new at ≡ seen at))
CrashStep (SyncsPath at) seen old new = (new ≡ old) × (is_some (new at) ≡ is_some (seen at))

-- what a crash may leave of all steps
abbrev pub MayLeave : List Step → Tree → Type 0
MayLeave [] c = c ≡ tree_of []
MayLeave (step ∷ before) c = (d : Tree) × MayLeave before d × CrashStep step (tree_of before) d c

-- what a crash left at one of the last moments: now, or before one of the last n steps
abbrev pub Left : ℕ → List Step → Tree → Type 0
Left zero steps c = MayLeave steps c
Left (suc n) [] c = MayLeave [] c
Left (suc n) (step ∷ before) c = MayLeave (step ∷ before) c ⊎ Left n before c

-- what a crash left at some moment since there were t steps
abbrev pub LeftSince : List Step → ℕ → Tree → Type 0
LeftSince steps t c = Left (length steps - t) steps c

-- since the last step that is what it may leave now
pub only_now : (steps : List Step) (c : Tree) → LeftSince steps (length steps) c → MayLeave steps c
only_now steps c left = subst (λ n. Left n steps c → MayLeave steps c) (sym (sub_self (length steps))) (λ now. now) left
