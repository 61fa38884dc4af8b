-- a store of files by the digests of their bytes
use Rattle.std.specs.Prelude.{◌≡◌, ◌≢◌, ◌⊎◌, ℕ, List, Some, IfSome}
use Rattle.hex.specs.Hex.{IsBytes}
use Rattle.sha2.specs.Hashers.{Holds256}
use Rattle.sha2.specs.Sha256.{sha256}
use Rattle.mr_folder.specs.Inside.{draft_path, stored_path}
use Rattle.mr_folder.specs.Tree.{Tree, LeavesOnly}
use Rattle.mr_folder.specs.declared.store.Incoming.{Incoming}

-- each file of the store has the digest that it is stored by
abbrev pub IsStore : Tree → Type 0
IsStore tree = (digest : List ℕ) → IsBytes digest → IfSome (tree (stored_path digest)) (λ bytes. sha256 bytes ≡ digest)

-- the store is one now, and whatever a crash leaves is one
pub record IsSound {F : Type 0} (seen : F → Tree) (may_leave : F → Tree → Type 0) (files : F) : Type 0 where
  pub now : IsStore (seen files)
  pub crash : (c : Tree) → may_leave files c → IsStore c

-- it is sound still, and a crash at any moment between left a store
pub record StaysSound {F : Type 0} (seen : F → Tree) (may_leave : F → Tree → Type 0) (moment : F → ℕ) (left_since : F → ℕ → Tree → Type 0) (old new : F) : Type 0 where
  pub sound : IsSound seen may_leave new
  pub moments : LeavesOnly moment left_since old new IsStore

-- only the store's file of this digest and the draft may be others than they were, or gone
abbrev pub OnlyStored : List ℕ → Tree → Tree → Type 0
OnlyStored digest old new = (path : List ℕ) → path ≢ stored_path digest → path ≢ draft_path → new path ≡ old path

-- at this path there is what there was, or a file of these bytes
abbrev pub SameOr : List ℕ → List ℕ → Tree → Tree → Type 0
SameOr path bytes old new = (new path ≡ old path) ⊎ (new path ≡ Some bytes)

-- the store has a file of this digest
pub record HasMail (digest : List ℕ) (tree : Tree) : Type 0 where
  pub bytes : List ℕ
  pub stored : tree (stored_path digest) ≡ Some bytes
  pub digest_is : sha256 bytes ≡ digest

-- it has one now, and whatever a crash leaves has one
pub record IsKept {F : Type 0} (seen : F → Tree) (may_leave : F → Tree → Type 0) (digest : List ℕ) (files : F) : Type 0 where
  pub now : HasMail digest (seen files)
  pub crash : (c : Tree) → may_leave files c → HasMail digest c

-- A mail that the store has stays there: in the same bytes, and where a crash would have left it, whatever one leaves now, or left at a moment between, has it.
pub record KeepsMail {F : Type 0} (seen : F → Tree) (may_leave : F → Tree → Type 0) (moment : F → ℕ) (left_since : F → ℕ → Tree → Type 0) (digest : List ℕ) (old new : F) : Type 0 where
  pub same : HasMail digest (seen old) → seen new (stored_path digest) ≡ seen old (stored_path digest)
  pub kept : IsKept seen may_leave digest old → IsKept seen may_leave digest new
  pub moments : IsKept seen may_leave digest old → LeavesOnly moment left_since old new (HasMail digest)

-- so does each mail
abbrev pub KeepsMails : {F : Type 0} → (F → Tree) → (F → Tree → Type 0) → (F → ℕ) → (F → ℕ → Tree → Type 0) → F → F → Type 0
KeepsMails seen may_leave moment left_since old new = (digest : List ℕ) → KeepsMail seen may_leave moment left_since digest old new

-- a mail of these bytes got to its place: it was there, and its file is as it was; or it wasn't, and its file has these bytes
abbrev pub GetsMail : (digest bytes : List ℕ) → Tree → Tree → Type 0
GetsMail digest bytes old new = (HasMail digest old × (new (stored_path digest) ≡ old (stored_path digest))) ⊎ ((HasMail digest old → ⊥) × (new (stored_path digest) ≡ Some bytes))

-- of a mail that comes in these bytes have come: the draft has them, and its digest goes on from them
pub record HasCome (bytes : List ℕ) (incoming : Incoming) (tree : Tree) : Type 0 where
  pub held : Holds256 incoming.hasher bytes
  pub written : tree draft_path ≡ Some bytes
