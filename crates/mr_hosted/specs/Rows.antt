-- rows that files and acts meet
use Rattle.std.specs.Prelude.{◌≡◌, [], ◌∷◌, ℕ, List, Vec, refl}
use Rattle.std.specs.declared.alloc.Global.{Global}
use Rattle.std.proofs.Common.{ap}
use Rattle.std.proofs.lemmas.Bool.{false≢true}
use Rattle.mr_journal.specs.Device.{overwritten}
use Rattle.mr_hosted.specs.Acts.{AreSyncs, IsWrite, MayLeave, all_done}
use Rattle.mr_hosted.specs.declared.act.Act.TheVariants as act

-- a write goes over what is there, and past the end
pub write_past_the_end : (bytes : Vec ℕ Global) → bytes.items ≡ 8 ∷ 9 ∷ [] → all_done (1 ∷ 2 ∷ []) (act.Write 1 bytes ∷ []) ≡ 1 ∷ 8 ∷ 9 ∷ []
write_past_the_end bytes are = ap (λ (b : List ℕ). overwritten (1 ∷ 2 ∷ []) 1 b) are

-- of a write and a cut the one that comes later counts
pub cut_behind_a_write : (bytes : Vec ℕ Global) → bytes.items ≡ 8 ∷ 9 ∷ [] → all_done (1 ∷ 2 ∷ []) (act.Write 1 bytes ∷ act.Cut 2 ∷ act.Sync ∷ []) ≡ 1 ∷ 8 ∷ []
cut_behind_a_write bytes are = ap (λ (b : List ℕ). all_done (overwritten (1 ∷ 2 ∷ []) 1 b) (act.Cut 2 ∷ act.Sync ∷ [])) are

-- with nothing to do a crash leaves the file, and so it does behind a sync
pub nothing_to_do : (c : List ℕ) → MayLeave (1 ∷ 2 ∷ []) [] c → c ≡ 1 ∷ 2 ∷ []
nothing_to_do c left = left

pub cut_and_synced : (c : List ℕ) → MayLeave (1 ∷ 2 ∷ []) (act.Cut 1 ∷ act.Sync ∷ []) c → c ≡ 1 ∷ []
cut_and_synced c left = left

-- two syncs are none but syncs, and with a cut between them they aren't
pub two_syncs : AreSyncs (act.Sync ∷ act.Sync ∷ [])
two_syncs = refl

pub a_cut_between : AreSyncs (act.Sync ∷ act.Cut 0 ∷ act.Sync ∷ []) → ⊥
a_cut_between are = false≢true are

-- an act writes just its bytes at its place
pub writes_its_bytes : (bytes : Vec ℕ Global) → IsWrite 7 bytes.items (act.Write 7 bytes)
writes_its_bytes bytes = (refl, refl)

pub a_sync_writes_none : IsWrite 7 [] act.Sync → ⊥
a_sync_writes_none is = is
