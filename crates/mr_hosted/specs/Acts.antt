-- what acts make of a file, and what a crash leaves of them
use Rattle.std.specs.Prelude.{◌≡◌, ◌≤◌, [], ◌∷◌, ℕ, Bool, IsTrue, true, false, List, length, take}
use Rattle.std.specs.List.{list_all}
use Rattle.std.proofs.Common.{sym, subst, arith}
use Rattle.std.proofs.lemmas.List.{take_all}
use Rattle.mr_journal.specs.Device.{Cut, Torn, overwritten}
use Rattle.mr_hosted.specs.declared.act.Act.{Act}
use Rattle.mr_hosted.specs.declared.act.Act.TheVariants as act

-- the file once an act is done
abbrev pub done : List ℕ → Act → List ℕ
done file (act.Write at bytes) = overwritten file at bytes.items
done file (act.Cut len) = take len file
done file act.Sync = file

-- the file once all of the acts are done, one after the other
abbrev pub all_done : List ℕ → List Act → List ℕ
all_done file [] = file
all_done file (a ∷ acts) = all_done (done file a) acts

-- whether an act is a sync
abbrev pub is_sync : Act → Bool
is_sync (act.Write at bytes) = false
is_sync (act.Cut len) = false
is_sync act.Sync = true

-- none of the acts writes or cuts
abbrev pub AreSyncs : List Act → Type 0
AreSyncs acts = IsTrue (list_all is_sync acts)

-- an act writes these bytes at this place
abbrev pub IsWrite : ℕ → List ℕ → Act → Type 0
IsWrite place written (act.Write at bytes) = (at ≡ place) × (bytes.items ≡ written)
IsWrite place written (act.Cut len) = ⊥
IsWrite place written act.Sync = ⊥

-- What a crash may leave once an act was begun, of what it might have left before: a write may be torn and a cut halfway, also when they are
-- done; a sync that is done leaves the file as it is.
abbrev pub LeftBy : List ℕ → Act → (List ℕ → Type 0) → List ℕ → Type 0
LeftBy file (act.Write at bytes) before c = (d : List ℕ) × before d × Torn at bytes.items d c
LeftBy file (act.Cut len) before c = (d : List ℕ) × before d × Cut len d c
LeftBy file act.Sync before c = c ≡ file

-- what a crash may leave once acts were begun, one after the other
abbrev pub LeftByAll : List ℕ → (List ℕ → Type 0) → List Act → List ℕ → Type 0
LeftByAll file before [] c = before c
LeftByAll file before (a ∷ acts) c = LeftByAll (done file a) (LeftBy file a before) acts c

-- what a crash may leave of a file that was synced and these acts since
abbrev pub MayLeave : List ℕ → List Act → List ℕ → Type 0
MayLeave file acts c = LeftByAll file (λ d. d ≡ file) acts c

-- what a crash left at some moment: so many acts were begun, at least t
pub record LeftSince (file : List ℕ) (acts : List Act) (t : ℕ) (c : List ℕ) : Type 0 where
  pub begun : ℕ
  pub from : t ≤ begun
  pub to : begun ≤ length acts
  pub left : MayLeave file (take begun acts) c

-- in what a crash leaves now all acts were begun
pub now_counts : (file : List ℕ) (acts : List Act) (t : ℕ) (c : List ℕ) → t ≤ length acts → MayLeave file acts c → LeftSince file acts t c
now_counts file acts t c le left = record {
  begun = length acts;
  from = le;
  to = omega arith;
  left = subst (λ (l : List Act). MayLeave file l c) (sym (take_all (length acts) acts (omega arith))) left;
}

-- since the last act was begun nothing else was left than what a crash leaves now
pub only_now : (file : List ℕ) (acts : List Act) (c : List ℕ) → LeftSince file acts (length acts) c → MayLeave file acts c
only_now file acts c since = subst (λ (l : List Act). MayLeave file l c) (take_all since.begun acts since.from) since.left
