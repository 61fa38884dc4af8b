-- what each call of a folder that talks does, by what it answers
use Rattle.std.specs.Prelude.{◌≡◌, ℕ, Bool, true, false, IsTrue, List, Some, option_map, Result, is_some, IfOk, IfSome, IsSome, MatchOption, OnOk}
use Rattle.mr_folder.specs.Store.{IsSound, KeepsMails}
use Rattle.mr_folder.specs.Tree.{IsUntouched, Tree}
use Rattle.mr_kept.specs.Kept.{nothing_waits, replica_of}
use Rattle.mr_talk.specs.declared.kind.Kind.{Kind}
use Rattle.mr_talk.specs.declared.kind.Kind.TheVariants as kind
use Rattle.mr_talk.specs.declared.side.HostFault.{HostFault}
use Rattle.mr_talk.specs.Host.{Act, Asks, Closes, Gives, Greets, Keeps, KeepsFiles, Meets, Takes}
use Rattle.mr_talk.specs.Said.{Said}
use Rattle.mr_talk.specs.Turns.{next_of}
use Rattle.mr_sync.specs.declared.host.FolderHost.{FolderHost}
use Rattle.mr_sync.specs.Files.{GoesWith, KeepsFile, LacksLess, Stores}
use Rattle.mr_sync.specs.Host.{AsksOf, EndsBehind, GoesOnBehind, IsHelloFrom, JudgesOf, SameFolder, SameOthers, TakesAskOf, TakesReceiptsOf, WantsNoMore, coming_of, files_of, journaled_of, knows_of, lacking_of, last_of, log_of, theirs_of, waiting_of, wants_of}
use Rattle.mr_sync.specs.Taken.{AllStay, GrowsOnlyByTheirs, LetsGoFor, TakesNamed, TakesPushOuts, TakesRecordOf, TakesWants}

-- the folder's tree, if what it tells of its files can be told, what of it is seen, what a crash may leave of it, and when
module _ {D F : Type 0} (is_told : Bool) (seen : F → Tree) (may_leave : F → Tree → Type 0) (moment : F → ℕ) (left_since : F → ℕ → Tree → Type 0) where
  -- each mail that the store had is there, in the same bytes, and whatever a crash leaves of those that it would have left has it
  abbrev pub KeepsFolder : FolderHost D F → FolderHost D F → Type 0
  KeepsFolder old new = IsTrue is_told → KeepsMails seen may_leave moment left_since (files_of old) (files_of new)

  -- all that was done is kept, and the folder holds what it held
  pub record KeepsAll (old : FolderHost D F) (result : Result (Unit {0}) HostFault) (new : FolderHost D F) : Type 0 where
    pub kept : OnOk result (nothing_waits (journaled_of new) ≡ true)
    pub replica : replica_of (journaled_of new) ≡ replica_of (journaled_of old)
    pub files : files_of new ≡ files_of old
    pub others : SameOthers old new

  -- a message of a file goes on with the one that comes, and its bytes are stored
  pub record TakesFile (old : FolderHost D F) (m : Said) (result : Result (Unit {0}) HostFault) (new : FolderHost D F) : Type 0 where
    pub goes : OnOk result (GoesWith m.kind m.bytes (coming_of old) (coming_of new))
    pub keeps : IsTrue is_told → IsSound seen may_leave (files_of old) → OnOk result (KeepsFile seen may_leave m.kind m.bytes (coming_of old) (files_of old) (files_of new))
    pub stores : IsTrue is_told → OnOk result (Stores m.kind m.bytes (coming_of old) (seen (files_of old)) (coming_of new) (seen (files_of new)))
    pub lacking : OnOk result (LacksLess m.kind m.bytes (coming_of old) (lacking_of old) (lacking_of new))
    pub journaled : journaled_of new ≡ journaled_of old
    pub others : SameOthers old new

  -- records are taken, the log has nothing else, and what was lacking is so still
  pub record TakesAll (old : FolderHost D F) (bytes : List ℕ) (new : FolderHost D F) : Type 0 where
    pub taken : TakesNamed is_told (theirs_of old) (last_of old) (replica_of (journaled_of old)) bytes (last_of new) (replica_of (journaled_of new)) (seen (files_of new)) (lacking_of new)
    pub listed : AllStay (lacking_of old) (lacking_of new)
    pub grows : GrowsOnlyByTheirs TakesRecordOf (theirs_of old) (log_of old) (log_of new)
    pub files : IsTrue is_told → IsUntouched seen may_leave moment left_since (files_of old) (files_of new)
    pub others : SameOthers old new

  -- receipts are taken, and the log has nothing else
  pub record LetsGoAll (old : FolderHost D F) (bytes : List ℕ) (new : FolderHost D F) : Type 0 where
    pub taken : TakesReceiptsOf old bytes new
    pub grows : GrowsOnlyByTheirs LetsGoFor (theirs_of old) (log_of old) (log_of new)
    pub files : files_of new ≡ files_of old
    pub others : SameOthers old new

  -- a message that came, by its kind
  abbrev pub TakesIn : Kind → (old : FolderHost D F) → Said → Result (Unit {0}) HostFault → (new : FolderHost D F) → Type 0
  TakesIn kind.Ask old m result new = OnOk result (TakesAskOf old m.bytes new)
  TakesIn kind.Whole old m result new = TakesFile old m result new
  TakesIn kind.Begin old m result new = TakesFile old m result new
  TakesIn kind.Piece old m result new = TakesFile old m result new
  TakesIn kind.End old m result new = TakesFile old m result new
  TakesIn kind.Missing old m result new = OnOk result (WantsNoMore m.bytes old new × SameFolder old new)
  TakesIn kind.Records old m result new = OnOk result (TakesAll old m.bytes new)
  TakesIn kind.Wants old m result new = OnOk result (TakesWants (wants_of old) m.bytes (wants_of new) × SameFolder old new)
  TakesIn kind.PushOuts old m result new = OnOk result (TakesPushOuts (waiting_of old) m.bytes (waiting_of new) × SameFolder old new)
  TakesIn kind.Receipts old m result new = OnOk result (LetsGoAll old m.bytes new)
  TakesIn kind.Done old m result new = OnOk result ((knows_of new ≡ Some m.bytes) × SameFolder old new)
  TakesIn other old m result new = Unit {0}

  -- what comes of a call of the folder
  abbrev pub ComesOf : (old : FolderHost D F) → Act → (new : FolderHost D F) → Type 0
  ComesOf old (Keeps result) new = KeepsAll old result new
  ComesOf old (KeepsFiles result) new = OnOk result (is_some (coming_of new) ≡ false) × (new ≡ old)
  ComesOf old (Greets theirs result) new = IfOk result (IsHelloFrom new (option_map (λ h. h.id) theirs)) × (new ≡ old)
  ComesOf old (Meets theirs result) new = IfOk result (JudgesOf new theirs) × (theirs_of new ≡ Some theirs) × SameFolder old new
  ComesOf old (Asks result) new = IfOk result (λ bytes. AsksOf old bytes.items new)
  ComesOf old (Gives turn result) new = IfOk result (λ found. IfSome found (λ message. IsSome (next_of turn message.kind)))
  ComesOf old (Closes turn result) new = IfOk result (λ found. MatchOption found (GoesOnBehind turn old new) (EndsBehind turn old new)) × SameFolder old new
  ComesOf old (Takes m result) new = TakesIn m.kind old m result new

  -- a call of the folder, which keeps the mails that the store had
  pub record FolderSteps (old : FolderHost D F) (act : Act) (new : FolderHost D F) : Type 0 where
    pub comes : ComesOf old act new
    pub keeps : KeepsFolder old new
