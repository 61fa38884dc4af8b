-- why no replica is begun
use Rattle.std.proofs.Common.{arith}
use Rattle.std.proofs.Common.{◌≡◌, ◌≢◌, ◌⊎◌, ⊎_elim, ℕ, ◌==◌, Bool, false, List, [], ◌∷◌, length, sym, subst, ◌∙◌}
use Rattle.mr_kept.proofs.Names.{ClauseParts, Fits, Global, HeadParts, IsBeginFault, IsOfBatch, IsOfFile, IsOfSetup, IsTrue, Journal}
use Rattle.mr_kept.proofs.Names.{JournalFault, Keeps, OpenFault, Stands, Vec, contents, end_of, entry_bytes, false≢true}
use Rattle.mr_journal.specs.Reading.{IsReason}
use Rattle.mr_journal.specs.declared.fault.JournalFault.TheVariants as journal
use Rattle.mr_entry.specs.declared.entry.Entry.TheVariants as entry
use Rattle.mr_kept.specs.declared.fault.OpenFault.TheVariants as fault

-- by what it was to be begun with
pub of_setup : (file : List ℕ) (id : ℕ) (filter : List ClauseParts) (limit : ℕ) (birth mark : List ℕ) (why : OpenFault) → IsOfSetup filter limit why → IsBeginFault file id filter limit birth mark why
of_setup file id filter limit birth mark why h = grind arith

pub no_journal_fault : (filter : List ClauseParts) (limit : ℕ) (why : OpenFault) (j : JournalFault) → IsOfSetup filter limit why → why ≡ fault.Journal j → ⊥
no_journal_fault filter limit why j h is = subst (IsOfSetup filter limit) is h

-- the file is refused
pub of_open : (file : List ℕ) (head : HeadParts) (why : JournalFault) → IsReason why file → IsOfFile file head why
of_open file head why h = grind arith

-- it has entries
pub some_texts : (l : List (Vec ℕ Global)) (b : Bool) → b ≡ (length l == 0) → b ≡ false → contents l ≢ []
some_texts [] b is so none = false≢true (sym so ∙ is)
some_texts (x ∷ xs) b is so none = cc

-- or no room for the head
pub of_commit : {D : Type 0} {seen : D → List ℕ} {may_leave : D → List ℕ → Type 0} (file : List ℕ) (head : HeadParts) (texts batch : List (List ℕ)) (j : Journal D) (why : JournalFault) → texts ≡ [] → Stands texts file
    → Keeps seen may_leave texts j → IsOfBatch why → batch ≡ entry_bytes (entry.Head head) ∷ [] → (why ≡ journal.TooLarge → Fits (end_of j) batch → ⊥) → IsOfFile file head why
of_commit file head texts batch j why none stands keeps of is large = grind arith

-- the batch of a head isn't empty
pub some_batch : (l : List (Vec ℕ Global)) (text : List ℕ) → contents l ≡ text ∷ [] → l ≢ []
some_batch l text is none = grind arith

pub device_failed : {A : Type 0} (b : Bool) → b ≡ false → IsTrue b ⊎ A → A
device_failed b sound h = ⊎_elim (λ (is : IsTrue b). absurd (false≢true (sym sound ∙ is))) (λ a. a) h
