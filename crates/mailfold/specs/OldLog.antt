-- what the beginning of a log tells, and what follows for the replica that takes its place
use Rattle.std.specs.Prelude.{◌≡◌, ℕ, List, [], ◌∷◌, ◌++◌}
use Rattle.mr_entry.specs.Grammar.{Spells}
use Rattle.mr_entry.specs.Head.{HeadParts}
use Rattle.mr_entry.specs.declared.entry.Entry.TheVariants as entry
use Rattle.mr_filter.specs.Filter.{ClauseParts, IsFilter}
use Rattle.mr_filter.specs.Grammar.{Reads}
use Rattle.mr_journal.specs.Format.{AreBatches, Stands}
use Rattle.mailfold.specs.declared.fault.Fault.{Fault}
use Rattle.mailfold.specs.declared.fault.Fault.TheVariants as faults
use Rattle.mailfold.specs.declared.old_log.OldLog.{OldLog}
use Rattle.mailfold.specs.declared.old_log.OldLog.TheVariants as logs

-- these entries begin with this head
pub record AreOfHead (head : HeadParts) (entries : List (List ℕ)) : Type 0 where
  pub text : List ℕ
  pub behind : List ℕ
  pub more : List (List ℕ)
  pub spells : Spells (entry.Head head) text
  pub entries_are : entries ≡ (text ++ behind) ∷ more

-- bytes that begin with whole batches, whose entries begin with this head
pub record BeginsWith (head : HeadParts) (file : List ℕ) : Type 0 where
  pub entries : List (List ℕ)
  pub front : List ℕ
  pub rest : List ℕ
  pub batches : AreBatches entries front
  pub head_is : AreOfHead head entries
  pub file_is : file ≡ front ++ rest

-- what a log tells that begins with these bytes: what replica it is of, or that none was begun
abbrev pub Tells : OldLog → List ℕ → Type 0
Tells (logs.Of head) file = BeginsWith head file
Tells logs.Empty file = Stands [] file
Tells logs.Unread file = Unit {0}

-- the log is of the replica of this head
abbrev pub IsOfHead : HeadParts → OldLog → Type 0
IsOfHead head log = log ≡ logs.Of head

-- the log is of a replica of this id
abbrev pub IsOf : OldLog → ℕ → Type 0
IsOf (logs.Of head) id = head.id ≡ id
IsOf _ id = ⊥

-- the filter that a log tells
abbrev pub IsToldFilter : OldLog → List ClauseParts → Type 0
IsToldFilter (logs.Of head) filter = Reads head.filter filter
IsToldFilter _ filter = ⊥

-- why a text gives no filter: it means none, or memory ran out for it
abbrev pub IsNoFilter : List ℕ → Fault → Type 0
IsNoFilter text faults.OutOfMemory = Unit {0}
IsNoFilter text faults.NoOldFilter = (filter : List ClauseParts) → Reads text filter → IsFilter filter → ⊥
IsNoFilter text _ = ⊥

-- why a log gives none: it tells no text, or one that gives none
abbrev pub IsNoToldFilter : OldLog → Fault → Type 0
IsNoToldFilter (logs.Of head) fault = IsNoFilter head.filter fault
IsNoToldFilter _ fault = fault ≡ faults.NoOldFilter
