-- what is read of a log's beginning
use Rattle.std.proofs.Common.{◌≡◌, ◌≢◌, inl, inr, ⊎_elim, ℕ, ◌≤◌, List, [], ◌∷◌, ◌++◌, length, take, drop, Result, Ok, Err, refl, sym, ◌∙◌, ap, subst, arith, length-append, append_assoc}
use Rattle.std.specs.Prelude.{IsOk, Vec}
use Rattle.std.specs.declared.alloc.Global.{Global}
use Rattle.std.proofs.Math.Seq.{take-append_seam}
use Rattle.std.proofs.lemmas.Bool.{false≢true}
use Rattle.std.proofs.lemmas.List.{take-append-drop, take-append-le}
use Rattle.mr_entry.specs.Decoding.{Answers}
use Rattle.mr_entry.specs.Grammar.{Spells}
use Rattle.mr_entry.specs.Head.{HeadParts}
use Rattle.mr_entry.specs.declared.entry.Entry.{Entry}
use Rattle.mr_entry.specs.declared.entry.Entry.TheVariants as entry
use Rattle.mr_entry.specs.declared.fault.EntryFault.{EntryFault}
use Rattle.mr_entry.specs.declared.fault.EntryFault.TheVariants.{BadBody, BadEvent, BadKind, OtherFormat, OutOfMemory as NoMemory, TooLong, Truncated}
use Rattle.mr_journal.specs.Format.{Stands, contents}
use Rattle.mr_journal.specs.Reading.{IsReason}
use Rattle.mr_journal.specs.declared.fault.JournalFault.{JournalFault}
use Rattle.mr_journal.specs.declared.fault.JournalFault.TheVariants.{Failed, OutOfMemory}
use Rattle.mr_journal.proofs.Unique.{not_refused, one_list}
use Rattle.mailfold.specs.OldLog.{AreOfHead, Tells}
use Rattle.mailfold.specs.inner.OldLog.{TellsFirst, TellsSome, told_in}
use Rattle.mailfold.specs.declared.old_log.OldLog.{OldLog}
use Rattle.mailfold.specs.declared.old_log.OldLog.TheVariants as logs

-- what stands before a gate stands before the last byte
before_gate : (a b c : List ℕ) → a ++ (0 ∷ b) ≡ c ++ (0 ∷ []) → (d : List ℕ) × (c ≡ a ++ d)
before_gate a b c same =
    let few : length a ≤ length c = omega (arith, ap length same, length-append a (0 ∷ b), length-append c (0 ∷ [])) in
    let front : take (length a) c ≡ a = sym (take-append-le (length a) c (0 ∷ []) few) ∙ ap (λ (l : List ℕ). take (length a) l) (sym same) ∙ take-append_seam a (0 ∷ b) in
    (drop (length a) c, sym (take-append-drop (length a) c) ∙ ap (λ (l : List ℕ). l ++ drop (length a) c) front)

-- entries that begin with a head are some
no_head : (head : HeadParts) (entries : List (List ℕ)) → AreOfHead head entries → entries ≡ [] → ⊥
no_head head entries of none = omega (arith, ap length (sym none ∙ of.entries_are))

-- a journal's entries tell what its bytes do
pub tells_stands : (log : OldLog) (entries : List (List ℕ)) (file : List ℕ) → Stands entries file → TellsFirst log entries → Tells log file
tells_stands (logs.Of head) entries file (inl journal) told = record { entries = entries; front = journal.front; rest = 0 ∷ journal.left; batches = journal.batches; head_is = told; file_is = journal.file_is }
tells_stands (logs.Of head) entries file (inr new) told = absurd (no_head head entries told new.0)
tells_stands logs.Empty entries file stands told = subst (λ (l : List (List ℕ)). Stands l file) told stands
tells_stands logs.Unread entries file stands told = tt

-- so do those of the journal that a file's first bytes and a closed gate are
pub tells_front : (log : OldLog) (entries : List (List ℕ)) (file : List ℕ) (count : ℕ) → Stands entries (take count file ++ (0 ∷ [])) → TellsSome log entries → Tells log file
tells_front (logs.Of head) entries file count (inl journal) told =
    let behind = before_gate journal.front journal.left (take count file) (sym journal.file_is) in
    record {
      entries = entries;
      front = journal.front;
      rest = behind.0 ++ drop count file;
      batches = journal.batches;
      head_is = told;
      file_is = sym (take-append-drop count file) ∙ ap (λ (l : List ℕ). l ++ drop count file) behind.1 ∙ append_assoc journal.front behind.0 (drop count file);
    }
tells_front (logs.Of head) entries file count (inr new) told = absurd (no_head head entries told new.0)
tells_front logs.Empty entries file count stands told = absurd told
tells_front logs.Unread entries file count stands told = tt

-- what a first entry tells, of which so many bytes were read
pub told_first : (e : Entry) (used : ℕ) (entries rest : List (Vec ℕ Global)) (first : List ℕ) → contents entries ≡ first ∷ contents rest → Spells e (take used first) → TellsFirst (told_in e) (contents entries)
told_first (entry.Head head) used entries rest first is spells =
    record { text = take used first; behind = drop used first; more = contents rest; spells = spells; entries_are = is ∙ ap (λ (l : List ℕ). l ∷ contents rest) (sym (take-append-drop used first)) }
told_first (entry.Event issued event) used entries rest first is spells = tt
told_first (entry.Nexts stream count) used entries rest first is spells = tt
told_first (entry.Note note) used entries rest first is spells = tt

abbrev first_or : List (List ℕ) → List ℕ
first_or [] = []
first_or (first ∷ entries) = first

-- the first entry of those that begin with a head
first_of : (head : HeadParts) (entries rest : List (Vec ℕ Global)) (first : List ℕ) → contents entries ≡ first ∷ contents rest → (of : AreOfHead head (contents entries)) → first ≡ of.text ++ of.behind
first_of head entries rest first is of = ap first_or (sym is ∙ of.entries_are)

abbrev told_of : Result (Entry × ℕ) EntryFault → OldLog
told_of (Ok found) = told_in found.0
told_of (Err fault) = logs.Unread

-- a reader that gives each entry that is spelled gives the head
pub whole_first : (head : HeadParts) (e : Entry) (used : ℕ) (entries rest : List (Vec ℕ Global)) (first : List ℕ) → contents entries ≡ first ∷ contents rest
    → ((x : Entry) (text more : List ℕ) → Spells x text → first ≡ text ++ more → Answers {X = Entry × ℕ} (Ok (x, length text)) (Ok (e, used))) → AreOfHead head (contents entries) → told_in e ≡ logs.Of head
whole_first head e used entries rest first is whole of =
    sym (ap told_of (whole (entry.Head head) of.text of.behind of.spells (first_of head entries rest first is of)))

no_answer : (read : Result (Entry × ℕ) EntryFault) (fault : EntryFault) → IsOk read → Answers read (Err fault) → fault ≢ NoMemory → ⊥
no_answer read NoMemory ok answers some = some refl
no_answer read Truncated ok answers some = absurd (false≢true (subst (λ (r : Result (Entry × ℕ) EntryFault). IsOk r) answers ok))
no_answer read BadKind ok answers some = absurd (false≢true (subst (λ (r : Result (Entry × ℕ) EntryFault). IsOk r) answers ok))
no_answer read (OtherFormat format) ok answers some = absurd (false≢true (subst (λ (r : Result (Entry × ℕ) EntryFault). IsOk r) answers ok))
no_answer read BadBody ok answers some = absurd (false≢true (subst (λ (r : Result (Entry × ℕ) EntryFault). IsOk r) answers ok))
no_answer read (BadEvent fault) ok answers some = absurd (false≢true (subst (λ (r : Result (Entry × ℕ) EntryFault). IsOk r) answers ok))
no_answer read TooLong ok answers some = absurd (false≢true (subst (λ (r : Result (Entry × ℕ) EntryFault). IsOk r) answers ok))

-- and refuses none that begins with one
pub never_unread : (head : HeadParts) (fault : EntryFault) (entries rest : List (Vec ℕ Global)) (first : List ℕ) → contents entries ≡ first ∷ contents rest
    → ((x : Entry) (text more : List ℕ) → Spells x text → first ≡ text ++ more → Answers {X = Entry × ℕ} (Ok (x, length text)) (Err fault)) → fault ≢ NoMemory → AreOfHead head (contents entries) → ⊥
never_unread head fault entries rest first is whole some of =
    let read : Result (Entry × ℕ) EntryFault = Ok (entry.Head head, length of.text) in
    no_answer read fault refl (whole (entry.Head head) of.text of.behind of.spells (first_of head entries rest first is of)) some

-- a whole log is refused for memory alone
pub never_refused : {C : Type 0} (entries : List (List ℕ)) (file : List ℕ) (fault : JournalFault) → Stands entries file → IsReason fault file → fault ≢ OutOfMemory → fault ≢ Failed → C
never_refused entries file fault stands reason memory device = absurd (⊎_elim memory device (not_refused file entries fault stands reason))

-- a log that is whole tells one list of entries
pub same_first : (head : HeadParts) (entries found : List (List ℕ)) (file : List ℕ) → Stands entries file → Stands found file → AreOfHead head entries → AreOfHead head found
same_first head entries found file stands is of = subst (λ (l : List (List ℕ)). AreOfHead head l) (one_list file entries found stands is) of
