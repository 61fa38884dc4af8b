-- how a replica whose host writes comes to be
use Rattle.std.specs.Prelude.{◌≡◌, ◌<◌, ◌⊎◌, ℕ, Bool, true, false, List, [], ◌∷◌, length, Option, Some, None, Result, Ok, Err}
use Rattle.std.specs.Global.{Vec}
use Rattle.std.specs.Str.{is_utf8}
use Rattle.mr_version.specs.declared.author.TheConstants.{AUTHORS}
use Rattle.mr_version.specs.declared.fault.VersionFault.TheVariants.{NoSuchAuthor}
use Rattle.mr_filter.specs.Filter.{ClauseParts}
use Rattle.mr_filter.specs.Fault.{IsFaultOf}
use Rattle.mr_itemset.specs.Normal.{Normal}
use Rattle.mr_itemset.specs.Sparing.{sparing_form}
use Rattle.mr_entry.specs.Head.{HeadParts}
use Rattle.mr_entry.specs.Note.{NoteParts}
use Rattle.mr_entry.specs.declared.entry.Entry.TheVariants as entry
use Rattle.mr_journal.specs.Format.{StandAlike}
use Rattle.mr_kept.specs.Beginning.{HasParts, IsBeginFault}
use Rattle.mr_kept.specs.Kept.{IsKept, head_of, leaving, nothing_waits}
use Rattle.mr_kept.specs.Opening.{Begins, GoesOn, IsOfPlace, Reopens}
use Rattle.mr_kept.specs.Refusing.{IsOpenFault}
use Rattle.mr_kept.specs.Whole.{ComesBack, HasLog, HasLogOf, IsOfMachine}
use Rattle.mr_kept.specs.declared.fault.OpenFault.{OpenFault}
use Rattle.mr_hosted.specs.Hosted.{IsNew, journaled_of, outbox_of}
use Rattle.mr_hosted.specs.declared.hosted.Hosted.{Hosted}
use Rattle.mr_hosted.specs.Outbox.{file_of, left_since, may_leave}
use Rattle.mr_replica.specs.State.{State, new_state}
use Rattle.mr_replica.specs.declared.replica.replay.ReplayFault.TheVariants.{BadLimit}
use Rattle.mr_desk.specs.Kept.{inside}
use Rattle.mr_desk.specs.Opening.{IsLimit, MeansFilter}
use Rattle.mr_desk.specs.declared.fault.Fault.{Fault}
use Rattle.mr_desk.specs.declared.fault.Fault.TheVariants as fault

-- 16 bytes are a birth that is asked for, and no byte asks for none
abbrev pub given : List ℕ → Option (List ℕ)
given [] = None
given (b ∷ bs) = Some (b ∷ bs)

abbrev pub IsBirth : List ℕ → Type 0
IsBirth bytes = (bytes ≡ []) ⊎ (length bytes ≡ 16)

-- a birth and a mark have these lengths
abbrev pub AreLong : (birth mark : List ℕ) → Type 0
AreLong birth mark = (length birth ≡ 16) × (length mark ≡ 32)

-- the lengths of a mark and of a birth that may be asked for
abbrev pub ArePlace : (mark birth : List ℕ) → Type 0
ArePlace mark birth = (length mark ≡ 32) × IsBirth birth

-- The id, the filter and the lengths are good.
pub record AreGiven (id : ℕ) (text birth mark : List ℕ) : Type 0 where
  pub id_in : id < AUTHORS
  pub filter : List ClauseParts
  pub means : MeansFilter text filter
  pub long : AreLong birth mark

-- why the file isn't opened; one that has the log of a replica of this place is, the machine aside
pub record Unopened (file mark : List ℕ) (asked : Option (List ℕ)) (f : OpenFault) : Type 0 where
  pub why : IsOpenFault sparing_form file mark asked f
  pub machine : (head : HeadParts) (s : State Normal) (ns : List NoteParts) → HasLogOf sparing_form file head s ns → IsOfPlace head mark asked → IsOfMachine f

-- why no replica is begun: the first of id, filter, lengths, limit; and then why none is in an empty file, as want of memory
abbrev pub IsUnbegun : (id : ℕ) (text : List ℕ) (event_limit : ℕ) (birth mark : List ℕ) → Fault → Type 0
IsUnbegun id text event_limit birth mark (fault.Version f) = (f ≡ NoSuchAuthor) × ¬ (id < AUTHORS)
IsUnbegun id text event_limit birth mark fault.NotText = (id < AUTHORS) × (is_utf8 text ≡ false)
IsUnbegun id text event_limit birth mark (fault.Filter f) = (id < AUTHORS) × (is_utf8 text ≡ true) × IsFaultOf text f
IsUnbegun id text event_limit birth mark fault.BadLength = (id < AUTHORS) × ((filter : List ClauseParts) × MeansFilter text filter) × ¬ AreLong birth mark
IsUnbegun id text event_limit birth mark (fault.Replay f) = AreGiven id text birth mark × (f ≡ BadLimit) × ¬ IsLimit event_limit
IsUnbegun id text event_limit birth mark (fault.Open f) = IsLimit event_limit × ((parts : AreGiven id text birth mark) × IsBeginFault [] id parts.filter event_limit birth mark f)
IsUnbegun id text event_limit birth mark fault.OutOfMemory = id < AUTHORS
IsUnbegun id text event_limit birth mark f = ⊥

-- why none is brought back: lengths, memory for the file, and then the file
abbrev pub IsUnopened : (file mark birth : List ℕ) → Fault → Type 0
IsUnopened file mark birth fault.BadLength = ¬ ArePlace mark birth
IsUnopened file mark birth (fault.Open f) = ArePlace mark birth × Unopened file mark (given birth) f
IsUnopened file mark birth fault.OutOfMemory = ArePlace mark birth
IsUnopened file mark birth f = ⊥

module _ {V : Type 0} where
  module _ (id : ℕ) (text : List ℕ) (event_limit : ℕ) (birth mark : List ℕ) where
    -- A fresh replica of these, over a file that once the acts are done has its head. In whichever act the host is killed, the file has
    -- nothing, no entry, or a head.
    pub record Begun (h : Hosted Normal V) : Type 0 where
      pub parts : AreGiven id text birth mark
      pub limit_in : IsLimit event_limit
      pub head : HasParts id parts.filter event_limit birth mark (head_of (journaled_of h))
      pub fresh : inside h ≡ new_state id parts.filter event_limit (inside h).knowledge
      pub kept : IsKept file_of may_leave (entry.Head (head_of (journaled_of h)) ∷ []) (journaled_of h)
      pub none_waits : (nothing_waits (journaled_of h) ≡ true) × (leaving (journaled_of h) ≡ [])
      pub new : IsNew h
      pub left : (c : List ℕ) → left_since (outbox_of h) 0 c → (c ≡ []) ⊎ (StandAlike [] c ⊎ Begins [] c)

    -- the replica, or why there is none
    abbrev pub BeginsKept : Result (Hosted Normal V) Fault → Type 0
    BeginsKept (Ok h) = Begun h
    BeginsKept (Err f) = IsUnbegun id text event_limit birth mark f

  -- The file has the log of a replica and these notes, and what was open in that is closed once the acts are done. In whichever act the host is
  -- killed, the file is as it was read, or has the same entries, with those that close what was open behind them or without: so again the log of
  -- a replica, and the same notes.
  pub record Reopened (file mark : List ℕ) (asked : Option (List ℕ)) (h : Hosted Normal V) (notes : List NoteParts) : Type 0 where
    pub are_closed : Bool
    pub reopens : Reopens sparing_form file_of may_leave file are_closed notes (journaled_of h)
    pub place : IsOfPlace (head_of (journaled_of h)) mark asked
    pub whole : (head : HeadParts) (s : State Normal) (ns : List NoteParts) → HasLogOf sparing_form file head s ns → IsOfPlace head mark asked → ComesBack sparing_form s are_closed (inside h) × (notes ≡ ns)
    pub any_moment : (c : List ℕ) → left_since (outbox_of h) 0 c → (c ≡ file) ⊎ GoesOn file c
    pub left : (head : HeadParts) (s : State Normal) (ns : List NoteParts) → HasLogOf sparing_form file head s ns → (c : List ℕ) → left_since (outbox_of h) 0 c → (c ≡ file) ⊎ HasLog sparing_form c head ns
    pub none_waits : (nothing_waits (journaled_of h) ≡ true) × (leaving (journaled_of h) ≡ [])
    pub new : IsNew h

  -- the replica of a file and its notes, or why there is none
  abbrev pub OpensKept : (file mark birth : List ℕ) → Result (Hosted Normal V × Vec NoteParts) Fault → Type 0
  OpensKept file mark birth (Ok found) = ArePlace mark birth × Reopened file mark (given birth) found.0 found.1.items
  OpensKept file mark birth (Err f) = IsUnopened file mark birth f
