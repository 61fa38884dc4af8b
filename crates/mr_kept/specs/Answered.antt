-- what comes of an event where there is a journal
use Rattle.std.specs.Prelude.{◌≡◌, ◌<◌, ◌≤◌, ◌^◌, Bool, true, false, IsTrue, length, Result, Ok, Err}
use Rattle.mr_forms.specs.Known.{Form}
use Rattle.mr_journal.specs.Journal.{has_failed}
use Rattle.mr_journal.specs.declared.journal.Journal.{Journal}
use Rattle.mr_wire.specs.declared.decoding.TheConstants.{MAX_REST_BYTES}
use Rattle.mr_entry.specs.Note.{NoteParts}
use Rattle.mr_entry.specs.Spelling.{rest_bytes}
use Rattle.mr_replica.specs.State.{State}
use Rattle.mr_replica.specs.Step.{Steps}
use Rattle.mr_replica.specs.declared.event.Event.{Event}
use Rattle.mr_replica.specs.declared.event.Event.TheVariants.{Create, Edit, Pull, Next, Vouch}
use Rattle.mr_replica.specs.declared.event.Reply.{Reply}
use Rattle.mr_kept.specs.declared.fault.KeptFault.{KeptFault}
use Rattle.mr_kept.specs.declared.fault.KeptFault.TheVariants.{OutOfMemory, Refused, Failed, TooLarge, Unsettled}

-- whether the reply to the event may leave the device: a version, a request, a record, a receipt. Then it is held back for a commit.
abbrev pub is_held_back : Event → Bool
is_held_back (Create message) = true
is_held_back (Edit bases message) = true
is_held_back Pull = true
is_held_back (Next stream) = true
is_held_back (Vouch version) = true
is_held_back event = false

-- the journal can keep the event: its device has not failed, and the event has no more bytes than one may have
pub record MayKeep {D : Type 0} (journal : Journal D) (event : Event) : Type 0 where
  pub sound : has_failed journal ≡ false
  pub short : length (rest_bytes event) ≤ MAX_REST_BYTES

-- why it can't: the device has failed; or else the event has more bytes than one may have
abbrev pub MayNotKeep : {D : Type 0} → Journal D → Event → KeptFault → Type 0
MayNotKeep journal event Failed = IsTrue (has_failed journal)
MayNotKeep journal event TooLarge = (has_failed journal ≡ false) × (MAX_REST_BYTES < length (rest_bytes event))
MayNotKeep journal event OutOfMemory = ⊥
MayNotKeep journal event (Refused e) = ⊥
MayNotKeep journal event Unsettled = ⊥

-- why the journal can't keep the note; memory is wanting only where it could
abbrev pub IsUnnoted : {D : Type 0} → Journal D → NoteParts → KeptFault → Type 0
IsUnnoted journal note Failed = IsTrue (has_failed journal)
IsUnnoted journal note TooLarge = (has_failed journal ≡ false) × (2 ^ 32 ≤ length note.bytes)
IsUnnoted journal note OutOfMemory = (has_failed journal ≡ false) × (length note.bytes < 2 ^ 32)
IsUnnoted journal note (Refused e) = ⊥
IsUnnoted journal note Unsettled = ⊥

module _ {K D : Type 0} where
  -- Where the journal can keep the event, the replica answers it or refuses it. Else it is not asked, and stays, nor where memory ran out.
  abbrev pub Answered : Form K → Journal D → State K → Event → Result Reply KeptFault → State K → Type 0
  Answered form journal s event (Ok reply) new = MayKeep journal event × Steps form s event (Ok reply) new
  Answered form journal s event (Err (Refused e)) new = MayKeep journal event × Steps form s event (Err e) new
  Answered form journal s event (Err Failed) new = MayNotKeep journal event Failed × (new ≡ s)
  Answered form journal s event (Err TooLarge) new = MayNotKeep journal event TooLarge × (new ≡ s)
  Answered form journal s event (Err OutOfMemory) new = new ≡ s
  Answered form journal s event (Err Unsettled) new = ⊥

-- the answer, whose reply carries the value
abbrev pub reply_by : {V : Type 0} → (V → Reply) → Result V KeptFault → Result Reply KeptFault
reply_by reply (Ok v) = Ok (reply v)
reply_by reply (Err e) = Err e
