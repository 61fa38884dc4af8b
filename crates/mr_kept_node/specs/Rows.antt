-- worked rows: what the definitions give for small values
use Rattle.std.specs.Prelude.{◌≡◌, ℕ, Bool, true, List, [], ◌∷◌, map, Option, Some, None, Result, Ok, Err, refl}
use Rattle.std.proofs.Common.{subst}
use Rattle.std.proofs.Math.Seq.{take-length}
use Rattle.mr_forms.specs.Known.{Form}
use Rattle.mr_journal.specs.Format.{Stands}
use Rattle.mr_journal.specs.declared.device.Device.{Ghosts as DeviceOf}
use Rattle.mr_entry.specs.Spelling.{entry_bytes}
use Rattle.mr_entry.specs.declared.entry.Entry.TheVariants as entry
use Rattle.mr_lane.specs.declared.note.Sender.TheVariants.{User, FirstLink}
use Rattle.mr_replica.specs.declared.event.Event.{Event}
use Rattle.mr_replica.specs.declared.event.Event.TheVariants.{Next, Pull, Retire}
use Rattle.mr_replica.specs.declared.event.Reply.{Reply}
use Rattle.mr_replica.specs.declared.event.Reply.TheVariants.{Done}
use Rattle.mr_replica.specs.declared.refusal.Refusal.{Refusal}
use Rattle.mr_replica.specs.declared.refusal.Refusal.TheVariants.{Gap, OutOfMemory}
use Rattle.mr_kept.specs.Kept.{nothing_waits, replica_of}
use Rattle.mr_kept.specs.declared.fault.KeptFault.{KeptFault}
use Rattle.mr_kept.specs.declared.fault.KeptFault.TheVariants as kept
use Rattle.mr_kept.specs.declared.journaled.Journaled.{Journaled}
use Rattle.mr_kept_node.specs.Letter.{refusal_of}
use Rattle.mr_kept_node.specs.Machine.{Takes, TakesBy, machine_of, told_of}
use Rattle.mr_kept_node.specs.Node.{EndsUnkept, Passed, TellsBetween}
use Rattle.mr_kept_node.specs.declared.machine.KeptMachine.{KeptMachine}

-- ---- answers

-- a refusal of the replica is told as it is, and what is no refusal as want of memory
pub refused_row : refusal_of (kept.Refused Gap) ≡ Gap
refused_row = refl

pub other_row : map refusal_of (kept.OutOfMemory ∷ kept.Failed ∷ kept.TooLarge ∷ kept.Unsettled ∷ []) ≡ OutOfMemory ∷ OutOfMemory ∷ OutOfMemory ∷ OutOfMemory ∷ []
other_row = refl

-- ---- the machine

module _ {K D V : Type 0} (form : Form K) (device : DeviceOf D) where
  -- before the first letter all of the feed is told
  pub all_told_row : (j : Journaled K D V) → told_of (machine_of j) ≡ (replica_of j).feed
  all_told_row j = take-length (replica_of j).feed

  -- where there is a reply, nothing waits
  pub reply_row : (m n : KeptMachine K D V) (letter : Event) (reply : Reply) → m.fault ≡ None → Takes form device m letter (Ok reply) n → nothing_waits n.journaled ≡ true
  reply_row m n letter reply is takes = (subst (λ (o : Option KeptFault). TakesBy form device o m letter (Ok reply) n) is takes).none_waits

  -- and a machine that has stopped gives none
  pub stopped_row : (m n : KeptMachine K D V) (letter : Event) (reply : Reply) → m.fault ≡ Some kept.Failed → Takes form device m letter (Ok reply) n → ⊥
  stopped_row m n letter reply is takes =
      let told = subst (λ (o : Option KeptFault). TakesBy form device o m letter (Ok reply) n) is takes in
      let no : ◌≡◌ {A = Result Reply Refusal} (Ok reply) (Err OutOfMemory) = told.0 in cc

-- ---- files

-- a journal with no event is one that may be left where none was answered, also with a Pull on its way
pub none_row : (file : List ℕ) → Stands [] file → TellsBetween [] (Pull ∷ []) [] file
none_row file stands = record { entries = []; stands = stands; more = []; at_least = refl; left = Pull ∷ []; at_most = refl; notes_are = refl }

-- once it was answered there is its event
pub one_row : (file : List ℕ) → Stands (entry_bytes (entry.Event 0 Pull) ∷ []) file → TellsBetween (Pull ∷ []) (Pull ∷ []) [] file
one_row file stands = record { entries = entry.Event 0 Pull ∷ []; stands = stands; more = []; at_least = refl; left = []; at_most = refl; notes_are = refl }

-- ---- the end

-- the user's Retire was kept, the commit of the link's Pull was refused, and the user's Next behind it was refused
abbrev pub retired : Passed
retired = record { sender = User; letter = Retire; answer = Ok Done }

abbrev pub pulled : Passed
pulled = record { sender = FirstLink; letter = Pull; answer = Err OutOfMemory }

abbrev pub asked : Passed
asked = record { sender = User; letter = Next 1; answer = Err OutOfMemory }

pub unkept_row : EndsUnkept (retired ∷ pulled ∷ asked ∷ []) (Pull ∷ [])
unkept_row = record { before = retired ∷ []; last = pulled; behind = asked ∷ []; in_order = refl; unkept_is = refl; refused = (refl, (refl, tt)) }
