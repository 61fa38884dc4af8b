-- the numbers by which a host knows faults, and which fault of a replica another one is
use Rattle.std.specs.Prelude.{ℕ}
use Rattle.mr_journal.specs.declared.fault.JournalFault.{JournalFault}
use Rattle.mr_journal.specs.declared.fault.JournalFault.TheVariants as journal
use Rattle.mr_entry.specs.declared.fault.EntryFault.{EntryFault}
use Rattle.mr_entry.specs.declared.fault.EntryFault.TheVariants as entry
use Rattle.mr_kept.specs.declared.fault.KeptFault.{KeptFault}
use Rattle.mr_kept.specs.declared.fault.KeptFault.TheVariants.{OutOfMemory, Refused, Failed, TooLarge, Unsettled}
use Rattle.mr_kept.specs.declared.fault.OpenFault.{OpenFault}
use Rattle.mr_kept.specs.declared.fault.OpenFault.TheVariants as opens
use Rattle.mr_kept.specs.declared.peer.PeerFault.{PeerFault}
use Rattle.mr_kept.specs.declared.peer.PeerFault.TheVariants as peer

abbrev pub kept_fault_number : KeptFault → ℕ
kept_fault_number OutOfMemory = 0
kept_fault_number (Refused _) = 1
kept_fault_number Failed = 2
kept_fault_number TooLarge = 3
kept_fault_number Unsettled = 4

abbrev pub open_fault_number : OpenFault → ℕ
open_fault_number opens.OutOfMemory = 0
open_fault_number (opens.Journal _) = 1
open_fault_number (opens.Kept _) = 2
open_fault_number opens.NoReplica = 3
open_fault_number opens.NotEmpty = 4
open_fault_number (opens.BadEntry _ _) = 5
open_fault_number (opens.Misplaced _) = 6
open_fault_number (opens.OtherCounter _) = 7
open_fault_number opens.TooManyEvents = 8
open_fault_number opens.Copied = 9
open_fault_number opens.OtherBirth = 10
open_fault_number (opens.BadFilter _) = 11
open_fault_number (opens.Replay _) = 12

abbrev pub peer_fault_number : PeerFault → ℕ
peer_fault_number peer.OldCopy = 1
peer_fault_number peer.OtherBirth = 2

abbrev pub kept_fault_of : JournalFault → KeptFault
kept_fault_of journal.OutOfMemory = OutOfMemory
kept_fault_of journal.Failed = Failed
kept_fault_of journal.NotAJournal = TooLarge
kept_fault_of (journal.OtherFormat _) = TooLarge
kept_fault_of (journal.Damaged _) = TooLarge
kept_fault_of journal.TooLarge = TooLarge

abbrev pub kept_fault_of_entry : EntryFault → KeptFault
kept_fault_of_entry entry.OutOfMemory = OutOfMemory
kept_fault_of_entry entry.Truncated = TooLarge
kept_fault_of_entry entry.BadKind = TooLarge
kept_fault_of_entry (entry.OtherFormat _) = TooLarge
kept_fault_of_entry entry.BadBody = TooLarge
kept_fault_of_entry (entry.BadEvent _) = TooLarge
kept_fault_of_entry entry.TooLong = TooLarge
