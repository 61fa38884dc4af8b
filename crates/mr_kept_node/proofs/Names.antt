-- Names for proofs: of other crates, and of this crate's definitions.
pub use Rattle.mr_entry.specs.Events.{events_of}
pub use Rattle.mr_entry.specs.Head.{HeadParts}
pub use Rattle.mr_entry.specs.Note.{NoteParts}
pub use Rattle.mr_entry.specs.Spelling.{entry_bytes}
pub use Rattle.mr_entry.specs.declared.entry.Entry.{Entry}
pub use Rattle.mr_forms.specs.Known.{Form}
pub use Rattle.mr_journal.proofs.Moments.{joined, started, widened}
pub use Rattle.mr_journal.specs.Device.{LeavesOnly}
pub use Rattle.mr_journal.specs.Format.{Stands}
pub use Rattle.mr_journal.specs.Journal.{device_of}
pub use Rattle.mr_journal.specs.declared.device.Device.{Ghosts as DeviceOf}
pub use Rattle.mr_kept.proofs.EntryLemmas.{events_append, notes_append}
pub use Rattle.mr_kept.proofs.KeptLemmas.{kept_on, stands_now}
pub use Rattle.mr_kept.proofs.LeftLemmas.{head_on, left_now, same_notes}
pub use Rattle.mr_kept.proofs.OpenLemmas.{no_note_waits}
pub use Rattle.mr_kept.specs.Entries.{batch_entries, notes_of}
pub use Rattle.mr_kept.specs.Kept.{Asks, IsKept, SameJournal, StaysBack, entries_waiting, head_of, issued_of, journal_of, kept_of, leaving}
pub use Rattle.mr_kept.specs.Kept.{notes_waiting, nothing_waits, replica_of, waiting}
pub use Rattle.mr_kept.specs.Whole.{HasLog, IsOf}
pub use Rattle.mr_kept.specs.declared.fault.KeptFault.{KeptFault}
pub use Rattle.mr_kept.specs.declared.fault.KeptFault.TheVariants.{Failed}
pub use Rattle.mr_kept.specs.declared.journaled.Journaled.{Journaled}
pub use Rattle.mr_kept_node.specs.Keeping.{Commits, LeavesLog, device_under, entries_with}
pub use Rattle.mr_kept_node.specs.Letter.{Asked, Turned, refusal_of}
pub use Rattle.mr_kept_node.specs.Machine.{Declined, Goes, Kept, Stopped, Takes, TakesBy, machine_of, told_of}
pub use Rattle.mr_kept_node.specs.Node.{EndsUnkept, IsFeedOf, KeepsEvents, KeptNodeRan, Passed, SafeSince, TellsBetween, in_machine, log_of}
pub use Rattle.mr_kept_node.specs.declared.machine.KeptMachine.{KeptMachine}
pub use Rattle.mr_lane.specs.declared.note.Sender.{Sender}
pub use Rattle.mr_node.specs.Machine.{admitted_of}
pub use Rattle.mr_replica.proofs.Replaying.{step_feed, step_log, step_setting}
pub use Rattle.mr_replica.specs.Replay.{IsItsLog}
pub use Rattle.mr_replica.specs.State.{State}
pub use Rattle.mr_replica.specs.declared.event.Event.{Event}
pub use Rattle.mr_replica.specs.declared.event.Reply.{Reply}
pub use Rattle.mr_replica.specs.declared.refusal.Refusal.{Refusal}
pub use Rattle.mr_replica.specs.declared.refusal.Refusal.TheVariants.{OutOfMemory}
pub use Rattle.mr_threads.specs.Exchange.{Replays}
pub use Rattle.std.proofs.lemmas.Bool.{false≢true, leb-true}
pub use Rattle.std.proofs.lemmas.List.{append-nil, drop-append-le, drop_all, take_all}
pub use Rattle.std.specs.Prelude.{IfSome, IsTrue, MatchBool, MatchOption, is_some, map, nat_le}
