-- Names for proofs: of other crates, and of this crate's definitions.
pub use Rattle.mr_entry.specs.Events.{events_of, events_of_entry}
pub use Rattle.mr_entry.specs.Grammar.{IsEntry, Spells}
pub use Rattle.mr_entry.specs.Head.{HeadParts}
pub use Rattle.mr_entry.specs.Note.{NoteParts}
pub use Rattle.mr_entry.specs.Spelling.{entry_bytes}
pub use Rattle.mr_entry.specs.declared.entry.Entry.{Entry}
pub use Rattle.mr_entry.specs.declared.fault.EntryFault.{EntryFault}
pub use Rattle.mr_filter.specs.Filter.{ClauseParts, IsFilter}
pub use Rattle.mr_filter.specs.Grammar.{Reads}
pub use Rattle.mr_forms.specs.Known.{Form}
pub use Rattle.mr_journal.proofs.Moments.{joined, started, widened}
pub use Rattle.mr_journal.specs.Device.{LeavesOnly}
pub use Rattle.mr_journal.specs.Fault.{IsOfBatch}
pub use Rattle.mr_journal.specs.Format.{AreBatches, AreEntries, Fits, StandAlike, Stands, body, contents}
pub use Rattle.mr_journal.specs.Journal.{Keeps, device_of, end_of, has_failed}
pub use Rattle.mr_journal.specs.declared.device.Device.{Ghosts as DeviceOf}
pub use Rattle.mr_journal.specs.declared.fault.JournalFault.{JournalFault}
pub use Rattle.mr_journal.specs.declared.journal.Journal.{Journal}
pub use Rattle.mr_kept.specs.Beginning.{HasParts, IsBeginFault, IsOfFile, IsOfSetup}
pub use Rattle.mr_kept.specs.Closing.{AreClosed, IsCut, IsFull, Takes, closers}
pub use Rattle.mr_kept.specs.Commit.{IsUncommitted, LeavesOneOfTwo, Uncommitted}
pub use Rattle.mr_kept.specs.Entries.{AllBelong, AreInOrder, AreSpelled, Belongs, batch_entries, counted, entries_of, issued_after, notes_of, notes_of_entry}
pub use Rattle.mr_kept.specs.Entries.{with_event, with_next}
pub use Rattle.mr_kept.specs.Fault.{kept_fault_of}
pub use Rattle.mr_kept.specs.Kept.{AreHeaded, IsKept, SameJournal, Tells, entries_waiting, head_of, issued_of, journal_of, kept_of, leaving, notes_waiting}
pub use Rattle.mr_kept.specs.Kept.{nothing_waits, replica_of, waiting}
pub use Rattle.mr_kept.specs.Opening.{Begins, HasCut, IsOfOther, IsOfPlace, IsReplayed, Reopens}
pub use Rattle.mr_kept.specs.Refusing.{IsBehindHead, IsLonger, IsNoFilter, IsNoHead, IsNoLog, IsNoReplay, IsOpenFault, IsOutOfOrder, IsRefused, IsUnread}
pub use Rattle.mr_kept.specs.Refusing.{IsWrong, StopsAt}
pub use Rattle.mr_kept.specs.Whole.{ComesBack, HasLog, HasLogOf, IsOf, IsOfMachine}
pub use Rattle.mr_kept.specs.declared.fault.KeptFault.{KeptFault}
pub use Rattle.mr_kept.specs.declared.fault.KeptFault.TheVariants.{Failed, OutOfMemory}
pub use Rattle.mr_kept.specs.declared.fault.OpenFault.{OpenFault}
pub use Rattle.mr_kept.specs.declared.journaled.Journaled.{Journaled}
pub use Rattle.mr_kept.specs.inner.Entries.{AreSoFar, HasNoEntry, IsOfEntries, IsOfEvent, run_of}
pub use Rattle.mr_kept.specs.inner.Opening.{IsClosedIn, IsRead}
pub use Rattle.mr_replica.proofs.Replaying.{step_log, step_setting}
pub use Rattle.mr_replica.proofs.Replies.{GoesOn, step_changes, step_refused, step_replied}
pub use Rattle.mr_replica.specs.Forged.{is_forged, line_of}
pub use Rattle.mr_replica.specs.Growing.{IsOfSameSetting}
pub use Rattle.mr_replica.specs.Receive.{Ends, EndsSession, TakesBody, TakesFrame, TakesLine, entering, session_for, session_refusal}
pub use Rattle.mr_replica.specs.Refusal.{refused_if, ◌orelse◌}
pub use Rattle.mr_replica.specs.Replay.{Admits, AdmitsAll, IsItsLog, IsReplayFault, RefusesReplay, Replays}
pub use Rattle.mr_replica.specs.State.{State}
pub use Rattle.mr_replica.specs.Step.{Changes, RefusesLate, Steps, first_refusal}
pub use Rattle.mr_replica.specs.declared.event.Event.{Event}
pub use Rattle.mr_replica.specs.declared.event.Event.TheVariants.{Answer, Create, CutIn, CutOut, Edit, Next, Pull, Receive, Release, Retire, Vouch}
pub use Rattle.mr_replica.specs.declared.event.Reply.{Reply}
pub use Rattle.mr_replica.specs.declared.event.Reply.TheVariants.{Done, Gave}
pub use Rattle.mr_replica.specs.declared.refusal.Refusal.TheVariants.{Forged, LogFull, NoSession, NoStream, NotARecord, NotForMe, OwnHeadLeft, Retired}
pub use Rattle.mr_replica.specs.declared.replica.TheConstants.{MAX_EVENTS}
pub use Rattle.mr_wire.specs.Frames.{Sent}
pub use Rattle.mr_wire.specs.declared.frame.Frame.{Frame}
pub use Rattle.std.proofs.Math.Seq.{drop-append_seam, drop-cons, take-length}
pub use Rattle.std.proofs.lemmas.Bool.{cases_lt, eqb-true, false≢true, le-leb, leb-false, leb-true}
pub use Rattle.std.proofs.lemmas.Bool.Decides.{eqb_tells}
pub use Rattle.std.proofs.lemmas.List.{append-nil, append_cancel_left, drop_all, drop_min, drop_more, length-append, length-map, length-take-le, map-append, map_push}
pub use Rattle.std.proofs.lemmas.List.{nil_from_length, replicate_more, take-append-drop, take-append-le, take_more}
pub use Rattle.std.proofs.lemmas.Result.{err_from_is_err_and}
pub use Rattle.std.specs.List.{AllByRecursion, flat_map, list_any}
pub use Rattle.std.specs.Prelude.{IfErr, IfOk, IsErrAnd, IsOk, IsTrue, MatchBool, Option, Vec, false, map, nat_le, replicate, sum_by, ◌&&◌, ◌||◌, ◌≢◌}
pub use Rattle.std.specs.declared.alloc.Global.{Global}
