-- Names for proofs: of other crates, and of this crate's definitions.
pub use Rattle.mr_compare.proofs.ListLemmas.{take_one}
pub use Rattle.mr_forms.specs.Known.{Form}
pub use Rattle.mr_itemset.specs.Normal.{Normal}
pub use Rattle.mr_itemset.specs.Sparing.{sparing_form}
pub use Rattle.mr_journal.specs.declared.journal.Journal.{Journal}
pub use Rattle.mr_kept.specs.Answered.{Answered, reply_by}
pub use Rattle.mr_kept.specs.Kept.{head_of, journal_of, replica_of}
pub use Rattle.mr_kept.specs.declared.fault.KeptFault.{KeptFault}
pub use Rattle.mr_kept.specs.declared.fault.KeptFault.TheVariants.{Failed, Refused, TooLarge, Unsettled}
pub use Rattle.mr_replica.proofs.Replies.{step_changes, step_refused}
pub use Rattle.mr_replica.specs.State.{State}
pub use Rattle.mr_replica.specs.declared.event.Event.TheVariants.{Answer, Pull, Receive, Release, Vouch}
pub use Rattle.mr_replica.specs.declared.event.Reply.{Reply}
pub use Rattle.mr_replica.specs.declared.event.Reply.TheVariants.{Asked, Done, Gave, Vouched}
pub use Rattle.mr_sync.specs.Asking.{IsAnswerFault, IsAskFault, IsAskFrame, IsMetAskFault, IsNoRequestOf, IsOwnMarked, IsPullOf}
pub use Rattle.mr_sync.specs.Ending.{IsEndFault, IsUnfinished, MayEnd}
pub use Rattle.mr_sync.specs.Fault.{fault_of_form, fault_of_wire}
pub use Rattle.mr_sync.specs.Host.{HasToTell, IsIdle, IsIdleFaultOf, JudgesOf, journaled_of, lacks_files, meetings_of, theirs_of}
pub use Rattle.mr_sync.specs.Idle.{AreIdle, AreSpelled, HasNoneBefore, IsAnswer, IsHellos, hellos_bytes}
pub use Rattle.mr_sync.specs.Lists.{IsDigest, IsPushOut, ReadsList, push_out_bytes, revision_bytes}
pub use Rattle.mr_sync.specs.Taken.{AreFrames, GrowsOnlyBy, GrowsOnlyByTheirs, IsRecordOf, LetsGo, LetsGoFor, ReleasesAll, TakesReceipts, TakesRecordOf}
pub use Rattle.mr_sync.specs.Taken.{TakesRecords, with_waiting}
pub use Rattle.mr_sync.specs.declared.fault.SyncFault.{SyncFault}
pub use Rattle.mr_sync.specs.declared.fault.SyncFault.TheVariants.{BadList, Kept, OtherHistory, OutOfMemory}
pub use Rattle.mr_sync.specs.declared.idle.Hellos.{Hellos}
pub use Rattle.mr_sync.specs.declared.lists.PushOut.{PushOut}
pub use Rattle.mr_sync.specs.inner.Lists.{begin_at, digest_at, list_at, push_out_at, whole_list_of}
pub use Rattle.mr_sync.specs.inner.Packed.{PacksFront, PacksSoFar}
pub use Rattle.mr_sync.specs.inner.Said.{FrontIs, joined, receipt_frame, record_frame}
pub use Rattle.mr_sync.specs.inner.Taken.{IsNoAskOf, ReleasesOne, was_there}
pub use Rattle.mr_talk.specs.Packed.{Unpacks}
pub use Rattle.mr_talk.specs.declared.hello.Hello.{Hello}
pub use Rattle.mr_talk.specs.declared.kind.TheConstants.{MAX_FRAMES_BYTES, MAX_PACKED_BYTES}
pub use Rattle.mr_version.specs.Name.{IsVersion, Name, name_cmp}
pub use Rattle.mr_wire.proofs.Laws.{Reads, RunFits, reads_as, reads_bytes, reads_like, reads_run, reads_then, reads_u64, some_is}
pub use Rattle.mr_wire.proofs.RunLemmas.{Running}
pub use Rattle.mr_wire.specs.Frames.{Question}
pub use Rattle.mr_wire.specs.Grammar.{Spells}
pub use Rattle.mr_wire.specs.declared.frame.Frame.{Frame}
pub use Rattle.std.proofs.Math.Seq.{drop-cons, get_or-append_seam, take-add, take-append_seam}
pub use Rattle.std.proofs.lemmas.Bool.{eqb-true, false≢true}
pub use Rattle.std.proofs.lemmas.Grind.{common_steps}
pub use Rattle.std.proofs.lemmas.List.{append-nil, append_cancel_left, drop_at, get_or_default, length-append, length-take, length-take-le, map-append}
pub use Rattle.std.proofs.lemmas.List.{take-append-drop, take_at, take_rest}
pub use Rattle.std.proofs.lemmas.List.Concat.{flat_map-append, flat_map-cons}
pub use Rattle.std.proofs.lemmas.List.Elements.{AllWithin-more, filter_map-append}
pub use Rattle.std.specs.Bool.{then_some}
pub use Rattle.std.specs.Global.{Vec}
pub use Rattle.std.specs.Int.{from_be_bytes, to_be_bytes, w32}
pub use Rattle.std.specs.List.{AllByRecursion, HoldsAt, cons_option, filter_map, flat_map}
pub use Rattle.std.specs.Prelude.{All, Bool, IfErr, IfOk, IfSome, MatchBool, MatchOption, MatchResult, Ok, OnOk, Option, Result, Some, option_and_then}
pub use Rattle.std.specs.Prelude.{option_map, slice_get, slice_index_or}
pub use Rattle.std.specs.Vec.Iter.{into_iter_items}
