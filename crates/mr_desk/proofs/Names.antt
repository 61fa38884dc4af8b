-- Names for proofs: of other crates, and of this crate's definitions.
pub use Rattle.mr_desk.specs.Asked.{IsEventOf, NeedsMemory, call_fault}
pub use Rattle.mr_desk.specs.Desk.{DeskState}
pub use Rattle.mr_desk.specs.Draft.{draft_fault, labels_of, parts_of}
pub use Rattle.mr_desk.specs.Fault.{Reads, of_kept, of_message, of_wire}
pub use Rattle.mr_desk.specs.Frames.{BeginsFrame, IsFrameIn, any_frame, frame_fault, only_ask, only_receipt}
pub use Rattle.mr_desk.specs.Kept.{KeptAnswers, KeptCommits, KeptMerges, Refuses, Stays, TakesMeant, inside}
pub use Rattle.mr_desk.specs.KeptOpening.{AreGiven}
pub use Rattle.mr_desk.specs.Merge.{IsEditOver, IsMergeIn, IsMergeOf, IsTogether, edit_fault_over, heads_of, last_under, merge_fault, merge_fault_in, said_by}
pub use Rattle.mr_desk.specs.Merge.{said_together, unmerged}
pub use Rattle.mr_desk.specs.Notes.{KeptTakesNote, note_of}
pub use Rattle.mr_desk.specs.Version.{first_unnamed, first_version_fault, is_author, named_by, version_fault}
pub use Rattle.mr_desk.specs.declared.call.Call.{Call}
pub use Rattle.mr_desk.specs.declared.call.VersionNumbers.{VersionNumbers}
pub use Rattle.mr_desk.specs.declared.fault.Fault.{Fault}
pub use Rattle.mr_desk.specs.declared.fault.Fault.TheVariants.{BadLength, BytesBehind, Event, Failed, Filter, Merge, Message, NoConflict, NotText, Open}
pub use Rattle.mr_desk.specs.declared.fault.Fault.TheVariants.{OtherDevice, OtherFrame, OutOfMemory, Peer, Refused, Replay, TooLarge, Unsettled, Version}
pub use Rattle.mr_desk.specs.declared.fault.Fault.TheVariants.{Wire}
pub use Rattle.mr_feed.specs.declared.entry.Entry.{Entry}
pub use Rattle.mr_hosted.specs.Commit.{HostCommits}
pub use Rattle.mr_hosted.specs.Hosted.{SameHost, journaled_of, may_show}
pub use Rattle.mr_hosted.specs.declared.hosted.Hosted.{Hosted}
pub use Rattle.mr_itemset.specs.Normal.{Normal}
pub use Rattle.mr_itemset.specs.Sparing.{sparing_form}
pub use Rattle.mr_kept.specs.Answered.{Answered, IsUnnoted}
pub use Rattle.mr_kept.specs.Kept.{AtOnce, SameJournal, journal_of, leaving}
pub use Rattle.mr_madewith.specs.Revision.{Rev}
pub use Rattle.mr_maildir.specs.Policy.{have_one_content, view_of}
pub use Rattle.mr_replica.specs.Refusal.{◌orelse◌}
pub use Rattle.mr_replica.specs.State.{State, new_state}
pub use Rattle.mr_version.specs.Name.{Name}
pub use Rattle.mr_version.specs.declared.fault.VersionFault.{VersionFault}
pub use Rattle.mr_wire.specs.Decoding.{decoded}
pub use Rattle.mr_wire.specs.declared.fault.WireFault.{WireFault}
pub use Rattle.mr_wire.specs.declared.frame.Frame.{Frame}
pub use Rattle.std.proofs.lemmas.List.{flat_map_more, get_or_default, map-append, take-append-drop, take_more}
pub use Rattle.std.proofs.lemmas.Result.{err_from_is_err_and}
pub use Rattle.std.specs.List.{flat_map, list_all, position_or_len}
pub use Rattle.std.specs.Option.{MatchOption, option_copied, option_map}
pub use Rattle.std.specs.Prelude.{if◌then◌else◌, is_some}
