-- Names for proofs: of other crates, and of this crate's definitions.
pub use Rattle.mr_forms.specs.Known.{Form}
pub use Rattle.mr_lane.specs.declared.note.Sender.{Sender}
pub use Rattle.mr_link.proofs.Passing.{down_on, passes_none, spoilt_on, well_on}
pub use Rattle.mr_link.specs.Link.{LinkView, with_hang_up}
pub use Rattle.mr_link.specs.Wire.{IsSpoilt, PassesWell, ReadsFrame, WireView, WritesFrame, new_wire, unread_in, wire_of}
pub use Rattle.mr_link.specs.declared.snag.Snag.{Snag}
pub use Rattle.mr_node.specs.Machine.{admitted_of, feed_of}
pub use Rattle.mr_node.specs.Saying.{HasLet, Saying, answer_frame, are_over, cut_of, frames_given, frames_read, is_last, letter_frame, one_if_receive}
pub use Rattle.mr_node.specs.Saying.{opened_behind, opened_by, receives, reply_frame}
pub use Rattle.mr_node.specs.Stop.{AreLetPass, IsStopped, IsThrough, LinkRan, Stops}
pub use Rattle.mr_node.specs.Thread.{IsHungUpLast, SaidInTurn, SaidTurns}
pub use Rattle.mr_node.specs.Turn.{AreWhole, IsCutShort, IsOrderly, IsReading, IsWhole, SaysNext, is_done, is_reading, reads}
pub use Rattle.mr_node.specs.declared.link_voice.LinkVoice.{LinkVoice}
pub use Rattle.mr_node.specs.declared.next_move.Move.{Move}
pub use Rattle.mr_node.specs.declared.progress.Opened.{Opened}
pub use Rattle.mr_node.specs.declared.progress.Opened.TheVariants.{Nothing, Session, Stream}
pub use Rattle.mr_node.specs.declared.progress.Progress.{Progress}
pub use Rattle.mr_node.specs.declared.turn.Stop.{Stop}
pub use Rattle.mr_node.specs.declared.turn.Stop.TheVariants.{BadFrame, NotReceived, NotSent, Refused, Shut}
pub use Rattle.mr_node.specs.declared.turn.Turn.{Turn}
pub use Rattle.mr_node.specs.inner.Step.{ComesOf, Fetches, IsUnposted, LetsMove, Moves, ReadsLetter, SaysCut, SaysPart, SaysSoFar, SaysWhole, TurnGoes}
pub use Rattle.mr_node.specs.inner.Step.{TurnRan, WritesAll, unread, unsent}
pub use Rattle.mr_node.specs.inner.Turn.{IsAt, advanced, cut_by, progress_of}
pub use Rattle.mr_node.specs.inner.Voice.{HasHungUp, IsHungUpBehind, IsReady, IsVoiceOf, Runs}
pub use Rattle.mr_replica.specs.State.{State}
pub use Rattle.mr_replica.specs.Step.{Steps}
pub use Rattle.mr_replica.specs.declared.event.Event.{Event}
pub use Rattle.mr_replica.specs.declared.event.Event.TheVariants.{CutIn, CutOut, Next, Pull, Vouch}
pub use Rattle.mr_replica.specs.declared.event.Reply.{Reply}
pub use Rattle.mr_replica.specs.declared.refusal.Refusal.{Refusal}
pub use Rattle.mr_threads.proofs.Saying.{holds_on_err, part_behind, posts_none, says-append, says_in_part, says_none}
pub use Rattle.mr_threads.specs.Exchange.{Exchange, Replays, letters_said, said_by}
pub use Rattle.mr_threads.specs.Talk.{SameLanes, Says, SaysInPart, SpokeInTurn}
pub use Rattle.mr_threads.specs.declared.talk.Halt.{Halt}
pub use Rattle.mr_threads.specs.declared.talk.Talk.{Talk}
pub use Rattle.mr_version.specs.Name.{Name}
pub use Rattle.mr_wire.specs.declared.frame.Frame.{Frame}
pub use Rattle.std.proofs.lemmas.Bool.Decides.{nat_tests}
pub use Rattle.std.proofs.lemmas.List.{append-nil, take_all}
pub use Rattle.std.proofs.lemmas.List.Concat.{flat_map-append}
pub use Rattle.std.proofs.lemmas.Result.{IfOk-weaker}
pub use Rattle.std.specs.Global.{Vec}
pub use Rattle.std.specs.List.{slice_get}
