-- Names for proofs: replicas.
pub use Rattle.mr_replica.proofs.Choice.{map_none, not_refused, some_same}
pub use Rattle.mr_replica.proofs.FiveKinds.{Kind, SessionsTurn, StreamsTurn, change_made}
pub use Rattle.mr_replica.proofs.Merging.{all_claimed}
pub use Rattle.mr_replica.proofs.Replaying.{fresh_is_its_log, kept, step_log, step_setting}
pub use Rattle.mr_replica.proofs.Replies.{GoesOn, step_changes, step_refused, step_replied}
pub use Rattle.mr_replica.specs.Admission.{log_full, retired}
pub use Rattle.mr_replica.specs.Answer.{Keeps, answering, asked_of, mode_for}
pub use Rattle.mr_replica.specs.Edit.{are_all_of, edit_refusal, edited_item, item_refusal, not_held, own_left}
pub use Rattle.mr_replica.specs.Forged.{has_early, is_early, is_early_line, is_forged, is_misfiled, line_of}
pub use Rattle.mr_replica.specs.Issue.{FirstFault, Issues, Wanted, added, below_for, dropped, entered_if, if_so, is_selected, issuing, logged}
pub use Rattle.mr_replica.specs.Issue.{revision_for, told_more}
pub use Rattle.mr_replica.specs.Next.{GivesNext, held_now}
pub use Rattle.mr_replica.specs.Pull.{IsAskOf, pulling}
pub use Rattle.mr_replica.specs.Receive.{Ends, EndsSession, TakesBody, TakesFrame, TakesLine, arrival_alone, arrived, ending, entering, finished}
pub use Rattle.mr_replica.specs.Receive.{is_unheld, learning, line_learned, moved_on, receive_refusal, record_refusal, session_for, session_refusal}
pub use Rattle.mr_replica.specs.Refusal.{refusal_of_session, refused_if, ◌orelse◌}
pub use Rattle.mr_replica.specs.Release.{releasing, vouched}
pub use Rattle.mr_replica.specs.Replay.{IsFresh, IsItsLog}
pub use Rattle.mr_replica.specs.State.{State, held, item_of_held, new_state, next_version}
pub use Rattle.mr_replica.specs.Step.{Changes, RefusesLate, Steps, first_refusal, wanted_by}
pub use Rattle.mr_replica.specs.declared.event.Event.{Event}
pub use Rattle.mr_replica.specs.declared.event.Reply.{Reply}
pub use Rattle.mr_replica.specs.declared.event.Reply.TheVariants.{Asked, Done, Gave, Issued, Known, Streaming, Took}
pub use Rattle.mr_replica.specs.declared.refusal.Refusal.{Refusal}
pub use Rattle.mr_replica.specs.declared.refusal.Refusal.TheVariants.{MixedItems, NoBase, NotHeld, NotPushedOut, OutOfMemory, OwnAsk, OwnHeadLeft}
pub use Rattle.mr_replica.specs.declared.refusal.Refusal.TheVariants.{PushOutsLeft, TooManySessions, TooManyStreams}
pub use Rattle.mr_replica.specs.inner.Taking.{told_line}
