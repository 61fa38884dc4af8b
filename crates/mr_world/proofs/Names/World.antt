-- Names for proofs: worlds, and how they agree with a moment.
pub use Rattle.mr_world.specs.Agrees.{Agrees, HoldingsAgree, HoldsAs, version_alone}
pub use Rattle.mr_world.specs.Asked.{answering, asked, delivering, receiving, record_len, releasing}
pub use Rattle.mr_world.specs.Does.{Does, StepsTo}
pub use Rattle.mr_world.specs.Given.{GivenLists, with_given}
pub use Rattle.mr_world.specs.Issued.{AreOfIssues, IsBelow, IsTrueLine, IsTrueRevision, Shows, message_of}
pub use Rattle.mr_world.specs.Kept.{MemberView, WorldView, member_at, port_of, replica_at, with_port, world_view}
pub use Rattle.mr_world.specs.ListedItems.{AreIssuedItems, IsFiled, IsGenuine, IsListedReplica, IsListedWorld, ListIssued, ListsIssued}
pub use Rattle.mr_world.specs.Made.{IsMadeOf, IsMadeWorld, has_bad_capacity, has_bad_limit, has_same_id, spec_refusal}
pub use Rattle.mr_world.specs.Moves.{Moves}
pub use Rattle.mr_world.specs.Normal.{AreNormalRevisions, IsNormal, IsNormalBody, IsNormalReplica, IsNormalStream, IsNormalWorld}
pub use Rattle.mr_world.specs.Pool.{AreFrames, GivesFrame, IsAskFrame, IsFrameOf, IsReceiptFrame, IsRecordFrame, PoolList, at_number, found_frame}
pub use Rattle.mr_world.specs.Pool.{question_of, questions_in, receipt_of, receipts_in, sent_of, sents_in}
pub use Rattle.mr_world.specs.Ports.{Closes, Offers, Port, Takes, new_port, with_close, with_offered, with_waiting}
pub use Rattle.mr_world.specs.Replies.{AreBySets, AskedTooLong, ClaimsKnown, IsBySets, IsTooLong, TellsWhetherKnown}
pub use Rattle.mr_world.specs.Run.{Becomes, Happens, Leads, Meets, StopsAt, answered, ids_of, stop_fault}
pub use Rattle.mr_world.specs.Runs.{IsFreshWorld, Runs, history, history_from, seen_step}
pub use Rattle.mr_world.specs.Seen.{MailMoment, MailSetting, seen_answer, seen_ask, seen_body, seen_receipt, seen_record, seen_reply, setting_of}
pub use Rattle.mr_world.specs.Seen.{versions_in_order}
pub use Rattle.mr_world.specs.Sessions.{Follows, KeepsTold, SessionAgrees, SessionsAgree}
pub use Rattle.mr_world.specs.Shared.{PortAgrees, ReceiptsAgree, SeesAsk, SeesAsks}
pub use Rattle.mr_world.specs.Streams.{StreamAgrees, StreamsAgree, left_to_show}
pub use Rattle.mr_world.specs.Told.{AreAtOnePlace, IsToldWhole, IsTrueBody, RecordsAgree, is_among, shown, shown_by, told_by, told_pairs}
pub use Rattle.mr_world.specs.World.{World, all_given, found_or, member_of, port_numbered, with_member, world_of}
pub use Rattle.mr_world.specs.declared.answer.Answer.{Answer}
pub use Rattle.mr_world.specs.declared.answer.Answer.TheVariants.{Closed, Done, Empty, Full, NothingNew, Offered, Stepped, TookEntry, Truncated}
pub use Rattle.mr_world.specs.declared.fault.WorldFault.{WorldFault}
pub use Rattle.mr_world.specs.declared.fault.WorldFault.TheVariants.{NoSuchFrame, NoSuchReplica, OutOfMemory}
pub use Rattle.mr_world.specs.declared.pools.Given.{Given}
pub use Rattle.mr_world.specs.declared.spec.Spec.{Spec}
pub use Rattle.mr_world.specs.declared.task.Task.{Task}
pub use Rattle.mr_world.specs.inner.Asked.{Finds, FindsFrame, asked_of}
pub use Rattle.mr_world.specs.inner.Given.{Gains, HasMore, IsGivenBy, KeepsFrames}
pub use Rattle.mr_world.specs.inner.Happens.{Fulfils, GainsBy}
