-- Names for proofs: sessions and streams.
pub use Rattle.mr_session.specs.Held.{AreCut}
pub use Rattle.mr_session.specs.Session.{Session, after_record, first_fault, if_so, is_full, is_full_mode, is_of, is_start, new_session, with_body}
pub use Rattle.mr_session.specs.Session.{with_taken}
pub use Rattle.mr_session.specs.Stream.{Asked, Draws, DrawsAfterWalk, DrawsAt, DrawsKnow, DrawsRest, DrawsWalk, GivesIn, Stream, claimed, due}
pub use Rattle.mr_session.specs.Stream.{header_of, is_ahead, is_due, is_end, is_item, is_move_out, is_wanted, lists, lower, new_stream, told}
pub use Rattle.mr_session.specs.Table.{Numbered, Table, at, empty_table, open_at, with_changed, with_closed, with_opened}
pub use Rattle.mr_session.specs.declared.fault.SessionFault.{SessionFault}
pub use Rattle.mr_session.specs.declared.origin.Origin.{Origin}
