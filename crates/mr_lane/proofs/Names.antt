-- Names for proofs: of other crates, and of this crate's definitions.
pub use Rattle.crossbeam_queue.proofs.Lists.{at_set}
pub use Rattle.crossbeam_queue.specs.Fifo.{Forks, Learns, Merges, Pops, Pushes}
pub use Rattle.mr_lane.specs.Desk.{AreMarksOf, has_finished, have_all_finished}
pub use Rattle.mr_lane.specs.Note.{pieces_by, sender_number}
pub use Rattle.mr_lane.specs.Piece.{has_end, items_of, pieces}
pub use Rattle.mr_lane.specs.Post.{PostView, inbox_sight_of}
pub use Rattle.mr_lane.specs.declared.inbox_rule.InboxSight.{InboxSight}
pub use Rattle.mr_lane.specs.declared.note.Note.{Note}
pub use Rattle.mr_lane.specs.declared.note.Sender.{Sender}
pub use Rattle.mr_lane.specs.declared.piece.Piece.{Piece}
pub use Rattle.mr_lane.specs.declared.piece.Piece.TheVariants.{End, Item}
pub use Rattle.mr_lane.specs.inner.InboxRule.{AccountsForAll, DeliversInOrder, KnowsItsPart, sender_sight, spent_sight, taker_sight, with_heard, with_sender}
pub use Rattle.mr_lane.specs.inner.InboxRule.{with_sent, with_taken}
pub use Rattle.std.proofs.lemmas.Bool.{and_parts, eqb-true}
pub use Rattle.std.proofs.lemmas.List.{append-nil}
