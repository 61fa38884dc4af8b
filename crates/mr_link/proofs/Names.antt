-- Names for proofs: of other crates, and of this crate's definitions.
pub use Rattle.mr_frames.proofs.StreamLaws.{begins_more, frames_whole}
pub use Rattle.mr_frames.specs.Reader.{Feeds, Nexts}
pub use Rattle.mr_lane.specs.Tap.{HandsBack, TapEnd, with_item}
pub use Rattle.mr_link.specs.LaneLink.{IsBeginning, LaneEnd, SameEnd, bytes_in}
pub use Rattle.mr_link.specs.Link.{LinkView, Receives, Sends, and_then, with_down, with_received, with_sent}
pub use Rattle.mr_link.specs.Wire.{GoesDown, IsBad, IsSpoilt, Passes, PassesWell, ReadsFrame, WireView, WritesFrame, bytes_of, held_bytes, unread_in, wire_of}
pub use Rattle.mr_link.specs.declared.chunk.Chunk.{Chunk}
pub use Rattle.mr_link.specs.declared.wire.Wire.{Wire}
pub use Rattle.mr_link.specs.inner.Wire.{Hands, HandsNothing, HandsOn, ReadsPiece}
pub use Rattle.mr_wire.specs.Grammar.{Spells}
pub use Rattle.mr_wire.specs.declared.frame.Frame.{Frame}
pub use Rattle.std.proofs.lemmas.Bool.{false≢true}
pub use Rattle.std.specs.Global.{Vec}
pub use Rattle.std.specs.Option.{option_map}
