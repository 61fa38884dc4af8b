-- Names for proofs: frames, and what is in them.
pub use Rattle.mr_wire.specs.Frames.{Question, Sent}
pub use Rattle.mr_wire.specs.Grammar.{Spells}
pub use Rattle.mr_wire.specs.Values.{DescentParts, Piece, piece_of}
pub use Rattle.mr_wire.specs.declared.frame.Body.{Body}
pub use Rattle.mr_wire.specs.declared.frame.Body.TheVariants.{End, Held, Item, Know, MoveOut, Start}
pub use Rattle.mr_wire.specs.declared.frame.Frame.{Frame}
pub use Rattle.mr_wire.specs.declared.frame.Mode.{Mode}
pub use Rattle.mr_wire.specs.declared.frame.Mode.TheVariants.{Full, Partial}
pub use Rattle.mr_wire.specs.declared.frame.Receipt.{Receipt}
