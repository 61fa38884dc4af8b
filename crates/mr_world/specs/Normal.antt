-- A world in which each vector is in the one form that its set has.
use Rattle.std.specs.Prelude.{◌≡◌, ℕ, Some, List}
use Rattle.mr_concise.specs.declared.vector.AuthorColumn.{AuthorColumn}
use Rattle.mr_concise.specs.Vector.{IsVectorFrom}
use Rattle.mr_madewith.specs.Revision.{Rev}
use Rattle.mr_model.specs.Rules.{In}
use Rattle.mr_replica.specs.State.{State}
use Rattle.mr_session.specs.Stream.{Stream}
use Rattle.mr_session.specs.Table.{open_at}
use Rattle.mr_wire.specs.Frames.{Sent}
use Rattle.mr_wire.specs.Values.{Piece}
use Rattle.mr_wire.specs.declared.frame.Body.{Body}
use Rattle.mr_wire.specs.declared.frame.Body.TheVariants.{Start, Item, MoveOut, Held, Know, End}
use Rattle.mr_world.specs.World.{World}

-- the columns are as those of a vector have to be
abbrev pub IsNormal : List AuthorColumn → Type 0
IsNormal columns = IsVectorFrom 0 columns

-- the columns that a record carries are as those of a vector have to be
abbrev pub IsNormalBody : Body → Type 0
IsNormalBody (Start mode) = Unit {0}
IsNormalBody (Item r) = IsNormal r.below
IsNormalBody (MoveOut line) = IsNormal line.below
IsNormalBody (Held vector) = IsNormal vector
IsNormalBody (Know piece) = IsNormal piece.vector
IsNormalBody End = Unit {0}

-- the columns of revisions are as those of a vector have to be
abbrev pub AreNormalRevisions : List Rev → Type 0
AreNormalRevisions rs = (r : Rev) → In r rs → IsNormal r.below

-- the columns that a stream still has to give are as those of a vector have to be
pub record IsNormalStream (k : Stream) : Type 0 where
  pub held : (vectors : List (List AuthorColumn)) → k.held ≡ Some vectors → (v : List AuthorColumn) → In v vectors → IsNormal v
  pub know : (piece : Piece) → In piece k.know → IsNormal piece.vector

-- the columns that a replica holds and has to give are as those of a vector have to be
pub record IsNormalReplica {K : Type 0} (s : State K) : Type 0 where
  pub heads : AreNormalRevisions s.heads
  pub push_outs : AreNormalRevisions s.push_outs
  pub streams : (number : ℕ) (k : Stream) → open_at s.streams number ≡ Some k → IsNormalStream k

-- all columns in a world are as those of a vector have to be
pub record IsNormalWorld {K : Type 0} (w : World K) : Type 0 where
  pub replicas : (r : ℕ) → IsNormalReplica (w.replicas r)
  pub records : (sent : Sent) → In sent w.records → IsNormalBody sent.body
