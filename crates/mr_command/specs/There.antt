-- what a command names is there
use Rattle.std.specs.Prelude.{◌≤◌, Bool, true, IsTrue, IsFalse}
use Rattle.mr_feed.specs.declared.port.TheConstants.{MAX_CAPACITY}
use Rattle.mr_mail.specs.Mail.{Mail}
use Rattle.mr_model.specs.declared.event.Act.{Act}
use Rattle.mr_model.specs.declared.event.Act.TheVariants.{Answer, Receive, DeliverPart, Release}
use Rattle.mr_model.specs.declared.event.Event.{Event}
use Rattle.mr_replica.specs.declared.replica.TheConstants.{MAX_EVENTS}
use Rattle.mr_world.specs.declared.spec.Spec.{Spec}
use Rattle.mr_command.specs.declared.command.Command.{Command}
use Rattle.mr_command.specs.declared.command.Command.TheVariants.{AddReplica, Happen, Sync, Ask}
use Rattle.mr_command.specs.declared.command.Question.{Question}
use Rattle.mr_command.specs.declared.command.Question.TheVariants.{Heads, PushOuts, Conflicts, Know, Feed, Log, Show, Bytes, Index, Unseen}
use Rattle.mr_command.specs.declared.pool.Pool.TheVariants.{Asks, Records, Receipts}
use Rattle.mr_command.specs.Scene.{Scene}

module _ (scene : Scene) where
  -- the replica may be made: no other has its id, and a replica may have its limit and its capacity
  pub record IsNew (spec : Spec) : Type 0 where
    pub opening : IsTrue scene.is_opening
    pub other : IsFalse (scene.has_replica spec.id)
    pub some_events : 1 ≤ spec.event_limit
    pub few_events : spec.event_limit ≤ MAX_EVENTS
    pub some_places : 1 ≤ spec.port_capacity
    pub few_places : spec.port_capacity ≤ MAX_CAPACITY

  -- the frame that comes to the replica is there, where one comes
  abbrev pub has_frame_of : Act Mail → Bool
  has_frame_of (Answer n) = scene.has_frame Asks n
  has_frame_of (Receive n) = scene.has_frame Records n
  has_frame_of (DeliverPart n bytes) = scene.has_frame Records n
  has_frame_of (Release n) = scene.has_frame Receipts n
  has_frame_of act = true

  -- the event may happen: its replica and its frame are there
  pub record MayHappen (event : Event Mail) : Type 0 where
    pub replica : IsTrue (scene.has_replica event.replica)
    pub frame : IsTrue (has_frame_of event.act)

  -- what is asked about is there
  abbrev pub has_subject_of : Question → Bool
  has_subject_of (Heads id) = scene.has_replica id
  has_subject_of (PushOuts id) = scene.has_replica id
  has_subject_of (Conflicts id) = scene.has_replica id
  has_subject_of (Know id) = scene.has_replica id
  has_subject_of (Feed id) = scene.has_replica id
  has_subject_of (Log id) = scene.has_replica id
  has_subject_of (Show id v) = scene.has_replica id
  has_subject_of (Bytes pool n) = scene.has_frame pool n
  has_subject_of (Index id label) = scene.has_replica id
  has_subject_of (Unseen id) = scene.has_replica id

  -- what the command names is there
  abbrev pub IsThere : Command → Type 0
  IsThere (AddReplica spec) = IsNew spec
  IsThere (Happen event) = MayHappen event
  IsThere (Sync session) = IsTrue (scene.has_replica session.target) × IsTrue (scene.has_replica session.source)
  IsThere (Ask question) = IsTrue (has_subject_of question)
