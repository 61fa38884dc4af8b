-- what a running node comes to
use Rattle.std.specs.Prelude.{◌≡◌, ◌++◌, ℕ, Bool, None, List, Option, Result}
use Rattle.mr_forms.specs.Known.{Form}
use Rattle.mr_mail.specs.Mail.{MailCard}
use Rattle.mr_model.specs.Headline.{Cards}
use Rattle.mr_feed.specs.declared.entry.Entry.{Entry}
use Rattle.mr_lane.specs.declared.note.Sender.{Sender}
use Rattle.mr_lane.specs.declared.note.Sender.TheVariants.{User, FirstLink, SecondLink}
use Rattle.mr_link.specs.Link.{LinkView, with_hang_up}
use Rattle.mr_link.specs.Wire.{new_wire}
use Rattle.mr_replica.specs.State.{State}
use Rattle.mr_replica.specs.Step.{Steps}
use Rattle.mr_replica.specs.declared.event.Event.{Event}
use Rattle.mr_replica.specs.declared.event.Reply.{Reply}
use Rattle.mr_replica.specs.declared.refusal.Refusal.{Refusal}
use Rattle.mr_subs.specs.Index.{HasCards}
use Rattle.mr_subs.specs.Subscriber.{Keeping, ShowsFold}
use Rattle.mr_subs.specs.Unseen.{ListsUnseen}
use Rattle.mr_threads.specs.Exchange.{Exchange, letters_said, said_by, answers_to, Replays}
use Rattle.mr_node.specs.Machine.{feed_of, admitted_of}
use Rattle.mr_node.specs.Saying.{Saying}
use Rattle.mr_node.specs.Stop.{LinkRan, AreLetPass}
use Rattle.mr_node.specs.declared.node.LinkTurns.{LinkTurns}
use Rattle.mr_node.specs.declared.node.NodeParts.{NodeParts}
use Rattle.mr_node.specs.declared.node.NodeEnd.{NodeEnd}
use Rattle.mr_node.specs.declared.node.NodeFault.{NodeFault}
use Rattle.mr_node.specs.declared.node.NodeFault.TheVariants.{OutOfMemory, NoCapacity}

-- The link had this conversation in its turns, and the gate has let each record pass. What it told last is what passed over it, and then it was hung up.
pub record HadTurns {L : Type 0} (tells : L → LinkView) (closes : ℕ → Bool) (has_let : ℕ → Type 0) (old : LinkTurns L) (conversation : List Saying) (new : L) : Type 0 where
  pub unread : Option (List ℕ)
  pub last : LinkView
  pub ran : LinkRan closes old.turns.items (new_wire (tells old.link)) conversation (record { link = last; unread = unread })
  pub hangs_up : tells new ≡ with_hang_up last
  pub let_pass : AreLetPass has_let conversation

-- the subscriber shows the fold of these entries, and has applied all of them
pub record ShowsAll {F : Type 0} (shows : F → Cards MailCard → Type 0) (entries : List Entry) (s : Keeping F) : Type 0 where
  pub applied : ShowsFold shows s.fold entries
  pub none_kept : s.kept ≡ None

-- There is one list of exchanges, which leads the replica from where it was to where it is: each letter was answered in its turn, once. The user's letters among them are those that were given, and the links' those of their turns, all in order; and each has its answers. Each subscriber took what came into the feed, and shows it.
pub record NodeRan {C L M : Type 0} (steps : C → Event → Result Reply Refusal → C → Type 0) (feed_of : C → List Entry) (first_tells : L → LinkView) (second_tells : M → LinkView) (closes : Sender → ℕ → Bool) (has_let : Sender → ℕ → Type 0) (parts : NodeParts C L M) (end : NodeEnd C) (first : L) (second : M) : Type 0 where
  pub exchanges : List (Exchange Event (Result Reply Refusal))
  pub replays : Replays steps parts.replica exchanges end.replica
  pub user_said : letters_said (said_by User exchanges) ≡ parts.events.items
  pub first_link : HadTurns first_tells (closes FirstLink) (has_let FirstLink) parts.first_link (said_by FirstLink exchanges) first
  pub second_link : HadTurns second_tells (closes SecondLink) (has_let SecondLink) parts.second_link (said_by SecondLink exchanges) second
  pub user_heard : end.replies.user.items ≡ answers_to User exchanges
  pub first_heard : end.replies.first_link.items ≡ answers_to FirstLink exchanges
  pub second_heard : end.replies.second_link.items ≡ answers_to SecondLink exchanges
  pub entries : List Entry
  pub grows : feed_of end.replica ≡ feed_of parts.replica ++ entries
  pub indexer_took : end.taken.indexer.items ≡ entries
  pub notifier_took : end.taken.notifier.items ≡ entries
  pub indexer : ShowsAll HasCards entries end.indexer
  pub notifier : ShowsAll ListsUnseen entries end.notifier

-- the node of a replica ran; and its log has grown by the letters that were not refused
pub record ReplicaNodeRan {K L M : Type 0} (form : Form K) (first_tells : L → LinkView) (second_tells : M → LinkView) (closes : Sender → ℕ → Bool) (has_let : Sender → ℕ → Type 0) (parts : NodeParts (State K) L M) (end : NodeEnd (State K)) (first : L) (second : M) : Type 0 where
  pub ran : NodeRan (Steps form) feed_of first_tells second_tells closes has_let parts end first second
  pub log : end.replica.log ≡ parts.replica.log ++ admitted_of ran.exchanges

-- the number of a fault
abbrev pub node_number : {C L M : Type 0} → NodeFault C L M → ℕ
node_number OutOfMemory = 0
node_number (NoCapacity parts) = 1
