-- two nodes in two rounds
use Rattle.std.specs.Prelude.{◌≡◌, ◌==◌, ◌&&◌, not, ℕ, Bool, true, false, IsTrue, List, [], ◌∷◌, Result, Ok, Err}
use Rattle.std.specs.List.{list_all}
use Rattle.mr_forms.specs.Known.{Form, AreSame}
use Rattle.mr_lane.specs.declared.note.Sender.{Sender}
use Rattle.mr_link.specs.LaneLink.{LaneEnd, lane_tells, AreJoined}
use Rattle.mr_node.specs.Node.{ReplicaNodeRan}
use Rattle.mr_node.specs.declared.node.LinkTurns.{LinkTurns}
use Rattle.mr_node.specs.declared.node.NodeEnd.{NodeEnd}
use Rattle.mr_node.specs.declared.node.NodeParts.{NodeParts}
use Rattle.mr_node.specs.declared.node.NodeReplies.{NodeReplies}
use Rattle.mr_node.specs.declared.turn.Turn.{Turn}
use Rattle.mr_node.specs.declared.turn.Turn.TheVariants.{Pull, Serve}
use Rattle.mr_replica.specs.Refusal.{refusal_number}
use Rattle.mr_replica.specs.State.{State, new_state}
use Rattle.mr_replica.specs.declared.event.Event.{Event}
use Rattle.mr_replica.specs.declared.event.Reply.{Reply}
use Rattle.mr_replica.specs.declared.refusal.Refusal.{Refusal}
use Rattle.mr_world.specs.declared.spec.Spec.{Spec}
use Rattle.mr_live.specs.declared.plan.NodePlan.{NodePlan}
use Rattle.mr_live.specs.declared.rounds.TheConstants.{LINK_PIECES}

-- no gate closes
abbrev pub never : Sender → ℕ → Bool
never = λ link number. false

-- a gate that lets each record pass
abbrev pub always : Sender → ℕ → Type 0
always = λ link number. Unit {0}

-- the first and the second link of a node
abbrev pub Links : Type 0
Links = LinkTurns LaneEnd × LinkTurns LaneEnd

-- they have these turns
pub record HaveTurns (on_first on_second : List Turn) (links : Links) : Type 0 where
  pub first : links.0.turns.items ≡ on_first
  pub second : links.1.turns.items ≡ on_second

-- the two ends of a new link, with no turn on either
pub record AreIdle (links : Links) : Type 0 where
  pub turns : HaveTurns [] [] links
  pub joined : AreJoined LINK_PIECES links.0.link links.1.link

-- Each node pulls over its first link, which is new, and whose other end is the second link of the other, over which that one serves.
pub record Cross (these those : Links) : Type 0 where
  pub first_turns : HaveTurns (Pull ∷ []) (Serve ∷ []) these
  pub second_turns : HaveTurns (Pull ∷ []) (Serve ∷ []) those
  pub first_pulls : AreJoined LINK_PIECES these.0.link those.1.link
  pub second_pulls : AreJoined LINK_PIECES those.0.link these.1.link

-- the answer is not out of memory, which is refusal 0
abbrev pub has_memory : Result Reply Refusal → Bool
has_memory (Ok reply) = true
has_memory (Err refusal) = not (refusal_number refusal == 0)

-- no letter of a node was answered out of memory
abbrev pub had_memory : NodeReplies → Bool
had_memory replies = list_all has_memory replies.user.items && (list_all has_memory replies.first_link.items && list_all has_memory replies.second_link.items)

module _ {K : Type 0} (form : Form K) where
  -- A node without a gate ran from this replica to that one, with these links, and with so many places in each of its lanes; its user asked these, and no letter was answered out of memory.
  pub record RanFrom (old : State K) (events : List Event) (links : Links) (places : ℕ) (new : State K) : Type 0 where
    pub parts : NodeParts (State K) LaneEnd LaneEnd
    pub replica : parts.replica ≡ old
    pub asked : parts.events.items ≡ events
    pub first_link : parts.first_link ≡ links.0
    pub second_link : parts.second_link ≡ links.1
    pub end : NodeEnd (State K)
    pub first_after : LaneEnd
    pub second_after : LaneEnd
    pub ran : ReplicaNodeRan form lane_tells lane_tells never always parts end first_after second_after
    pub memory : IsTrue (had_memory end.replies)
    pub capacity : end.capacity ≡ places
    pub is : new ≡ end.replica

  -- a replica that was just made of this, and knows nothing
  pub record IsNew (spec : Spec) (s : State K) : Type 0 where
    pub is : s ≡ new_state spec.id spec.filter spec.event_limit s.knowledge
    pub knows_nothing : AreSame (form.known s.knowledge) (λ _ _. false)

  -- in a round of its own, with as many places as the plan says, a new replica was asked all that it says
  pub record RanAlone (plan : NodePlan) (new : State K) : Type 0 where
    pub start : State K
    pub is_new : IsNew plan.spec start
    pub links : Links
    pub idle : AreIdle links
    pub ran : RanFrom start plan.events.items links plan.spec.port_capacity new

  -- Both were asked nothing more, and each pulled what the other served. The lanes of each had so many places.
  pub record RanBoth (places : ℕ × ℕ) (old new : State K × State K) : Type 0 where
    pub first_links : Links
    pub second_links : Links
    pub cross : Cross first_links second_links
    pub first : RanFrom old.0 [] first_links places.0 new.0
    pub second : RanFrom old.1 [] second_links places.1 new.1

  -- each alone, and then both at once, with the places of the plans
  pub record TwoRounds (plans : NodePlan × NodePlan) (ended : State K × State K) : Type 0 where
    pub between : State K × State K
    pub first : RanAlone plans.0 between.0
    pub second : RanAlone plans.1 between.1
    pub both : RanBoth (plans.0.spec.port_capacity, plans.1.spec.port_capacity) between ended
