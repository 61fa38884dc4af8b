-- what two nodes ran in each round
use Rattle.std.proofs.Common.{◌≡◌, ℕ, Bool, true, false, [], Option, Some, None, IfSome, refl, sym}
use Rattle.std.specs.Bool.{then_some}
use Rattle.mr_forms.specs.Known.{Form}
use Rattle.mr_link.specs.LaneLink.{LaneEnd, lane_tells}
use Rattle.mr_node.specs.Node.{ReplicaNodeRan}
use Rattle.mr_node.specs.declared.node.NodeEnd.{NodeEnd}
use Rattle.mr_node.specs.declared.node.NodeParts.{NodeParts}
use Rattle.mr_replica.specs.State.{State}
use Rattle.mr_live.specs.Rounds.{Links, had_memory, never, always, AreIdle, Cross, IsNew, RanFrom, RanAlone, RanBoth, TwoRounds}
use Rattle.mr_live.specs.declared.plan.NodePlan.{NodePlan}

module _ {K : Type 0} (form : Form K) where
  -- a node that ran, and answered no letter out of memory
  pub ran_from : (parts : NodeParts (State K) LaneEnd LaneEnd) (links : Links) (places : ℕ) (end : NodeEnd (State K)) (first second : LaneEnd) (is_whole : Bool) (ended : Option (State K))
      → parts.first_link ≡ links.0 → parts.second_link ≡ links.1 → ReplicaNodeRan form lane_tells lane_tells never always parts end first second → end.capacity ≡ places
      → is_whole ≡ had_memory end.replies → ended ≡ then_some is_whole end.replica → IfSome ended (λ new. RanFrom form parts.replica parts.events.items links places new)
  ran_from parts links places end first second true ended one other ran capacity whole is =
      rw is (record {
        parts = parts;
        replica = refl;
        asked = refl;
        first_link = one;
        second_link = other;
        end = end;
        first_after = first;
        second_after = second;
        ran = ran;
        memory = sym whole;
        capacity = capacity;
        is = refl;
      })
  ran_from parts links places end first second false ended one other ran capacity whole is = rw is tt

  -- a new replica that ran over idle links ran alone
  pub ran_alone : (plan : NodePlan) (start : State K) (links : Links) (ended : Option (State K)) → IsNew form plan.spec start → AreIdle links
      → IfSome ended (λ new. RanFrom form start plan.events.items links plan.spec.port_capacity new) → IfSome ended (λ new. RanAlone form plan new)
  ran_alone plan start links None is_new idle ran = tt
  ran_alone plan start links (Some new) is_new idle ran = record { start = start; is_new = is_new; links = links; idle = idle; ran = ran }

  -- two that ran over links that cross, and both came to an end, ran both
  pub ran_both : (places : ℕ × ℕ) (old : State K × State K) (first_links second_links : Links) (first second : Option (State K)) (ended : Option (State K × State K)) → Cross first_links second_links
      → IfSome first (λ new. RanFrom form old.0 [] first_links places.0 new) → IfSome second (λ new. RanFrom form old.1 [] second_links places.1 new)
      → IfSome ended (λ two. (first ≡ Some two.0) × (second ≡ Some two.1)) → IfSome ended (λ two. RanBoth form places old two)
  ran_both places old first_links second_links first second None cross one other both = tt
  ran_both places old first_links second_links first second (Some two) cross one other both =
      record { first_links = first_links; second_links = second_links; cross = cross; first = rw both.0 at one; second = rw both.1 at other }

  -- each alone, and then both
  pub two_rounds : (plans : NodePlan × NodePlan) (between : State K × State K) (ended : Option (State K × State K)) → RanAlone form plans.0 between.0 → RanAlone form plans.1 between.1
      → IfSome ended (λ two. RanBoth form (plans.0.spec.port_capacity, plans.1.spec.port_capacity) between two) → IfSome ended (λ two. TwoRounds form plans two)
  two_rounds plans between None first second both = tt
  two_rounds plans between (Some two) first second both = record { between = between; first = first; second = second; both = both }
