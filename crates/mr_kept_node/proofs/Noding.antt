-- What a node over a kept replica comes to, for its parts.
use Rattle.std.proofs.Common.{◌≡◌, ◌≤◌, ℕ, Bool, true, List, refl, subst}
use Rattle.mr_kept_node.proofs.Names.{DeviceOf, Form, IsItsLog, Journaled, KeptMachine, KeptNodeRan, Sender, Takes, in_machine, machine_of, nothing_waits, replica_of}
use Rattle.mr_kept_node.proofs.Names.{told_of}
use Rattle.mr_link.specs.Link.{LinkView}
use Rattle.mr_node.specs.Node.{NodeRan}
use Rattle.mr_node.specs.declared.node.NodeParts.{NodeParts}
use Rattle.mr_node.specs.declared.node.NodeEnd.{NodeEnd}
use Rattle.mr_kept_node.proofs.Feeding.{told_ran}
use Rattle.mr_kept_node.proofs.Opening.{opens}
use Rattle.mr_kept_node.proofs.Reaching.{reach, safe_since}
use Rattle.mr_kept_node.proofs.Running.{log_ran}
use Rattle.mr_kept_node.proofs.Stepping.{Ready}

module _ {K D V : Type 0} (form : Form K) (device : DeviceOf D)
    (only_now : (d : D) (c : List ℕ) → device.left_since d (device.moment d) c → device.may_leave d c) (now_counts : (d : D) (t : ℕ) (c : List ℕ) → t ≤ device.moment d → device.may_leave d c → device.left_since d t c) where
  pub kept_node_ran : {L M : Type 0} (first_tells : L → LinkView) (second_tells : M → LinkView) (closes : Sender → ℕ → Bool) (has_let : Sender → ℕ → Type 0) (parts : NodeParts (Journaled K D V) L M) (given : NodeParts (KeptMachine K D V) L M) (end : NodeEnd (KeptMachine K D V)) (first : L) (second : M)
      → given ≡ in_machine parts → nothing_waits parts.replica ≡ true → IsItsLog form (replica_of parts.replica)
      → NodeRan (Takes form device) told_of first_tells second_tells closes has_let given end first second
      → KeptNodeRan form device first_tells second_tells closes has_let parts end first second
  kept_node_ran first_tells second_tells closes has_let parts given end first second is none its_log h =
      let ran = subst (λ (p : NodeParts (KeptMachine K D V) _ _). NodeRan (Takes form device) told_of first_tells second_tells closes has_let p end first second) is h in
      let start : KeptMachine K D V = machine_of parts.replica in
      let ready : Ready start = record { goes_on = refl; none_waits = none; told = refl } in
      let log = log_ran form device start end.replica ran.exchanges ready ran.replays in
      record {
        ran = ran;
        unkept = log.unkept;
        log = log.log;
        feed = told_ran form device start end.replica ran.exchanges ready its_log ran.replays;
        head = log.head;
        all_kept = log.ends;
        keeps = λ told entries kept. record {
          ended = (reach form device told only_now now_counts start end.replica ran.exchanges entries ready kept ran.replays).ended;
          since = safe_since form device told only_now now_counts start end.replica ran.exchanges entries ready its_log kept ran.replays;
          left = λ of. opens form device told only_now start end.replica ran.exchanges entries ready kept (record { is_its_log = its_log; of = of }) ran.replays;
        };
      }
