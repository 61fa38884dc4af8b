-- worked rows: what a node comes to, over a machine that counts its letters
use Rattle.std.specs.Prelude.{◌≡◌, ◌+◌, ℕ, Bool, false, List, [], ◌∷◌, length, map, None, Some, Result, Ok, refl}
use Rattle.std.proofs.Common.{ap, sym, subst, inl, ◌∙◌, lit<, arith}
use Rattle.std.proofs.lemmas.List.{length-map}
use Rattle.std.specs.Global.{Vec}
use Rattle.mr_feed.specs.declared.entry.Entry.{Entry}
use Rattle.mr_lane.specs.declared.note.Sender.{Sender}
use Rattle.mr_lane.specs.declared.note.Sender.TheVariants.{User, FirstLink}
use Rattle.mr_link.specs.Link.{LinkView, with_hang_up}
use Rattle.mr_link.specs.Wire.{new_wire}
use Rattle.mr_replica.specs.declared.event.Event.{Event}
use Rattle.mr_replica.specs.declared.event.Event.TheVariants.{Retire, Pull, Receive}
use Rattle.mr_replica.specs.declared.event.Reply.{Reply}
use Rattle.mr_replica.specs.declared.event.Reply.TheVariants.{Done, Took}
use Rattle.mr_replica.specs.declared.refusal.Refusal.{Refusal}
use Rattle.mr_wire.specs.declared.frame.Frame.{Frame}
use Rattle.mr_threads.specs.Exchange.{said, said_by}
use Rattle.mr_threads.specs.inner.Exchange.{exchange}
use Rattle.mr_node.specs.Saying.{Saying}
use Rattle.mr_node.specs.Stop.{LinkRan, AreLetPass}
use Rattle.mr_node.specs.declared.turn.Turn.{Turn}
use Rattle.mr_node.specs.declared.node.LinkTurns.{LinkTurns}
use Rattle.mr_node.specs.declared.node.NodeParts.{NodeParts}
use Rattle.mr_node.specs.declared.node.NodeEnd.{NodeEnd}
use Rattle.mr_node.specs.declared.node.NodeFault.TheVariants.{OutOfMemory, NoCapacity}
use Rattle.mr_node.specs.Node.{HadTurns, NodeRan, node_number}

-- ---- faults

-- no memory is 0, and a capacity that no lane has is 1
pub numbers_of_faults : {C L M : Type 0} (parts : NodeParts C L M) → map node_number (OutOfMemory ∷ NoCapacity parts ∷ []) ≡ 0 ∷ 1 ∷ []
numbers_of_faults parts = refl

-- ---- a link without turns

-- it has received and sent nothing
abbrev unused : LinkView
unused = record { received = Some []; sent = Some []; downs = 0; hung_up = false }

abbrev without_turns : Vec Turn → LinkTurns LinkView
without_turns turns = record { link = unused; turns = turns }

abbrev open_gate : Sender → ℕ → Bool
open_gate sender record_number = false

-- a gate that was never asked
abbrev unasked : Sender → ℕ → Type 0
unasked sender record_number = ⊥

-- no record is posted behind it
pub asked_for_each : (f : Frame) → ¬ AreLetPass (unasked FirstLink) (said Pull (Ok Done) ∷ said (Receive f) (Ok Took) ∷ [])
asked_for_each f passed = passed 0 (lit< tt)

-- and each number counts by itself
pub asked_by_number : (f : Frame) → ¬ AreLetPass (λ n. n ≡ 1) (said (Receive f) (Ok Took) ∷ said (Receive f) (Ok Took) ∷ [])
asked_by_number f passed = absurd (omega (arith, passed 1 (lit< tt)))

-- a link without turns says nothing, and is as it was, but that it is hung up
pub says_nothing : (turns : Vec Turn) → turns.items ≡ [] → HadTurns (λ l. l) (open_gate FirstLink) (unasked FirstLink) (without_turns turns) [] (with_hang_up unused)
says_nothing turns none = record {
  unread = Some [];
  last = unused;
  ran = subst (λ (ts : List Turn). LinkRan (λ _. false) ts (new_wire unused) [] (new_wire unused)) (sym none) (inl (record {
    are_whole = refl;
    passes = record {
      rest = [];
      passes = record { received_bytes = []; received = refl; read_frames = refl; sent_bytes = []; sent = refl; sent_frames = refl };
      unread = refl;
      downs = refl;
      up = refl;
    };
  }));
  hangs_up = refl;
  let_pass = λ n below. absurd (omega (arith, below));
}

-- ---- a short run

-- each letter is answered with Done and counted, and nothing comes into a feed
abbrev Counts : ℕ → Event → Result Reply Refusal → ℕ → Type 0
Counts n letter answer m = (answer ≡ Ok Done) × (m ≡ n + 1)

abbrev parts_of : ℕ → Vec Event → Vec Turn → NodeParts ℕ LinkView LinkView
parts_of n events turns = record { replica = n; events = events; first_link = without_turns turns; second_link = without_turns turns }

abbrev end_of : ℕ → Vec (Result Reply Refusal) → Vec (Result Reply Refusal) → Vec Entry → NodeEnd ℕ
end_of n heard unheard took = record {
  replica = n;
  replies = record { user = heard; first_link = unheard; second_link = unheard };
  taken = record { indexer = took; notifier = took };
  indexer = record { fold = []; kept = None };
  notifier = record { fold = []; kept = None };
  capacity = 4;
}

-- The user says one letter to a machine that has counted five: it has counted six, and the user has its reply.
pub one_letter : (events : Vec Event) (turns : Vec Turn) (heard unheard : Vec (Result Reply Refusal)) (took : Vec Entry) → events.items ≡ Retire ∷ [] → turns.items ≡ [] → heard.items ≡ Ok Done ∷ [] → unheard.items ≡ [] → took.items ≡ []
    → NodeRan Counts (λ n. []) (λ l. l) (λ l. l) open_gate unasked (parts_of 5 events turns) (end_of 6 heard unheard took) (with_hang_up unused) (with_hang_up unused)
one_letter events turns heard unheard took says quiet hears silent none = record {
  exchanges = exchange User Retire (Ok Done) ∷ [];
  replays = (6, (refl, refl), refl);
  user_said = sym says;
  first_link = says_nothing turns quiet;
  second_link = says_nothing turns quiet;
  user_heard = hears;
  first_heard = silent;
  second_heard = silent;
  entries = [];
  grows = refl;
  indexer_took = none;
  notifier_took = none;
  indexer = record { applied = λ v. refl; none_kept = refl };
  notifier = record { applied = λ v. refl; none_kept = refl };
}

-- ---- replies

module _ {C L M : Type 0} (steps : C → Event → Result Reply Refusal → C → Type 0) (feed_of : C → List Entry) (first_tells : L → LinkView) (second_tells : M → LinkView) (closes : Sender → ℕ → Bool) (has_let : Sender → ℕ → Type 0) (parts : NodeParts C L M) (end : NodeEnd C) (first : L) (second : M) where
  -- the user has as many replies as it said letters
  pub as_many_replies : NodeRan steps feed_of first_tells second_tells closes has_let parts end first second → length end.replies.user.items ≡ length parts.events.items
  as_many_replies h =
      ap length h.user_heard ∙ (length-map (said_by User h.exchanges) (λ (x : Saying). x.answer) ∙ (sym (length-map (said_by User h.exchanges) (λ (x : Saying). x.letter)) ∙ ap length h.user_said))

  -- and both subscribers took the same
  pub same_entries : NodeRan steps feed_of first_tells second_tells closes has_let parts end first second → end.taken.indexer.items ≡ end.taken.notifier.items
  same_entries h = h.indexer_took ∙ sym h.notifier_took
