-- A node's threads, and what they come to for its parts.
use Rattle.std.proofs.Common.{arith}
use Rattle.std.proofs.Common.{◌≡◌, ◌<◌, ◌+◌, ◌^◌, ◌++◌, ℕ, Bool, List, Result, sym, ap, subst, ◌∙◌}
use Rattle.mr_node.proofs.Names.{Event, Form, HasHungUp, IsHungUpLast, IsVoiceOf, LinkView, LinkVoice, Name, Refusal, Replays, Reply, Runs, Saying, Sender}
use Rattle.mr_node.proofs.Names.{State, Steps, Vec, feed_of, said_by, unread_in}
use Rattle.mr_mail.specs.Mail.{MailCard}
use Rattle.mr_lane.specs.declared.note.Sender.TheVariants.{FirstLink, SecondLink}
use Rattle.mr_subs.specs.Index.{HasCards}
use Rattle.mr_subs.specs.Unseen.{ListsUnseen}
use Rattle.mr_threads.specs.Letters.{SaysLetters}
use Rattle.mr_threads.specs.Roles.{TookEntries, RolesRan}
use Rattle.mr_threads.specs.Running.{HaveHungUp}
use Rattle.mr_threads.specs.declared.letters.Letters.{Letters}
use Rattle.mr_threads.specs.declared.roles.Roles.{Roles}
use Rattle.mr_threads.specs.declared.roles.RolesEnd.{RolesEnd}
use Rattle.mr_threads.specs.declared.roles.Heard.{Heard}
use Rattle.mr_subs.specs.Subscriber.{Keeping}
use Rattle.mr_model.specs.Headline.{Cards}
use Rattle.mr_feed.specs.declared.entry.Entry.{Entry}
use Rattle.mr_node.proofs.Linking.{voice_ready, voice_ran, voice_let, voice_hung_up, voice_last}
use Rattle.mr_node.specs.inner.Joining.{AreRolesOf, AreReady, IsEndOf}
use Rattle.mr_node.specs.Node.{HadTurns, ShowsAll, NodeRan, ReplicaNodeRan}
use Rattle.mr_node.specs.declared.node.LinkTurns.{LinkTurns}
use Rattle.mr_node.specs.declared.node.NodeParts.{NodeParts}
use Rattle.mr_node.specs.declared.node.NodeEnd.{NodeEnd}
use Rattle.mr_node.proofs.Hosting.{log_grows}

module _ {L G : Type 0} (tells : L → LinkView) (hung_up_at : L → LinkView → Type 0) (closes : G → Sender → ℕ → Bool) (has_let : G → Sender → ℕ → Type 0) (gate : G) (sender : Sender) (old : LinkTurns L) (voice : LinkVoice L G) where
  had_turns : (conversation : List Saying) (spoken : LinkVoice L G) (new : L) → IsVoiceOf gate sender old.link old.turns voice
      → Runs tells hung_up_at closes has_let voice conversation spoken → HasHungUp tells spoken → new ≡ spoken.wire.link → HadTurns tells (closes gate sender) (has_let gate sender) old conversation new
  had_turns conversation spoken new is h up link = record {
    unread = unread_in spoken.wire.reader spoken.wire.held;
    last = h.last;
    ran = voice_ran tells hung_up_at closes has_let gate sender old.link old.turns voice conversation spoken is h;
    hangs_up = voice_hung_up tells hung_up_at closes has_let gate sender old.link old.turns voice conversation spoken new h up link;
    let_pass = voice_let tells hung_up_at closes has_let gate sender old.link old.turns voice conversation spoken is h;
  }

-- a subscriber that took entries shows all of them
shows_all : {F : Type 0} (shows : F → Cards MailCard → Type 0) (entries : List Entry) (heard : Heard F) (s : Keeping F) → TookEntries shows entries heard → s ≡ heard.subscriber → ShowsAll shows entries s
shows_all shows entries heard s h is = subst (λ (z : Keeping _). ShowsAll shows entries z) (sym is) (record { applied = h.applied; none_kept = h.none_kept })

module _ {C L M G : Type 0} (steps : C → Event → Result Reply Refusal → C → Type 0) (feed_of : C → List Entry) (first_tells : L → LinkView) (second_tells : M → LinkView) (first_at : L → LinkView → Type 0) (second_at : M → LinkView → Type 0) (closes : G → Sender → ℕ → Bool) (has_let : G → Sender → ℕ → Type 0) (gate : G) (parts : NodeParts C L M) (roles : Roles C (Letters Event) (LinkVoice L G) (LinkVoice M G)) where
  pub roles_ready : AreRolesOf gate parts roles → (first_tells parts.first_link.link).downs + 1 < 2 ^ 64 → (second_tells parts.second_link.link).downs + 1 < 2 ^ 64 → AreReady first_tells second_tells roles
  roles_ready are first second = grind (arith, voice_ready)

  pub node_ran : (end : RolesEnd C (Result Reply Refusal) (Letters Event) (LinkVoice L G) (LinkVoice M G) (List (Name × MailCard)) (List Name)) (node : NodeEnd C) (first : L) (second : M) → AreRolesOf gate parts roles
      → RolesRan steps feed_of SaysLetters (Runs first_tells first_at closes has_let) (Runs second_tells second_at closes has_let) HasCards ListsUnseen roles end
      → HaveHungUp (λ _. Unit {0}) (HasHungUp first_tells) (HasHungUp second_tells) end.user.speaker end.first_link.speaker end.second_link.speaker → IsEndOf end node first second → NodeRan steps feed_of first_tells second_tells (closes gate) (has_let gate) parts node first second
  node_ran end node first second are h up is = record {
    exchanges = h.exchanges;
    replays = subst (λ (s : C). Replays steps parts.replica h.exchanges s) (sym is.replica) (subst (λ (s : C). Replays steps s h.exchanges end.machine) are.machine h.replays);
    user_said = h.user.spoke ∙ ap (λ (v : Vec Event). v.items) are.user;
    first_link = had_turns first_tells first_at closes has_let gate FirstLink parts.first_link roles.first_link (said_by FirstLink h.exchanges) end.first_link.speaker first are.first_link h.first_link.spoke up.first_link is.first_link;
    second_link = had_turns second_tells second_at closes has_let gate SecondLink parts.second_link roles.second_link (said_by SecondLink h.exchanges) end.second_link.speaker second are.second_link h.second_link.spoke up.second_link is.second_link;
    user_heard = ap (λ (v : Vec (Result Reply Refusal)). v.items) is.user_replies ∙ h.user.replies;
    first_heard = ap (λ (v : Vec (Result Reply Refusal)). v.items) is.first_replies ∙ h.first_link.replies;
    second_heard = ap (λ (v : Vec (Result Reply Refusal)). v.items) is.second_replies ∙ h.second_link.replies;
    entries = h.entries;
    grows = ap feed_of is.replica ∙ (h.grows ∙ ap (λ (s : C). feed_of s ++ h.entries) are.machine);
    indexer_took = ap (λ (v : Vec Entry). v.items) is.indexer_taken ∙ h.indexer.taken;
    notifier_took = ap (λ (v : Vec Entry). v.items) is.notifier_taken ∙ h.notifier.taken;
    indexer = shows_all HasCards h.entries end.indexer node.indexer h.indexer is.indexer;
    notifier = shows_all ListsUnseen h.entries end.notifier node.notifier h.notifier is.notifier;
  }

  -- both links were hung up behind all that passed them
  pub node_hung_up : (end : RolesEnd C (Result Reply Refusal) (Letters Event) (LinkVoice L G) (LinkVoice M G) (List (Name × MailCard)) (List Name)) (node : NodeEnd C) (first : L) (second : M) → AreRolesOf gate parts roles
      → RolesRan steps feed_of SaysLetters (Runs first_tells first_at closes has_let) (Runs second_tells second_at closes has_let) HasCards ListsUnseen roles end
      → HaveHungUp (λ _. Unit {0}) (HasHungUp first_tells) (HasHungUp second_tells) end.user.speaker end.first_link.speaker end.second_link.speaker → IsEndOf end node first second
      → IsHungUpLast first_tells first_at parts.first_link.link first × IsHungUpLast second_tells second_at parts.second_link.link second
  node_hung_up end node first second are h up is = (
    voice_last first_tells first_at closes has_let gate FirstLink parts.first_link.link parts.first_link.turns roles.first_link (said_by FirstLink h.exchanges) end.first_link.speaker first are.first_link h.first_link.spoke up.first_link is.first_link,
    voice_last second_tells second_at closes has_let gate SecondLink parts.second_link.link parts.second_link.turns roles.second_link (said_by SecondLink h.exchanges) end.second_link.speaker second are.second_link h.second_link.spoke up.second_link is.second_link,
  )

-- and the log of a replica
pub replica_ran : {K L M : Type 0} (form : Form K) (first_tells : L → LinkView) (second_tells : M → LinkView) (closes : Sender → ℕ → Bool) (has_let : Sender → ℕ → Type 0) (parts : NodeParts (State K) L M) (end : NodeEnd (State K)) (first : L) (second : M)
    → NodeRan (Steps form) feed_of first_tells second_tells closes has_let parts end first second → ReplicaNodeRan form first_tells second_tells closes has_let parts end first second
replica_ran form first_tells second_tells closes has_let parts end first second h = record { ran = h; log = log_grows form parts.replica end.replica h.exchanges h.replays }

-- of the parts of its machine
pub replica_node_ran : {K L M : Type 0} (form : Form K) (first_tells : L → LinkView) (second_tells : M → LinkView) (closes : Sender → ℕ → Bool) (has_let : Sender → ℕ → Type 0) (parts : NodeParts (State K) L M) (s : State K) (end node : NodeEnd (State K)) (first : L) (second : M)
    → s ≡ parts.replica → node ≡ end → NodeRan (Steps form) feed_of first_tells second_tells closes has_let (record parts { replica = s }) end first second → ReplicaNodeRan form first_tells second_tells closes has_let parts node first second
replica_node_ran form first_tells second_tells closes has_let parts s end node first second same is h =
    replica_ran form first_tells second_tells closes has_let parts node first second
    (subst (λ (n : NodeEnd (State _)). NodeRan (Steps form) feed_of first_tells second_tells closes has_let parts n first second) (sym is)
    (subst (λ (z : State _). NodeRan (Steps form) feed_of first_tells second_tells closes has_let (record parts { replica = z }) end first second) same h))
