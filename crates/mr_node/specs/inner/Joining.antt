-- the parts of a node in their roles, and out of them again
use Rattle.std.specs.Prelude.{◌≡◌, List, Result}
use Rattle.mr_lane.specs.declared.note.Sender.TheVariants.{FirstLink, SecondLink}
use Rattle.mr_link.specs.Link.{LinkView}
use Rattle.mr_replica.specs.declared.event.Event.{Event}
use Rattle.mr_replica.specs.declared.event.Reply.{Reply}
use Rattle.mr_replica.specs.declared.refusal.Refusal.{Refusal}
use Rattle.mr_threads.specs.declared.letters.Letters.{Letters}
use Rattle.mr_threads.specs.declared.roles.Roles.{Roles}
use Rattle.mr_threads.specs.declared.roles.RolesEnd.{RolesEnd}
use Rattle.mr_version.specs.Name.{Name}
use Rattle.mr_mail.specs.Mail.{MailCard}
use Rattle.mr_node.specs.inner.Voice.{IsVoiceOf, IsReady}
use Rattle.mr_node.specs.declared.link_voice.LinkVoice.{LinkVoice}
use Rattle.mr_node.specs.declared.node.NodeParts.{NodeParts}
use Rattle.mr_node.specs.declared.node.NodeEnd.{NodeEnd}

module _ {C L M G : Type 0} where
  pub record AreRolesOf (gate : G) (parts : NodeParts C L M) (roles : Roles C (Letters Event) (LinkVoice L G) (LinkVoice M G)) : Type 0 where
    pub machine : roles.machine ≡ parts.replica
    pub user : roles.user.letters ≡ parts.events
    pub first_link : IsVoiceOf gate FirstLink parts.first_link.link parts.first_link.turns roles.first_link
    pub second_link : IsVoiceOf gate SecondLink parts.second_link.link parts.second_link.turns roles.second_link

  -- both links can begin
  pub record AreReady (first_tells : L → LinkView) (second_tells : M → LinkView) (roles : Roles C (Letters Event) (LinkVoice L G) (LinkVoice M G)) : Type 0 where
    pub first_link : IsReady first_tells roles.first_link
    pub second_link : IsReady second_tells roles.second_link

  pub record IsEndOf (end : RolesEnd C (Result Reply Refusal) (Letters Event) (LinkVoice L G) (LinkVoice M G) (List (Name × MailCard)) (List Name)) (node : NodeEnd C) (first : L) (second : M) : Type 0 where
    pub replica : node.replica ≡ end.machine
    pub user_replies : node.replies.user ≡ end.user.replies
    pub first_replies : node.replies.first_link ≡ end.first_link.replies
    pub second_replies : node.replies.second_link ≡ end.second_link.replies
    pub first_link : first ≡ end.first_link.speaker.wire.link
    pub second_link : second ≡ end.second_link.speaker.wire.link
    pub indexer : node.indexer ≡ end.indexer.subscriber
    pub notifier : node.notifier ≡ end.notifier.subscriber
    pub indexer_taken : node.taken.indexer ≡ end.indexer.taken
    pub notifier_taken : node.taken.notifier ≡ end.notifier.taken
    pub capacity : node.capacity ≡ end.capacity
