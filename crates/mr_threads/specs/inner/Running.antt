-- the threads of a node together: before they run, and once all have
use Rattle.std.specs.Prelude.{◌&&◌, Bool, List, []}
use Rattle.mr_mail.specs.Mail.{MailCard}
use Rattle.mr_model.specs.Headline.{Cards}
use Rattle.mr_feed.specs.declared.entry.Entry.{Entry}
use Rattle.mr_threads.specs.Exchange.{Said}
use Rattle.mr_threads.specs.Core.{IsNewCore, AreRepliesOpen, AreFeedsOpen}
use Rattle.mr_threads.specs.Talk.{IsNew}
use Rattle.mr_threads.specs.Listening.{HasHeard}
use Rattle.mr_threads.specs.Ends.{VoiceRan, ListenerRan}
use Rattle.mr_threads.specs.inner.Ends.{CoreRan}
use Rattle.mr_threads.specs.declared.voice.Voice.{Voice}
use Rattle.mr_threads.specs.declared.running.Parts.{Parts}
use Rattle.mr_threads.specs.declared.running.Ends.{Ends}

-- a voice that can begin, and has said nothing
pub record IsNewVoice {S E A R : Type 0} (is_ready : S → Type 0) (voice : Voice S E A R) : Type 0 where
  pub ready : is_ready voice.speaker
  pub new : IsNew voice.talk

-- nothing was said, taken or offered yet, no spout is closed, and each speaker can begin
pub record AreNewParts {M E A S P Q F G R : Type 0} (user_ready : S → Type 0) (first_ready : P → Type 0) (second_ready : Q → Type 0) (index : F → Cards MailCard → Type 0) (notice : G → Cards MailCard → Type 0) (p : Parts M E A S P Q F G R) : Type 0 where
  pub core : IsNewCore p.core
  pub replies : AreRepliesOpen p.core.replies
  pub feeds : AreFeedsOpen p.core.feeds
  pub user : IsNewVoice user_ready p.user
  pub first_link : IsNewVoice first_ready p.first_link
  pub second_link : IsNewVoice second_ready p.second_link
  pub indexer : HasHeard index [] p.indexer
  pub notifier : HasHeard notice [] p.notifier

-- each part has run as it owes
pub record AllRan {M E A S P Q F G R : Type 0} (steps : M → E → A → M → Type 0) (feed_of : M → List Entry) (user_speaks : S → List (Said E A) → S → Type 0) (first_speaks : P → List (Said E A) → P → Type 0) (second_speaks : Q → List (Said E A) → Q → Type 0) (index : F → Cards MailCard → Type 0) (notice : G → Cards MailCard → Type 0) (p : Parts M E A S P Q F G R) (ends : Ends M E A S P Q F G R) : Type 0 where
  pub core : CoreRan steps feed_of p.core ends.core
  pub user : VoiceRan user_speaks p.user ends.user
  pub first_link : VoiceRan first_speaks p.first_link ends.first_link
  pub second_link : VoiceRan second_speaks p.second_link ends.second_link
  pub indexer : ListenerRan index p.indexer ends.indexer
  pub notifier : ListenerRan notice p.notifier ends.notifier

-- whether each part has run whole
abbrev pub are_all_whole : {M E A S P Q F G R : Type 0} → Ends M E A S P Q F G R → Bool
are_all_whole ends = ends.core.whole && ends.user.whole && ends.first_link.whole && ends.second_link.whole && ends.indexer.whole && ends.notifier.whole
