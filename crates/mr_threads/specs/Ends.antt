-- what the threads owe
use Rattle.std.specs.Prelude.{◌≡◌, ◌++◌, true, IsTrue, List}
use Rattle.mr_mail.specs.Mail.{MailCard}
use Rattle.mr_model.specs.Headline.{Cards}
use Rattle.mr_threads.specs.Exchange.{Said, letters_said, answers_heard}
use Rattle.mr_threads.specs.Talk.{SameLanes}
use Rattle.mr_threads.specs.Listening.{HasHeard}
use Rattle.mr_threads.specs.declared.voice.Voice.{Voice}
use Rattle.mr_threads.specs.declared.voice.VoiceEnd.{VoiceEnd}
use Rattle.mr_threads.specs.declared.listener.Listener.{Listener}
use Rattle.mr_threads.specs.declared.listener.ListenerEnd.{ListenerEnd}

module _ {S E A R : Type 0} (speaks : S → List (Said E A) → S → Type 0) where
  -- a whole conversation: its letters are all that was sent, and each answer was kept; what came behind the answers was kept as well
  pub record HasSpoken (old : S) (voice : Voice S E A R) : Type 0 where
    pub conversation : List (Said E A)
    pub spoke : speaks old conversation voice.speaker
    pub sent : voice.talk.post.sent ≡ letters_said conversation
    pub rest : List A
    pub passed : voice.talk.tap.passed ≡ answers_heard conversation ++ rest
    pub replies : voice.talk.replies.items ≡ voice.talk.tap.passed
    pub closed : voice.talk.tap.closed ≡ true

  -- a voice has run
  pub record VoiceRan (old : Voice S E A R) (end : VoiceEnd S E A R) : Type 0 where
    pub spoken : IsTrue end.whole → HasSpoken old.speaker end.voice
    pub lanes : SameLanes old.talk end.voice.talk
    pub finished : end.voice.talk.post.finished ≡ true

-- a subscriber took entries
pub record ListenerRan {F R : Type 0} (shows : F → Cards MailCard → Type 0) (old : Listener F R) (end : ListenerEnd F R) : Type 0 where
  pub heard : IsTrue end.whole → HasHeard shows end.listener.tap.passed end.listener
  pub closed : end.listener.tap.closed ≡ true
  pub id : end.listener.tap.id ≡ old.tap.id
