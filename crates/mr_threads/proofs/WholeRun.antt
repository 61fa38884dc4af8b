-- What follows for roles whose parts have all run whole.
use Rattle.std.proofs.Common.{◌≡◌, ℕ, Bool, true, ◌&&◌, true≢false, List, [], ◌∷◌, ◌++◌, refl, arith}
use Rattle.mr_threads.proofs.Names.{AllRan, Cards, Entry, Exchange, FeedTaps, IsInterleaving, IsTrue, ListenerRan, MailCard, Posts, Said, Sender, Taps, Voice}
use Rattle.mr_threads.proofs.Names.{VoiceRan, answers_heard, are_all_whole, letters_said, said_by}
use Rattle.mr_threads.specs.inner.Outfit.{posts_of, taps_of, feed_taps_of, AreJoined, IsOutfit}
use Rattle.mr_threads.specs.Roles.{HadConversation, TookEntries, RolesRan}
use Rattle.mr_threads.specs.inner.Roles.{spoken_of, heard_of}
use Rattle.mr_threads.specs.declared.voice.VoiceEnd.{VoiceEnd}
use Rattle.mr_threads.specs.declared.listener.Listener.{Listener}
use Rattle.mr_threads.specs.declared.listener.ListenerEnd.{ListenerEnd}
use Rattle.mr_threads.specs.declared.running.Parts.{Parts}
use Rattle.mr_threads.specs.declared.running.Ends.{Ends}
use Rattle.mr_threads.specs.declared.roles.Roles.{Roles}
use Rattle.mr_threads.specs.declared.roles.RolesEnd.{RolesEnd}

-- the first of a list that has one
abbrev head_or : {T : Type 0} → T → List T → T
head_or none [] = none
head_or none (x ∷ xs) = x

abbrev behind : {T : Type 0} → List T → List T
behind [] = []
behind (x ∷ xs) = xs

module _ {E A : Type 0} where
  -- a conversation is known by its letters and their answers
  same_said : (xs ys : List (Said E A)) (rest : List A) → letters_said ys ≡ letters_said xs → answers_heard ys ≡ answers_heard xs ++ rest → ys ≡ xs
  same_said [] [] rest h k = refl
  same_said [] (y ∷ ys) rest h k = absurd (cc)
  same_said (x ∷ xs) [] rest h k = absurd (cc)
  same_said (x ∷ xs) (y ∷ ys) rest h k = grind (arith, same_said xs ys rest)

  -- what a voice said whole is its sender's part of the exchanges
  had : {S R : Type 0} (speaks : S → List (Said E A) → S → Type 0) (sender : Sender) (xs : List (Exchange E A)) (old : Voice S E A R) (end : VoiceEnd S E A R) → VoiceRan speaks old end → IsTrue end.whole
      → letters_said (said_by sender xs) ≡ end.voice.talk.post.sent → answers_heard (said_by sender xs) ≡ end.voice.talk.tap.passed
      → HadConversation speaks old.speaker (said_by sender xs) (spoken_of end)
  had speaks sender xs old end ran whole letters answers = grind (arith, same_said)

-- what a listener took whole is what it took
took : {F R : Type 0} (shows : F → Cards MailCard → Type 0) (entries : List Entry) (old : Listener F R) (end : ListenerEnd F R) → ListenerRan shows old end → IsTrue end.whole → end.listener.tap.passed ≡ entries
    → TookEntries shows entries (heard_of end)
took shows entries old end ran whole same = grind arith

-- what roles come to
abbrev pub end_of : {M E A S P Q F G R : Type 0} → ℕ → Ends M E A S P Q F G R → M → RolesEnd M A S P Q F G
end_of capacity ends machine = record {
  machine = machine;
  user = spoken_of ends.user;
  first_link = spoken_of ends.first_link;
  second_link = spoken_of ends.second_link;
  indexer = heard_of ends.indexer;
  notifier = heard_of ends.notifier;
  capacity = capacity;
}

-- the parts have all run whole
pub record AreWhole {M E A S P Q F G R : Type 0} (ends : Ends M E A S P Q F G R) : Type 0 where
  pub core : IsTrue ends.core.whole
  pub user : IsTrue ends.user.whole
  pub first_link : IsTrue ends.first_link.whole
  pub second_link : IsTrue ends.second_link.whole
  pub indexer : IsTrue ends.indexer.whole
  pub notifier : IsTrue ends.notifier.whole

-- what both tests say
both : (a b : Bool) → (a && b) ≡ true → (a ≡ true) × (b ≡ true)
both a b h = grind (arith, true≢false)

pub all_whole : {M E A S P Q F G R : Type 0} (ends : Ends M E A S P Q F G R) → are_all_whole ends ≡ true → AreWhole ends
all_whole ends h = grind (arith, both)

module _ {M E A S P Q F G R : Type 0} (steps : M → E → A → M → Type 0) (feed_of : M → List Entry) (user_speaks : S → List (Said E A) → S → Type 0) (first_speaks : P → List (Said E A) → P → Type 0) (second_speaks : Q → List (Said E A) → Q → Type 0) (index : F → Cards MailCard → Type 0) (notice : G → Cards MailCard → Type 0) where
  -- an interleaving of what whole parts sent and took is what their roles come to
  pub roles_ran : (capacity : ℕ) (roles : Roles M S P Q) (parts : Parts M E A S P Q F G R) (ends : Ends M E A S P Q F G R) (machine : M) → IsOutfit roles parts
      → AllRan steps feed_of user_speaks first_speaks second_speaks index notice parts ends → AreWhole ends
      → IsInterleaving steps feed_of parts.core.machine ends.user.voice.talk.post.sent ends.first_link.voice.talk.post.sent ends.second_link.voice.talk.post.sent
      machine ends.user.voice.talk.tap.passed ends.first_link.voice.talk.tap.passed ends.second_link.voice.talk.tap.passed ends.indexer.listener.tap.passed ends.notifier.listener.tap.passed
      → RolesRan steps feed_of user_speaks first_speaks second_speaks index notice roles (end_of capacity ends machine)
  roles_ran capacity roles parts ends machine fits ran whole inter = grind (arith, had, took)

  -- parts that were joined are so once they have run
  pub ends_joined : (parts : Parts M E A S P Q F G R) (ends : Ends M E A S P Q F G R)
      → AreJoined parts.core parts.user.talk parts.first_link.talk parts.second_link.talk parts.indexer parts.notifier
      → AllRan steps feed_of user_speaks first_speaks second_speaks index notice parts ends
      → AreJoined ends.core.core ends.user.voice.talk ends.first_link.voice.talk ends.second_link.voice.talk ends.indexer.listener ends.notifier.listener
  ends_joined parts ends h ran = grind arith

  -- the same, of ends of lanes and of what they come to that are equal to those
  pub settled_ran : (capacity : ℕ) (roles : Roles M S P Q) (parts : Parts M E A S P Q F G R) (ends : Ends M E A S P Q F G R) (machine : M) (posts : Posts E) (taps : Taps A R) (feed_taps : FeedTaps R) (end : RolesEnd M A S P Q F G)
      → posts ≡ posts_of ends.user.voice.talk ends.first_link.voice.talk ends.second_link.voice.talk
      → taps ≡ taps_of ends.user.voice.talk ends.first_link.voice.talk ends.second_link.voice.talk
      → feed_taps ≡ feed_taps_of ends.indexer.listener ends.notifier.listener
      → end ≡ end_of capacity ends machine
      → IsOutfit roles parts → AllRan steps feed_of user_speaks first_speaks second_speaks index notice parts ends → AreWhole ends
      → IsInterleaving steps feed_of parts.core.machine posts.user.sent posts.first_link.sent posts.second_link.sent
      machine taps.user.passed taps.first_link.passed taps.second_link.passed feed_taps.indexer.passed feed_taps.notifier.passed
      → RolesRan steps feed_of user_speaks first_speaks second_speaks index notice roles end
  settled_ran capacity roles parts ends machine posts taps feed_taps end same_posts same_taps same_feed_taps same_end fits ran whole inter = grind (arith, roles_ran)
