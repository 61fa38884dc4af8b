-- what the core's thread does, letter by letter
use Rattle.std.specs.Prelude.{◌≡◌, ◌==◌, ◌++◌, cond, List, [], ◌∷◌}
use Rattle.mr_feed.specs.declared.entry.Entry.{Entry}
use Rattle.mr_lane.specs.declared.note.Sender.{Sender}
use Rattle.mr_lane.specs.declared.note.Sender.TheVariants.{User, FirstLink, SecondLink}
use Rattle.mr_lane.specs.Note.{sender_number}
use Rattle.mr_lane.specs.Letters.{letters_in}
use Rattle.mr_threads.specs.Exchange.{Exchange}
use Rattle.mr_threads.specs.Lanes.{with_items}
use Rattle.mr_threads.specs.declared.core_parts.Replies.{Replies}
use Rattle.mr_threads.specs.declared.core_parts.Core.{Core}
use Rattle.mr_threads.specs.Core.{letters_with_senders, Serves, ServesPart}

-- the answer was given to this sender
pub record GivesAnswer {A R : Type 0} (old : Replies A R) (sender : Sender) (answer : A) (new : Replies A R) : Type 0 where
  pub user : new.user ≡ with_items old.user (cond (sender_number User == sender_number sender) (answer ∷ []) [])
  pub first_link : new.first_link ≡ with_items old.first_link (cond (sender_number FirstLink == sender_number sender) (answer ∷ []) [])
  pub second_link : new.second_link ≡ with_items old.second_link (cond (sender_number SecondLink == sender_number sender) (answer ∷ []) [])

module _ {M E A R : Type 0} (steps : M → E → A → M → Type 0) (feed_of : M → List Entry) where
  -- the letters that the desk took, all of them since it was made, were served
  pub record Serving (old new : Core M E A R) : Type 0 where
    pub exchanges : List (Exchange E A)
    pub letters : letters_in new.desk.taken ≡ letters_with_senders exchanges
    pub serves : Serves steps feed_of old exchanges new

  -- of the letters that the desk took all but the last were served, and of what came into the feed by the last one entry was not told
  pub record ServingPart (old new : Core M E A R) : Type 0 where
    pub before : List (Exchange E A)
    pub last : Exchange E A
    pub letters : letters_in new.desk.taken ≡ letters_with_senders (before ++ last ∷ [])
    pub between : Core M E A R
    pub served_before : Serves steps feed_of old before between
    pub serves : ServesPart steps feed_of between (last ∷ []) new
