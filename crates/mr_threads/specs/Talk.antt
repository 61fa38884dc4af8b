-- what one sender says, and hears
use Rattle.std.specs.Prelude.{◌≡◌, ◌≤◌, ◌++◌, false, List, [], ◌∷◌, length}
use Rattle.mr_lane.specs.Post.{PostView, with_letter}
use Rattle.mr_lane.specs.Tap.{with_end}
use Rattle.mr_threads.specs.Exchange.{Said, letters_said, answers_heard}
use Rattle.mr_threads.specs.Lanes.{with_items}
use Rattle.mr_threads.specs.declared.talk.Talk.{Talk}
use Rattle.mr_threads.specs.declared.talk.Halt.{Halt}
use Rattle.mr_threads.specs.declared.talk.Halt.TheVariants as halt

-- these letters more were sent
abbrev pub with_letters : {E : Type 0} → PostView E → List E → PostView E
with_letters p letters = record p { sent = p.sent ++ letters }

module _ {E A R : Type 0} where
  -- these letters were sent, each once the one before it was answered, and the answers were kept
  pub record Says (old : Talk E A R) (xs : List (Said E A)) (new : Talk E A R) : Type 0 where
    pub post : new.post ≡ with_letters old.post (letters_said xs)
    pub tap : new.tap ≡ with_items old.tap (answers_heard xs)
    pub replies : new.replies.items ≡ old.replies.items ++ answers_heard xs

  -- Letters were posted in turn, and the last of them alone may lack an answer. That it holds wherever the replies may be closed is what it means that none is posted before the one before it was answered.
  pub record SaysInPart (old new : Talk E A R) : Type 0 where
    pub answered : List (Said E A)
    pub unanswered : List E
    pub one_at_most : length unanswered ≤ 1
    pub post : new.post ≡ with_letters old.post (letters_said answered ++ unanswered)
    pub passed : new.tap.passed ≡ old.tap.passed ++ answers_heard answered

  -- A letter could not be said, for this fault. With no memory it was not posted, and nothing was taken; where the replies are closed it was posted, and the end mark came in place of its answer. Nothing was kept, and there is no other such fault.
  abbrev pub HaltsAt : Talk E A R → E → Halt → Talk E A R → Type 0
  HaltsAt old letter halt.OutOfMemory new = (new.post ≡ old.post) × (new.tap ≡ old.tap) × (new.replies.items ≡ old.replies.items)
  HaltsAt old letter halt.Closed new = (new.post ≡ with_letter old.post letter) × (new.tap ≡ with_end old.tap) × (new.replies.items ≡ old.replies.items)
  HaltsAt old letter halt.Strange new = ⊥

  -- Of these letters the first ones were said, each with its answer, and the next one could not be. Those behind it were left.
  pub record HaltsAmong (old : Talk E A R) (letters : List E) (fault : Halt) (new : Talk E A R) : Type 0 where
    pub answered : List (Said E A)
    pub letter : E
    pub left : List E
    pub in_order : letters ≡ letters_said answered ++ letter ∷ left
    pub between : Talk E A R
    pub says : Says old answered between
    pub halts : HaltsAt between letter fault new

  -- a talk has ended: of what was posted in it the last letter alone may lack an answer, and answers may have come behind
  pub record SpokeInTurn (t : Talk E A R) : Type 0 where
    pub answered : List (Said E A)
    pub unanswered : List E
    pub one_at_most : length unanswered ≤ 1
    pub sent : t.post.sent ≡ letters_said answered ++ unanswered
    pub rest : List A
    pub passed : t.tap.passed ≡ answers_heard answered ++ rest

  -- nothing was said yet
  pub record IsNew (t : Talk E A R) : Type 0 where
    pub sent : t.post.sent ≡ []
    pub unfinished : t.post.finished ≡ false
    pub passed : t.tap.passed ≡ []
    pub replies : t.replies.items ≡ []

  -- it is of the lanes of which it was
  pub record SameLanes (old new : Talk E A R) : Type 0 where
    pub post : new.post.id ≡ old.post.id
    pub sender : new.post.sender ≡ old.post.sender
    pub tap : new.tap.id ≡ old.tap.id
