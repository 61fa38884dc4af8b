-- what passes between senders and a machine: letters and their answers
use Rattle.std.specs.Prelude.{◌≡◌, ◌==◌, cond, List, [], ◌∷◌, map}
use Rattle.mr_lane.specs.declared.note.Sender.{Sender}
use Rattle.mr_lane.specs.Note.{sender_number}

-- a letter and its answer
pub record Said (E A : Type 0) : Type 0 where
  pub letter : E
  pub answer : A

-- a letter, who sent it, and its answer
pub record Exchange (E A : Type 0) : Type 0 where
  pub sender : Sender
  pub letter : E
  pub answer : A

module _ {E A : Type 0} where
  abbrev pub said : E → A → Said E A
  said letter answer = record { letter = letter; answer = answer }

  abbrev pub letters_said : List (Said E A) → List E
  letters_said xs = map (λ x. x.letter) xs

  abbrev pub answers_heard : List (Said E A) → List A
  answers_heard xs = map (λ x. x.answer) xs

  -- the conversation of one sender: its letters in order, each with its answer
  abbrev pub said_by : Sender → List (Exchange E A) → List (Said E A)
  said_by sender [] = []
  said_by sender (x ∷ xs) = cond (sender_number sender == sender_number x.sender) (said x.letter x.answer ∷ said_by sender xs) (said_by sender xs)

  -- the answers to one sender, in order
  abbrev pub answers_to : Sender → List (Exchange E A) → List A
  answers_to sender xs = answers_heard (said_by sender xs)

  -- from s the letters, one after the other, are answered so and lead to t, by these steps of one letter
  abbrev pub Replays : {M : Type 0} → (M → E → A → M → Type 0) → M → List (Exchange E A) → M → Type 0
  Replays steps s [] t = t ≡ s
  Replays {M} steps s (x ∷ xs) t = (mid : M) × steps s x.letter x.answer mid × Replays steps mid xs t
