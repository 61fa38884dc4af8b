-- A voice that has spoken, finished, hung up and heard the rest.
use Rattle.std.proofs.Common.{◌≡◌, true, List, ◌++◌, Result, OnOk, OnErr, arith}
use Rattle.mr_threads.proofs.Names.{HasSpoken, HearsOut, IsNew, Said, Says, SaysInPart, SpokeInTurn, Talk, Voice, with_end_mark}
use Rattle.mr_threads.specs.declared.talk.Halt.{Halt}
use Rattle.mr_threads.proofs.Saying.{says_in_part}

module _ {S E A R : Type 0} (speaks : S → List (Said E A) → S → Type 0) where
  -- old is the voice, said its talk once it spoke, heard the voice that has run
  pub has_spoken : (old : Voice S E A R) (spoke heard : Voice S E A R) (mid : Talk E A R) (xs : List (Said E A)) → IsNew old.talk
      → speaks old.speaker xs spoke.speaker → Says old.talk xs spoke.talk
      → mid.post ≡ with_end_mark spoke.talk.post → mid.tap ≡ spoke.talk.tap → mid.replies.items ≡ spoke.talk.replies.items
      → ((s : S) (ys : List (Said E A)) → speaks s ys spoke.speaker → speaks s ys heard.speaker)
      → HearsOut mid heard.talk → heard.talk.post ≡ mid.post → heard.talk.tap.closed ≡ true
      → HasSpoken speaks old.speaker heard
  has_spoken old spoke heard mid xs new said says post tap replies stays hears same_post closed = grind arith

module _ {E A R : Type 0} where
  -- whether or not a speaker could go on, it has spoken in turn
  pub said_so : {S : Type 0} (speaks : S → List (Said E A) → S → Type 0) (s t : S) (r : Result (Unit {0}) Halt) (old new : Talk E A R)
      → OnOk r ((xs : List (Said E A)) × speaks s xs t × Says old xs new) → OnErr r (SaysInPart old new) → SaysInPart old new
  said_so speaks s t r old new h k = grind (arith, says_in_part)

  -- old is a voice's talk, spoke the talk once it spoke, ended the talk once it heard the rest
  pub spoke_in_turn : (old spoke ended : Talk E A R) (rest : List A) → IsNew old → SaysInPart old spoke → ended.post.sent ≡ spoke.post.sent → ended.tap.passed ≡ spoke.tap.passed ++ rest → SpokeInTurn ended
  spoke_in_turn old spoke ended rest new h sent passed = grind arith
