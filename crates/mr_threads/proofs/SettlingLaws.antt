-- What follows once all lanes are settled.
use Rattle.std.proofs.Common.{◌≡◌, true, List, [], ◌∷◌, ◌++◌, sym, refl, ap, ◌∙◌, arith}
use Rattle.mr_threads.proofs.Names.{Core, Entry, Exchange, FeedTaps, IsInterleaving, IsNewCore, Note, Posts, Ran, Sender, TapEnd, Taps, letters_by}
use Rattle.mr_threads.proofs.Names.{letters_in, letters_said, letters_with_senders, said_by, with_end, with_items}
use Rattle.mr_lane.specs.declared.note.Sender.TheVariants.{User, FirstLink, SecondLink}
use Rattle.mr_lane.specs.Piece.{pieces}
use Rattle.mr_lane.specs.Note.{sender_number, pieces_by}
use Rattle.mr_lane.specs.Inbox.{IsSettled}
use Rattle.mr_lane.proofs.LetterLemmas.{letters-all}
use Rattle.mr_threads.specs.inner.Settled.{TookAll, TookAllEntries}

module _ {E A : Type 0} where
  by-exchanges : (sender : Sender) (xs : List (Exchange E A)) → letters_by sender (letters_with_senders xs) ≡ letters_said (said_by sender xs)
  by-exchanges sender [] = refl
  by-exchanges sender (x ∷ xs) = grind (arith, by-exchanges sender xs)

  -- the letters of one sender are what its post sent
  said_all : (sender : Sender) (xs : List (Exchange E A)) (taken : List (Note E)) (sent : List E) → letters_in taken ≡ letters_with_senders xs → pieces_by (sender_number sender) taken ≡ pieces sent true → letters_said (said_by sender xs) ≡ sent
  said_all sender xs taken sent h k = sym (by-exchanges sender xs) ∙ (ap (letters_by sender) (sym h) ∙ letters-all sender taken sent k)

-- what passed a new end
passed_new : {T : Type 0} (old mid new : TapEnd T) (xs : List T) → old.passed ≡ [] → mid ≡ with_items old xs → new ≡ with_end mid → new.passed ≡ xs
passed_new old mid new xs none h k = ap (λ e. e.passed) k ∙ (ap (λ e. e.passed) h ∙ ap (λ l. l ++ xs) none)

module _ {M E A R : Type 0} (steps : M → E → A → M → Type 0) (feed_of : M → List Entry) where
  pub interleaves : (old core : Core M E A R) (posts : Posts E) (taps : Taps A R) (feed_taps : FeedTaps R) → IsNewCore old → Ran steps feed_of old core
      → posts.user.sender ≡ User → posts.first_link.sender ≡ FirstLink → posts.second_link.sender ≡ SecondLink
      → IsSettled core.desk posts → TookAll core.replies taps → TookAllEntries core.feeds feed_taps
      → IsInterleaving steps feed_of old.machine posts.user.sent posts.first_link.sent posts.second_link.sent core.machine taps.user.passed taps.first_link.passed taps.second_link.passed feed_taps.indexer.passed feed_taps.notifier.passed
  interleaves old core posts taps feed_taps new ran user first second settled took heard = grind (arith, said_all, passed_new)
