-- Worked examples that the definitions of what subscribers took have to meet.
use Rattle.std.proofs.Common.{◌≡◌, ℕ, refl, List, [], ◌∷◌}
use Rattle.mr_script.proofs.Names.{Answered, Dropped, Empty, Entry, Indexer, Name, Notifier, Offered, TookEntry, codes, index_text, taken_of}
use Rattle.std.specs.Fmt.{digits}
use Rattle.mr_script.proofs.Names.{unseen_text, ◌does◌}
use Rattle.mr_model.specs.declared.event.Act.TheVariants.{Take, Offer}

abbrev name : (counter : ℕ) → Name
name counter = record { author = 0; counter = counter }

abbrev gone : (counter : ℕ) → Entry
gone counter = Dropped (name counter) (name counter)

-- two replicas' subscribers take, one takes twice, and once nothing waits
abbrev answers : List Answered
answers =
    record { event = 0 does Offer Indexer; answer = Offered (gone 1) }
    ∷ record { event = 0 does Take Indexer; answer = TookEntry (gone 1) }
    ∷ record { event = 0 does Take Notifier; answer = TookEntry (gone 2) }
    ∷ record { event = 1 does Take Indexer; answer = TookEntry (gone 3) }
    ∷ record { event = 0 does Take Indexer; answer = TookEntry (gone 4) }
    ∷ record { event = 0 does Take Indexer; answer = Empty }
    ∷ []

by_indexer : taken_of answers 0 Indexer ≡ gone 1 ∷ gone 4 ∷ []
by_indexer = refl

by_another : taken_of answers 1 Notifier ≡ []
by_another = refl

indexed : index_text 0 (codes "inbox") (name 1 ∷ name 12 ∷ []) ≡ codes "index 0 inbox: 0.1 0.12\n"
unfolding digits
indexed = refl

counted : unseen_text 0 12 ≡ codes "unseen 0: 12\n"
unfolding digits
counted = refl
