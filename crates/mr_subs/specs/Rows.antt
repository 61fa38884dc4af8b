-- worked rows: what the definitions give for small values
use Rattle.std.specs.Prelude.{◌≡◌, ℕ, true, false, List, [], ◌∷◌, map, Some, None, refl, codes}
use Rattle.std.specs.List.Sorted.{IsStrictlySortedBy}
use Rattle.mr_version.specs.Name.{Name}
use Rattle.mr_mail.specs.Mail.{MailCard}
use Rattle.mr_model.specs.Headline.{fold}
use Rattle.mr_feed.specs.declared.entry.Entry.{Entry}
use Rattle.mr_feed.specs.declared.entry.Entry.TheVariants.{Added, Dropped}
use Rattle.mr_feed.specs.Entry.{told}
use Rattle.mr_feed.specs.Fold.{is_listed}
use Rattle.mr_subs.specs.Index.{labelled, card_at}
use Rattle.mr_subs.specs.inner.Index.{is_place}
use Rattle.mr_subs.specs.Unseen.{unseen_in, HasCount}
use Rattle.mr_subs.specs.Subscriber.{pending}
use Rattle.mr_feed.specs.inner.Entry.{card_added}

abbrev name : ℕ → ℕ → Name
name author counter = record { author = author; counter = counter }

abbrev card : List (List ℕ) → (flags : ℕ) → MailCard
card labels flags = record { labels = labels; flags = flags; day = 0 }

-- 0.1 is in the inbox and has been seen, 0.2 is at work and has not, and 1.1 has another flag alone
abbrev table : List (Name × MailCard)
table = (name 0 1, card (codes "inbox" ∷ []) 1) ∷ (name 0 2, card (codes "inbox" ∷ codes "work" ∷ []) 0) ∷ (name 1 1, card [] 2) ∷ []

-- ---- cards

-- each version of the table has its card, and another version has none
pub cards_of_the_table : map (card_at table) (name 0 2 ∷ name 0 3 ∷ []) ≡ Some (card (codes "inbox" ∷ codes "work" ∷ []) 0) ∷ None ∷ []
cards_of_the_table = refl

-- of two cards of one version the first counts
pub first_card : card_at ((name 0 1, card [] 0) ∷ (name 0 1, card [] 1) ∷ []) (name 0 1) ≡ Some (card [] 0)
first_card = refl

-- ---- labels

-- a version has each label of its card
pub in_the_inbox : map (labelled (card_at table) (codes "inbox")) (name 0 1 ∷ name 0 2 ∷ name 1 1 ∷ []) ≡ true ∷ true ∷ false ∷ []
in_the_inbox = refl

-- a label that goes on differently is another label
pub not_a_longer_label : map (labelled (card_at table) (codes "works")) (name 0 1 ∷ name 0 2 ∷ []) ≡ false ∷ false ∷ []
not_a_longer_label = refl

-- a version without a card has no label
pub no_card_no_label : labelled (card_at table) (codes "inbox") (name 0 3) ≡ false
no_card_no_label = refl

-- a place is of one label and one version together
pub one_place : map (λ v. is_place (codes "work") (name 0 2) (codes "work") v) (name 0 2 ∷ name 1 2 ∷ []) ≡ true ∷ false ∷ []
one_place = refl

-- the same version under another label is another place
pub another_place : is_place (codes "work") (name 0 2) (codes "inbox") (name 0 2) ≡ false
another_place = refl

-- ---- what is unseen

-- a card without the flag seen is unseen, whatever other flags it has
pub which_are_unseen : map (unseen_in (card_at table)) (name 0 1 ∷ name 0 2 ∷ name 1 1 ∷ []) ≡ false ∷ true ∷ true ∷ []
which_are_unseen = refl

-- a version without a card is not unseen
pub no_card_not_unseen : unseen_in (card_at table) (name 0 3) ≡ false
no_card_not_unseen = refl

-- seen beside another flag is seen
pub seen_and_flagged : unseen_in (card_at ((name 0 1, card [] 5) ∷ [])) (name 0 1) ≡ false
seen_and_flagged = refl

-- ---- entries

-- 0.1 was added, then 0.2, an edit of it, and then 0.1 was dropped
abbrev edited : List Entry
edited = Added (name 0 1) (name 0 1) (card (codes "inbox" ∷ []) 0) ∷ Added (name 0 1) (name 0 2) (card (codes "work" ∷ []) 0) ∷ Dropped (name 0 1) (name 0 1) ∷ []

-- their fold has a card of the edit alone
pub labelled_after_edit : map (labelled (fold (told edited)) (codes "inbox")) (name 0 1 ∷ name 0 2 ∷ []) ≡ false ∷ false ∷ []
labelled_after_edit = refl

-- and that one is at work, and unseen
pub edit_at_work : labelled (fold (told edited)) (codes "work") (name 0 2) ≡ true
edit_at_work = refl

-- of the two only the edit is unseen, for the other has no card
pub edit_unseen : map (unseen_in (fold (told edited))) (name 0 1 ∷ name 0 2 ∷ []) ≡ false ∷ true ∷ []
edit_unseen = refl

-- an added entry gives its version a card, and a dropped one gives none
pub cards_given : map card_added edited ≡ Some (card (codes "inbox" ∷ []) 0) ∷ Some (card (codes "work" ∷ []) 0) ∷ None ∷ []
cards_given = refl

-- what was taken and is not applied yet is the kept entry alone
pub one_pending : pending {F = ℕ} (record { fold = 0; kept = Some (Dropped (name 0 1) (name 0 1)) }) ≡ Dropped (name 0 1) (name 0 1) ∷ []
one_pending = refl

-- ---- counts

-- the empty set has no versions
pub count_of_nothing : HasCount (unseen_in (fold (told []))) 0
unfolding IsStrictlySortedBy
count_of_nothing = record { versions = []; rising = tt; exact = λ v. refl; length_is = refl }

-- the set of one version has one
pub count_of_one : HasCount (is_listed (name 0 2 ∷ [])) 1
unfolding IsStrictlySortedBy
count_of_one = record { versions = name 0 2 ∷ []; rising = (tt, tt); exact = λ v. refl; length_is = refl }
