-- worked rows: what the definitions give for small values, over a machine that adds up what it is sent and answers the sum
use Rattle.std.specs.Prelude.{◌≡◌, ℕ, ◌+◌, Bool, true, false, List, [], ◌∷◌, map, refl}
use Rattle.std.proofs.Common.{◌∙◌}
use Rattle.atomic_table.specs.Seated.{TableId}
use Rattle.mr_feed.specs.declared.entry.Entry.{Entry}
use Rattle.mr_lane.specs.declared.note.Sender.{Sender}
use Rattle.mr_lane.specs.declared.note.Sender.TheVariants.{User, FirstLink, SecondLink}
use Rattle.mr_lane.specs.Tap.{TapEnd, new_end}
use Rattle.mr_threads.specs.declared.settling.Taps.{Taps}
use Rattle.mr_threads.specs.declared.settling.FeedTaps.{FeedTaps}
use Rattle.mr_threads.specs.Exchange.{Exchange, said, letters_said, answers_heard, said_by, answers_to, Replays}
use Rattle.mr_threads.specs.inner.Exchange.{exchange}
use Rattle.mr_threads.specs.Lanes.{with_items}
use Rattle.mr_threads.specs.Core.{letters_with_senders}
use Rattle.mr_threads.specs.Settled.{are_taps_closed, are_feed_taps_closed, IsInterleaving}

-- ---- conversations and exchanges

-- a conversation is its letters, each with its answer
pub both_sides : letters_said (said {E = ℕ} {A = ℕ} 5 50 ∷ said 6 60 ∷ []) ≡ 5 ∷ 6 ∷ []
both_sides = refl

pub other_side : answers_heard (said {E = ℕ} {A = ℕ} 5 50 ∷ said 6 60 ∷ []) ≡ 50 ∷ 60 ∷ []
other_side = refl

-- the user sent 5 and 7, and between them the first link 6
abbrev crossing : List (Exchange ℕ ℕ)
crossing = exchange User 5 15 ∷ exchange FirstLink 6 21 ∷ exchange User 7 28 ∷ []

-- each sender's part has its letters alone, in order
pub part_of_each : map (λ sender. letters_said (said_by sender crossing)) (User ∷ FirstLink ∷ SecondLink ∷ []) ≡ (5 ∷ 7 ∷ []) ∷ (6 ∷ []) ∷ [] ∷ []
part_of_each = refl

-- and their answers
pub answers_of_each : map (λ sender. answers_to sender crossing) (User ∷ FirstLink ∷ SecondLink ∷ []) ≡ (15 ∷ 28 ∷ []) ∷ (21 ∷ []) ∷ [] ∷ []
answers_of_each = refl

-- letters keep their senders and their order
pub with_their_senders : letters_with_senders crossing ≡ (User, 5) ∷ (FirstLink, 6) ∷ (User, 7) ∷ []
with_their_senders = refl

-- ---- the machine

-- the answer is the sum, and so is the state
abbrev Adds : ℕ → ℕ → ℕ → ℕ → Type 0
Adds s letter answer t = (answer ≡ s + letter) × (t ≡ s + letter)

-- no letter leaves the machine as it is
pub nothing_sent : Replays Adds 10 [] 10
nothing_sent = refl

-- from 10 the crossing letters lead to 28
pub crossing_replays : Replays Adds 10 crossing 28
crossing_replays = (15, (refl, refl), (21, (refl, refl), (28, (refl, refl), refl)))

-- no answer comes but the machine's
pub no_other_answer : (t answer : ℕ) → Replays Adds 10 (exchange User 5 answer ∷ []) t → answer ≡ 15
no_other_answer t answer replays = replays.1.0

-- and it doesn't end as it began
pub not_as_it_began : (t : ℕ) → Replays Adds 10 (exchange User 5 15 ∷ []) t → t ≡ 15
not_as_it_began t replays = replays.2 ∙ replays.1.1

-- ---- lanes

-- items pass behind others
pub pass_behind : (id : TableId) → with_items (with_items (new_end {T = ℕ} id 4) (5 ∷ [])) (6 ∷ 7 ∷ []) ≡ record { id = id; capacity = 4; passed = 5 ∷ 6 ∷ 7 ∷ []; closed = false }
pass_behind id = refl

-- an end that nothing has passed, or its end mark alone
abbrev tap_end : {T : Type 0} → TableId → Bool → TapEnd T
tap_end id closed = record { id = id; capacity = 4; passed = []; closed = closed }

abbrev taps : TableId → Bool → Bool → Bool → Taps ℕ ℕ
taps id user first second = record { user = tap_end id user; first_link = tap_end id first; second_link = tap_end id second }

-- all taps are closed where each is
pub all_closed : (id : TableId) → map are_taps_closed (taps id true true true ∷ taps id false true true ∷ taps id true false true ∷ taps id true true false ∷ []) ≡ true ∷ false ∷ false ∷ false ∷ []
all_closed id = refl

abbrev feed_taps : TableId → Bool → Bool → FeedTaps ℕ
feed_taps id indexer notifier = record { indexer = tap_end id indexer; notifier = tap_end id notifier }

pub both_closed : (id : TableId) → map are_feed_taps_closed (feed_taps id true true ∷ feed_taps id false true ∷ feed_taps id true false ∷ []) ≡ true ∷ false ∷ false ∷ []
both_closed id = refl

-- ---- what is settled

-- The crossing letters interleave what the user and the first link sent, with the answers that they took.
pub crossing_interleaves : IsInterleaving Adds (λ s. []) 10 (5 ∷ 7 ∷ []) (6 ∷ []) [] 28 (15 ∷ 28 ∷ []) (21 ∷ []) [] [] []
crossing_interleaves = record {
  exchanges = crossing;
  replays = crossing_replays;
  user_said = refl;
  first_said = refl;
  second_said = refl;
  user_heard = refl;
  first_heard = refl;
  second_heard = refl;
  entries = [];
  grows = refl;
  indexer = refl;
  notifier = refl;
}

-- where nobody sent anything, the machine is as it was
pub nobody_sent : (n : ℕ) (replies : List ℕ) (took : List Entry) → IsInterleaving Adds (λ s. []) 10 [] [] [] n replies [] [] took took → n ≡ 10
nobody_sent n replies took h = nobody h.exchanges h.replays h.user_said h.first_said h.second_said
  where
    nobody : (xs : List (Exchange ℕ ℕ)) → Replays Adds 10 xs n → letters_said (said_by User xs) ≡ [] → letters_said (said_by FirstLink xs) ≡ [] → letters_said (said_by SecondLink xs) ≡ [] → n ≡ 10
    nobody [] r user first second = r
    nobody (x ∷ xs) r user first second = by_sender x.sender x.letter x.answer xs user first second
      where
        by_sender : (sender : Sender) (letter answer : ℕ) (xs : List (Exchange ℕ ℕ)) → letters_said (said_by User (exchange sender letter answer ∷ xs)) ≡ [] → letters_said (said_by FirstLink (exchange sender letter answer ∷ xs)) ≡ [] → letters_said (said_by SecondLink (exchange sender letter answer ∷ xs)) ≡ [] → n ≡ 10
        by_sender User letter answer xs user first second = absurd (cc)
        by_sender FirstLink letter answer xs user first second = absurd (cc)
        by_sender SecondLink letter answer xs user first second = absurd (cc)
