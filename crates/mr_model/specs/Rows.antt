-- How a history that was worked out by hand is written down, and what the definitions say after it.
use Rattle.std.specs.Prelude.{ℕ, ◌+◌, ◌==◌, Bool, true, ◌&&◌, ◌||◌, not, if◌then◌else◌, List, [], ◌∷◌, ◌++◌, map, filter}
use Rattle.mr_version.specs.Name.{Name}
use Rattle.mr_model.specs.Versions.{Versions, in_version_order}
use Rattle.mr_model.specs.History.{Setting, ◌does◌, Body, Body.End, Record, Entry, Reply, Reply.Asked, Reply.Streaming, Reply.Gave, Reply.Took, Reply.Finished, Reply.Vouched, Step, History}
use Rattle.mr_model.specs.declared.event.Act.{Act}
use Rattle.mr_model.specs.declared.event.Act.TheVariants.{Pull, Receive, Answer, Next, Vouch}
use Rattle.mr_model.specs.Moment.{Moment, known, stored, pushed_out, start}
use Rattle.mr_model.specs.Changes.{entries_of, now}
use Rattle.mr_model.specs.Rules.{IsRun}
use Rattle.mr_model.specs.Check.{Tests}

-- ---- what the rows are over

-- a message is its label, one of three, and a card is its message
abbrev pub inbox : ℕ
inbox = 0

-- the second label
abbrev pub archive : ℕ
archive = 1

-- the third label
abbrev pub work : ℕ
work = 2

-- replica 0 selects all, replica 2 inbox and work, each other one inbox
abbrev pub row_selects : ℕ → ℕ → Bool
row_selects r message =
    if r == 0 then true else if r == 2 then (message == inbox) || (message == work) else message == inbox

-- their filters and cards
abbrev pub row_setting : Setting ℕ ℕ
row_setting = record { card = λ message. message; selects = row_selects }

-- which of their filters cover which
abbrev pub row_tests : Tests ℕ
row_tests = record {
  covers = λ k r. (k == 0) || (not (r == 0) && ((k == 2) || not (r == 2)));
  same_card = λ a b. a == b;
}

-- ---- writing one

-- a worked history
abbrev pub Row : Type 0
Row = History ℕ ℕ

-- version c of author a
abbrev pub ◌•◌ : ℕ → ℕ → Name
a • c = record { author = a; counter = c }

infix 90 ◌•◌
-- the replica does this, and this is answered
abbrev pub ◌does◌gives◌ : ℕ → Act ℕ → Reply ℕ → Step ℕ ℕ
r does act gives answer = record { event = r does act; reply = answer }

infix 10 ◌does◌gives◌
-- the records of stream t of k, for session n of r, from index i on
abbrev pub records : (k t r n i : ℕ) → List Body → List Record
records k t r n i [] = []
records k t r n i (b ∷ bs) = record { source = k; stream = t; target = r; session = n; index = i; body = b } ∷ records k t r n (i + 1) bs

-- the source gives them one after another
abbrev pub draws : List Record → Row
draws [] = []
draws (x ∷ xs) = (x.source does Next x.stream gives Gave x) ∷ draws xs

-- r takes what has these numbers in the pool, from p on, and knew none of it
abbrev pub takes : (r p : ℕ) → List Body → Row
takes r p [] = []
takes r p (End ∷ bs) = (r does Receive p gives Finished) ∷ takes r (p + 1) bs
takes r p (b ∷ bs) = (r does Receive p gives Took) ∷ takes r (p + 1) bs

-- r opens session n and asks, claiming these versions
abbrev pub pulls : (r n : ℕ) → List Name → Step ℕ ℕ
pulls r n claimed = r does Pull gives Asked (record { target = r; session = n; claimed = claimed })

-- r pulls from k to the end, in session n, by Ask number q and stream t, whose first record is number p
abbrev pub sync : (r n q k t p : ℕ) → List Name → List Body → Row
sync r n q k t p claimed bodies = pulls r n claimed ∷ (k does Answer q gives Streaming t) ∷ draws (records k t r n 0 bodies) ++ takes r p bodies

-- r vouches for w
abbrev pub vouches : ℕ → Name → Step ℕ ℕ
vouches r w = r does Vouch w gives Vouched (record { giver = r; version = w })

-- ---- reading one

-- each step of the row is one that the rules allow
abbrev pub Runs : Row → Type 0
Runs h = IsRun row_setting start h

-- the versions of a set, in order
abbrev pub versions_in : Row → (Moment ℕ ℕ → Versions) → List Name
versions_in h set = let m = now row_setting h in filter (set m) (map (λ x. x.version) (in_version_order m.issues))

-- what replica r knows after the row
abbrev pub knowledge_after : Row → ℕ → List Name
knowledge_after h r = versions_in h (λ m. known m r)

-- what it stores
abbrev pub heads_after : Row → ℕ → List Name
heads_after h r = versions_in h (λ m. stored m r)

-- what it pushed out
abbrev pub push_outs_after : Row → ℕ → List Name
push_outs_after h r = versions_in h (λ m. pushed_out m r)

-- its feed
abbrev pub feed_after_row : Row → ℕ → List (Entry ℕ)
feed_after_row h r = (now row_setting h).feed r

-- the entries that subscriber u of r was offered
abbrev pub offered_after : Row → ℕ → ℕ → List (Entry ℕ)
offered_after h r u = entries_of ((now row_setting h).offered r u)

-- the entries that it took
abbrev pub taken_after : Row → ℕ → ℕ → List (Entry ℕ)
taken_after h r u = (now row_setting h).taken r u
