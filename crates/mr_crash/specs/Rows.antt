-- Crashes that were worked out by hand.
use Rattle.std.specs.Prelude.{◌≡◌, ℕ, true, false, [], ◌∷◌, ◌++◌}
use Rattle.mr_model.specs.History.{Body.Start, Body.Item, Reply.Issued, Reply.Streaming, Reply.Took}
use Rattle.mr_model.specs.declared.event.Act.TheVariants.{Create, Edit, Receive, Answer}
use Rattle.mr_model.specs.Rows.{inbox, archive, row_setting, Row, ◌•◌, ◌does◌gives◌, records, draws, pulls, Runs, heads_after}
use Rattle.mr_crash.specs.Crash.{NobodyTook, IsLeftOf, IsWithCrashes}

-- replica 0 loses what it did in `later`, of which nobody took anything, and `left` is what is left
pub record Leaves (before later left : Row) : Type 0 where
  pub runs : Runs (before ++ later)
  pub nobody : NobodyTook row_setting before later 0
  pub left_is : IsLeftOf row_setting before later 0 left
  pub left_run : Runs (before ++ left)

-- ---- 0 loses a version that it created and an edit: it has what it had, and 1 has the version that it created between them

abbrev pub created : Row
created = (0 does Create inbox gives Issued (0 • 1)) ∷ []

abbrev pub versions_lost : Row
versions_lost = (0 does Create inbox gives Issued (0 • 2))
    ∷ (1 does Create inbox gives Issued (1 • 1))
    ∷ (0 does Edit ((0 • 1) ∷ []) archive gives Issued (0 • 3))
    ∷ []

abbrev pub versions_left : Row
versions_left = (1 does Create inbox gives Issued (1 • 1)) ∷ []

-- then 0 creates its second version anew, under the name of the one that it lost
abbrev pub goes_on : Row
goes_on = created ++ versions_left ++ (0 does Create archive gives Issued (0 • 2)) ∷ []

pub record LosesVersions : Type 0 where
  pub leaves : Leaves created versions_lost versions_left
  pub heads_whole : heads_after (created ++ versions_lost) 0 ≡ (0 • 2) ∷ (0 • 3) ∷ []
  pub heads_left : heads_after (created ++ versions_left) 0 ≡ (0 • 1) ∷ []
  pub heads_other : heads_after (created ++ versions_left) 1 ≡ (1 • 1) ∷ []
  pub with_crash : IsWithCrashes row_setting goes_on
  pub heads_later : heads_after goes_on 0 ≡ (0 • 1) ∷ (0 • 2) ∷ []

-- ---- 0 loses record 2, which its stream gave, and Ask 2: Ask 3 is Ask 2 then, and record 3 record 2; what 0 gave before is taken as ever

abbrev pub stream_begun : Row
stream_begun = (0 does Create inbox gives Issued (0 • 1)) ∷ pulls 1 1 [] ∷ (0 does Answer 1 gives Streaming 1) ∷ draws (records 0 1 1 1 0 (Start true ∷ []))

-- 2 asks, 1 answers Ask q and gives record p, 2 takes that, and 1 takes the record that 0 gave it
abbrev pub others_sync : (q p : ℕ) → Row
others_sync q p = pulls 2 1 []
    ∷ (1 does Answer q gives Streaming 1)
    ∷ draws (records 1 1 2 1 0 (Start false ∷ []))
    ++ (2 does Receive p gives Took)
    ∷ (1 does Receive 1 gives Took)
    ∷ []

abbrev pub frames_lost : Row
frames_lost = draws (records 0 1 1 1 1 (Item (0 • 1) ∷ [])) ++ pulls 0 1 [] ∷ others_sync 3 3

pub record LosesFrames : Type 0 where
  pub leaves : Leaves stream_begun frames_lost (others_sync 2 2)

-- ---- no crash: 1 took the record that 0 lost

abbrev pub record_taken : Row
record_taken = draws (records 0 1 1 1 1 (Item (0 • 1) ∷ [])) ++ (1 does Receive 2 gives Took) ∷ []

pub record IsNoCrash : Type 0 where
  pub runs : Runs (stream_begun ++ record_taken)
  pub taken : ¬ NobodyTook row_setting stream_begun record_taken 0
