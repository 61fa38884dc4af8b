-- Rows of syncs between replicas that rest while a stream is drawn.
use Rattle.std.specs.Prelude.{◌≡◌, true, false, List, [], ◌∷◌, ◌++◌}
use Rattle.mr_version.specs.Name.{Name}
use Rattle.mr_model.specs.Versions.{Conflicts}
use Rattle.mr_model.specs.History.{Body, Body.Start, Body.Item, Body.MoveOut, Body.Held, Body.Know, Body.End, Entry.Added, Entry.Dropped, Reply.Issued, Reply.Done, Reply.Streaming, Reply.Took, Reply.Known, Reply.Finished, Reply.Refused}
use Rattle.mr_model.specs.declared.event.Act.TheVariants.{Create, Edit, Receive, Answer, CutIn, CutOut}
use Rattle.mr_model.specs.Changes.{now}
use Rattle.mr_model.specs.Rows.{inbox, archive, work, row_setting, Row, ◌•◌, ◌does◌gives◌, records, draws, pulls, sync, Runs, knowledge_after, heads_after, push_outs_after, feed_after_row}

-- a full stream that tells one version
abbrev pub one_item : Name → List Body
one_item w = Start true ∷ Item w ∷ Held ∷ Know ∷ End ∷ []

-- a full stream that tells none
abbrev pub no_item : List Body
no_item = Start true ∷ Held ∷ Know ∷ End ∷ []

-- ---- first sync

abbrev pub first_sync : Row
first_sync = (0 does Create inbox gives Issued (0 • 1)) ∷ sync 1 1 1 0 1 1 [] (one_item (0 • 1))

pub record FirstSync : Type 0 where
  pub runs : Runs first_sync
  pub heads : heads_after first_sync 1 ≡ (0 • 1) ∷ []
  pub knowledge : knowledge_after first_sync 1 ≡ (0 • 1) ∷ []
  pub feed : feed_after_row first_sync 1 ≡ Added (0 • 1) (0 • 1) inbox ∷ []

-- ---- cut and resumed: a cut stream teaches its Items alone, and the next one goes on from there

abbrev pub cut_short : Row
cut_short = (0 does Create inbox gives Issued (0 • 1)) ∷ (0 does Create work gives Issued (0 • 2)) ∷ (0 does Create inbox gives Issued (0 • 3))
    ∷ sync 1 1 1 0 1 1 [] (Start true ∷ Item (0 • 1) ∷ Item (0 • 3) ∷ [])
    ++ (1 does CutIn 1 gives Done) ∷ (0 does CutOut 1 gives Done) ∷ []

abbrev pub resumed : Row
resumed = cut_short ++ sync 1 2 2 0 2 4 ((0 • 1) ∷ (0 • 3) ∷ []) no_item

pub record CutAndResumed : Type 0 where
  pub runs : Runs resumed
  pub knowledge_between : knowledge_after cut_short 1 ≡ (0 • 1) ∷ (0 • 3) ∷ []
  pub knowledge : knowledge_after resumed 1 ≡ (0 • 1) ∷ (0 • 2) ∷ (0 • 3) ∷ []
  pub heads : heads_after resumed 1 ≡ (0 • 1) ∷ (0 • 3) ∷ []

-- ---- moved out while a stream waits: what comes late is known, and is not added again

abbrev pub moved_out : Row
moved_out = (0 does Create inbox gives Issued (0 • 1)) ∷ pulls 1 1 [] ∷ (0 does Answer 1 gives Streaming 1) ∷ draws (records 0 1 1 1 0 (Start true ∷ Item (0 • 1) ∷ []))
    ++ sync 1 2 2 0 2 3 [] (one_item (0 • 1))
    ++ (0 does Edit ((0 • 1) ∷ []) archive gives Issued (0 • 2))
    ∷ sync 1 3 3 0 3 8 ((0 • 1) ∷ []) (Start true ∷ MoveOut (0 • 2) ∷ Held ∷ Know ∷ End ∷ [])
    ++ (1 does Receive 1 gives Took) ∷ (1 does Receive 2 gives Known) ∷ []

pub record MovedOut : Type 0 where
  pub runs : Runs moved_out
  pub feed : feed_after_row moved_out 1 ≡ Added (0 • 1) (0 • 1) inbox ∷ Dropped (0 • 1) (0 • 1) ∷ []
  pub heads : heads_after moved_out 1 ≡ []
  pub push_outs : push_outs_after moved_out 1 ≡ []
  pub knowledge : knowledge_after moved_out 1 ≡ (0 • 1) ∷ (0 • 2) ∷ []

-- ---- covered without a move-out: the End of a full session drops what its source knows and does not store

abbrev pub covered : Row
covered = (0 does Create inbox gives Issued (0 • 1))
    ∷ sync 1 1 1 0 1 1 [] (one_item (0 • 1))
    ++ sync 2 1 2 0 2 6 [] (one_item (0 • 1))
    ++ (0 does Edit ((0 • 1) ∷ []) archive gives Issued (0 • 2))
    ∷ sync 2 2 3 0 3 11 ((0 • 1) ∷ []) (Start true ∷ MoveOut (0 • 2) ∷ Held ∷ Know ∷ End ∷ [])
    ++ sync 1 2 4 2 1 16 ((0 • 1) ∷ []) no_item

pub record Covered : Type 0 where
  pub runs : Runs covered
  pub heads : heads_after covered 1 ≡ []
  pub feed : feed_after_row covered 1 ≡ Added (0 • 1) (0 • 1) inbox ∷ Dropped (0 • 1) (0 • 1) ∷ []
  pub knowledge : knowledge_after covered 1 ≡ (0 • 1) ∷ (0 • 2) ∷ []

-- ---- an old full stream ends late: another source told a version meanwhile that it does not hold

abbrev pub old_stream_waits : Row
old_stream_waits = (0 does Create inbox gives Issued (0 • 1))
    ∷ sync 3 1 1 0 1 1 [] (one_item (0 • 1))
    ++ (0 does Edit ((0 • 1) ∷ []) archive gives Issued (0 • 2))
    ∷ sync 2 1 2 0 2 6 [] no_item
    ++ pulls 1 1 [] ∷ (2 does Answer 3 gives Streaming 1)
    ∷ draws (records 2 1 1 1 0 no_item)
    ++ (1 does Receive 10 gives Took)
    ∷ sync 1 2 4 3 1 14 [] (one_item (0 • 1))

abbrev pub old_stream : Row
old_stream = old_stream_waits ++ (1 does Receive 11 gives Took) ∷ (1 does Receive 12 gives Took) ∷ (1 does Receive 13 gives Finished) ∷ []

pub record OldStreamEndsLate : Type 0 where
  pub runs : Runs old_stream
  pub heads_before : heads_after old_stream_waits 1 ≡ (0 • 1) ∷ []
  pub heads : heads_after old_stream 1 ≡ []
  pub feed : feed_after_row old_stream 1 ≡ Added (0 • 1) (0 • 1) inbox ∷ Dropped (0 • 1) (0 • 1) ∷ []

-- ---- conflict and merge

abbrev pub conflict : Row
conflict = (0 does Create inbox gives Issued (0 • 1))
    ∷ sync 1 1 1 0 1 1 [] (one_item (0 • 1))
    ++ sync 2 1 2 0 2 6 [] (one_item (0 • 1))
    ++ (1 does Edit ((0 • 1) ∷ []) inbox gives Issued (1 • 1)) ∷ (2 does Edit ((0 • 1) ∷ []) inbox gives Issued (2 • 1))
    ∷ sync 0 1 3 1 1 11 ((0 • 1) ∷ []) (Start false ∷ Item (1 • 1) ∷ End ∷ [])
    ++ sync 0 2 4 2 1 14 ((0 • 1) ∷ (1 • 1) ∷ []) (Start false ∷ Item (2 • 1) ∷ End ∷ [])

abbrev pub merge : Row
merge = conflict ++ (0 does Edit ((2 • 1) ∷ []) inbox gives Issued (0 • 2)) ∷ (0 does Edit ((1 • 1) ∷ []) inbox gives Refused)
    ∷ (0 does Edit ((0 • 2) ∷ (1 • 1) ∷ []) inbox gives Issued (0 • 3)) ∷ []

pub record ConflictAndMerge : Type 0 where
  pub runs : Runs merge
  pub heads_between : heads_after conflict 0 ≡ (1 • 1) ∷ (2 • 1) ∷ []
  pub conflicting : Conflicts (now row_setting conflict).issues (1 • 1) (2 • 1)
  pub heads : heads_after merge 0 ≡ (0 • 3) ∷ []
  -- what one event drops comes in version order, before what it adds
  pub feed : feed_after_row merge 0 ≡ Added (0 • 1) (0 • 1) inbox ∷ Dropped (0 • 1) (0 • 1) ∷ Added (0 • 1) (1 • 1) inbox ∷ Added (0 • 1) (2 • 1) inbox ∷ Dropped (0 • 1) (2 • 1)
      ∷ Added (0 • 1) (0 • 2) inbox ∷ Dropped (0 • 1) (0 • 2) ∷ Dropped (0 • 1) (1 • 1) ∷ Added (0 • 1) (0 • 3) inbox ∷ []

-- ---- the older version comes late: the newer one taught it already

abbrev pub older_late : Row
older_late = (1 does Create inbox gives Issued (1 • 1))
    ∷ sync 3 1 1 1 1 1 [] (one_item (1 • 1))
    ++ (1 does Edit ((1 • 1) ∷ []) inbox gives Issued (1 • 2))
    ∷ pulls 0 1 [] ∷ (3 does Answer 2 gives Streaming 1) ∷ draws (records 3 1 0 1 0 (Start false ∷ Item (1 • 1) ∷ []))
    ++ (0 does Receive 6 gives Took)
    ∷ sync 0 2 3 1 2 8 [] (Start false ∷ Item (1 • 2) ∷ End ∷ [])
    ++ (0 does Receive 7 gives Known) ∷ []

pub record OlderComesLate : Type 0 where
  pub runs : Runs older_late
  pub heads : heads_after older_late 0 ≡ (1 • 2) ∷ []
  pub feed : feed_after_row older_late 0 ≡ Added (1 • 1) (1 • 2) inbox ∷ []
  pub knowledge : knowledge_after older_late 0 ≡ (1 • 1) ∷ (1 • 2) ∷ []

-- ---- push-out passed on: an End never drops a push-out, and a push-out is told to whoever selects it

abbrev pub passed_on : Row
passed_on = (1 does Create work gives Issued (1 • 1))
    ∷ sync 3 1 1 1 1 1 [] no_item
    ++ sync 1 1 2 3 1 5 ((1 • 1) ∷ []) no_item
    ++ sync 0 1 3 1 2 9 [] (Start false ∷ Item (1 • 1) ∷ End ∷ [])

pub record PassedOn : Type 0 where
  pub runs : Runs passed_on
  pub push_outs : push_outs_after passed_on 1 ≡ (1 • 1) ∷ []
  pub heads : heads_after passed_on 0 ≡ (1 • 1) ∷ []
  pub knowledge_between : knowledge_after passed_on 3 ≡ (1 • 1) ∷ []
  pub feed : feed_after_row passed_on 1 ≡ []
