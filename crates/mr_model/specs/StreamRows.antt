-- Rows of streams whose source changes while they are drawn, and of sessions that teach nothing.
use Rattle.std.specs.Prelude.{◌≡◌, true, false, List, [], ◌∷◌, ◌++◌}
use Rattle.mr_version.specs.Name.{Name}
use Rattle.mr_model.specs.Versions.{Issue, made_with}
use Rattle.mr_model.specs.History.{Body, Body.Start, Body.Item, Body.Held, Body.Know, Body.End, Entry.Added, Entry.Dropped, Reply.Issued, Reply.Done, Reply.Streaming, Reply.Took, Reply.Finished, Reply.Refused}
use Rattle.mr_model.specs.declared.event.Act.TheVariants.{Create, Edit, Receive, CutIn, Answer}
use Rattle.mr_model.specs.Rows.{inbox, archive, Row, ◌•◌, ◌does◌gives◌, records, draws, takes, pulls, sync, Runs, knowledge_after, heads_after, feed_after_row}
use Rattle.mr_model.specs.SyncRows.{one_item}

-- 0 creates 0.1, and 1 asks it for a stream, which gives its first records
abbrev pub opened : List Body → Row
opened bodies = (0 does Create inbox gives Issued (0 • 1)) ∷ pulls 1 1 [] ∷ (0 does Answer 1 gives Streaming 1) ∷ draws (records 0 1 1 1 0 bodies)

-- ---- a version is created while the stream is open, ahead of its walk: it is told, and Know records don't teach it

abbrev pub created_ahead : Row
created_ahead = opened (Start true ∷ [])
    ++ (0 does Create inbox gives Issued (0 • 2))
    ∷ draws (records 0 1 1 1 1 (Item (0 • 1) ∷ Item (0 • 2) ∷ Held ∷ Know ∷ End ∷ []))
    ++ takes 1 1 (Start true ∷ Item (0 • 1) ∷ Item (0 • 2) ∷ Held ∷ Know ∷ End ∷ [])

pub record CreatedAhead : Type 0 where
  pub runs : Runs created_ahead
  pub heads : heads_after created_ahead 1 ≡ (0 • 1) ∷ (0 • 2) ∷ []
  pub knowledge : knowledge_after created_ahead 1 ≡ (0 • 1) ∷ (0 • 2) ∷ []

-- ---- a version that was told is edited before the first Held record: the target drops it at the End

abbrev pub edited : Row
edited = opened (Start true ∷ Item (0 • 1) ∷ [])
    ++ (0 does Edit ((0 • 1) ∷ []) archive gives Issued (0 • 2))
    ∷ draws (records 0 1 1 1 2 (Held ∷ Know ∷ End ∷ []))
    ++ takes 1 1 (one_item (0 • 1))

pub record EditedWhileStreaming : Type 0 where
  pub runs : Runs edited
  pub heads : heads_after edited 1 ≡ []
  pub feed : feed_after_row edited 1 ≡ Added (0 • 1) (0 • 1) inbox ∷ Dropped (0 • 1) (0 • 1) ∷ []
  pub knowledge : knowledge_after edited 1 ≡ (0 • 1) ∷ []

-- ---- a version is created behind the walk: it is not told, nor taught, and the next sync brings it

abbrev pub created_behind : Row
created_behind = (2 does Create inbox gives Issued (2 • 1))
    ∷ sync 0 1 1 2 1 1 [] (Start false ∷ Item (2 • 1) ∷ End ∷ [])
    ++ pulls 1 1 [] ∷ (0 does Answer 2 gives Streaming 1)
    ∷ draws (records 0 1 1 1 0 (Start true ∷ Item (2 • 1) ∷ []))
    ++ (0 does Create inbox gives Issued (0 • 1))
    ∷ draws (records 0 1 1 1 2 (Held ∷ Know ∷ End ∷ []))
    ++ takes 1 4 (one_item (2 • 1))

abbrev pub brought_later : Row
brought_later = created_behind ++ sync 1 2 3 0 2 9 ((2 • 1) ∷ []) (one_item (0 • 1))

pub record CreatedBehind : Type 0 where
  pub runs : Runs brought_later
  pub heads_between : heads_after created_behind 1 ≡ (2 • 1) ∷ []
  pub knowledge_between : knowledge_after created_behind 1 ≡ (2 • 1) ∷ []
  pub heads : heads_after brought_later 1 ≡ (0 • 1) ∷ (2 • 1) ∷ []
  pub knowledge : knowledge_after brought_later 1 ≡ (0 • 1) ∷ (2 • 1) ∷ []

-- ---- Know records teach what the source knew at Answer: not what it knew when they were drawn, nor what it knows at the End

abbrev pub learned_later : Row
learned_later = opened (Start true ∷ Item (0 • 1) ∷ [])
    ++ (0 does Create archive gives Issued (0 • 2))
    ∷ draws (records 0 1 1 1 2 (Held ∷ Know ∷ End ∷ []))
    ++ (0 does Create inbox gives Issued (0 • 3))
    ∷ takes 1 1 (one_item (0 • 1))

pub record LearnedLater : Type 0 where
  pub runs : Runs learned_later
  pub knowledge : knowledge_after learned_later 1 ≡ (0 • 1) ∷ []

-- ---- the held set is what the source stored at the first Held record: not what it stores at a later one

abbrev pub held_twice : Row
held_twice = opened (Start true ∷ Item (0 • 1) ∷ Held ∷ [])
    ++ (0 does Edit ((0 • 1) ∷ []) archive gives Issued (0 • 2))
    ∷ draws (records 0 1 1 1 3 (Held ∷ Know ∷ End ∷ []))
    ++ takes 1 1 (Start true ∷ Item (0 • 1) ∷ Held ∷ Held ∷ Know ∷ End ∷ [])

pub record HeldTwice : Type 0 where
  pub runs : Runs held_twice
  pub heads : heads_after held_twice 1 ≡ (0 • 1) ∷ []

-- ---- an Item teaches its version and what that supersedes

abbrev pub taught_by_item : Row
taught_by_item = (0 does Create archive gives Issued (0 • 1)) ∷ (0 does Edit ((0 • 1) ∷ []) inbox gives Issued (0 • 2)) ∷ pulls 1 1 [] ∷ (0 does Answer 1 gives Streaming 1)
    ∷ draws (records 0 1 1 1 0 (Start true ∷ Item (0 • 2) ∷ [])) ++ takes 1 1 (Start true ∷ Item (0 • 2) ∷ [])

pub record TaughtByItem : Type 0 where
  pub runs : Runs taught_by_item
  pub knowledge : knowledge_after taught_by_item 1 ≡ (0 • 1) ∷ (0 • 2) ∷ []

-- ---- an edit supersedes its author's last version of the item, held or not, and what its bases supersede

-- an issue of item 0.1
abbrev pub issue : Name → List Name → Issue Name
issue w bases = record { version = w; item = 0 • 1; bases = bases; message = w }

-- 1.2 is based on 2.1 alone
abbrev pub four_issues : List (Issue Name)
four_issues = issue (1 • 2) ((2 • 1) ∷ []) ∷ issue (1 • 1) ((0 • 1) ∷ []) ∷ issue (2 • 1) ((0 • 1) ∷ []) ∷ issue (0 • 1) [] ∷ []

pub record OwnIsSuperseded : Type 0 where
  pub own : made_with four_issues (1 • 2) (1 • 1) ≡ true
  pub first : made_with four_issues (1 • 2) (0 • 1) ≡ true
  pub not_others : made_with four_issues (1 • 1) (2 • 1) ≡ false

-- ---- what teaches nothing: replica 1 does not come to know 0.2, which only Know records could teach it

abbrev pub streamed : List Body → Row
streamed bodies = (0 does Create inbox gives Issued (0 • 1)) ∷ (0 does Create archive gives Issued (0 • 2)) ∷ pulls 1 1 [] ∷ (0 does Answer 1 gives Streaming 1) ∷ draws (records 0 1 1 1 0 bodies)

-- the whole of it teaches 0.2
abbrev pub whole : Row
whole = streamed (one_item (0 • 1)) ++ takes 1 1 (one_item (0 • 1))

-- its Item left out
abbrev pub gapped : Row
gapped = streamed (one_item (0 • 1)) ++ (1 does Receive 1 gives Took) ∷ (1 does Receive 3 gives Took) ∷ (1 does Receive 4 gives Took) ∷ (1 does Receive 5 gives Finished) ∷ []

-- cut before its End
abbrev pub cut : Row
cut = streamed (one_item (0 • 1)) ++ takes 1 1 (Start true ∷ Item (0 • 1) ∷ Held ∷ Know ∷ []) ++ (1 does CutIn 1 gives Done) ∷ (1 does Receive 5 gives Refused) ∷ []

-- partial
abbrev pub partial : Row
partial = streamed (Start false ∷ Item (0 • 1) ∷ End ∷ []) ++ takes 1 1 (Start false ∷ Item (0 • 1) ∷ End ∷ [])

-- a session that takes records of two streams
abbrev pub mixed : Row
mixed = streamed (one_item (0 • 1)) ++ (0 does Answer 1 gives Streaming 2) ∷ draws (records 0 2 1 1 0 (one_item (0 • 1)))
    ++ (1 does Receive 1 gives Took) ∷ (1 does Receive 7 gives Took) ∷ (1 does Receive 3 gives Took) ∷ (1 does Receive 4 gives Took) ∷ (1 does Receive 5 gives Finished) ∷ []

pub record WhatTeachesNothing : Type 0 where
  pub whole_runs : Runs whole
  pub whole_teaches : knowledge_after whole 1 ≡ (0 • 1) ∷ (0 • 2) ∷ []
  pub gapped_runs : Runs gapped
  pub gapped_teaches_nothing : knowledge_after gapped 1 ≡ []
  pub cut_runs : Runs cut
  pub cut_teaches_items_alone : knowledge_after cut 1 ≡ (0 • 1) ∷ []
  pub partial_runs : Runs partial
  pub partial_teaches_items_alone : knowledge_after partial 1 ≡ (0 • 1) ∷ []
  pub mixed_runs : Runs mixed
  pub mixed_teaches_items_alone : knowledge_after mixed 1 ≡ (0 • 1) ∷ []
