-- Rows of receipts and of retirement.
use Rattle.std.specs.Prelude.{◌≡◌, false, [], ◌∷◌, ◌++◌}
use Rattle.mr_model.specs.History.{Body.Start, Body.Item, Body.End, Reply.Issued, Reply.Done, Reply.Refused}
use Rattle.mr_model.specs.declared.event.Act.TheVariants.{Create, Edit, Retire, Vouch, Release}
use Rattle.mr_model.specs.Rows.{inbox, work, Row, ◌•◌, ◌does◌gives◌, sync, vouches, Runs, heads_after, push_outs_after}
use Rattle.mr_model.specs.SyncRows.{one_item, no_item, passed_on}

-- ---- a push-out is given up against a receipt

abbrev pub released : Row
released = passed_on ++ (1 does Vouch (1 • 1) gives Refused) ∷ vouches 0 (1 • 1) ∷ (0 does Release 1 gives Refused) ∷ (1 does Release 1 gives Done) ∷ (1 does Release 1 gives Refused) ∷ []

pub record Released : Type 0 where
  pub runs : Runs released
  pub push_outs : push_outs_after released 1 ≡ []
  pub heads : heads_after released 0 ≡ (1 • 1) ∷ []

-- ---- a receipt frees no other push-out

abbrev pub released_one : Row
released_one = (1 does Create work gives Issued (1 • 1)) ∷ (1 does Create work gives Issued (1 • 2))
    ∷ sync 0 1 1 1 1 1 [] (Start false ∷ Item (1 • 1) ∷ Item (1 • 2) ∷ End ∷ [])
    ++ vouches 0 (1 • 1) ∷ (1 does Release 1 gives Done) ∷ []

pub record ReleasedOne : Type 0 where
  pub runs : Runs released_one
  pub push_outs : push_outs_after released_one 1 ≡ (1 • 2) ∷ []

-- ---- a release leaves the store alone: 1 pushed out 1.2 and stores 0.1, and the receipt is for a merge of both

abbrev pub released_beside : Row
released_beside = (1 does Create inbox gives Issued (1 • 1))
    ∷ sync 0 1 1 1 1 1 [] (Start false ∷ Item (1 • 1) ∷ End ∷ [])
    ++ (0 does Edit ((1 • 1) ∷ []) inbox gives Issued (0 • 1)) ∷ (1 does Edit ((1 • 1) ∷ []) work gives Issued (1 • 2))
    ∷ sync 1 1 2 0 1 4 ((1 • 1) ∷ (1 • 2) ∷ []) (one_item (0 • 1))
    ++ sync 0 2 3 1 2 9 ((0 • 1) ∷ (1 • 1) ∷ []) (Start false ∷ Item (1 • 2) ∷ End ∷ [])
    ++ (0 does Edit ((0 • 1) ∷ (1 • 2) ∷ []) work gives Issued (0 • 2))
    ∷ vouches 0 (0 • 2) ∷ (1 does Release 1 gives Done) ∷ []

pub record StoreStays : Type 0 where
  pub runs : Runs released_beside
  pub push_outs : push_outs_after released_beside 1 ≡ []
  pub heads : heads_after released_beside 1 ≡ (0 • 1) ∷ []

-- ---- a receipt for a version that supersedes the push-out

abbrev pub superseded : Row
superseded = (1 does Create work gives Issued (1 • 1))
    ∷ sync 0 1 1 1 1 1 [] (Start false ∷ Item (1 • 1) ∷ End ∷ [])
    ++ (0 does Edit ((1 • 1) ∷ []) work gives Issued (0 • 1))
    ∷ sync 3 1 2 0 1 4 [] no_item
    ++ sync 1 1 3 3 1 8 ((1 • 1) ∷ []) no_item
    ++ sync 1 2 4 0 2 12 ((0 • 1) ∷ (1 • 1) ∷ []) no_item

abbrev pub superseded_released : Row
superseded_released = superseded ++ (0 does Vouch (1 • 1) gives Refused) ∷ vouches 0 (0 • 1) ∷ (1 does Release 1 gives Done) ∷ []

pub record SupersededReleased : Type 0 where
  pub runs : Runs superseded_released
  pub push_outs_before : push_outs_after superseded 1 ≡ (1 • 1) ∷ []
  pub push_outs : push_outs_after superseded_released 1 ≡ []

-- ---- clean retirement

abbrev pub retiring : Row
retiring = (1 does Create work gives Issued (1 • 1)) ∷ (1 does Retire gives Refused)
    ∷ sync 0 1 1 1 1 1 [] (Start false ∷ Item (1 • 1) ∷ End ∷ [])
    ++ vouches 0 (1 • 1) ∷ (1 does Release 1 gives Done) ∷ (1 does Retire gives Done) ∷ (1 does Release 1 gives Refused) ∷ []

pub record CleanRetirement : Type 0 where
  pub runs : Runs retiring
  pub push_outs : push_outs_after retiring 1 ≡ []
  pub heads : heads_after retiring 0 ≡ (1 • 1) ∷ []
