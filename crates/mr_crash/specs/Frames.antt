-- What replicas give one another: the frames of a moment's pools.
use Rattle.std.specs.Prelude.{List, [], ◌∷◌, ◌++◌, map}
use Rattle.mr_model.specs.History.{Ask, Record, Receipt}
use Rattle.mr_model.specs.Moment.{Moment}
use Rattle.mr_model.specs.Changes.{Change, Change.Asks, Change.Opens, Change.Gives, Change.Takes, Change.Vouches, Change.Releases}

-- one that some replica gave
pub data Frame : Type 0 where
  AskFrame : Ask → Frame
  RecordFrame : Record → Frame
  ReceiptFrame : Receipt → Frame

-- all that stand in the pools
abbrev pub frames : {M C : Type 0} → Moment M C → List Frame
frames m = map AskFrame m.asks ++ map RecordFrame m.given ++ map ReceiptFrame m.receipts

-- the frame that a change gives, if it gives one
abbrev pub gives : {M C : Type 0} → Change M C → List Frame
gives (Asks r ask) = AskFrame ask ∷ []
gives (Gives k t x) = RecordFrame x ∷ []
gives (Vouches r v x) = ReceiptFrame x ∷ []
gives _ = []

-- the frame that a change takes, if it takes one: it answers an Ask, takes a record or releases by a receipt
abbrev pub takes : {M C : Type 0} → Change M C → List Frame
takes (Opens k t ask) = AskFrame ask ∷ []
takes (Takes r x reception) = RecordFrame x ∷ []
takes (Releases r x) = ReceiptFrame x ∷ []
takes _ = []
