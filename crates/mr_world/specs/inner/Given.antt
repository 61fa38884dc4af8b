-- what a replica's reply gives to the pools
use Rattle.std.specs.Prelude.{◌≡◌, ◌<◌, List, ℕ, ◌++◌, [], ◌∷◌}
use Rattle.mr_replica.specs.declared.event.Reply.{Reply}
use Rattle.mr_replica.specs.declared.event.Reply.TheVariants as reply
use Rattle.mr_wire.specs.Grammar.{Spells}
use Rattle.mr_wire.specs.declared.frame.Frame.TheVariants as frame
use Rattle.mr_world.specs.Pool.{PoolList}
use Rattle.mr_world.specs.declared.pools.Given.{Given}
use Rattle.mr_world.specs.declared.pools.Given.TheVariants.{Nothing, Ask, Record, Receipt}

-- what is given is the reply's frame, in the format that is written, or nothing
abbrev pub IsGivenBy : Reply → Given → Type 0
IsGivenBy (reply.Asked question) (Ask bytes) = Spells 2 (frame.Ask question) bytes.items
IsGivenBy (reply.Asked question) given = ⊥
IsGivenBy (reply.Gave sent) (Record bytes) = Spells 2 (frame.Record sent) bytes.items
IsGivenBy (reply.Gave sent) given = ⊥
IsGivenBy (reply.Vouched receipt) (Receipt bytes) = Spells 2 (frame.Receipt receipt) bytes.items
IsGivenBy (reply.Vouched receipt) given = ⊥
IsGivenBy reply given = given ≡ Nothing

-- the pools have the same frames
pub record KeepsFrames (old new : PoolList) : Type 0 where
  pub asks : new.asks.frames ≡ old.asks.frames
  pub records : new.records.frames ≡ old.records.frames
  pub receipts : new.receipts.frames ≡ old.receipts.frames

-- the pools have the old frames, and behind them these
pub record HasMore (old new : PoolList) (new_asks new_records new_receipts : List (List ℕ)) : Type 0 where
  pub asks : new.asks.frames ≡ old.asks.frames ++ new_asks
  pub records : new.records.frames ≡ old.records.frames ++ new_records
  pub receipts : new.receipts.frames ≡ old.receipts.frames ++ new_receipts

-- what was given stands behind the other frames of its pool
abbrev pub Gains : PoolList → Given → PoolList → Type 0
Gains old Nothing new = KeepsFrames old new
Gains old (Ask bytes) new = HasMore old new (bytes.items ∷ []) [] []
Gains old (Record bytes) new = HasMore old new [] (bytes.items ∷ []) []
Gains old (Receipt bytes) new = HasMore old new [] [] (bytes.items ∷ [])

-- there is room for one frame more in each
pub record HasPlaces (p : PoolList) : Type 0 where
  pub asks : 0 < p.asks.room
  pub records : 0 < p.records.room
  pub receipts : 0 < p.receipts.room
