-- a feed as contracts see it
use Rattle.std.specs.Prelude.{ℕ, List}
use Rattle.mr_feed.specs.declared.entry.Entry.{Entry}

-- the entries in order of time, and how many more it has room for
pub record FeedView : Type 0 where
  pub entries : List Entry
  pub room : ℕ
