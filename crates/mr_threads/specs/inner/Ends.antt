-- what the core's thread comes to
use Rattle.std.specs.Prelude.{◌≡◌, true, IsTrue, IsFalse, List}
use Rattle.mr_feed.specs.declared.entry.Entry.{Entry}
use Rattle.mr_lane.specs.Desk.{have_all_finished}
use Rattle.mr_threads.specs.Core.{Ran, RanShort, KeepsLanes}
use Rattle.mr_threads.specs.declared.core_parts.Core.{Core}
use Rattle.mr_threads.specs.declared.core_parts.CoreEnd.{CoreEnd}

-- a core has run
pub record CoreRan {M E A R : Type 0} (steps : M → E → A → M → Type 0) (feed_of : M → List Entry) (old : Core M E A R) (end : CoreEnd M E A R) : Type 0 where
  pub ran : IsTrue end.whole → Ran steps feed_of old end.core
  pub short : IsFalse end.whole → RanShort steps feed_of old end.core
  pub lanes : KeepsLanes old end.core
  pub finished : have_all_finished end.core.desk.taken ≡ true
