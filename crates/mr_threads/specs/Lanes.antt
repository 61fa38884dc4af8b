-- what passes a lane's end in several calls
use Rattle.std.specs.Prelude.{List, ◌++◌}
use Rattle.mr_lane.specs.Tap.{TapEnd}

module _ {T : Type 0} where
  -- these items more have passed
  abbrev pub with_items : TapEnd T → List T → TapEnd T
  with_items e xs = record e { passed = e.passed ++ xs }
