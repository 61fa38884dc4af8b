-- a stream behind a record that it gave
use Rattle.std.specs.Prelude.{ℕ}
use Rattle.mr_session.specs.declared.outgoing.onward.Onward.{Onward}
use Rattle.mr_session.specs.Onward.{advanced}
use Rattle.mr_replica.specs.State.{State}
use Rattle.mr_replica.specs.Issue.{logged}
use Rattle.mr_replica.specs.declared.event.Event.TheVariants.{Next}

module _ {K : Type 0} where
  -- the stream goes on behind a record that it gave
  abbrev pub going_on : State K → (stream : ℕ) → Onward → State K
  going_on s stream way = logged (record s { streams = advanced stream way s.streams }) (Next stream)
