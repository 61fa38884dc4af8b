-- what was open, of one kind at a time
use Rattle.std.specs.Prelude.{◌≡◌, [], ℕ, List, Bool, cond, map, IsTrue}
use Rattle.mr_session.specs.Table.{open_numbers}
use Rattle.mr_replica.specs.State.{State}
use Rattle.mr_replica.specs.declared.event.Event.{Event}
use Rattle.mr_replica.specs.declared.event.Event.TheVariants.{CutIn, CutOut}
use Rattle.mr_kept.specs.declared.closing.Kind.{Kind}
use Rattle.mr_kept.specs.declared.closing.Kind.TheVariants.{Sessions, Streams}
use Rattle.mr_kept.specs.Closing.{AreClosed, Takes, closers}

-- the event that closes one of this kind
abbrev pub cut_of : Kind → ℕ → Event
cut_of Sessions = CutIn
cut_of Streams = CutOut

abbrev pub other : Kind → Kind
other Sessions = Streams
other Streams = Sessions

module _ {K : Type 0} where
  -- the numbers of those that are to be closed: of a retired replica no sessions
  abbrev pub to_close : Kind → State K → List ℕ
  to_close Sessions s = cond s.is_retired [] (open_numbers s.sessions)
  to_close Streams s = open_numbers s.streams

  -- it took such an event for each of this kind, or as many as its log takes, and the other kind is as it was
  pub record Closes (kind : Kind) (are_all : Bool) (old new : State K) : Type 0 where
    pub takes : Takes (map (cut_of kind) (to_close kind old)) are_all old new
    pub none_left : IsTrue are_all → to_close kind new ≡ []
    pub others_are : to_close (other kind) new ≡ to_close (other kind) old

  -- and one for each of both kinds
  pub record ClosesAll (are_all : Bool) (old new : State K) : Type 0 where
    pub takes : Takes (closers old) are_all old new
    pub closed : IsTrue are_all → AreClosed new
