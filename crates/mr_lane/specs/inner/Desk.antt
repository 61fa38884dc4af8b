-- the end marks that a desk has taken
use Rattle.std.specs.Prelude.{true}
use Rattle.mr_lane.specs.declared.note.Sender.{Sender}
use Rattle.mr_lane.specs.declared.note.Sender.TheVariants.{User, FirstLink, SecondLink}
use Rattle.mr_lane.specs.declared.arrival.Marks.{Marks}

-- the marks, with that of one sender more
abbrev pub with_mark : Marks → Sender → Marks
with_mark marks User = record marks { user = true }
with_mark marks FirstLink = record marks { first_link = true }
with_mark marks SecondLink = record marks { second_link = true }
