-- what the frames of a world say, as far as a picture shows it
use Rattle.std.specs.Prelude.{ℕ, List, Option, Some, None, Ok}
use Rattle.std.specs.List.{filter_map}
use Rattle.mr_version.specs.Name.{Name}
use Rattle.mr_replica.specs.declared.event.Reply.TheVariants.{Asked, Gave, Vouched}
use Rattle.mr_wire.specs.Frames.{Sent}
use Rattle.mr_wire.specs.declared.frame.Body.{Body}
use Rattle.mr_wire.specs.declared.frame.Body.TheVariants as body
use Rattle.mr_world.specs.declared.answer.Answer.{Answer}
use Rattle.mr_world.specs.declared.answer.Answer.TheVariants.{Stepped}
use Rattle.mr_world.specs.declared.answered.Answered.{Answered}
use Rattle.mr_draw.specs.NoteLists.{NoteLists}
use Rattle.mr_draw.specs.declared.happening.Kind.{Kind}
use Rattle.mr_draw.specs.declared.happening.Kind.TheVariants.{TakeItem, TakeMoveOut, TakeOther}

-- what it shows to take a record of this stream that says this
abbrev pub taking_as : (source stream : ℕ) → Body → Kind
taking_as source stream (body.Item revision) = TakeItem source stream revision.version
taking_as source stream (body.MoveOut line) = TakeMoveOut source stream line.version
taking_as source stream other = TakeOther source stream

abbrev pub taking_of : Sent → Kind
taking_of sent = taking_as sent.header.source sent.header.stream sent.body

-- who asked
abbrev pub asked_in : Answer → Option ℕ
asked_in (Stepped (Ok (Asked ask))) = Some ask.target
asked_in answer = None

-- what it shows to take the record that was given
abbrev pub gave_in : Answer → Option Kind
gave_in (Stepped (Ok (Gave sent))) = Some (taking_of sent)
gave_in answer = None

-- the version that was vouched for
abbrev pub vouched_in : Answer → Option Name
vouched_in (Stepped (Ok (Vouched receipt))) = Some receipt.descent.version
vouched_in answer = None

abbrev pub asked_by : Answered → Option ℕ
asked_by x = asked_in x.answer

abbrev pub gave_by : Answered → Option Kind
gave_by x = gave_in x.answer

abbrev pub vouched_by : Answered → Option Name
vouched_by x = vouched_in x.answer

-- all frames that were given
abbrev pub notes_of : List Answered → NoteLists
notes_of answers = record { asks = filter_map asked_by answers; records = filter_map gave_by answers; receipts = filter_map vouched_by answers }
