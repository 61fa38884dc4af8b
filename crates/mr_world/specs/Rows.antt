-- worked rows: what the definitions give for small values
use Rattle.std.specs.Prelude.{◌≡◌, ◌-◌, ℕ, true, false, [], ◌∷◌, map, Option, Some, None, Ok, Err, refl}
use Rattle.mr_mail.specs.Mail.{Mail}
use Rattle.mr_model.specs.History.{◌does◌}
use Rattle.mr_model.specs.declared.event.Act.{Act}
use Rattle.mr_model.specs.declared.event.Act.TheVariants.{Pull, Receive, DeliverPart, Answer as AnswerAsk, Release}
use Rattle.mr_replica.specs.declared.event.Event.TheVariants as replica
use Rattle.mr_wire.specs.Frames.{Question, Sent}
use Rattle.mr_wire.specs.declared.frame.Body.TheVariants.{End}
use Rattle.mr_wire.specs.declared.frame.Frame.TheVariants as frame
use Rattle.mr_replica.specs.State.{new_state}
use Rattle.mr_replica.specs.declared.event.Reply.TheVariants.{Asked}
use Rattle.mr_replica.specs.declared.refusal.Refusal.TheVariants.{LogFull}
use Rattle.mr_world.specs.Given.{GivenLists, with_given}
use Rattle.mr_world.specs.Kept.{MemberView, WorldView, newest_answered, member_at, replica_at, port_of, with_port}
use Rattle.mr_world.specs.Ports.{new_port}
use Rattle.mr_world.specs.World.{World, member_of, with_member, world_of}
use Rattle.mr_world.specs.Made.{has_same_id, spec_refusal}
use Rattle.mr_world.specs.Pool.{at_number}
use Rattle.mr_world.specs.Run.{answered}
use Rattle.mr_world.specs.Asked.{asked, record_len}
use Rattle.mr_world.specs.declared.answer.Answer.TheVariants.{Stepped}
use Rattle.mr_world.specs.declared.answer.Answer.TheVariants as answer
use Rattle.mr_model.specs.declared.event.Subscriber.TheVariants.{Indexer, Notifier}
use Rattle.mr_world.specs.declared.fault.SpecFault.TheVariants.{SameReplica, BadLimit, NoCapacity}
use Rattle.mr_world.specs.declared.spec.Spec.{Spec}
use Rattle.mr_world.specs.declared.task.Task.{Task}
use Rattle.mr_world.specs.declared.task.Task.TheVariants.{Step, Truncated}

-- ---- of what a world is made

-- a replica of this id, event limit and capacity, that selects nothing
abbrev spec : (id limit capacity : ℕ) → Spec
spec id limit capacity = record { id = id; filter = []; event_limit = limit; port_capacity = capacity }

-- no replicas have no id twice; two with one id need not be next to each other
pub same_ids : map has_same_id ([] ∷ (spec 1 1 1 ∷ spec 2 1 1 ∷ spec 1 2 2 ∷ []) ∷ (spec 1 1 1 ∷ spec 2 1 1 ∷ spec 3 1 1 ∷ []) ∷ []) ≡ false ∷ true ∷ false ∷ []
same_ids = refl

-- a world may have no replica; a limit and a capacity of 1 are the least, and a capacity of 4,096 is the greatest
pub made_of : map spec_refusal ([] ∷ (spec 0 1 1 ∷ []) ∷ (spec 0 1 4096 ∷ []) ∷ []) ≡ None ∷ None ∷ None ∷ []
made_of = refl

-- no events, no places, and one place too many
pub refused : map spec_refusal ((spec 0 0 1 ∷ []) ∷ (spec 0 1 0 ∷ []) ∷ (spec 0 1 4097 ∷ []) ∷ []) ≡ Some BadLimit ∷ Some NoCapacity ∷ Some NoCapacity ∷ []
refused = refl

-- that two have one id is told before a bad limit, and that before a bad capacity, whichever replica has it
pub refused_first : map spec_refusal ((spec 1 0 0 ∷ spec 1 0 0 ∷ []) ∷ (spec 1 1 0 ∷ spec 2 0 1 ∷ []) ∷ []) ≡ Some SameReplica ∷ Some BadLimit ∷ []
refused_first = refl

-- ---- pools

-- frames are numbered from 1, the oldest, to the newest
pub numbers : map (at_number {A = ℕ} (8 ∷ 9 ∷ [])) (0 ∷ 1 ∷ 2 ∷ 3 ∷ []) ≡ None ∷ Some 8 ∷ Some 9 ∷ None ∷ []
numbers = refl

abbrev question : (session : ℕ) → Question
question session = record { target = 3; session = session; filter = []; fragments = [] }

-- the End of a stream
abbrev end_of_stream : Sent
end_of_stream = record { header = record { source = 1; stream = 1; target = 3; session = 1; index = 2 }; body = End }

-- a world whose replicas gave a request, a record and no receipt
abbrev some_asked : Act Mail → Option Task
some_asked act = asked (question 1 ∷ []) (end_of_stream ∷ []) [] act

-- a number finds the frame of its own pool alone
pub finds_ask : some_asked (AnswerAsk 1) ≡ Some (Step (replica.Answer (question 1)))
finds_ask = refl

pub finds_record : some_asked (Receive 1) ≡ Some (Step (replica.Receive (frame.Record end_of_stream)))
finds_record = refl

-- a request, a receipt and a record are lacking; a part of no record is lacking too, even one of no bytes
pub lacks : map some_asked (AnswerAsk 2 ∷ Release 1 ∷ DeliverPart 2 0 ∷ []) ≡ None ∷ None ∷ None ∷ []
lacks = refl

-- of a record some bytes are a part, and all that it has are the record
pub finds_part : some_asked (DeliverPart 1 (record_len end_of_stream - 1)) ≡ Some Truncated
finds_part = refl

pub finds_whole : some_asked (DeliverPart 1 (record_len end_of_stream)) ≡ some_asked (Receive 1)
finds_whole = refl

-- an act that takes no frame lacks none
pub wants_no_frame : asked [] [] [] Pull ≡ Some (Step replica.Pull)
wants_no_frame = refl

-- ---- members

-- the member of this id, with ports of two places
abbrev member : ℕ → MemberView ℕ
member id = record { replica = new_state id [] 1 0; indexer = new_port 2; notifier = new_port 2 }

-- a member is found by its replica's id, wherever it stands
pub member_found : member_at (member 7 ∷ member 3 ∷ []) 3 ≡ Some (member 3)
member_found = refl

pub no_such_member : replica_at (member 7 ∷ member 3 ∷ []) 1 ≡ None
no_such_member = refl

-- a new port to one subscriber leaves the other's
pub other_port_stays : port_of (with_port (member 7) Indexer (new_port 9)) Notifier ≡ new_port 2
other_port_stays = refl

-- ---- answers

-- replica 3 refused a pull, and then a record came to it in part
abbrev answered_twice : WorldView ℕ
answered_twice = record { members = []; asks = []; records = []; receipts = []; answers = answered (3 does Pull) (Stepped (Err LogFull)) ∷ answered (3 does DeliverPart 1 0) answer.Truncated ∷ [] }

-- the newest is the last that was noted
pub newest_of_two : newest_answered answered_twice ≡ Some (answered (3 does DeliverPart 1 0) answer.Truncated)
newest_of_two = refl

pub newest_of_none : newest_answered (record answered_twice { answers = [] }) ≡ None
newest_of_none = refl

-- ---- a world over all ids

-- two members and empty pools
abbrev kept : WorldView ℕ
kept = record { members = member 7 ∷ member 3 ∷ []; asks = []; records = []; receipts = []; answers = [] }

abbrev whole : World ℕ
whole = world_of (λ id. record { replica = new_state id [] 0 0; indexer = new_port 4; notifier = new_port 5 }) (new_port 9) kept

-- a member's replica is at its id, and an id of no member has the unused one
pub replicas_of : map whole.replicas (3 ∷ 1 ∷ []) ≡ new_state 3 [] 1 0 ∷ new_state 1 [] 0 0 ∷ []
replicas_of = refl

-- a number of no subscriber has the third port, at a member's id and at any other, whose notifier has the unused one
pub ports_of : whole.ports 3 2 ∷ whole.ports 1 2 ∷ whole.ports 1 1 ∷ [] ≡ new_port 9 ∷ new_port 9 ∷ new_port 5 ∷ []
ports_of = refl

-- what is given is the newest of its pool
abbrev given_twice : GivenLists
given_twice = with_given (with_given (record { asks = []; records = []; receipts = [] }) (Stepped (Ok (Asked (question 1))))) (Stepped (Ok (Asked (question 2))))

pub given_first : given_twice ≡ record { asks = question 2 ∷ question 1 ∷ []; records = []; receipts = [] }
given_first = refl

-- a refusal gives nothing
pub refusal_gives_nothing : with_given given_twice (Stepped (Err LogFull)) ≡ given_twice
refusal_gives_nothing = refl

-- in a world over all ids, another member of an id leaves those of the others, and the third port
abbrev changed : World ℕ
changed = with_member whole 3 (member 5) (Stepped (Err LogFull))

pub members_then : map (member_of changed) (3 ∷ 7 ∷ []) ≡ member 5 ∷ member 7 ∷ []
members_then = refl

pub third_port_stays : changed.ports 3 2 ≡ new_port 9
third_port_stays = refl
