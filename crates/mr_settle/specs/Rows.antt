-- worked rows: what the definitions give for small values
use Rattle.std.specs.Prelude.{◌≡◌, ℕ, true, false, List, [], ◌∷◌, map, Some, None, is_some, IsSome, Ok, Err, refl}
use Rattle.std.proofs.Common.{arith}
use Rattle.std.proofs.lemmas.Bool.{false≢true}
use Rattle.std.proofs.lemmas.List.Elements.{All-nil, All-cons}
use Rattle.mr_version.specs.Name.{Name}
use Rattle.mr_mail.specs.Mail.{Mail}
use Rattle.mr_model.specs.History.{◌does◌}
use Rattle.mr_model.specs.declared.event.Act.TheVariants as act
use Rattle.mr_model.specs.declared.event.Subscriber.TheVariants.{Indexer}
use Rattle.mr_replica.specs.State.{State, new_state}
use Rattle.mr_replica.specs.declared.event.Event.TheVariants as replica
use Rattle.mr_replica.specs.declared.event.Reply.TheVariants as reply
use Rattle.mr_replica.specs.declared.refusal.Refusal.TheVariants.{NoSession}
use Rattle.mr_wire.specs.inner.FrameParts.{descent_with}
use Rattle.mr_wire.specs.Frames.{Question, Sent}
use Rattle.mr_wire.specs.declared.frame.Body.TheVariants.{Start}
use Rattle.mr_wire.specs.declared.frame.Frame.TheVariants as frame
use Rattle.mr_wire.specs.declared.frame.Mode.TheVariants.{Full}
use Rattle.mr_wire.specs.declared.frame.Receipt.{Receipt}
use Rattle.mr_world.specs.Kept.{WorldView}
use Rattle.mr_world.specs.Run.{answered, asked_in}
use Rattle.mr_world.specs.declared.answer.Answer.TheVariants.{Stepped, Truncated, NothingNew, Done}
use Rattle.mr_world.specs.declared.answered.Answered.{Answered}
use Rattle.mr_world.specs.declared.task.Task.TheVariants as task
use Rattle.mr_settle.specs.inner.Arrived.{lower_of}
use Rattle.mr_settle.specs.inner.Carried.{carried}
use Rattle.mr_settle.specs.inner.Explains.{share_id}
use Rattle.mr_settle.specs.History.{admitted, admitted_at, log_in, OnlyAdmits}
use Rattle.mr_settle.specs.inner.Named.{AsksFor}
use Rattle.mr_settle.specs.inner.Numbers.{found_in, no_numbers}
use Rattle.mr_settle.specs.Stuck.{HasItsFrame, IsBehind, join_fault_number}
use Rattle.mr_settle.specs.declared.fault.JoinFault.TheVariants.{OutOfMemory, Unexplained}

-- ---- a world: replica 0 gives replica 1 the Start of its stream 1

abbrev mail : Mail
mail = record { from = []; subject = []; body = []; labels = []; flags = 0; day = 0 }

abbrev first : Name
first = record { author = 0; counter = 1 }

abbrev ask : Question
ask = record { target = 1; session = 1; filter = []; fragments = [] }

abbrev start : Sent
start = record { header = record { source = 0; stream = 1; target = 1; session = 1; index = 0 }; body = Start Full }

abbrev receipt : Receipt
receipt = record { giver = 0; descent = descent_with first first [] }

-- Replica 0 creates, replica 1 asks and takes the Start; a part of it is cut, a second delivery refused, and a port asked in vain.
abbrev history : List Answered
history =
    answered (0 does act.Create mail) (Stepped (Ok (reply.Issued first)))
    ∷ answered (1 does act.Pull) (Stepped (Ok (reply.Asked ask)))
    ∷ answered (0 does act.Answer 1) (Stepped (Ok (reply.Streaming 1)))
    ∷ answered (0 does act.Next 1) (Stepped (Ok (reply.Gave start)))
    ∷ answered (1 does act.DeliverPart 1 3) Truncated
    ∷ answered (1 does act.Receive 1) (Stepped (Ok reply.Took))
    ∷ answered (1 does act.Receive 1) (Stepped (Err NoSession))
    ∷ answered (1 does act.Offer Indexer) NothingNew
    ∷ []

abbrev world : WorldView ℕ
world = record { members = []; asks = ask ∷ []; records = start ∷ []; receipts = []; answers = history }

-- what each of them admitted, with the frames that the events name
pub log_of_0 : log_in world 0 ≡ replica.Create mail ∷ replica.Answer ask ∷ replica.Next 1 ∷ []
log_of_0 = refl

pub log_of_1 : log_in world 1 ≡ replica.Pull ∷ replica.Receive (frame.Record start) ∷ []
log_of_1 = refl

pub log_of_2 : log_in world 2 ≡ []
log_of_2 = refl

-- an event is admitted where it was asked for, and nothing else was answered
pub admits_pull : admitted (Stepped (Ok (reply.Asked ask))) (task.Step replica.Pull) ≡ Some replica.Pull
admits_pull = refl

pub refuses_pull : admitted (Stepped (Err NoSession)) (task.Step replica.Pull) ≡ None
refuses_pull = refl

pub admits_no_part : admitted Truncated task.Truncated ≡ None
admits_no_part = refl

pub admits_no_offer : admitted NothingNew (task.Offer Indexer) ≡ None
admits_no_offer = refl

pub admits_no_close : admitted Done (task.Close Indexer) ≡ None
admits_no_close = refl

-- so more has happened in the world than its replicas' logs tell: the part, the second delivery and the offer
pub which_are_admitted : map (λ x. is_some (admitted_at world x.event.replica x)) history ≡ true ∷ true ∷ true ∷ true ∷ false ∷ true ∷ false ∷ false ∷ []
which_are_admitted = refl

pub admits_more : ¬ OnlyAdmits world
admits_more = λ only. false≢true (only 6 (answered (1 does act.Receive 1) (Stepped (Err NoSession))) (omega arith))

-- ---- frames that were given, and one that was not

pub start_was_given : HasItsFrame world (replica.Receive (frame.Record start))
start_was_given = (act.Receive 1, refl)

pub ask_was_given : HasItsFrame world (replica.Answer ask)
ask_was_given = (act.Answer 1, refl)

pub pull_needs_none : HasItsFrame world replica.Pull
pull_needs_none = (act.Pull, refl)

-- by the number of its record
pub start_is_asked : AsksFor (asked_in world) (replica.Receive (frame.Record start)) (Some (act.Receive 1))
start_is_asked = refl

-- the world before replica 1 asked: no frame was given in it
abbrev begun : WorldView ℕ
begun = record { members = []; asks = []; records = []; receipts = []; answers = answered (0 does act.Create mail) (Stepped (Ok (reply.Issued first))) ∷ [] }

-- and nothing was refused in it
pub begun_only_admits : OnlyAdmits begun
begun_only_admits = All-cons (λ x. IsSome (admitted_at begun x.event.replica x)) (answered (0 does act.Create mail) (Stepped (Ok (reply.Issued first)))) [] refl (All-nil (λ x. IsSome (admitted_at begun x.event.replica x)))

pub none_releases : AsksFor (asked_in begun) (replica.Release receipt) None
none_releases (act.Release n) = λ is. cc
none_releases a = λ is. cc

pub receipt_was_not_given : ¬ HasItsFrame begun (replica.Release receipt)
receipt_was_not_given = λ given. none_releases given.0 given.1

-- so a log that goes on with the receipt is stuck there
abbrev alone : State ℕ
alone = record (new_state 0 [] 9 0) { log = replica.Create mail ∷ replica.Release receipt ∷ replica.Retire ∷ [] }

pub is_behind : IsBehind begun alone
is_behind = record { left = replica.Release receipt ∷ replica.Retire ∷ []; log = refl; waits = receipt_was_not_given }

-- ---- the frame that an event carries

pub carried_record : carried (replica.Receive (frame.Record start)) ≡ Some (frame.Record start)
carried_record = refl

pub carried_ask : carried (replica.Answer ask) ≡ Some (frame.Ask ask)
carried_ask = refl

pub carried_receipt : carried (replica.Release receipt) ≡ Some (frame.Receipt receipt)
carried_receipt = refl

-- a request is taken by nobody, so it is no frame of a pool here
pub carried_none : carried (replica.Receive (frame.Ask ask)) ≡ None
carried_none = refl

pub carried_nothing : carried replica.Retire ≡ None
carried_nothing = refl

pub found_nothing : found_in no_numbers (Some (1 ∷ [])) ≡ None
found_nothing = refl

-- ---- the lowest, ids, and the fault's number

pub lower_is : lower_of (Some (4, 1)) (Some (2, 7)) ≡ Some (2, 7)
lower_is = refl

pub first_stays : lower_of (Some (2, 1)) (Some (2, 7)) ≡ Some (2, 1)
first_stays = refl

pub share : share_id {K = ℕ} (new_state 1 [] 9 0 ∷ new_state 2 [] 9 0 ∷ new_state 1 [] 5 0 ∷ []) ≡ true
share = refl

pub share_none : share_id {K = ℕ} (new_state 1 [] 9 0 ∷ new_state 2 [] 9 0 ∷ []) ≡ false
share_none = refl

pub number_of_memory : join_fault_number OutOfMemory ≡ 0
number_of_memory = refl

pub number_of_unexplained : join_fault_number (Unexplained 3 5) ≡ 1
number_of_unexplained = refl
