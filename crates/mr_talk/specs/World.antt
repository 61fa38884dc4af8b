-- both sides of a talk, and what is on its way between them
use Rattle.std.specs.Prelude.{◌≡◌, ◌⊎◌, Bool, true, false, List, [], ◌∷◌, ◌++◌, Option, Some, None}
use Rattle.mr_talk.specs.declared.kind.Kind.{Kind}
use Rattle.mr_talk.specs.declared.kind.Kind.TheVariants.{Idle, Turn as Passes, Done}
use Rattle.mr_talk.specs.declared.turn.Role.{Role}
use Rattle.mr_talk.specs.declared.turn.Role.TheVariants.{Caller, Called}
use Rattle.mr_talk.specs.declared.turn.Turn.{Turn}
use Rattle.mr_talk.specs.declared.turn.Turn.TheVariants.{CallerGreets, Failed}
use Rattle.mr_talk.specs.Turns.{sender_of, next_of}

-- how far each side has come, and the messages that each has not received yet
pub record World : Type 0 where
  pub caller : Turn
  pub called : Turn
  pub to_called : List Kind
  pub to_caller : List Kind

abbrev pub start : World
start = record { caller = CallerGreets; called = CallerGreets; to_called = []; to_caller = [] }

-- a side sends a message, or receives the next that is on its way to it
pub data Event : Type 0 where
  Sends : Role → Kind → Event
  Receives : Role → Event

-- what a side may send: a message in its place, in its own turn
abbrev pub allowed : Role → Option Role → Option Turn → Option Turn
allowed Caller (Some Caller) next = next
allowed Called (Some Called) next = next
allowed Caller (Some Called) next = None
allowed Called (Some Caller) next = None
allowed role None next = None

abbrev pub caller_sends : World → Kind → Option Turn → World
caller_sends w kind None = w
caller_sends w kind (Some t) = record { caller = t; called = w.called; to_called = w.to_called ++ kind ∷ []; to_caller = w.to_caller }

abbrev pub called_sends : World → Kind → Option Turn → World
called_sends w kind None = w
called_sends w kind (Some t) = record { caller = w.caller; called = t; to_called = w.to_called; to_caller = w.to_caller ++ kind ∷ [] }

-- where a message is out of place, whoever receives it has failed
abbrev pub received : Option Turn → Turn
received None = Failed
received (Some t) = t

abbrev pub caller_receives : World → List Kind → World
caller_receives w [] = w
caller_receives w (kind ∷ kinds) = record { caller = received (next_of w.caller kind); called = w.called; to_called = w.to_called; to_caller = kinds }

abbrev pub called_receives : World → List Kind → World
called_receives w [] = w
called_receives w (kind ∷ kinds) = record { caller = w.caller; called = received (next_of w.called kind); to_called = kinds; to_caller = w.to_caller }

-- what may not happen changes nothing
abbrev pub happens : World → Event → World
happens w (Sends Caller kind) = caller_sends w kind (allowed Caller (sender_of w.caller) (next_of w.caller kind))
happens w (Sends Called kind) = called_sends w kind (allowed Called (sender_of w.called) (next_of w.called kind))
happens w (Receives Caller) = caller_receives w w.to_caller
happens w (Receives Called) = called_receives w w.to_called

-- a whole run, whatever happens when
abbrev pub after : List Event → World → World
after [] w = w
after (e ∷ es) w = after es (happens w e)

-- These messages lead from one state to the other, each in its place, and this side sends each of them.
abbrev pub Follows : Role → Turn → List Kind → Turn → Type 0
Follows role t [] end = t ≡ end
Follows role t (kind ∷ kinds) end = (sender_of t ≡ Some role) × (next : Turn) × (next_of t kind ≡ Some next) × Follows role next kinds end

-- One side has received all that was sent to it. What is on its way to the other leads that one to the same state, and was sent by the first in its turn.
abbrev pub Agree : World → Type 0
Agree w = (Follows Caller w.called w.to_called w.caller × (w.to_caller ≡ [])) ⊎ (Follows Called w.caller w.to_caller w.called × (w.to_called ≡ []))

-- whether a message ends a turn that is not the first
abbrev pub ends_turn : Kind → Bool
ends_turn Idle = true
ends_turn Passes = true
ends_turn Done = true
ends_turn kind = false
