-- who sends what, and when
use Rattle.std.specs.Prelude.{◌≡◌, ℕ, List, [], ◌∷◌, Option, Some, None}
use Rattle.mr_talk.specs.declared.kind.Kind.{Kind}
use Rattle.mr_talk.specs.declared.kind.Kind.TheVariants.{Hello, Idle, Ask, Begin, Piece, End, Missing, Records, Wants, PushOuts, Receipts, Turn as Passes, Done, Fault, Whole}
use Rattle.mr_talk.specs.declared.turn.Role.{Role}
use Rattle.mr_talk.specs.declared.turn.Role.TheVariants.{Caller, Called}
use Rattle.mr_talk.specs.declared.turn.Turn.{Turn}
use Rattle.mr_talk.specs.declared.turn.Turn.TheVariants.{CallerGreets, CalledGreets, CalledAsks, CalledPasses, CallerAsks, CallerTells, CallerTellsFile, CalledTells, CalledTellsFile, CallerSettles, CallerSettlesFile, CallerWants, CalledSettles, CalledSettlesFile, CalledCloses, CallerCloses, Over, Failed}

-- who may send
abbrev pub sender_of : Turn → Option Role
sender_of CallerGreets = Some Caller
sender_of CalledGreets = Some Called
sender_of CalledAsks = Some Called
sender_of CalledPasses = Some Called
sender_of CallerAsks = Some Caller
sender_of CallerTells = Some Caller
sender_of CallerTellsFile = Some Caller
sender_of CalledTells = Some Called
sender_of CalledTellsFile = Some Called
sender_of CallerSettles = Some Caller
sender_of CallerSettlesFile = Some Caller
sender_of CallerWants = Some Caller
sender_of CalledSettles = Some Called
sender_of CalledSettlesFile = Some Called
sender_of CalledCloses = Some Called
sender_of CallerCloses = Some Caller
sender_of Over = None
sender_of Failed = None

-- the turn's number
abbrev pub number_of : Turn → ℕ
number_of CallerGreets = 1
number_of CalledGreets = 2
number_of CalledAsks = 2
number_of CalledPasses = 2
number_of CallerAsks = 3
number_of CallerTells = 3
number_of CallerTellsFile = 3
number_of CalledTells = 4
number_of CalledTellsFile = 4
number_of CallerSettles = 5
number_of CallerSettlesFile = 5
number_of CallerWants = 5
number_of CalledSettles = 6
number_of CalledSettlesFile = 6
number_of CalledCloses = 6
number_of CallerCloses = 7
number_of Over = 0
number_of Failed = 0

-- how far the talk has come behind a message: where there is no line for it, it is out of place
abbrev pub next_of : Turn → Kind → Option Turn
next_of CallerGreets Hello = Some CalledGreets
next_of CallerGreets Fault = Some Failed
next_of CallerGreets kind = None
next_of CalledGreets Hello = Some CalledAsks
next_of CalledGreets Idle = Some Over
next_of CalledGreets Fault = Some Failed
next_of CalledGreets kind = None
next_of CalledAsks Ask = Some CalledPasses
next_of CalledAsks Fault = Some Failed
next_of CalledAsks kind = None
next_of CalledPasses Passes = Some CallerAsks
next_of CalledPasses Fault = Some Failed
next_of CalledPasses kind = None
next_of CallerAsks Ask = Some CallerTells
next_of CallerAsks Fault = Some Failed
next_of CallerAsks kind = None
next_of CallerTells Begin = Some CallerTellsFile
next_of CallerTells Whole = Some CallerTells
next_of CallerTells Records = Some CallerTells
next_of CallerTells PushOuts = Some CallerTells
next_of CallerTells Passes = Some CalledTells
next_of CallerTells Fault = Some Failed
next_of CallerTells kind = None
next_of CallerTellsFile Piece = Some CallerTellsFile
next_of CallerTellsFile End = Some CallerTells
next_of CallerTellsFile Fault = Some Failed
next_of CallerTellsFile kind = None
next_of CalledTells Begin = Some CalledTellsFile
next_of CalledTells Whole = Some CalledTells
next_of CalledTells Records = Some CalledTells
next_of CalledTells PushOuts = Some CalledTells
next_of CalledTells Receipts = Some CalledTells
next_of CalledTells Wants = Some CalledTells
next_of CalledTells Passes = Some CallerSettles
next_of CalledTells Done = Some CallerWants
next_of CalledTells Fault = Some Failed
next_of CalledTells kind = None
next_of CalledTellsFile Piece = Some CalledTellsFile
next_of CalledTellsFile End = Some CalledTells
next_of CalledTellsFile Fault = Some Failed
next_of CalledTellsFile kind = None
next_of CallerSettles Begin = Some CallerSettlesFile
next_of CallerSettles Whole = Some CallerSettles
next_of CallerSettles Missing = Some CallerSettles
next_of CallerSettles Receipts = Some CallerSettles
next_of CallerSettles Wants = Some CallerSettles
next_of CallerSettles Passes = Some CalledSettles
next_of CallerSettles Done = Some CalledCloses
next_of CallerSettles Fault = Some Failed
next_of CallerSettles kind = None
next_of CallerSettlesFile Piece = Some CallerSettlesFile
next_of CallerSettlesFile End = Some CallerSettles
next_of CallerSettlesFile Fault = Some Failed
next_of CallerSettlesFile kind = None
next_of CallerWants Receipts = Some CallerWants
next_of CallerWants Wants = Some CallerWants
next_of CallerWants Passes = Some CalledSettles
next_of CallerWants Done = Some Over
next_of CallerWants Fault = Some Failed
next_of CallerWants kind = None
next_of CalledSettles Begin = Some CalledSettlesFile
next_of CalledSettles Whole = Some CalledSettles
next_of CalledSettles Missing = Some CalledSettles
next_of CalledSettles Receipts = Some CalledSettles
next_of CalledSettles Done = Some CallerCloses
next_of CalledSettles Fault = Some Failed
next_of CalledSettles kind = None
next_of CalledSettlesFile Piece = Some CalledSettlesFile
next_of CalledSettlesFile End = Some CalledSettles
next_of CalledSettlesFile Fault = Some Failed
next_of CalledSettlesFile kind = None
next_of CalledCloses Receipts = Some CalledCloses
next_of CalledCloses Done = Some Over
next_of CalledCloses Fault = Some Failed
next_of CalledCloses kind = None
next_of CallerCloses Receipts = Some CallerCloses
next_of CallerCloses Done = Some Over
next_of CallerCloses Fault = Some Failed
next_of CallerCloses kind = None
next_of Over kind = None
next_of Failed kind = None

-- these messages lead from one state to the other
abbrev pub Leads : Turn → List Kind → Turn → Type 0
Leads t [] end = t ≡ end
Leads t (kind ∷ kinds) end = (next : Turn) × (next_of t kind ≡ Some next) × Leads next kinds end

-- a whole talk
abbrev pub IsTalk : List Kind → Type 0
IsTalk kinds = Leads CallerGreets kinds Over
