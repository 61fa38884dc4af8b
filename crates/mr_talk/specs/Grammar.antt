-- Which messages a talk is, turn by turn. No state of either side is in it.
use Rattle.std.specs.Prelude.{◌≡◌, ◌⊎◌, ℕ, Bool, true, false, IsTrue, List, [], ◌∷◌, ◌++◌, ◌==◌, replicate}
use Rattle.std.specs.List.{flat_map, list_any}
use Rattle.mr_talk.specs.declared.kind.Kind.{Kind}
use Rattle.mr_talk.specs.Kinds.{kind_byte}
use Rattle.mr_talk.specs.declared.kind.Kind.TheVariants.{Hello, Idle, Ask, Begin, Piece, End, Missing, Records, Wants, PushOuts, Receipts, Turn as Passes, Done, Whole}

-- one message, or a whole file of so many pieces
pub data Part : Type 0 where
  One : Kind → Part
  File : ℕ → Part

abbrev pub part_kinds : Part → List Kind
part_kinds (One kind) = kind ∷ []
part_kinds (File pieces) = Begin ∷ (replicate pieces Piece ++ End ∷ [])

-- the list has this kind
abbrev pub is_in : List Kind → Kind → Bool
is_in kinds kind = list_any (λ k. kind_byte k == kind_byte kind) kinds

-- a turn may have these messages, and files or not
abbrev pub May : List Kind → Bool → Part → Type 0
May singles files (One kind) = IsTrue (is_in singles kind)
May singles files (File pieces) = IsTrue files

abbrev pub AllMay : List Kind → Bool → List Part → Type 0
AllMay singles files [] = Unit {0}
AllMay singles files (part ∷ parts) = May singles files part × AllMay singles files parts

-- what is said in a turn: such parts, one behind another
pub record IsSaid (singles : List Kind) (files : Bool) (kinds : List Kind) : Type 0 where
  pub parts : List Part
  pub each : AllMay singles files parts
  pub whole : kinds ≡ flat_map part_kinds parts

-- the third turn
abbrev pub IsTold : List Kind → Type 0
IsTold = IsSaid (Whole ∷ Records ∷ PushOuts ∷ []) true

-- the fourth
abbrev pub IsToldBack : List Kind → Type 0
IsToldBack = IsSaid (Whole ∷ Records ∷ PushOuts ∷ Receipts ∷ Wants ∷ []) true

-- the fifth, where the called has something open, and where it has not
abbrev pub IsSettled : List Kind → Type 0
IsSettled = IsSaid (Whole ∷ Missing ∷ Receipts ∷ Wants ∷ []) true

abbrev pub IsWanted : List Kind → Type 0
IsWanted = IsSaid (Receipts ∷ Wants ∷ []) false

-- the sixth, where the caller has something open
abbrev pub IsSettledBack : List Kind → Type 0
IsSettledBack = IsSaid (Whole ∷ Missing ∷ Receipts ∷ []) true

-- a turn of receipts alone
abbrev pub AreReceipts : List Kind → Type 0
AreReceipts = IsSaid (Receipts ∷ []) false

-- the sixth and the seventh turn, where the caller has something open
pub record IsLate (kinds : List Kind) : Type 0 where
  pub sixth : List Kind
  pub seventh : List Kind
  pub settled : IsSettledBack sixth
  pub receipts : AreReceipts seventh
  pub whole : kinds ≡ sixth ++ Done ∷ (seventh ++ Done ∷ [])

-- the sixth turn, where the caller has nothing open
pub record IsClose (kinds : List Kind) : Type 0 where
  pub sixth : List Kind
  pub receipts : AreReceipts sixth
  pub whole : kinds ≡ sixth ++ Done ∷ []

-- What comes behind the fourth turn. It is over where each has said so, one behind the other.
pub record IsOpen (kinds : List Kind) : Type 0 where
  pub fifth : List Kind
  pub rest : List Kind
  pub settled : IsSettled fifth
  pub whole : (IsLate rest × (kinds ≡ fifth ++ Passes ∷ rest)) ⊎ (IsClose rest × (kinds ≡ fifth ++ Done ∷ rest))

pub record IsHalfDone (kinds : List Kind) : Type 0 where
  pub fifth : List Kind
  pub rest : List Kind
  pub wanted : IsWanted fifth
  pub whole : (IsLate rest × (kinds ≡ fifth ++ Passes ∷ rest)) ⊎ ((rest ≡ []) × (kinds ≡ fifth ++ Done ∷ []))

-- a talk with something to tell
pub record IsLong (kinds : List Kind) : Type 0 where
  pub third : List Kind
  pub fourth : List Kind
  pub rest : List Kind
  pub told : IsTold third
  pub back : IsToldBack fourth
  pub whole : (IsOpen rest × (kinds ≡ Hello ∷ Hello ∷ Ask ∷ Passes ∷ Ask ∷ (third ++ Passes ∷ (fourth ++ Passes ∷ rest))))
      ⊎ (IsHalfDone rest × (kinds ≡ Hello ∷ Hello ∷ Ask ∷ Passes ∷ Ask ∷ (third ++ Passes ∷ (fourth ++ Done ∷ rest))))

-- a talk
abbrev pub IsWholeTalk : List Kind → Type 0
IsWholeTalk kinds = (kinds ≡ Hello ∷ Idle ∷ []) ⊎ IsLong kinds
