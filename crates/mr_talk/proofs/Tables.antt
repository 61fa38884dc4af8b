-- What is tried at each kind of message and at each state.
use denote.Enum.Bare.{sameb, same_true, same_false}
use Rattle.std.proofs.Common.{◌≡◌, Bool, true, false, ◌&&◌, Option, Some, None, subst}
use Rattle.mr_talk.proofs.Names.{Ask, Begin, CalledAsks, CalledCloses, CalledGreets, CalledPasses, CalledSettles, CalledSettlesFile, CalledTells}
use Rattle.mr_talk.proofs.Names.{CalledTellsFile, CallerAsks, CallerCloses, CallerGreets, CallerSettles, CallerSettlesFile, CallerTells, CallerTellsFile}
use Rattle.mr_talk.proofs.Names.{CallerWants, Done, End, Failed, Fault, Hello, Idle, Kind, Missing, Over, Piece, PushOuts, Receipts, Records, Turn, Wants}
use Rattle.mr_talk.proofs.Names.{Whole, and_parts, next_of}
use Rattle.mr_talk.specs.contracts.kind.Kind.{the_type as the_kind}
use Rattle.mr_talk.specs.contracts.turn.Turn.{the_type as the_turn}
use Rattle.mr_talk.specs.declared.kind.Kind.TheVariants.{Turn as Passes}

abbrev pub each_kind : (Kind → Bool) → Bool
each_kind f = f Hello && (f Idle && (f Ask && (f Begin && (f Piece && (f End && (f Missing && (f Records && (f Wants && (f PushOuts && (f Receipts && (f Passes && (f Done && (f Fault && f Whole)))))))))))))

abbrev pub each_turn : (Turn → Bool) → Bool
each_turn f = f CallerGreets && (f CalledGreets && (f CalledAsks && (f CalledPasses && (f CallerAsks && (f CallerTells && (f CallerTellsFile && (f CalledTells && (f CalledTellsFile && (f CallerSettles && (f CallerSettlesFile && (f CallerWants && (f CalledSettles && (f CalledSettlesFile && (f CalledCloses && (f CallerCloses && (f Over && f Failed))))))))))))))))

-- what holds of each kind holds of this one
pub kind_at : (f : Kind → Bool) → each_kind f ≡ true → (k : Kind) → f k ≡ true
kind_at f h k =
    let p1 = and_parts _ _ h in let p2 = and_parts _ _ p1.1 in let p3 = and_parts _ _ p2.1 in let p4 = and_parts _ _ p3.1 in
    let p5 = and_parts _ _ p4.1 in let p6 = and_parts _ _ p5.1 in let p7 = and_parts _ _ p6.1 in let p8 = and_parts _ _ p7.1 in
    let p9 = and_parts _ _ p8.1 in let p10 = and_parts _ _ p9.1 in let p11 = and_parts _ _ p10.1 in let p12 = and_parts _ _ p11.1 in
    let p13 = and_parts _ _ p12.1 in let p14 = and_parts _ _ p13.1 in
    elim k as (λ x. f x ≡ true) [ Hello ↦ p1.0 | Idle ↦ p2.0 | Ask ↦ p3.0 | Begin ↦ p4.0 | Piece ↦ p5.0 | End ↦ p6.0 | Missing ↦ p7.0 | Records ↦ p8.0 | Wants ↦ p9.0 | PushOuts ↦ p10.0 | Receipts ↦ p11.0 | Passes ↦ p12.0 | Done ↦ p13.0 | Fault ↦ p14.0 | Whole ↦ p14.1 ]

pub turn_at : (f : Turn → Bool) → each_turn f ≡ true → (t : Turn) → f t ≡ true
turn_at f h t =
    let p1 = and_parts _ _ h in let p2 = and_parts _ _ p1.1 in let p3 = and_parts _ _ p2.1 in let p4 = and_parts _ _ p3.1 in
    let p5 = and_parts _ _ p4.1 in let p6 = and_parts _ _ p5.1 in let p7 = and_parts _ _ p6.1 in let p8 = and_parts _ _ p7.1 in
    let p9 = and_parts _ _ p8.1 in let p10 = and_parts _ _ p9.1 in let p11 = and_parts _ _ p10.1 in let p12 = and_parts _ _ p11.1 in
    let p13 = and_parts _ _ p12.1 in let p14 = and_parts _ _ p13.1 in let p15 = and_parts _ _ p14.1 in let p16 = and_parts _ _ p15.1 in
    let p17 = and_parts _ _ p16.1 in
    elim t as (λ x. f x ≡ true) [ CallerGreets ↦ p1.0 | CalledGreets ↦ p2.0 | CalledAsks ↦ p3.0 | CalledPasses ↦ p4.0 | CallerAsks ↦ p5.0 | CallerTells ↦ p6.0 | CallerTellsFile ↦ p7.0 | CalledTells ↦ p8.0 | CalledTellsFile ↦ p9.0 | CallerSettles ↦ p10.0 | CallerSettlesFile ↦ p11.0 | CallerWants ↦ p12.0 | CalledSettles ↦ p13.0 | CalledSettlesFile ↦ p14.0 | CalledCloses ↦ p15.0 | CallerCloses ↦ p16.0 | Over ↦ p17.0 | Failed ↦ p17.1 ]

abbrev pub is_kind : Kind → Kind → Bool
is_kind = sameb the_kind

pub kind_from : (j k : Kind) → is_kind j k ≡ true → j ≡ k
kind_from = same_true the_kind tt

abbrev pub is_turn : Turn → Turn → Bool
is_turn = sameb the_turn

pub turn_from : (s t : Turn) → is_turn s t ≡ true → s ≡ t
turn_from = same_true the_turn tt

pub turn_not : (s t : Turn) → is_turn s t ≡ false → s ≡ t → ⊥
turn_not = same_false the_turn

-- where a message has a place, the state behind it passes the test
abbrev pub if_placed : Option Turn → (Turn → Bool) → Bool
if_placed None test = true
if_placed (Some t) test = test t

abbrev pub each_placed : Turn → (Kind → Turn → Bool) → Bool
each_placed s test = each_kind (λ (k : Kind). if_placed (next_of s k) (test k))

pub placed_at : (s : Turn) (test : Kind → Turn → Bool) → each_placed s test ≡ true → (k : Kind) (t : Turn) → next_of s k ≡ Some t → test k t ≡ true
placed_at s test h k t n = subst (λ (o : Option Turn). if_placed o (test k) ≡ true) n (kind_at (λ (j : Kind). if_placed (next_of s j) (test j)) h k)
