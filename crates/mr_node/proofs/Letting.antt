-- What a gate has let pass.
use Rattle.std.proofs.Common.{◌≡◌, ◌+◌, ℕ, Bool, Bor, List, Result, IfOk, subst, sym, arith, below_more}
use Rattle.mr_node.proofs.Names.{AreLetPass, Event, Fetches, Halt, HasLet, IfOk-weaker, LetsMove, LinkRan, Move, Refusal, Reply, Saying, Says, Sender, Snag}
use Rattle.mr_node.proofs.Names.{Talk, Turn, WireView, one_if_receive, receives, unread}
use Rattle.mr_node.specs.inner.Saying.{IsLetPass}
use Rattle.mr_node.specs.declared.turn.Turn.TheVariants as turn

-- no record was posted
pub let_none : (has_let : ℕ → Type 0) (count : ℕ) → count ≡ 0 → HasLet has_let count
let_none has_let count none = λ n below. absurd (omega (arith, none, below))

-- the gate and its link are those of before
pub let_same : {G : Type 0} (has_let : G → Sender → ℕ → Type 0) (a b : Bor G) (s t : Sender) (count : ℕ) → a ≡ b → s ≡ t → HasLet (has_let a.now s) count → HasLet (has_let b.now t) count
let_same has_let a b s t count gate link h = grind arith

-- one record more was let pass
one_more : (has_let : ℕ → Type 0) (count more : ℕ) → HasLet has_let count → has_let (count + 1) → more ≡ count + 1 → HasLet has_let more
one_more has_let count more h here is = subst (λ (n : ℕ). HasLet has_let n) (sym is) (below_more (λ n. has_let (n + 1)) count h here)

none_more : (has_let : ℕ → Type 0) (count more : ℕ) → HasLet has_let count → more ≡ count + 0 → HasLet has_let more
none_more has_let count more h is = let same : more ≡ count = omega (arith, is) in subst (λ (n : ℕ). HasLet has_let n) (sym same) h

-- a letter more was posted, which was let pass if it is a record
pub let_more : (has_let : ℕ → Type 0) (count more : ℕ) (letter : Event) → HasLet has_let count → IsLetPass (has_let (count + 1)) letter → more ≡ count + one_if_receive letter → HasLet has_let more
let_more has_let count more letter h here is = grind (arith, one_more, none_more)

-- a move that makes a letter of a frame other than a record posts none
serve_lets : (P : Type 0) (may : Bool) (old : WireView) (m : Move) (new : WireView) → Fetches may turn.Serve old m new → LetsMove P m
serve_lets P may old m new h = grind arith

redeem_lets : (P : Type 0) (may : Bool) (count : ℕ) (old : WireView) (m : Move) (new : WireView) → Fetches may (turn.Redeem count) old m new → LetsMove P m
redeem_lets P may count old m new h = grind arith

pub serve_let : (P : Type 0) (may : Bool) (old new : WireView) (r : Result Move Halt) → IfOk r (λ m. Fetches may turn.Serve old m new) → IfOk r (λ m. LetsMove P m)
serve_let P may old new r h = IfOk-weaker r (λ m. Fetches may turn.Serve old m new) (λ m. LetsMove P m) (λ m k. serve_lets P may old m new k) h

pub redeem_let : (P : Type 0) (may : Bool) (count : ℕ) (old new : WireView) (r : Result Move Halt) → IfOk r (λ m. Fetches may (turn.Redeem count) old m new) → IfOk r (λ m. LetsMove P m)
redeem_let P may count old new r h = IfOk-weaker r (λ m. Fetches may (turn.Redeem count) old m new) (λ m. LetsMove P m) (λ m k. redeem_lets P may count old m new k) h

-- nor one that no frame came for
pub unread_let : (P : Type 0) (s : Snag) → IfOk (unread s) (λ m. LetsMove P m)
unread_let P s = grind arith

-- the letters of a link, with those that it said
pub let_all : {R : Type 0} (has_let : ℕ → Type 0) (closes : ℕ → Bool) (turns : List Turn) (old new : WireView) (talk talk' : Talk Event (Result Reply Refusal) R) (posted : ℕ) → HasLet has_let posted
    → (xs : List Saying) × LinkRan closes turns old xs new × Says talk xs talk' × (receives xs ≡ posted)
    → (xs : List Saying) × (LinkRan closes turns old xs new × AreLetPass has_let xs) × Says talk xs talk'
let_all has_let closes turns old new talk talk' posted h r = (r.0, (r.1, subst (λ (n : ℕ). HasLet has_let n) (sym r.3) h), r.2)
