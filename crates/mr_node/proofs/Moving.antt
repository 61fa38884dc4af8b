-- What a turn does next, by what it has said.
use Rattle.std.proofs.Common.{◌≡◌, ◌≢◌, ◌==◌, ℕ, Bool, false, List, ◌∷◌, length, Some, Result, Err, IfOk, IsSome, sym, ap, subst, ◌∙◌, arith}
use Rattle.mr_node.proofs.Names.{Fetches, Halt, IfOk-weaker, Move, Moves, Name, Progress, ReadsFrame}
use Rattle.mr_node.proofs.Names.{ReadsLetter, Saying, Snag, Turn, Vec, Vouch, WireView, are_over, nat_tests, passes_none}
use Rattle.mr_node.proofs.Names.{progress_of, slice_get}
use Rattle.mr_link.specs.declared.snag.Snag.TheVariants as snag
use Rattle.mr_node.specs.declared.turn.Turn.TheVariants as turn
use Rattle.mr_node.specs.declared.next_move.Move.TheVariants as move

said_is : (xs : List Saying) (p : Progress) → p ≡ progress_of xs → p.said ≡ length xs
said_is xs p is = ap (λ (q : Progress). q.said) is

over_is : (xs : List Saying) (p : Progress) (b : Bool) → p ≡ progress_of xs → p.over ≡ b → are_over xs ≡ b
over_is xs p b is over = sym (ap (λ (q : Progress). q.over) is) ∙ over

none_said : (x : Saying) (xs : List Saying) (p : Progress) → p ≡ progress_of (x ∷ xs) → p.said ≡ 0 → ⊥
none_said x xs p is zero = let e : length (x ∷ xs) ≡ 0 = sym (said_is (x ∷ xs) p is) ∙ zero in cc e

pub next_grant : (may : Bool) (versions : Vec Name) (v : Name) (xs : List Saying) (p : Progress) (old : WireView) → p ≡ progress_of xs → (p.said == length versions.items) ≡ false → slice_get versions.items p.said ≡ Some v → IsSome old.unread → Moves may (turn.Grant versions) xs old (move.Say (Vouch v)) old
next_grant may versions v xs p old is undone at has = grind (arith, said_is, passes_none)

pub fetches_serve : (may : Bool) (xs : List Saying) (p : Progress) (old : WireView) (m : Move) (new : WireView) → p ≡ progress_of xs → p.over ≡ false → p.said ≡ 0 → Fetches may turn.Serve old m new → Moves may turn.Serve xs old m new
fetches_serve may xs p old m new is over h k = grind (arith, none_said, over_is)

pub fetches_redeem : (may : Bool) (count : ℕ) (xs : List Saying) (p : Progress) (old : WireView) (m : Move) (new : WireView) → p ≡ progress_of xs → (p.said == count) ≡ false → Fetches may (turn.Redeem count) old m new → Moves may (turn.Redeem count) xs old m new
fetches_redeem may count xs p old m new is undone h = grind (arith, said_is)

-- a test that is false
never_equal : (a b : ℕ) → a ≢ b → (a == b) ≡ false
never_equal a b apart = grind (arith, nat_tests)

-- where a letter was made of a frame, the frame was read
pub fetches_reads : (may : Bool) (t : Turn) (old : WireView) (m : Move) (new : WireView) → Fetches may t old m new → ReadsLetter old m new
fetches_reads may t old m new h = grind arith

-- what is fetched next
pub serve_so : (may : Bool) (t : Turn) (xs : List Saying) (p : Progress) (r : Result Move Halt) (old new : WireView) → t ≡ turn.Serve → p ≡ progress_of xs → p.over ≡ false → p.said ≡ 0 → IfOk r (λ m. Fetches may turn.Serve old m new) → IfOk r (λ m. Moves may t xs old m new)
serve_so may t xs p r old new is at over h k = grind (arith, IfOk-weaker, fetches_serve)

pub redeem_so : (may : Bool) (t : Turn) (count : ℕ) (xs : List Saying) (p : Progress) (r : Result Move Halt) (old new : WireView) → t ≡ turn.Redeem count → p ≡ progress_of xs → p.said ≢ count → IfOk r (λ m. Fetches may (turn.Redeem count) old m new) → IfOk r (λ m. Moves may t xs old m new)
redeem_so may t count xs p r old new is at undone h = grind (arith, IfOk-weaker, fetches_redeem, never_equal)

pub reads_so : (may : Bool) (t : Turn) (r : Result Move Halt) (old new : WireView) → IfOk r (λ m. Fetches may t old m new) → IfOk r (λ m. ReadsLetter old m new)
reads_so may t r old new h = IfOk-weaker r (λ m. Fetches may t old m new) (λ m. ReadsLetter old m new) (λ m k. fetches_reads may t old m new k) h

pub grant_so : (may : Bool) (t : Turn) (versions : Vec Name) (v : Name) (xs : List Saying) (p : Progress) (old : WireView) → t ≡ turn.Grant versions → p ≡ progress_of xs → p.said ≢ length versions.items → slice_get versions.items p.said ≡ Some v → IsSome old.unread → Moves may t xs old (move.Say (Vouch v)) old
grant_so may t versions v xs p old is at undone there has =
    subst (λ (u : Turn). Moves may u xs old (move.Say (Vouch v)) old) (sym is)
    (next_grant may versions v xs p old at (never_equal p.said (length versions.items) undone) there has)

-- a frame that is read is none too long
pub reads_none_too_long : (old : WireView) (s : Snag) (new : WireView) → ReadsFrame old (Err s) new → s ≢ snag.TooLong
reads_none_too_long old s new h = grind arith
