use Rattle.std.proofs.Common.{◌≡◌, ◌<◌, ℕ, Bool, true, is_lt, nat_cmp, refl, ap, sym, ◌∙◌, true≢false, inr, arith}
use Rattle.std.proofs.lemmas.Cmp.{ranked, by_ranked}
use Rattle.std.proofs.lemmas.Result.{IfOk-weaker}
use Rattle.mr_live.proofs.live.by_id.Goals as goal

pub returns-then-lt : goal.returns-then-lt
returns-then-lt g c = IfOk-weaker c.both.result _ _ (λ two is. inr (less c.lt.ensures c.if-lt.true c.id.ensures c.id-2.ensures, is)) c.both.ensures
  where
    less : {a b x y : ℕ} {t : Bool} → t ≡ is_lt (nat_cmp a b) → t ≡ true → a ≡ x → b ≡ y → x < y
    less {a} {b} lt is first second =
        by_ranked (a < b) (a ≡ b) (b < a) (nat_cmp a b) (ranked a b _ refl) (λ _ l. omega (arith, l, first, second))
        (λ e _. absurd (true≢false (sym is ∙ lt ∙ ap is_lt e))) (λ e _. absurd (true≢false (sym is ∙ lt ∙ ap is_lt e)))
