-- what crashes leave over one call after another
use Rattle.std.proofs.Common.{inl, inr, ⊎_elim, ℕ, List, arith}
use Rattle.std.proofs.Common.{refl, ◌∙◌}
use Rattle.mr_journal.specs.Device.{LeavesOnly, IsUntouched}

module _ {D : Type 0} {moment : D → ℕ} {left_since : D → ℕ → List ℕ → Type 0} where
  -- what has P has Q
  pub widened : {old new : D} {P : List ℕ → Type 0} (Q : List ℕ → Type 0) → LeavesOnly moment left_since old new P → ((c : List ℕ) → P c → Q c) → LeavesOnly moment left_since old new Q
  widened Q leaves from = record {
    later = leaves.later;
    each = λ c left. from c (leaves.each c left);
    before = λ t c le left. ⊎_elim (λ earlier. inl earlier) (λ here. inr (from c here)) (leaves.before t c le left);
  }

  -- two runs, one after the other
  pub joined : {old mid new : D} {P : List ℕ → Type 0} → LeavesOnly moment left_since old mid P → LeavesOnly moment left_since mid new P → LeavesOnly moment left_since old new P
  joined {old} {mid} {new} {P} first second = record {
    later = omega (arith, first.later, second.later);
    each = λ c left. ⊎_elim (first.each c) (λ here. here) (second.before (moment old) c first.later left);
    before = λ t c le left. ⊎_elim (first.before t c le) (λ here. inr here) (second.before t c (omega (arith, le, first.later)) left);
  }

  -- before the first call
  pub started : {old : D} {P : List ℕ → Type 0} → ((c : List ℕ) → left_since old (moment old) c → P c) → LeavesOnly moment left_since old old P
  started here = record { later = omega arith; each = here; before = λ t c le left. inl left }

module _ {D : Type 0} {seen : D → List ℕ} {may_leave : D → List ℕ → Type 0} {moment : D → ℕ} {left_since : D → ℕ → List ℕ → Type 0} where
  pub untouched_none : (old : D) → ((c : List ℕ) → left_since old (moment old) c → may_leave old c) → IsUntouched seen may_leave moment left_since old old
  untouched_none old only = record { same = refl; no_more = λ c left. left; moments = started only }

  pub untouched_on : {old mid new : D} → IsUntouched seen may_leave moment left_since old mid → IsUntouched seen may_leave moment left_since mid new → IsUntouched seen may_leave moment left_since old new
  untouched_on {old} {mid} {new} first second = record {
    same = second.same ∙ first.same;
    no_more = λ c left. first.no_more c (second.no_more c left);
    moments = joined first.moments (widened (may_leave old) second.moments first.no_more);
  }
