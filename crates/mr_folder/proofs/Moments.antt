-- what crashes leave over one call after another
use Rattle.std.proofs.Common.{inl, inr, ⊎_elim, ℕ, refl, subst, sym, arith}
use Rattle.mr_folder.proofs.Names.{Follows, IsSound, IsStore, IsUntouched, LeavesAfter, LeavesOnly, Passes, StaysSound, Stepped, Tree}

module _ {F : Type 0} {moment : F → ℕ} {left_since : F → ℕ → Tree → Type 0} where
  -- what has P has Q
  pub widened : {old new : F} {P : Tree → Type 0} (Q : Tree → Type 0) → LeavesOnly moment left_since old new P → ((c : Tree) → P c → Q c) → LeavesOnly moment left_since old new Q
  widened Q leaves from = record {
    later = leaves.later;
    each = λ c left. from c (leaves.each c left);
    before = λ t c le left. ⊎_elim (λ earlier. inl earlier) (λ here. inr (from c here)) (leaves.before t c le left);
  }

  -- two runs, one after the other
  pub joined : {old mid new : F} {P : Tree → Type 0} → LeavesOnly moment left_since old mid P → LeavesOnly moment left_since mid new P → LeavesOnly moment left_since old new P
  joined {old} {mid} {new} {P} first second = record {
    later = omega (arith, first.later, second.later);
    each = λ c left. ⊎_elim (first.each c) (λ here. here) (second.before (moment old) c first.later left);
    before = λ t c le left. ⊎_elim (first.before t c le) (λ here. inr here) (second.before t c (omega (arith, le, first.later)) left);
  }

  -- before the first call
  pub started : {old : F} {P : Tree → Type 0} → ((c : Tree) → left_since old (moment old) c → P c) → LeavesOnly moment left_since old old P
  started here = record { later = omega arith; each = here; before = λ t c le left. inl left }

  -- over a call that writes
  pub passed : {old new : F} {may_leave : Tree → Type 0} (P : Tree → Type 0) → Passes (moment old) (moment new) (left_since old) (left_since new) may_leave → ((c : Tree) → left_since old (moment old) c → P c) → ((c : Tree) → may_leave c → P c) → LeavesOnly moment left_since old new P
  passed {old} P time before now = record {
    later = time.later;
    each = λ c left. ⊎_elim (before c) (now c) (time.no_more (moment old) c (omega arith) left);
    before = λ t c le left. ⊎_elim (λ earlier. inl earlier) (λ here. inr (now c here)) (time.no_more t c le left);
  }

module _ {F : Type 0} {seen : F → Tree} {may_leave : F → Tree → Type 0} {moment : F → ℕ} {left_since : F → ℕ → Tree → Type 0} where
  -- with no call
  pub sound_still : (old : F) → ((c : Tree) → left_since old (moment old) c → may_leave old c) → IsSound seen may_leave old → StaysSound seen may_leave moment left_since old old
  sound_still old only sound = record { sound = sound; moments = started (λ c left. sound.crash c (only c left)) }

  -- over a call that writes nothing
  pub sound_untouched : {old new : F} → IsUntouched seen may_leave moment left_since old new → IsSound seen may_leave old → StaysSound seen may_leave moment left_since old new
  sound_untouched untouched sound = record {
    sound = record {
      now = subst IsStore (sym untouched.same) sound.now;
      crash = λ c left. sound.crash c (untouched.no_more c left);
    };
    moments = widened IsStore untouched.moments sound.crash;
  }

  -- over one that writes
  pub sound_over : {old new : F} → ((c : Tree) → left_since old (moment old) c → may_leave old c) → IsSound seen may_leave old → IsStore (seen new) → ((c : Tree) → may_leave new c → IsStore c) → Passes (moment old) (moment new) (left_since old) (left_since new) (may_leave new) → StaysSound seen may_leave moment left_since old new
  sound_over only sound now crash time = record {
    sound = record { now = now; crash = crash };
    moments = passed IsStore time (λ c left. sound.crash c (only c left)) crash;
  }

  -- over two
  pub sound_on : {old mid new : F} → StaysSound seen may_leave moment left_since old mid → StaysSound seen may_leave moment left_since mid new → StaysSound seen may_leave moment left_since old new
  sound_on first second = record { sound = second.sound; moments = joined first.moments second.moments }

module _ {F : Type 0} {seen : F → Tree} {may_leave : F → Tree → Type 0} {moment : F → ℕ} {left_since : F → ℕ → Tree → Type 0} where
  -- with no call nothing is written
  pub untouched_still : (old : F) → ((c : Tree) → left_since old (moment old) c → may_leave old c) → IsUntouched seen may_leave moment left_since old old
  untouched_still old only = record { same = refl; no_more = λ c left. left; moments = started only }

  -- a step over a call that writes nothing
  pub after_untouched : (step : Tree → Tree → Type 0) → ((t : Tree) → step t t) → {old new : F} → IsUntouched seen may_leave moment left_since old new → LeavesAfter step may_leave moment left_since old new
  after_untouched step none {old} {new} untouched = record {
    crash = λ c left. (c, untouched.no_more c left, none c);
    moments = widened (Stepped step (may_leave old)) untouched.moments (λ c left. (c, left, none c));
  }

  -- and over that and one more
  pub untouched_then : (step : Tree → Tree → Type 0) → ((t : Tree) → step t t) → {old mid new : F} → IsUntouched seen may_leave moment left_since old mid → LeavesAfter step may_leave moment left_since mid new → LeavesAfter step may_leave moment left_since old new
  untouched_then step none {old} {mid} {new} untouched after = record {
    crash = λ c left. before c (after.crash c left);
    moments = joined (widened (Stepped step (may_leave old)) untouched.moments (λ c left. (c, left, none c))) (widened (Stepped step (may_leave old)) after.moments before);
  }
    where
      before : (c : Tree) → Stepped step (may_leave mid) c → Stepped step (may_leave old) c
      before c from = (from.0, untouched.no_more from.0 from.1, from.2)

  pub then_untouched : (step : Tree → Tree → Type 0) → {old mid new : F} → LeavesAfter step may_leave moment left_since old mid → IsUntouched seen may_leave moment left_since mid new → LeavesAfter step may_leave moment left_since old new
  then_untouched step {old} {mid} {new} after untouched = record {
    crash = λ c left. after.crash c (untouched.no_more c left);
    moments = joined after.moments (widened (Stepped step (may_leave old)) untouched.moments after.crash);
  }

module _ {F : Type 0} {may_leave : F → Tree → Type 0} {moment : F → ℕ} {left_since : F → ℕ → Tree → Type 0} where
  -- a step with no call
  pub after_still : (step : Tree → Tree → Type 0) → ((t : Tree) → step t t) → (old : F) → ((c : Tree) → left_since old (moment old) c → may_leave old c) → LeavesAfter step may_leave moment left_since old old
  after_still step none old only = record {
    crash = λ c left. (c, left, none c);
    moments = started (λ c left. (c, only c left, none c));
  }

  -- over one call that writes
  pub after_call : (step : Tree → Tree → Type 0) → ((t : Tree) → step t t) → {old new : F} → ((c : Tree) → left_since old (moment old) c → may_leave old c) → Follows step (may_leave old) (may_leave new) → Passes (moment old) (moment new) (left_since old) (left_since new) (may_leave new) → LeavesAfter step may_leave moment left_since old new
  after_call step none {old} {new} only crash time = record {
    crash = crash;
    moments = passed (Stepped step (may_leave old)) time (λ c left. (c, only c left, none c)) crash;
  }

  -- over two
  pub after_on : (step : Tree → Tree → Type 0) → ((a b c : Tree) → step a b → step b c → step a c) → {old mid new : F} → LeavesAfter step may_leave moment left_since old mid → LeavesAfter step may_leave moment left_since mid new → LeavesAfter step may_leave moment left_since old new
  after_on step both {old} {mid} {new} first second = record {
    crash = λ c left. before c (second.crash c left);
    moments = joined first.moments (widened (Stepped step (may_leave old)) second.moments before);
  }
    where
      before : (c : Tree) → Stepped step (may_leave mid) c → Stepped step (may_leave old) c
      before c from = let d = first.crash from.0 from.1 in (d.0, d.1, both d.0 from.0 c d.2 from.2)

  -- a step that may do more
  pub after_wider : (step wide : Tree → Tree → Type 0) → ((a b : Tree) → step a b → wide a b) → {old new : F} → LeavesAfter step may_leave moment left_since old new → LeavesAfter wide may_leave moment left_since old new
  after_wider step wide wider {old} {new} after = record {
    crash = λ c left. more c (after.crash c left);
    moments = widened (Stepped wide (may_leave old)) after.moments more;
  }
    where
      more : (c : Tree) → Stepped step (may_leave old) c → Stepped wide (may_leave old) c
      more c from = (from.0, from.1, wider from.0 c from.2)
