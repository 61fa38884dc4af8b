-- one more content joins those that a file in memory has had
use Rattle.std.proofs.Common.{◌≡◌, ◌⊎◌, inl, inr, ⊎_elim, ℕ, List, [], ◌∷◌, ◌++◌, length, drop, Vec, sym, ◌∙◌, subst, arith, length-append}
use Rattle.mr_journal.proofs.Names.{Global, Passes, drop-append-le}
use Rattle.mr_journal.specs.Past.{HadBeen, LeftSince}

abbrev Contents : Type 0
Contents = List (Vec ℕ Global)

-- what had been there before, or is the new one
joins : (past : Contents) (v : Vec ℕ Global) (file : List ℕ) → HadBeen (past ++ v ∷ []) file → HadBeen past file ⊎ (file ≡ v.items)
joins [] v file (inl here) = inr here
joins [] v file (inr none) = absurd none
joins (p ∷ past) v file (inl here) = inl (inl here)
joins (p ∷ past) v file (inr there) = ⊎_elim (λ had. inl (inr had)) (λ new. inr new) (joins past v file there)

-- both are still there
stays : (past : Contents) (v : Vec ℕ Global) (file : List ℕ) → HadBeen past file ⊎ (file ≡ v.items) → HadBeen (past ++ v ∷ []) file
stays [] v file (inl none) = absurd none
stays [] v file (inr new) = inl new
stays (p ∷ past) v file (inl (inl here)) = inl here
stays (p ∷ past) v file (inl (inr there)) = inr (stays past v file (inl there))
stays (p ∷ past) v file (inr new) = inr (stays past v file (inr new))

-- time passes where the old content was put beside the earlier ones
pub passes_to : (past later : Contents) (v : Vec ℕ Global) (old new : List ℕ) → v.items ≡ old → later ≡ past ++ v ∷ [] → Passes (length past) (length later) (LeftSince past old) (LeftSince later new) (λ c. c ≡ new)
passes_to past later v old new is same = rw same (record {
  later = omega (arith, length-append past (v ∷ []));
  no_more = λ t c le left. ⊎_elim (λ now. inr now) (λ had. inl (⊎_elim (λ (was : HadBeen (drop t past) c). inr was) (λ (at : c ≡ v.items). inl (at ∙ is)) (joins (drop t past) v c (subst (λ (l : Contents). HadBeen l c) (drop-append-le t past (v ∷ []) le) had)))) left;
  no_less = λ t c le left. inr (subst (λ (l : Contents). HadBeen l c) (sym (drop-append-le t past (v ∷ []) le)) (stays (drop t past) v c (⊎_elim (λ (now : c ≡ old). inr (now ∙ sym is)) (λ (had : HadBeen (drop t past) c). inl had) left)));
})
