-- a quiet listing is one moment of the folders
use Rattle.std.proofs.Common.{◌≡◌, ℕ, ◌<◌, ◌≤◌, List, [], ◌∷◌, ◌++◌, length, refl, sym, ap, ◌∙◌, inl, inr, subst, arith, length-append}
use Rattle.mr_folder.proofs.Names.{AreNames, AreTimes, Between, Global, IsSnapshot, IsStill, KeepTimes, Past, String, TellsChanges, Vec, cases_lt, ext_get_or}
use Rattle.mr_folder.proofs.Names.{get_or_append_left, get_or_push, map, slice_index, string_bytes, texts}

-- a folder with the same time on both sides was still between them
still_between : (past : Past) → TellsChanges past → (folder i j from to : ℕ) → i ≤ from → to ≤ j → past.time i folder ≡ past.time j folder → IsStill past folder from to
still_between past tells folder i j from to i_from to_j same = λ k lo hi.
    let i_k : i ≤ k = omega arith in
    let k_j : k ≤ j = omega arith in
    let from_j : from ≤ j = omega arith in
    tells folder i k j i_k k_j same ∙ sym (tells folder i from j i_from from_j same)

-- where no folder had another time, the same times are read twice
pub same_times : (past : Past) (count o m n e : ℕ) (before after : List ℕ) → KeepTimes past count o e → length before ≡ count → length after ≡ count → o ≤ n → m ≤ e → AreTimes past o m before → AreTimes past n e after → before ≡ after
same_times past count o m n e before after one long_before long_after o_n m_e first last =
    ext_get_or 0 before after (long_before ∙ sym long_after) (λ folder lt.
    let within : folder < count = subst (λ l. folder < l) long_before lt in
    let b = first folder lt in
    let a = last folder (subst (λ l. folder < l) (sym long_after) within) in
    let b_e : b.moment ≤ e = omega (arith, b.no_later, m_e) in
    let o_a : o ≤ a.moment = omega (arith, a.no_sooner, o_n) in
    b.holds ∙ (one folder b.moment within b.no_sooner b_e ∙ sym (a.holds ∙ one folder a.moment within o_a a.no_later)))

pub snapshot : (past : Past) → TellsChanges past → (o m n e : ℕ) (before after : List ℕ) (names : List (List (List ℕ))) → before ≡ after → length names ≡ length before → AreTimes past o m before → AreNames past m n names → AreTimes past n e after → IsSnapshot past names m
snapshot past tells o m n e before after names same long first between last = λ folder lt.
    let in_before : folder < length before = omega arith in
    let in_after : folder < length after = subst (λ l. folder < length l) same in_before in
    let b = first folder in_before in
    let a = last folder in_after in
    between folder lt (still_between past tells folder b.moment a.moment m n b.no_later a.no_sooner (sym b.holds ∙ (ap (λ l. slice_index l folder) same ∙ a.holds)))

-- one more time
pub one_more_time : (past : Past) (from mid to : ℕ) (times new : List ℕ) (time : ℕ) → from ≤ mid → mid ≤ to → AreTimes past from mid times → Between mid to (λ m. time ≡ past.time m (length times)) → new ≡ times ++ time ∷ [] → AreTimes past from to new
one_more_time past from mid to times new time le more were one is = subst (AreTimes past from to) (sym is) (λ folder lt.
    elim (cases_lt folder (length times)) [
      | inl less ↦
          let b = were folder less in
          record { moment = b.moment; no_sooner = b.no_sooner; no_later = omega (arith, b.no_later, more); holds = get_or_append_left times (time ∷ []) 0 folder less ∙ b.holds }
      | inr other ↦
          let here : folder ≡ length times = omega (arith, length-append times (time ∷ []), lt, other) in
          record { moment = one.moment; no_sooner = omega (arith, one.no_sooner, le); no_later = one.no_later; holds = get_or_push times time 0 folder (sym here) ∙ (one.holds ∙ ap (past.time one.moment) (sym here)) }
    ])

-- the names of one more folder
pub one_more_folder : (past : Past) (from mid to : ℕ) (names new : List (List (List ℕ))) (own : List (List ℕ)) → from ≤ mid → mid ≤ to → AreNames past from mid names → (IsStill past (length names) mid to → own ≡ past.names mid (length names)) → new ≡ names ++ own ∷ [] → AreNames past from to new
one_more_folder past from mid to names new own le more were one is = subst (AreNames past from to) (sym is) (λ folder lt still.
    elim (cases_lt folder (length names)) [
      | inl less ↦
          get_or_append_left names (own ∷ []) [] folder less
          ∙ were folder less (λ k lo hi. still k lo (omega (arith, hi, more)))
      | inr other ↦
          let here : folder ≡ length names = omega (arith, length-append names (own ∷ []), lt, other) in
          let still_here : IsStill past (length names) from to = subst (λ f. IsStill past f from to) here still in
          let later : IsStill past (length names) mid to = λ k lo hi. still_here k (omega (arith, lo, le)) hi ∙ sym (still_here mid le more) in
          get_or_push names own [] folder (sym here) ∙ (one later ∙ (still_here mid le more ∙ ap (past.names from) (sym here)))
    ])

-- the texts of one more list
pub texts-push : (folders : List (Vec (String Global) Global)) (own : Vec (String Global) Global) → texts (folders ++ own ∷ []) ≡ texts folders ++ map (λ s. string_bytes s) own.items ∷ []
texts-push [] own = refl
texts-push (v ∷ folders) own = ap (λ l. map (λ s. string_bytes s) v.items ∷ l) (texts-push folders own)

pub length-texts : (folders : List (Vec (String Global) Global)) → length (texts folders) ≡ length folders
length-texts [] = refl
length-texts (v ∷ folders) = let rest = length-texts folders in omega arith

pub no_times : (past : Past) (from to : ℕ) (times : List ℕ) → times ≡ [] → AreTimes past from to times
no_times past from to times none = subst (AreTimes past from to) (sym none) (λ folder lt. absurd (omega (arith, lt)))

pub no_names : (past : Past) (from to : ℕ) (names : List (List (List ℕ))) → names ≡ [] → AreNames past from to names
no_names past from to names none = subst (AreNames past from to) (sym none) (λ folder lt still. absurd (omega (arith, lt)))
