-- files that stand for the same entries
use Rattle.std.proofs.Common.{◌≡◌, ◌⊎◌, inl, inr, ℕ, zero, suc, ◌+◌, ◌-◌, ◌<◌, ◌≤◌, List, [], ◌∷◌, ◌++◌, Err, length, get_or, take, drop, refl, sym, ◌∙◌, ap, arith, length-append, length-take, length-drop, take-append-drop, append_assoc, codes}
use Rattle.mr_journal.proofs.Names.{Cut, IsHeadOf, IsNew, IsRead, IsReason, IsStaged, IsUntouched, JournalFault, LeavesOnly, NotAJournal, Only, OtherFormat}
use Rattle.mr_journal.proofs.Names.{Rests, StandAlike, Stands, Torn, be_bytes_2, from_be_bytes, head, take_all, take_at, u16, w16}
use Rattle.mr_journal.proofs.Moments.{joined, widened}
use Rattle.mr_journal.proofs.ReadLemmas.{byte_of_part, none_yet}

pub both_new : (file c : List ℕ) → IsNew file → IsNew c → StandAlike file c
both_new file c is_new c_new = ([], inr (refl, is_new), inr (refl, c_new))

-- the front of what is no journal yet is none either
pub cut_new : (len : ℕ) (file c : List ℕ) → IsNew file → Cut len file c → IsNew c
cut_new len file c (inl short) cut = inl (omega (arith, short, ap length cut.front, length-take (length c) file))
cut_new len file [] (inr staged) cut = inl (omega arith)
cut_new len file (x ∷ c) (inr staged) cut =
    let front : x ∷ c ≡ 0 ∷ take (length c) staged.0 = cut.front ∙ ap (λ (l : List ℕ). take (suc (length c)) l) staged.1 in
    inr (take (length c) staged.0, front, omega (arith, staged.2, length-take (length c) staged.0))

pub torn_new : (c : List ℕ) → Torn 0 (0 ∷ []) [] c → IsNew c
torn_new c torn = inl (omega (arith, torn.no_longer))

pub staged_new : (most : ℕ) (c : List ℕ) → most ≤ 10 → IsStaged [] most c → IsNew c
staged_new most c few staged = inr (staged.tail, staged.file_is, omega (arith, few, staged.few))

pub made : (c : List ℕ) → c ≡ head 1 ++ (0 ∷ []) → Stands [] c
made c is = inl (record { front = head 1; left = []; batches = none_yet; file_is = is })

-- what was cut behind the closed gate stands for the same entries
pub cut_left : (entries : List (List ℕ)) (place len : ℕ) (file c : List ℕ) → IsRead entries place file → len ≡ place + 1 → Cut len file c → StandAlike file c
cut_left entries place len file c read len_is cut =
    let front = read.front in
    let long : length front + 1 ≤ length c = omega (arith, cut.no_shorter, len_is, read.place_is, ap length read.file_is, length-append front (0 ∷ read.left)) in
    let more = length c - (length front + 1) in
    let c_is : c ≡ front ++ (0 ∷ take more read.left) = cut.front ∙ ap (λ (l : List ℕ). take (length c) l) read.file_is ∙ take_behind front read.left (length c) more (omega (arith, long)) in
    (entries, inl (record { front = front; left = read.left; batches = read.batches; file_is = read.file_is }), inl (record { front = front; left = take more read.left; batches = read.batches; file_is = c_is }))
  where
    take_behind : (front left : List ℕ) (n more : ℕ) → n ≡ length front + 1 + more → take n (front ++ (0 ∷ left)) ≡ front ++ (0 ∷ take more left)
    take_behind [] left zero more is = absurd (omega (arith, is))
    take_behind [] left (suc n) more is = let same : n ≡ more = omega (arith, is) in ap (λ (k : ℕ). 0 ∷ take k left) same
    take_behind (x ∷ front) left zero more is = absurd (omega (arith, is))
    take_behind (x ∷ front) left (suc n) more is = ap (λ (l : List ℕ). x ∷ l) (take_behind front left n more (omega (arith, is)))

pub cut_done : (front left file : List ℕ) (n : ℕ) → file ≡ front ++ (0 ∷ left) → n ≡ length front + 1 → take n file ≡ front ++ (0 ∷ [])
cut_done front left file n is n_is =
    ap (λ (l : List ℕ). take n l) (is ∙ sym (append_assoc front (0 ∷ []) left)) ∙ take_at (front ++ (0 ∷ [])) left n (omega (arith, n_is, length-append front (0 ∷ [])))

module _ {D : Type 0} {seen : D → List ℕ} {may_leave : D → List ℕ → Type 0} {moment : D → ℕ} {left_since : D → ℕ → List ℕ → Type 0} {old mid : D} (looked : IsUntouched seen may_leave moment left_since old mid) where
  -- a device that was looked at has its file
  pub rests_still : Only (seen old) (may_leave mid) → Rests seen may_leave (seen old) mid
  rests_still durable = record { file_is = looked.same; durable = durable }

  -- what a crash leaves over the look and the cut behind it
  pub cut_leaves : {new : D} {entries : List (List ℕ)} {place : ℕ} → IsRead entries place (seen old) → LeavesOnly moment left_since mid new (Cut (place + 1) (seen old)) → LeavesOnly moment left_since old new (λ c. may_leave old c ⊎ StandAlike (seen old) c)
  cut_leaves {entries = entries} {place} read leaves =
      let P : List ℕ → Type 0 = λ c. may_leave old c ⊎ StandAlike (seen old) c in
      joined (widened P looked.moments (λ c left. inl left)) (widened P leaves (λ c cut. inr (cut_left entries place (place + 1) (seen old) c read refl cut)))

-- the first bytes say why a file is refused
pub reason_head : (fault : JournalFault) (first file : List ℕ) → first ≡ take 10 file → IsHeadOf (Err fault) first → (IsNew file → ⊥) → IsReason fault file
reason_head NotAJournal first file first_is is_head not_new = (not_new, λ format rest lt e. is_head format lt (first_is ∙ ap (λ (l : List ℕ). take 10 l) e ∙ take_at (head format) rest 10 refl))
reason_head (OtherFormat format) first file first_is is_head not_new = (drop 10 file, sym (take-append-drop 10 file) ∙ ap (λ (l : List ℕ). l ++ drop 10 file) (sym first_is ∙ is_head.0), is_head.1, is_head.2)
reason_head fault first file first_is is_head not_new = absurd is_head

-- ten bytes that begin as a journal are a head of the format that their last two spell
pub head_read : (first number : List ℕ) (format : ℕ) → length first ≡ 10 → take 8 first ≡ codes "Jimetsal" → number ≡ take 2 (drop 8 first) → ((i : ℕ) → get_or first i 0 < 256) → format ≡ from_be_bytes w16 number → first ≡ head format
head_read first number format ten front number_is fits format_is =
    let two : length number ≡ 2 = ap length number_is ∙ omega (arith, length-take 2 (drop 8 first), length-drop 8 first, ten) in
    let spelled : u16 format ≡ number = be_bytes_2 number format two (λ i. rw number_is (byte_of_part 8 2 first fits i)) format_is in
    let back : drop 8 first ≡ u16 format = sym (take_all 2 (drop 8 first) (omega (arith, length-drop 8 first, ten))) ∙ sym number_is ∙ sym spelled in
    sym (take-append-drop 8 first) ∙ ap (λ (l : List ℕ). l ++ drop 8 first) front ∙ ap (λ (l : List ℕ). codes "Jimetsal" ++ l) back
