-- what a crash makes of a write behind a closed gate, of one over the gate, and of a cut
use Rattle.std.proofs.Common.{◌≡◌, ◌⊎◌, inl, inr, ⊎_elim, ℕ, zero, suc, ◌+◌, ◌<◌, List, [], ◌∷◌, ◌++◌, length, take, drop, sym, ◌∙◌, ap, subst, arith, length-append, length-drop, take-append-drop, append_assoc}
use Rattle.mr_journal.proofs.Names.{IsOldOrWritten, IsStaged, Torn, append-nil, drop_all, drop_at, ext_get_or, get_or-take, length-take-le, overwritten}
use Rattle.mr_journal.proofs.Names.{take_all, take_at}
use native.Mathlib.Numerals.{unary_clauses}

-- a write at the end leaves what was there
pub torn_end : (file bytes c : List ℕ) → Torn (length file) bytes file c → c ≡ file ++ drop (length file) c
torn_end file bytes c torn =
    let front : take (length file) c ≡ file = ext_get_or 0 _ _ (length-take-le (length file) c torn.no_shorter) (λ i lt. let below : i < length file = omega (arith, lt, length-take-le (length file) c torn.no_shorter) in get_or-take (length file) c i 0 below ∙ ⊎_elim (λ same. same) (λ written. absurd (omega (arith, written.0, below))) (torn.each i below)) in
    sym (take-append-drop (length file) c) ∙ ap (λ (l : List ℕ). l ++ drop (length file) c) front

-- a write of one byte leaves that byte old or new
one_byte : (front : List ℕ) (a b : ℕ) (rest c : List ℕ) → length c ≡ length (front ++ (a ∷ rest)) → ((i : ℕ) → i < length (front ++ (a ∷ rest)) → IsOldOrWritten (length front) (b ∷ []) (front ++ (a ∷ rest)) c i)
    → (c ≡ front ++ (a ∷ rest)) ⊎ (c ≡ front ++ (b ∷ rest))
one_byte [] a b rest [] len each = absurd (omega (arith, len))
one_byte [] a b rest (x ∷ c) len each =
    let same : c ≡ rest = ext_get_or 0 c rest (omega (arith, len)) (λ i lt. ⊎_elim (λ same. same) (λ written. absurd (omega (arith, written.1))) (each (suc i) (omega (arith, lt, len)))) in
    ⊎_elim (λ old. inl (λ i. old i ∷ same i)) (λ written. inr (λ i. written.2 i ∷ same i)) (each zero (omega arith))
one_byte (f ∷ front) a b rest [] len each = absurd (omega (arith, len))
one_byte (f ∷ front) a b rest (x ∷ c) len each =
    let same : x ≡ f = ⊎_elim (λ old. old) (λ written. absurd (omega (arith, written.0))) (each zero (omega arith)) in
    let later = one_byte front a b rest c (omega (arith, len)) (λ i lt. ⊎_elim (λ old. inl old) (λ written. inr (omega (arith, written.0), omega (arith, written.1), simp unary_clauses at written.2)) (each (suc i) (omega (arith, lt)))) in
    ⊎_elim (λ old. inl (λ i. same i ∷ old i)) (λ new. inr (λ i. same i ∷ new i)) later

-- bytes that are written behind a closed gate count for nothing
pub staged : (front bytes : List ℕ) (at : ℕ) (c : List ℕ) → at ≡ length front + 1 → Torn at bytes (front ++ (0 ∷ [])) c → IsStaged front (length bytes) c
staged front bytes at c is torn =
    let long : length (front ++ (0 ∷ [])) ≡ at = omega (arith, is, length-append front (0 ∷ [])) in
    let tail = drop (length (front ++ (0 ∷ []))) c in
    let at_end = torn_end (front ++ (0 ∷ [])) bytes c (subst (λ (n : ℕ). Torn n bytes (front ++ (0 ∷ [])) c) (sym long) torn) in
    record {
      tail = tail;
      file_is = at_end ∙ append_assoc front (0 ∷ []) tail;
      few = omega (arith, length-drop (length (front ++ (0 ∷ []))) c, torn.no_longer, long);
    }

pub staged_written : (front bytes : List ℕ) (at : ℕ) → at ≡ length front + 1 → overwritten (front ++ (0 ∷ [])) at bytes ≡ front ++ (0 ∷ bytes)
staged_written front bytes at is =
    let file = front ++ (0 ∷ []) in
    let long : length file ≡ at = omega (arith, is, length-append front (0 ∷ [])) in
    ap (λ (l : List ℕ). l ++ (bytes ++ drop (at + length bytes) file)) (take_all at file (omega (arith, long)))
    ∙ ap (λ (l : List ℕ). file ++ (bytes ++ l)) (drop_all (at + length bytes) file (omega (arith, long)))
    ∙ ap (λ (l : List ℕ). file ++ l) (append-nil bytes)
    ∙ append_assoc front (0 ∷ []) bytes

-- the gate is closed, or open before all that was staged
pub gate : (front bytes : List ℕ) (at opened : ℕ) (c : List ℕ) → at ≡ length front → Torn at (opened ∷ []) (front ++ (0 ∷ bytes)) c → IsStaged front (length bytes) c ⊎ (c ≡ front ++ (opened ∷ bytes))
gate front bytes at opened c is torn =
    let file = front ++ (0 ∷ bytes) in
    let same_length : length c ≡ length file = omega (arith, torn.no_shorter, torn.no_longer, is, length-append front (0 ∷ bytes)) in
    let torn_at = subst (λ (n : ℕ). Torn n (opened ∷ []) file c) is torn in
    ⊎_elim (λ old. inl (record { tail = bytes; file_is = old; few = omega arith })) (λ new. inr new) (one_byte front 0 opened bytes c same_length torn_at.each)

pub gate_written : (front bytes : List ℕ) (at opened : ℕ) → at ≡ length front → overwritten (front ++ (0 ∷ bytes)) at (opened ∷ []) ≡ front ++ (opened ∷ bytes)
gate_written front bytes at opened is =
    let file = front ++ (0 ∷ bytes) in
    let behind : drop (at + 1) file ≡ bytes = ap (λ (l : List ℕ). drop (at + 1) l) (sym (append_assoc front (0 ∷ []) bytes)) ∙ drop_at (front ++ (0 ∷ [])) bytes (at + 1) (omega (arith, is, length-append front (0 ∷ []))) in
    ap (λ (l : List ℕ). l ++ ((opened ∷ []) ++ drop (at + 1) file)) (take_at front (0 ∷ bytes) at (sym is))
    ∙ ap (λ (l : List ℕ). front ++ (opened ∷ l)) behind
