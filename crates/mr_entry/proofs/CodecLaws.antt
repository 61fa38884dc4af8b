-- The laws of what is spelled behind a kind, and of what is decoded from bytes, over any type of values.
use Rattle.std.proofs.Common.{◌≡◌, ℕ, ◌≤◌, ◌<◌, ◌%◌, Bool, true, false, cond, eqb, List, [], ◌∷◌, ◌++◌, length, take, Some, Result, Ok, Err, refl, sym, ap, subst, ◌∙◌, arith}
use Rattle.mr_entry.proofs.Names.{IfOk, Reader, Reads, as_at, as_takes, eqb-true, same_front, u8}

-- ---- what stands behind a kind

-- a byte is spelled by itself
pub byte_alone : (n : ℕ) → n < 256 → u8 n ≡ n ∷ []
byte_alone n lt = let e : n % 256 ≡ n = omega arith in ap (λ (m : ℕ). m ∷ []) e

module _ {V : Type 0} (kind_of : V → ℕ) (parts_of : V → List ℕ) (IsIn : V → Type 0) where
  -- what the bytes behind a kind tell
  pub record Takes (kind : ℕ) (bytes : List ℕ) (v : V) (rest : List ℕ) : Type 0 where
    pub parts : bytes ≡ parts_of v ++ rest
    pub kind_is : kind_of v ≡ kind
    pub in_grammar : IsIn v

  pub takes_of : {X : Type 0} {f : X → Type 0} {s : X → List ℕ} {at : Reader X} (to : X → V) (kind : ℕ) → Reads f s at → ((x : X) → s x ≡ parts_of (to x)) → ((x : X) → kind_of (to x) ≡ kind) → ((x : X) → f x → IsIn (to x)) →
      (bytes : List ℕ) (v : V) (rest : List ℕ) → as_at to at bytes ≡ Some (v, rest) → Takes kind bytes v rest
  takes_of to kind reads same kinds fits bytes v rest h =
      let t = as_takes to reads bytes v rest h in
      let whole : bytes ≡ parts_of (to t.0) ++ rest = t.2 ∙ ap (λ (z : List ℕ). z ++ rest) (same t.0) in
      subst (λ (x : V). Takes kind bytes x rest) (sym t.1) (record { parts = whole; kind_is = kinds t.0; in_grammar = fits t.0 t.3 })

-- what is told where the kind is this one, and where it is another, is told in any case
pub by_kind : {A : Type 0} (P : ℕ → Type 0) (kind n : ℕ) (found others y : A) → (found ≡ y → P n) → (others ≡ y → P kind) → cond (eqb kind n) found others ≡ y → P kind
by_kind {A} P kind n found others y here elsewhere e = at_test (eqb kind n) refl e
  where
    at_test : (b : Bool) → eqb kind n ≡ b → cond b found others ≡ y → P kind
    at_test true t e' = subst P (sym (eqb-true kind n t)) (here e')
    at_test false t e' = elsewhere e'

-- ---- values that are decoded

-- what is decoded is spelled by the bytes that it takes, and what is spelled is decoded again
pub record IsCodec {X E : Type 0} (IsSpelled : X → List ℕ → Type 0) (decoded : List ℕ → Result (X × ℕ) E) : Type 0 where
  pub takes : (bytes : List ℕ) (x : X) (n : ℕ) → decoded bytes ≡ Ok (x, n) → IsSpelled x (take n bytes) × (n ≤ length bytes)
  pub again : (x : X) (text more : List ℕ) → IsSpelled x text → decoded (text ++ more) ≡ Ok (x, length text)

module _ {X E : Type 0} {IsSpelled : X → List ℕ → Type 0} {decoded : List ℕ → Result (X × ℕ) E} (codec : IsCodec IsSpelled decoded) where
  pub is_found : (bytes text more : List ℕ) (x : X) → IsSpelled x text → bytes ≡ text ++ more → decoded bytes ≡ Ok (x, length text)
  is_found bytes text more x s same = ap decoded same ∙ codec.again x text more s

  -- what an answer says of the bytes, where answers that are no faults are what is decoded
  module _ (Answers : Result (X × ℕ) E → Result (X × ℕ) E → Type 0) (of_ok : (read : Result (X × ℕ) E) (x : X × ℕ) → Answers read (Ok x) → read ≡ Ok x) where
    pub record IsAnswered (bytes : List ℕ) (r : Result (X × ℕ) E) : Type 0 where
      pub spelled : IfOk r (λ found. IsSpelled found.0 (take found.1 bytes))
      pub within : IfOk r (λ found. found.1 ≤ length bytes)
      pub whole : (x : X) (text more : List ℕ) → IsSpelled x text → bytes ≡ text ++ more → Answers (Ok (x, length text)) r

    pub answered : (bytes : List ℕ) (r : Result (X × ℕ) E) → Answers (decoded bytes) r → IsAnswered bytes r
    answered bytes (Ok p) exact =
        let t = codec.takes bytes p.0 p.1 (of_ok (decoded bytes) p exact) in
        record { spelled = t.0; within = t.1; whole = λ x text more s same. subst (λ (read : Result (X × ℕ) E). Answers read (Ok p)) (is_found bytes text more x s same) exact }
    answered bytes (Err fault) exact = record { spelled = tt; within = tt; whole = λ x text more s same. subst (λ (read : Result (X × ℕ) E). Answers read (Err fault)) (is_found bytes text more x s same) exact }

  pub begins_no_other : (x y : X) (a b more left : List ℕ) → IsSpelled x a → IsSpelled y b → a ++ more ≡ b ++ left → (a ≡ b) × (x ≡ y)
  begins_no_other x y a b more left s t same = same_front decoded x y a b more left (codec.again x a more s) (codec.again y b left t) same
