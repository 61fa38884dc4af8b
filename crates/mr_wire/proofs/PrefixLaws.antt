-- What is found behind a length was spelled there, and what is spelled there is found again, over any type of faults.
use Rattle.std.proofs.Common.{◌≡◌, ℕ, ◌+◌, ◌≤◌, ◌<◌, ◌^◌, Bool, true, false, cond, eqb, List, [], ◌++◌, length, take, Option, Some, Result, Ok, Err, refl, sym, ap, subst, ◌∙◌, arith, append_assoc}
use Rattle.mr_wire.proofs.Names.{MAX_REST_BYTES, Reader, bytes_at, eqb-true, le-ltb, length-append, ltb-false, nat_lt, nil_from_length, number_at, take_at}
use Rattle.mr_wire.proofs.Names.{u32, w32, ◌>>=◌}
use Rattle.mr_wire.specs.Prefixed.{or_fault, and_then, RestFaults, rest_from, rest_of, whole_at}
use Rattle.mr_wire.proofs.Laws.{bind_some, test_some, reads_u32, reads_bytes}

-- ---- steps that may fail

module _ {E : Type 0} where
  pub then_ok : {X Y : Type 0} (r : Result X E) (f : X → Result Y E) (y : Y) → and_then r f ≡ Ok y → (x : X) × (r ≡ Ok x) × (f x ≡ Ok y)
  then_ok r f y e = grind arith

  pub or_ok : {X : Type 0} (fault : E) (o : Option X) (x : X) → or_fault fault o ≡ Ok x → o ≡ Some x
  or_ok fault o x e = grind arith

  pub test_err : {X : Type 0} (b : Bool) (fault : E) (r : Result X E) (x : X) → cond b (Err fault) r ≡ Ok x → (b ≡ false) × (r ≡ Ok x)
  test_err b fault r x e = grind arith

  pub test_ok : {X : Type 0} (b : Bool) (r : Result X E) (fault : E) (x : X) → cond b r (Err fault) ≡ Ok x → (b ≡ true) × (r ≡ Ok x)
  test_ok b r fault x e = grind arith

-- ---- the rest behind the length

-- what the rest tells of the bytes
pub record TakesRest (bytes rest : List ℕ) : Type 0 where
  pub more : List ℕ
  pub whole : bytes ≡ (u32 (length rest) ++ rest) ++ more
  pub few : length rest ≤ MAX_REST_BYTES

module _ {E : Type 0} (faults : RestFaults E) where
  pub rest_takes : (bytes rest : List ℕ) → rest_of faults bytes ≡ Ok rest → TakesRest bytes rest
  rest_takes bytes rest e =
      let a = then_ok (or_fault faults.truncated (number_at w32 bytes)) (rest_from faults) rest e in
      let number = or_ok faults.truncated (number_at w32 bytes) a.0 a.1 in
      let b = test_err (nat_lt MAX_REST_BYTES a.0.0) faults.too_long (cond (nat_lt a.0.0 2) (Err faults.bad_body) (or_fault faults.truncated (bytes_at a.0.0 a.0.1 >>= λ found. Some found.0))) rest a.2 in
      let c = test_err (nat_lt a.0.0 2) faults.bad_body (or_fault faults.truncated (bytes_at a.0.0 a.0.1 >>= λ found. Some found.0)) rest b.1 in
      let d = bind_some (bytes_at a.0.0 a.0.1) (λ found. Some found.0) rest (or_ok faults.truncated (bytes_at a.0.0 a.0.1 >>= λ found. Some found.0) rest c.1) in
      let rest_is : d.0.0 ≡ rest = cc in
      let t = reads_u32.takes bytes a.0.0 a.0.1 number in
      let v = (reads_bytes a.0.0).takes a.0.1 d.0.0 d.0.1 d.1 in
      let len : length rest ≡ a.0.0 = ap length (sym rest_is) ∙ v.1.0 in
      record {
        more = d.0.1;
        whole = t.0 ∙ ap (λ (z : List ℕ). u32 a.0.0 ++ z) v.0 ∙ ap (λ (z : List ℕ). u32 a.0.0 ++ (z ++ d.0.1)) rest_is ∙ sym (append_assoc (u32 a.0.0) rest d.0.1) ∙ ap (λ (n : ℕ). (u32 n ++ rest) ++ d.0.1) (sym len);
        few = omega (arith, len, ltb-false _ _ b.0);
      }

  pub rest_again : (rest more : List ℕ) → 2 ≤ length rest → length rest ≤ MAX_REST_BYTES → rest_of faults ((u32 (length rest) ++ rest) ++ more) ≡ Ok rest
  rest_again rest more low few =
      let fits : length rest < 2 ^ 32 = omega arith in
      let not_long : nat_lt MAX_REST_BYTES (length rest) ≡ false = le-ltb _ _ few in
      let not_short : nat_lt (length rest) 2 ≡ false = le-ltb _ _ low in
      ap (rest_of faults) (append_assoc (u32 (length rest)) rest more)
      ∙ rw (reads_u32.again (length rest) (rest ++ more) fits, not_long, not_short, (reads_bytes (length rest)).again rest more (refl, tt)) refl

-- ---- the kind

-- a kind is found by its own byte, if those behind it are
pub kind_step : {K : Type 0} (kind_byte : K → ℕ) (byte : ℕ) (x k : K) (o : Option K) → (o ≡ Some k → byte ≡ kind_byte k) → cond (eqb byte (kind_byte x)) (Some x) o ≡ Some k → byte ≡ kind_byte k
kind_step kind_byte byte x k o others e = grind (arith, eqb, eqb-true)

-- ---- all of the bytes

-- a part that takes all of the bytes is read with nothing behind it
pub whole_found : {X : Type 0} (at : Reader X) (bytes : List ℕ) (x : X) → whole_at at bytes ≡ Some x → at bytes ≡ Some (x, [])
whole_found at bytes x e = grind (arith, bind_some, eqb, test_some, nil_from_length, eqb-true)

-- ---- a value behind a length

-- what such a value and its size tell of the bytes
pub record IsBehind {K X E : Type 0} (head : List ℕ → Result (K × List ℕ) E) (whole : K → List ℕ → Option X) (bytes : List ℕ) (x : X) (n : ℕ) : Type 0 where
  pub rest : List ℕ
  pub kind : K
  pub parts : List ℕ
  pub headed : head rest ≡ Ok (kind, parts)
  pub found : whole kind parts ≡ Some x
  pub few : length rest ≤ MAX_REST_BYTES
  pub written : take n bytes ≡ u32 (length rest) ++ rest
  pub within : n ≤ length bytes

module _ {K X E : Type 0} (faults : RestFaults E) (bad : E) (head : List ℕ → Result (K × List ℕ) E) (whole : K → List ℕ → Option X) where
  -- the value that the rest is, and its size with the length
  abbrev pub value_of : List ℕ → Result (X × ℕ) E
  value_of rest = and_then (head rest) (λ h. or_fault bad (whole h.0 h.1 >>= λ x. Some (x, length rest + 4)))

  pub value_takes : (bytes : List ℕ) (x : X) (n : ℕ) → and_then (rest_of faults bytes) value_of ≡ Ok (x, n) → IsBehind head whole bytes x n
  value_takes bytes x n e =
      let a = then_ok (rest_of faults bytes) value_of (x, n) e in
      let rest = a.0 in
      let b = then_ok (head rest) (λ h. or_fault bad (whole h.0 h.1 >>= λ x. Some (x, length rest + 4))) (x, n) a.2 in
      let c = bind_some (whole b.0.0 b.0.1) (λ x. Some (x, length rest + 4)) (x, n) (or_ok bad (whole b.0.0 b.0.1 >>= λ x. Some (x, length rest + 4)) (x, n) b.2) in
      let is : (c.0, length rest + 4) ≡ (x, n) = cc in
      let t = rest_takes faults bytes rest a.1 in
      let text : List ℕ = u32 (length rest) ++ rest in
      let len : length text ≡ length rest + 4 = omega (arith, length-append (u32 (length rest)) rest) in
      let made : IsBehind head whole bytes c.0 (length rest + 4) = record {
        rest = rest;
        kind = b.0.0;
        parts = b.0.1;
        headed = b.1;
        found = c.1;
        few = t.few;
        written = ap (take (length rest + 4)) t.whole ∙ take_at text t.more (length rest + 4) len;
        within = omega (arith, ap length t.whole, length-append text t.more, len);
      } in
      subst (λ (p : X × ℕ). IsBehind head whole bytes p.0 p.1) is made

  pub value_again : (rest more : List ℕ) (k : K) (parts : List ℕ) (x : X) → 2 ≤ length rest → length rest ≤ MAX_REST_BYTES → head rest ≡ Ok (k, parts) → whole k parts ≡ Some x →
      and_then (rest_of faults ((u32 (length rest) ++ rest) ++ more)) value_of ≡ Ok (x, length rest + 4)
  value_again rest more k parts x low few headed found = grind (arith, rest_again)

-- of two texts that are decoded to their ends, neither begins the other
pub same_front : {X E : Type 0} (decoded : List ℕ → Result (X × ℕ) E) (f g : X) (a b x y : List ℕ) → decoded (a ++ x) ≡ Ok (f, length a) → decoded (b ++ y) ≡ Ok (g, length b) → a ++ x ≡ b ++ y → (a ≡ b) × (f ≡ g)
same_front {X} {E} decoded f g a b x y first second e =
    let pair : (f, length a) ≡ (g, length b) = ok_is (f, length a) (g, length b) (sym first ∙ ap decoded e ∙ second) in
    let len : length a ≡ length b = ap (λ (p : X × ℕ). p.1) pair in
    (sym (take_at a x (length a) refl) ∙ ap (take (length a)) e ∙ take_at b y (length a) (sym len), ap (λ (p : X × ℕ). p.0) pair)
  where
    ok_is : (p q : X × ℕ) → ◌≡◌ {A = Result (X × ℕ) E} (Ok p) (Ok q) → p ≡ q
    ok_is p q h = cc
