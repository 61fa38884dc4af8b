-- What is read respells the bytes that it took, and what is spelled is read again.
use Rattle.std.proofs.Common.{◌≡◌, ℕ, zero, suc, ◌^◌, ◌<◌, ◌≤◌, ◌%◌, ◌&&◌, Bool, true, false, cond, ltb, List, [], ◌∷◌, ◌++◌, length, get_or, take, drop, Option, Some, None, refl, sym, ap, subst, ◌∙◌, append_assoc, arith}
use Rattle.mr_wire.proofs.Names.{Reader, Width, as_at, byte_len, bytes_at, counted_at, drop_at, flat_map, flat_map-cons, from_be_bytes, is_byte, le-ltb}
use Rattle.mr_wire.proofs.Names.{length-append, length-take, list_all, lt-ltb, ltb-false, ltb-true, number_at, only_at, take-append-drop, take_at}
use Rattle.mr_wire.specs.Reading.{run_at}
use Rattle.mr_wire.proofs.Names.{then_at, to_be_bytes, w16, w32, w64, w8, ◌>>=◌}
use Rattle.std.proofs.lemmas.Nat.{be_bytes_2, be_bytes_4, be_bytes_8, from_be_bytes-to_be_bytes_2, from_be_bytes-to_be_bytes_4, from_be_bytes-to_be_bytes_8}

pub record Reads {X : Type 0} (fits : X → Type 0) (spell : X → List ℕ) (at : Reader X) : Type 0 where
  pub takes : (bytes : List ℕ) (x : X) (rest : List ℕ) → at bytes ≡ Some (x, rest) → (bytes ≡ spell x ++ rest) × fits x
  pub again : (x : X) (rest : List ℕ) → fits x → at (spell x ++ rest) ≡ Some (x, rest)

-- the value of a step that did not fail
pub bind_some : {A B : Type 0} (o : Option A) (f : A → Option B) (y : B) → (o >>= f) ≡ Some y → (x : A) × (o ≡ Some x) × (f x ≡ Some y)
bind_some o f y e = grind arith

pub test_some : {A : Type 0} (b : Bool) (x y : A) → cond b (Some x) None ≡ Some y → (b ≡ true) × (x ≡ y)
test_some b x y e = grind arith

pub test_none : {A : Type 0} (b : Bool) (o : Option A) (y : A) → cond b None o ≡ Some y → (b ≡ false) × (o ≡ Some y)
test_none b o y e = grind arith

pub some_is : {A : Type 0} (x y : A) → ◌≡◌ {A = Option A} (Some x) (Some y) → x ≡ y
some_is x y e = cc

-- a part with the same fits and the same spelling, said in another way
pub reads_like : {X : Type 0} {f : X → Type 0} {s : X → List ℕ} {r : Reader X} (g : X → Type 0) (u : X → List ℕ) → Reads f s r → ((x : X) → f x → g x) → ((x : X) → g x → f x) → ((x : X) → s x ≡ u x) → Reads g u r
reads_like {X} {f} {s} {r} g u reads to from same = record {
  takes = λ bytes x rest e. let t = reads.takes bytes x rest e in (t.0 ∙ ap (λ (y : List ℕ). y ++ rest) (same x), to x t.1);
  again = λ x rest h. ap (λ (y : List ℕ). r (y ++ rest)) (sym (same x)) ∙ reads.again x rest (from x h);
}

pub reads_only : {X : Type 0} {f : X → Type 0} {s : X → List ℕ} {r : Reader X} (test : X → Bool) → Reads f s r → Reads (λ x. f x × (test x ≡ true)) s (only_at test r)
reads_only {X} {f} {s} {r} test reads = record {
  takes = λ bytes x rest e.
      let a = bind_some (r bytes) (λ y. cond (test y.0) (Some y) None) (x, rest) e in
      let b = test_some (test a.0.0) a.0 (x, rest) a.2 in
      let t = reads.takes bytes a.0.0 a.0.1 a.1 in
      subst (λ (p : X × List ℕ). (bytes ≡ s p.0 ++ p.1) × (f p.0 × (test p.0 ≡ true))) b.1 (t.0, (t.1, b.0));
  again = λ x rest h. rw (reads.again x rest h.0, h.1) refl;
}

pub reads_as : {X Y : Type 0} {f : X → Type 0} {s : X → List ℕ} {r : Reader X} (to : X → Y) (from : Y → X) → ((y : Y) → to (from y) ≡ y) → ((x : X) → from (to x) ≡ x) → Reads f s r →
    Reads (λ y. f (from y)) (λ y. s (from y)) (as_at to r)
reads_as {X} {Y} {f} {s} {r} to from there back reads = record {
  takes = λ bytes y rest e.
      let a = bind_some (r bytes) (λ x. Some (to x.0, x.1)) (y, rest) e in
      let t = reads.takes bytes a.0.0 a.0.1 a.1 in
      let is : (to a.0.0, a.0.1) ≡ (y, rest) = some_is (to a.0.0, a.0.1) (y, rest) a.2 in
      let whole : (bytes ≡ s (from (to a.0.0)) ++ a.0.1) × f (from (to a.0.0)) = subst (λ (x : X). (bytes ≡ s x ++ a.0.1) × f x) (sym (back a.0.0)) t in
      subst (λ (p : Y × List ℕ). (bytes ≡ s (from p.0) ++ p.1) × f (from p.0)) is whole;
  again = λ y rest h. rw (reads.again (from y) rest h, there y) refl;
}

pub reads_then : {X Y : Type 0} {f : X → Type 0} {s : X → List ℕ} {r : Reader X} {g : X → Y → Type 0} {u : X → Y → List ℕ} {q : X → Reader Y} → Reads f s r → ((x : X) → Reads (g x) (u x) (q x)) →
    Reads (λ (p : X × Y). f p.0 × g p.0 p.1) (λ p. s p.0 ++ u p.0 p.1) (then_at r q)
reads_then {X} {Y} {f} {s} {r} {g} {u} {q} first second = record {
  takes = λ bytes p rest e.
      let a = bind_some (r bytes) (λ x. q x.0 x.1 >>= λ y. Some ((x.0, y.0), y.1)) (p, rest) e in
      let b = bind_some (q a.0.0 a.0.1) (λ y. Some ((a.0.0, y.0), y.1)) (p, rest) a.2 in
      let t = first.takes bytes a.0.0 a.0.1 a.1 in
      let v = (second a.0.0).takes a.0.1 b.0.0 b.0.1 b.1 in
      let is : ((a.0.0, b.0.0), b.0.1) ≡ (p, rest) = some_is ((a.0.0, b.0.0), b.0.1) (p, rest) b.2 in
      let whole : bytes ≡ (s a.0.0 ++ u a.0.0 b.0.0) ++ b.0.1 = t.0 ∙ ap (λ (z : List ℕ). s a.0.0 ++ z) v.0 ∙ sym (append_assoc (s a.0.0) (u a.0.0 b.0.0) b.0.1) in
      subst (λ (w : (X × Y) × List ℕ). (bytes ≡ (s w.0.0 ++ u w.0.0 w.0.1) ++ w.1) × (f w.0.0 × g w.0.0 w.0.1)) is (whole, (t.1, v.1));
  again = λ p rest h.
      ap (then_at r q) (append_assoc (s p.0) (u p.0 p.1) rest) ∙ rw (first.again p.0 (u p.0 p.1 ++ rest) h.0, (second p.0).again p.1 rest h.1) refl;
}

pub reads_counted : {X : Type 0} {c : ℕ → Type 0} {k : ℕ → List ℕ} {count : Reader ℕ} {g : X → Type 0} {u : X → List ℕ} {q : ℕ → Reader X} (size : X → ℕ) → Reads c k count → ((n : ℕ) → Reads (λ x. (size x ≡ n) × g x) u (q n)) →
    Reads (λ x. c (size x) × g x) (λ x. k (size x) ++ u x) (counted_at count q)
reads_counted {X} {c} {k} {count} {g} {u} {q} size first second = record {
  takes = λ bytes x rest e.
      let a = bind_some (count bytes) (λ n. q n.0 n.1) (x, rest) e in
      let t = first.takes bytes a.0.0 a.0.1 a.1 in
      let v = (second a.0.0).takes a.0.1 x rest a.2 in
      let whole : bytes ≡ (k a.0.0 ++ u x) ++ rest = t.0 ∙ ap (λ (z : List ℕ). k a.0.0 ++ z) v.0 ∙ sym (append_assoc (k a.0.0) (u x) rest) in
      subst (λ (n : ℕ). (bytes ≡ (k n ++ u x) ++ rest) × (c n × g x)) (sym v.1.0) (whole, (t.1, v.1.1));
  again = λ x rest h.
      ap (counted_at count q) (append_assoc (k (size x)) (u x) rest) ∙ rw (first.again (size x) (u x ++ rest) h.0) ((second (size x)).again x rest (refl, h.1));
}

module _ {S X : Type 0} (fits : S → X → Type 0) (next : S → X → S) where
  -- each part fits in the light of those before it
  abbrev pub RunFits : S → List X → Type 0
  RunFits s [] = Unit {0}
  RunFits s (x ∷ xs) = fits s x × RunFits (next s x) xs

module _ {S X : Type 0} {fits : S → X → Type 0} {spell : X → List ℕ} {at : S → Reader X} (next : S → X → S) (reads : (s : S) → Reads (fits s) spell (at s)) where
  run_takes : (n : ℕ) (s : S) (bytes : List ℕ) (xs : List X) (rest : List ℕ) → run_at at next s n bytes ≡ Some (xs, rest) → (bytes ≡ flat_map spell xs ++ rest) × ((length xs ≡ n) × RunFits fits next s xs)
  unfolding run_at
  run_takes zero s bytes xs rest e =
      subst (λ (p : List X × List ℕ). (bytes ≡ flat_map spell p.0 ++ p.1) × ((length p.0 ≡ 0) × RunFits fits next s p.0)) (some_is ([], bytes) (xs, rest) e) (refl, (refl, tt))
  run_takes (suc n) s bytes xs rest e =
      let a = bind_some (at s bytes) (λ x. run_at at next (next s x.0) n x.1 >>= λ ys. Some (x.0 ∷ ys.0, ys.1)) (xs, rest) e in
      let b = bind_some (run_at at next (next s a.0.0) n a.0.1) (λ ys. Some (a.0.0 ∷ ys.0, ys.1)) (xs, rest) a.2 in
      let t = (reads s).takes bytes a.0.0 a.0.1 a.1 in
      let v = run_takes n (next s a.0.0) a.0.1 b.0.0 b.0.1 b.1 in
      let whole : bytes ≡ flat_map spell (a.0.0 ∷ b.0.0) ++ b.0.1 = t.0 ∙ ap (λ (z : List ℕ). spell a.0.0 ++ z) v.0 ∙ sym (append_assoc (spell a.0.0) (flat_map spell b.0.0) b.0.1) ∙ ap (λ (z : List ℕ). z ++ b.0.1) (sym (flat_map-cons spell a.0.0 b.0.0)) in
      subst (λ (p : List X × List ℕ). (bytes ≡ flat_map spell p.0 ++ p.1) × ((length p.0 ≡ suc n) × RunFits fits next s p.0)) (some_is (a.0.0 ∷ b.0.0, b.0.1) (xs, rest) b.2) (whole, (ap suc v.1.0, (t.1, v.1.1)))

  run_again : (xs : List X) (s : S) (rest : List ℕ) → RunFits fits next s xs → run_at at next s (length xs) (flat_map spell xs ++ rest) ≡ Some (xs, rest)
  unfolding run_at
  run_again [] s rest h = refl
  run_again (x ∷ xs) s rest h = grind (arith, run_again xs, flat_map-cons, append_assoc)

  pub reads_run : (s : S) (n : ℕ) → Reads (λ xs. (length xs ≡ n) × RunFits fits next s xs) (flat_map spell) (run_at at next s n)
  reads_run s n = record {
    takes = λ bytes xs rest e. run_takes n s bytes xs rest e;
    again = λ xs rest h. subst (λ (m : ℕ). run_at at next s m (flat_map spell xs ++ rest) ≡ Some (xs, rest)) h.0 (run_again xs s rest h.1);
  }

-- ---- numbers

abbrev IsBytes : List ℕ → Type 0
IsBytes bytes = (i : ℕ) → get_or bytes i 0 < 256

pub and_left : (a b : Bool) → (a && b) ≡ true → a ≡ true
and_left a b h = grind arith

pub and_right : (a b : Bool) → (a && b) ≡ true → b ≡ true
and_right a b h = grind arith

are_bytes : (bytes : List ℕ) → list_all is_byte bytes ≡ true → IsBytes bytes
are_bytes [] h i = omega arith
are_bytes (b ∷ bytes) h zero = ltb-true b 256 (and_left (is_byte b) (list_all is_byte bytes) h)
are_bytes (b ∷ bytes) h (suc i) = are_bytes bytes (and_right (is_byte b) (list_all is_byte bytes) h) i

low_byte : (n : ℕ) → is_byte (n % 256) ≡ true
low_byte n = lt-ltb (n % 256) 256 (omega arith)

record IsWide (w : Width) (limit : ℕ) : Type 0 where
  pub len : (n : ℕ) → length (to_be_bytes w n) ≡ byte_len w
  pub back : (bytes : List ℕ) → length bytes ≡ byte_len w → IsBytes bytes → to_be_bytes w (from_be_bytes w bytes) ≡ bytes
  pub again : (n : ℕ) → n < limit → from_be_bytes w (to_be_bytes w n) ≡ n
  pub below : (bytes : List ℕ) → IsBytes bytes → from_be_bytes w bytes < limit
  pub are_bytes : (n : ℕ) → list_all is_byte (to_be_bytes w n) ≡ true

one_byte : (bytes : List ℕ) → length bytes ≡ 1 → IsBytes bytes → to_be_bytes w8 (from_be_bytes w8 bytes) ≡ bytes
one_byte [] len fits = absurd (omega arith)
one_byte (b ∷ []) len fits = let lt : b < 256 = fits 0 in let e : b % 256 ≡ b = omega arith in ap (λ (n : ℕ). n ∷ []) e
one_byte (b ∷ c ∷ bytes) len fits = absurd (omega arith)

wide8 : IsWide w8 256
wide8 = grind (arith, one_byte, are_bytes, low_byte)

wide16 : IsWide w16 (2 ^ 16)
wide16 = grind (arith, be_bytes_2, from_be_bytes-to_be_bytes_2, are_bytes, low_byte)

wide32 : IsWide w32 (2 ^ 32)
wide32 = grind (arith, be_bytes_4, from_be_bytes-to_be_bytes_4, are_bytes, low_byte)

wide64 : IsWide w64 (2 ^ 64)
wide64 = grind (arith, be_bytes_8, from_be_bytes-to_be_bytes_8, are_bytes, low_byte)

number_takes : (w : Width) (limit : ℕ) (wide : IsWide w limit) (bytes : List ℕ) (n : ℕ) (rest : List ℕ) → number_at w bytes ≡ Some (n, rest) → (bytes ≡ to_be_bytes w n ++ rest) × (n < limit)
number_takes w limit wide bytes n rest e =
    let front = take (byte_len w) bytes in
    let found : ℕ × List ℕ = (from_be_bytes w front, drop (byte_len w) bytes) in
    let g = test_none (ltb (length bytes) (byte_len w)) (cond (list_all is_byte front) (Some found) None) (n, rest) e in
    let h = test_some (list_all is_byte front) found (n, rest) g.1 in
    let long : byte_len w ≤ length bytes = ltb-false _ _ g.0 in
    let are = are_bytes front h.0 in
    let back : to_be_bytes w (from_be_bytes w front) ≡ front = wide.back front (omega (arith, length-take (byte_len w) bytes)) are in
    let whole : bytes ≡ to_be_bytes w (from_be_bytes w front) ++ drop (byte_len w) bytes = sym (take-append-drop (byte_len w) bytes) ∙ ap (λ (z : List ℕ). z ++ drop (byte_len w) bytes) (sym back) in
    subst (λ (p : ℕ × List ℕ). (bytes ≡ to_be_bytes w p.0 ++ p.1) × (p.0 < limit)) h.1 (whole, wide.below front are)

number_again : (w : Width) (limit : ℕ) (wide : IsWide w limit) (n : ℕ) (rest : List ℕ) → n < limit → number_at w (to_be_bytes w n ++ rest) ≡ Some (n, rest)
number_again w limit wide n rest lt = grind (arith, ltb, le-ltb, length-append, take_at, are_bytes, drop_at)

reads_number : (w : Width) (limit : ℕ) → IsWide w limit → Reads (λ n. n < limit) (to_be_bytes w) (number_at w)
reads_number w limit wide = record { takes = number_takes w limit wide; again = number_again w limit wide }

pub reads_u8 : Reads (λ n. n < 256) (to_be_bytes w8) (number_at w8)
reads_u8 = reads_number w8 256 wide8

pub reads_u16 : Reads (λ n. n < 2 ^ 16) (to_be_bytes w16) (number_at w16)
reads_u16 = reads_number w16 (2 ^ 16) wide16

pub reads_u32 : Reads (λ n. n < 2 ^ 32) (to_be_bytes w32) (number_at w32)
reads_u32 = reads_number w32 (2 ^ 32) wide32

pub reads_u64 : Reads (λ n. n < 2 ^ 64) (to_be_bytes w64) (number_at w64)
reads_u64 = reads_number w64 (2 ^ 64) wide64

-- ---- texts

bytes_take : (n : ℕ) (bytes text rest : List ℕ) → bytes_at n bytes ≡ Some (text, rest) → (bytes ≡ text ++ rest) × ((length text ≡ n) × Unit {0})
bytes_take n bytes text rest e = grind (arith, test_none, ltb, some_is, ltb-false, take-append-drop, length-take)

bytes_again : (n : ℕ) (text rest : List ℕ) → length text ≡ n → bytes_at n (text ++ rest) ≡ Some (text, rest)
bytes_again n text rest len = grind (arith, ltb, le-ltb, length-append, take_at, drop_at)

pub reads_bytes : (n : ℕ) → Reads (λ text. (length text ≡ n) × Unit {0}) (λ text. text) (bytes_at n)
reads_bytes n = record { takes = bytes_take n; again = λ text rest h. bytes_again n text rest h.0 }
