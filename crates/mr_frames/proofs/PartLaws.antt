-- When the bytes of a frame are not all there, as its length tells.
use Rattle.std.proofs.Common.{◌≡◌, ◌≢◌, ℕ, zero, suc, ◌+◌, ◌-◌, ◌<◌, ◌≤◌, Bool, true, false, cond, List, [], ◌∷◌, ◌++◌, length, get_or, take, drop, Option, Some, None, Result, Err, refl, sym, ap, subst, ◌∙◌, arith}
use Rattle.std.specs.Prelude.{◌↔◌, ◌==◌, ◌||◌, IsTrue, nat_lt}
use Rattle.std.specs.Int.{w32, from_be_bytes}
use Rattle.std.specs.List.{list_all}
use Rattle.std.proofs.lemmas.List.{length-drop, length-append, take-append-drop, take-append-le}
use Rattle.std.proofs.lemmas.Bool.{ltb-false, ltb-true, le-ltb, lt-ltb}
use Rattle.byteorder.specs.Endian.{big_number}
use Rattle.mr_wire.specs.declared.decoding.TheConstants.{MAX_REST_BYTES}
use Rattle.mr_wire.specs.declared.fault.WireFault.{WireFault}
use Rattle.mr_wire.specs.declared.frame.Frame.{Frame}
use Rattle.mr_wire.specs.declared.kind.Kind.{Kind}
use Rattle.mr_wire.specs.Kinds.{kind_of_byte}
use Rattle.mr_wire.specs.declared.fault.WireFault.TheVariants.{Truncated, BadFormat, BadKind, BadBody}
use Rattle.mr_wire.specs.Grammar.{Spells}
use Rattle.mr_wire.specs.FrameSpelling.{rest_bytes}
use Rattle.mr_wire.specs.Spelling.{u32}
use Rattle.mr_wire.specs.Reading.{◌>>=◌, is_byte, number_at}
use Rattle.mr_wire.proofs.Laws.{reads_u32}
use Rattle.mr_wire.specs.Decoding.{decoded, kind_and_parts, whole_frame, and_then, or_fault}

abbrev IsBytes : List ℕ → Type 0
IsBytes bytes = (i : ℕ) → get_or bytes i 0 < 256

-- the first four bytes as one number, in the words of both libraries
four : (bytes : List ℕ) → 4 ≤ length bytes → big_number 4 bytes ≡ from_be_bytes w32 (take 4 bytes)
four [] h = absurd (omega arith)
four (a ∷ []) h = absurd (omega arith)
four (a ∷ b ∷ []) h = absurd (omega arith)
four (a ∷ b ∷ c ∷ []) h = absurd (omega arith)
four (a ∷ b ∷ c ∷ d ∷ more) h = omega arith

all_bytes : (n : ℕ) (bytes : List ℕ) → IsBytes bytes → list_all is_byte (take n bytes) ≡ true
all_bytes zero bytes h = refl
all_bytes (suc n) [] h = refl
all_bytes (suc n) (b ∷ bytes) h = rw (lt-ltb b 256 (h 0)) (all_bytes n bytes (λ i. h (suc i)))

-- what comes of the bytes behind the length
behind : List ℕ → Result (Frame × ℕ) WireFault
behind rest = and_then (kind_and_parts rest) (λ head. or_fault BadBody (whole_frame head.0 head.1 >>= λ f. Some (f, length rest + 4)))

not_behind : (rest : List ℕ) → behind rest ≡ Err Truncated → ⊥
unfolding behind
not_behind [] e = cc
not_behind (format ∷ []) e = cc
not_behind (format ∷ byte ∷ parts) e = at_format (format == 1 || format == 2) (kind_of_byte format byte) (length (format ∷ byte ∷ parts) + 4) e
  where
    at_frame : (found : Option Frame) (n : ℕ) → or_fault {X = Frame × ℕ} BadBody (found >>= λ f. Some (f, n)) ≡ Err Truncated → ⊥
    at_frame None n e' = cc
    at_frame (Some f) n e' = cc

    at_format : (b : Bool) (k : Option Kind) (n : ℕ) →
        and_then {X = Kind × List ℕ} {Y = Frame × ℕ} (cond b (or_fault BadKind (k >>= λ kind. Some (kind, parts))) (Err BadFormat)) (λ head. or_fault BadBody (whole_frame head.0 head.1 >>= λ f. Some (f, n))) ≡ Err Truncated → ⊥
    at_format false k n e' = cc
    at_format true None n e' = cc
    at_format true (Some kind) n e' = at_frame (whole_frame kind parts) n e'

-- with fewer than four bytes
pub short_is_truncated : (bytes : List ℕ) → length bytes < 4 → decoded bytes ≡ Err Truncated
short_is_truncated bytes h = rw (lt-ltb (length bytes) 4 h) refl

-- with a length that a frame may have
module _ (bytes : List ℕ) (len : ℕ) (number : number_at w32 bytes ≡ Some (len, drop 4 bytes)) (low : 2 ≤ len) (high : len ≤ MAX_REST_BYTES) where
  pub fewer_are_truncated : length (drop 4 bytes) < len → decoded bytes ≡ Err Truncated
  fewer_are_truncated h = rw (number, le-ltb _ _ high, le-ltb _ _ low, lt-ltb _ _ h) refl

  pub enough_are_not : len ≤ length (drop 4 bytes) → decoded bytes ≡ Err Truncated → ⊥
  unfolding behind
  enough_are_not h e =
      let is : decoded bytes ≡ behind (take len (drop 4 bytes)) = rw (number, le-ltb _ _ high, le-ltb _ _ low, le-ltb _ _ h) refl in
      not_behind (take len (drop 4 bytes)) (sym is ∙ e)

pub cut_is_truncated : (bytes : List ℕ) (len : ℕ) → 4 ≤ length bytes → IsBytes bytes → len ≡ big_number 4 bytes → 2 ≤ len → len ≤ MAX_REST_BYTES → IsTrue (nat_lt (length bytes - 4) len) ↔ (decoded bytes ≡ Err Truncated)
cut_is_truncated bytes len long are is low high =
    let number : number_at w32 bytes ≡ Some (len, drop 4 bytes) = rw (le-ltb _ _ long, all_bytes 4 bytes are, ← four bytes long, ← is) refl in
    at_test number (nat_lt (length bytes - 4) len) refl
  where
    left : length (drop 4 bytes) ≡ length bytes - 4
    left = length-drop 4 bytes

    at_test : number_at w32 bytes ≡ Some (len, drop 4 bytes) → (b : Bool) → nat_lt (length bytes - 4) len ≡ b → IsTrue b ↔ (decoded bytes ≡ Err Truncated)
    at_test number true h = (λ _. fewer_are_truncated bytes len number low high (omega (arith, left, ltb-true _ _ h)), λ _. refl)
    at_test number false h = (λ x. absurd cc, λ e. absurd (enough_are_not bytes len number low high (omega (arith, left, ltb-false _ _ h)) e))

-- ---- a part of a frame

some_bytes : (bytes : List ℕ) → bytes ≢ [] → 1 ≤ length bytes
some_bytes [] h = absurd (h refl)
some_bytes (b ∷ bytes) h = omega arith

-- A part of a spelling is truncated: either its length is not all there, or less than it says.
pub part_is_truncated : (format : ℕ) (f : Frame) (part more : List ℕ) → Spells format f (part ++ more) → more ≢ [] → decoded part ≡ Err Truncated
part_is_truncated format f part more s some =
    at_test (nat_lt (length part) 4) refl
  where
    at_test : (b : Bool) → nat_lt (length part) 4 ≡ b → decoded part ≡ Err Truncated
    at_test true h = short_is_truncated part (ltb-true _ _ h)
    at_test false h =
        let len : ℕ = length (rest_bytes format f) in
        let long : 4 ≤ length part = ltb-false _ _ h in
        let head : take 4 part ≡ u32 len = sym (take-append-le 4 part more long) ∙ ap (take 4) s.written in
        let whole : u32 len ++ drop 4 part ≡ part = ap (λ (z : List ℕ). z ++ drop 4 part) (sym head) ∙ take-append-drop 4 part in
        let number : number_at w32 part ≡ Some (len, drop 4 part) = subst (λ (z : List ℕ). number_at w32 z ≡ Some (len, drop 4 part)) whole (reads_u32.again len (drop 4 part) (omega (arith, s.few))) in
        let fewer : length (drop 4 part) < len = omega (arith, length-drop 4 part, length-append part more, ap length s.written, length-append (u32 len) (rest_bytes format f), some_bytes more some) in
        fewer_are_truncated part len number (omega arith) s.few fewer
