-- What is decoded is spelled by the bytes that it took, and what is spelled is decoded again.
use Rattle.std.proofs.Common.{◌≡◌, ℕ, ◌+◌, ◌≤◌, Bool, true, false, cond, eqb, ◌||◌, ◌&&◌, List, [], ◌∷◌, ◌++◌, length, take, Some, None, Result, Ok, Err, ◌⊎◌, inl, inr, refl, sym, ap, subst, ◌∙◌, arith}
use Rattle.mr_wire.proofs.Names.{Answers, BadBody, Frame, IfOk, IsFrame, Kind, MAX_REST_BYTES, Spells, append-nil, decoded, eqb-true, frame_at}
use Rattle.mr_wire.proofs.Names.{kind_and_parts, kind_byte, kind_of, kind_of_byte, length-append, not, part_bytes, rest_bytes, rest_faults, u32, whole_frame}
use Rattle.mr_wire.specs.declared.fault.WireFault.{WireFault}
use Rattle.mr_wire.specs.declared.kind.Kind.TheVariants as kind
use Rattle.mr_wire.proofs.Laws.{bind_some, test_some}
use Rattle.mr_wire.proofs.PrefixLaws.{or_ok, test_ok, kind_step, whole_found, value_takes, value_again, same_front}
use Rattle.mr_wire.proofs.FrameLaws.{frame_takes, frame_again}

-- ---- the kind

last_step : (format byte : ℕ) (k : Kind) → cond (eqb byte 7 && not (eqb format 1)) (Some kind.Receipt) None ≡ Some k → byte ≡ kind_byte k
last_step format byte k e = grind (arith, eqb, test_some, eqb-true)

pub byte_is : (format byte : ℕ) (k : Kind) → kind_of_byte format byte ≡ Some k → byte ≡ kind_byte k
byte_is format byte k = grind (arith, kind_step, last_step)

one_or_two : (format : ℕ) → (eqb format 1 || eqb format 2) ≡ true → (format ≡ 1) ⊎ (format ≡ 2)
one_or_two format h = at_test (eqb format 1) refl h
  where
    at_test : (b : Bool) → eqb format 1 ≡ b → (b || eqb format 2) ≡ true → (format ≡ 1) ⊎ (format ≡ 2)
    at_test true e h' = inl (eqb-true format 1 e)
    at_test false e h' = inr (eqb-true format 2 h')

-- what the head of the rest tells
pub record TakesHead (rest : List ℕ) (k : Kind) (parts : List ℕ) : Type 0 where
  pub format : ℕ
  pub format_in : (format ≡ 1) ⊎ (format ≡ 2)
  pub kind_in : kind_of_byte format (kind_byte k) ≡ Some k
  pub whole : rest ≡ format ∷ kind_byte k ∷ parts

head_takes : (rest : List ℕ) (k : Kind) (parts : List ℕ) → kind_and_parts rest ≡ Ok (k, parts) → TakesHead rest k parts
head_takes rest k parts e = grind (arith, test_ok, eqb, bind_some, or_ok, byte_is, one_or_two)

-- ---- whole frames

whole_takes : (k : Kind) (parts : List ℕ) (f : Frame) → whole_frame k parts ≡ Some f → (parts ≡ part_bytes f) × (kind_of f ≡ k) × IsFrame f
whole_takes k parts f e =
    let t = frame_takes k parts f [] (whole_found (frame_at k) parts f e) in
    (t.parts ∙ append-nil (part_bytes f), t.kind_is, t.in_grammar)

whole_again : (f : Frame) → IsFrame f → whole_frame (kind_of f) (part_bytes f) ≡ Some f
whole_again f h =
    let read : frame_at (kind_of f) (part_bytes f) ≡ Some (f, []) = ap (frame_at (kind_of f)) (sym (append-nil (part_bytes f))) ∙ frame_again f [] h in
    rw read refl

-- ---- decoding

-- what a decoded frame tells of the bytes
pub record IsDecoded (bytes : List ℕ) (f : Frame) (n : ℕ) : Type 0 where
  pub format : ℕ
  pub spelled : Spells format f (take n bytes)
  pub within : n ≤ length bytes

pub decoded_takes : (bytes : List ℕ) (f : Frame) (n : ℕ) → decoded bytes ≡ Ok (f, n) → IsDecoded bytes f n
decoded_takes bytes f n e =
    let v = value_takes rest_faults BadBody kind_and_parts whole_frame bytes f n e in
    let h = head_takes v.rest v.kind v.parts v.headed in
    let w = whole_takes v.kind v.parts f v.found in
    let rest_is : v.rest ≡ rest_bytes h.format f = h.whole ∙ ap (λ (z : List ℕ). h.format ∷ kind_byte v.kind ∷ z) w.0 ∙ ap (λ (x : Kind). h.format ∷ kind_byte x ∷ part_bytes f) (sym w.1) in
    record {
      format = h.format;
      spelled = record {
        format_in = h.format_in;
        kind_in = ap (λ (x : Kind). kind_of_byte h.format (kind_byte x)) w.1 ∙ h.kind_in ∙ ap (λ (x : Kind). Some x) (sym w.1);
        in_grammar = w.2;
        few = subst (λ (z : List ℕ). length z ≤ MAX_REST_BYTES) rest_is v.few;
        written = v.written ∙ ap (λ (z : List ℕ). u32 (length z) ++ z) rest_is;
      };
      within = v.within;
    }

is_format : (format : ℕ) → (format ≡ 1) ⊎ (format ≡ 2) → (eqb format 1 || eqb format 2) ≡ true
is_format format h = grind arith

pub decoded_again : (format : ℕ) (f : Frame) (text more : List ℕ) → Spells format f text → decoded (text ++ more) ≡ Ok (f, length text)
decoded_again format f text more s =
    let rest = rest_bytes format f in
    let start : decoded (text ++ more) ≡ decoded ((u32 (length rest) ++ rest) ++ more) = ap (λ (z : List ℕ). decoded (z ++ more)) s.written in
    let len : length rest + 4 ≡ length text = omega (arith, ap length s.written, length-append (u32 (length rest)) rest) in
    let head : kind_and_parts rest ≡ Ok (kind_of f, part_bytes f) = rw (is_format format s.format_in, s.kind_in) refl in
    let found : decoded ((u32 (length rest) ++ rest) ++ more) ≡ Ok (f, length rest + 4) = value_again rest_faults BadBody kind_and_parts whole_frame rest more (kind_of f) (part_bytes f) f (omega arith) s.few head (whole_again f s.in_grammar) in
    start ∙ found ∙ ap (λ (n : ℕ). Ok (f, n)) len

-- ---- answers

pub answer_spelled : (bytes : List ℕ) (r : Result (Frame × ℕ) WireFault) → Answers (decoded bytes) r → IfOk r (λ found. (format : ℕ) × Spells format found.0 (take found.1 bytes))
answer_spelled bytes (Ok found) h = let d = decoded_takes bytes found.0 found.1 h in (d.format, d.spelled)
answer_spelled bytes (Err fault) h = tt

pub answer_within : (bytes : List ℕ) (r : Result (Frame × ℕ) WireFault) → Answers (decoded bytes) r → IfOk r (λ found. found.1 ≤ length bytes)
answer_within bytes (Ok found) h = (decoded_takes bytes found.0 found.1 h).within
answer_within bytes (Err fault) h = tt

pub answer_whole : (bytes : List ℕ) (r : Result (Frame × ℕ) WireFault) → Answers (decoded bytes) r → (format : ℕ) (f : Frame) (text more : List ℕ) → Spells format f text → bytes ≡ text ++ more → Answers (Ok (f, length text)) r
answer_whole bytes r h format f text more s e = subst (λ (d : Result (Frame × ℕ) WireFault). Answers d r) (ap decoded e ∙ decoded_again format f text more s) h

-- ---- laws

pub begins_no_other : (format other : ℕ) (f g : Frame) (a b x y : List ℕ) → Spells format f a → Spells other g b → a ++ x ≡ b ++ y → (a ≡ b) × (f ≡ g)
begins_no_other format other f g a b x y s t e = same_front decoded f g a b x y (decoded_again format f a x s) (decoded_again other g b y t) e

pub spelled_once : (format : ℕ) (f : Frame) (a b : List ℕ) → Spells format f a → Spells format f b → a ≡ b
spelled_once format f a b s t = s.written ∙ sym t.written
