-- What is decoded is spelled by the bytes that it took, and what is spelled is decoded again.
use Rattle.std.proofs.Common.{◌≡◌, ◌≢◌, ℕ, suc, lit<, ◌+◌, ◌^◌, ◌<◌, ◌≤◌, Bool, true, false, cond, eqb, List, [], ◌∷◌, ◌++◌, length, get_or, take, drop, Option, Some, None, Result, Ok, Err, refl, sym, ap, subst, ◌∙◌, append_assoc, arith}
use Rattle.mr_talk.proofs.Names.{Answers, Ask, Begin, Begins, Done, End, Fault, Hello, Idle, IfOk, IsMessage, Kind, MAX_PACKED_BYTES, MessageFault, Missing}
use Rattle.mr_talk.proofs.Names.{Piece, PushOuts, Receipts, Records, Said, TooLong, Truncated, Wants, Whole, be_bytes_4, body_read, decoded, drop-drop}
use Rattle.mr_talk.proofs.Names.{drop_at, eqb-true, from_be_bytes, from_be_bytes-to_be_bytes_4, get_or-drop, get_or-take, get_or_past, head_read, kind_byte}
use Rattle.mr_talk.proofs.Names.{kind_of_byte, kind_read, le-ltb, length-append, length-drop, length-take, length-take-le, length_read, limit_of, lt-ltb}
use Rattle.mr_talk.proofs.Names.{ltb-false, ltb-true, message_bytes, nat_lt, take-append-drop, take-append-le, take_at, to_be_bytes, w32}
use Rattle.mr_talk.specs.declared.kind.Kind.TheVariants.{Turn}

abbrev pub IsBytes : List ℕ → Type 0
IsBytes bytes = (i : ℕ) → get_or bytes i 0 < 256

pub bytes_take : (n : ℕ) (bytes : List ℕ) → IsBytes bytes → IsBytes (take n bytes)
bytes_take n bytes are i = at_test (nat_lt i n) refl
  where
    at_test : (b : Bool) → nat_lt i n ≡ b → get_or (take n bytes) i 0 < 256
    at_test true h = subst (λ (x : ℕ). x < 256) (sym (get_or-take n bytes i 0 (ltb-true i n h))) (are i)
    at_test false h = subst (λ (x : ℕ). x < 256) (sym (get_or_past (take n bytes) i 0 (omega (arith, length-take n bytes, ltb-false i n h)))) (lit< tt)

pub bytes_drop : (n : ℕ) (bytes : List ℕ) → IsBytes bytes → IsBytes (drop n bytes)
bytes_drop n bytes are i = subst (λ (x : ℕ). x < 256) (sym (get_or-drop n bytes i 0)) (are (n + i))

-- ---- kinds

kind_step : (byte : ℕ) (k y : Kind) (o : Option Kind) → (o ≡ Some y → byte ≡ kind_byte y) → cond (eqb byte (kind_byte k)) (Some k) o ≡ Some y → byte ≡ kind_byte y
kind_step byte k y o on e = at_test (eqb byte (kind_byte k)) refl e
  where
    at_test : (b : Bool) → eqb byte (kind_byte k) ≡ b → cond b (Some k) o ≡ Some y → byte ≡ kind_byte y
    at_test true h e' = let same : k ≡ y = cc in eqb-true byte (kind_byte k) h ∙ ap kind_byte same
    at_test false h e' = on e'

none_step : (byte : ℕ) (y : Kind) → ◌≡◌ {A = Option Kind} None (Some y) → byte ≡ kind_byte y
none_step byte y e = absurd cc

-- a byte of a kind is that kind's
pub byte_is : (byte : ℕ) (k : Kind) → kind_of_byte byte ≡ Some k → byte ≡ kind_byte k
byte_is byte k =
    kind_step byte Hello k _ (kind_step byte Idle k _ (kind_step byte Ask k _ (kind_step byte Begin k _ (kind_step byte Piece k _ (kind_step byte End k _ (kind_step byte Missing k _
    (kind_step byte Records k _ (kind_step byte Wants k _ (kind_step byte PushOuts k _ (kind_step byte Receipts k _ (kind_step byte Turn k _ (kind_step byte Done k _ (kind_step byte Fault k _ (kind_step byte Whole k _ (none_step byte k)))))))))))))))

-- a kind's byte is of that kind
pub kind_again : (k : Kind) → kind_of_byte (kind_byte k) ≡ Some k
kind_again Hello = refl
kind_again Idle = refl
kind_again Ask = refl
kind_again Begin = refl
kind_again Piece = refl
kind_again End = refl
kind_again Missing = refl
kind_again Records = refl
kind_again Wants = refl
kind_again PushOuts = refl
kind_again Receipts = refl
kind_again Turn = refl
kind_again Done = refl
kind_again Fault = refl
kind_again Whole = refl

-- no kind has longer messages than those of frames
pub limit_most : (k : Kind) → limit_of k ≤ MAX_PACKED_BYTES
limit_most Hello = omega arith
limit_most Idle = omega arith
limit_most Ask = omega arith
limit_most Begin = omega arith
limit_most Piece = omega arith
limit_most End = omega arith
limit_most Missing = omega arith
limit_most Records = omega arith
limit_most Wants = omega arith
limit_most PushOuts = omega arith
limit_most Receipts = omega arith
limit_most Turn = omega arith
limit_most Done = omega arith
limit_most Fault = omega arith
limit_most Whole = omega arith

-- ---- the head

pub length_found : (k : Kind) (rest : List ℕ) (len : ℕ) → 4 ≤ length rest → from_be_bytes w32 (take 4 rest) ≡ len → len ≤ limit_of k → length_read k rest ≡ Ok (k, len)
length_found k rest len long is fits = rw (le-ltb (length rest) 4 long, is, le-ltb (limit_of k) len fits) refl

pub short_head : (byte : ℕ) (k : Kind) (rest : List ℕ) → kind_of_byte byte ≡ Some k → length rest < 4 → decoded (byte ∷ rest) ≡ Err Truncated
short_head byte k rest h few =
    let head : head_read (byte ∷ rest) ≡ Err Truncated = ap (λ (o : Option Kind). kind_read o rest) h ∙ rw (lt-ltb (length rest) 4 few) refl in
    ap (body_read (byte ∷ rest)) head

pub body_found : (bytes : List ℕ) (k : Kind) (len : ℕ) → head_read bytes ≡ Ok (k, len) → 5 + len ≤ length bytes → decoded bytes ≡ Ok (record { kind = k; bytes = take len (drop 5 bytes) }, 5 + len)
body_found bytes k len h fits = ap (body_read bytes) h ∙ rw (le-ltb (length bytes) (5 + len) fits) refl

pub body_lacks : (bytes : List ℕ) (k : Kind) (len : ℕ) → head_read bytes ≡ Ok (k, len) → length bytes < 5 + len → decoded bytes ≡ Err Truncated
body_lacks bytes k len h few = ap (body_read bytes) h ∙ rw (lt-ltb (length bytes) (5 + len) few) refl

-- ---- what is spelled is decoded

spelled_again : (kb : ℕ) (k : Kind) (four bytes left : List ℕ) → kind_of_byte kb ≡ Some k → length four ≡ 4 → from_be_bytes w32 four ≡ length bytes → length bytes ≤ limit_of k →
    decoded (kb ∷ ((four ++ bytes) ++ left)) ≡ Ok (record { kind = k; bytes = bytes }, length (kb ∷ (four ++ bytes)))
spelled_again kb k four bytes left hk h4 hv fits =
    let rest : List ℕ = (four ++ bytes) ++ left in
    let whole : rest ≡ four ++ (bytes ++ left) = append_assoc four bytes left in
    let front : take 4 rest ≡ four = ap (take 4) whole ∙ take_at four (bytes ++ left) 4 h4 in
    let behind : drop 4 rest ≡ bytes ++ left = ap (drop 4) whole ∙ drop_at four (bytes ++ left) 4 h4 in
    let long : length rest ≡ 4 + length bytes + length left = omega (arith, length-append (four ++ bytes) left, length-append four bytes) in
    let head : head_read (kb ∷ rest) ≡ Ok (k, length bytes) =
    ap (λ (o : Option Kind). kind_read o rest) hk ∙ length_found k rest (length bytes) (omega arith) (ap (from_be_bytes w32) front ∙ hv) fits in
    let more : length (kb ∷ rest) ≡ 5 + length bytes + length left = omega arith in
    let found : decoded (kb ∷ rest) ≡ Ok (record { kind = k; bytes = take (length bytes) (drop 4 rest) }, 5 + length bytes) = body_found (kb ∷ rest) k (length bytes) head (omega arith) in
    let body : take (length bytes) (drop 4 rest) ≡ bytes = ap (take (length bytes)) behind ∙ take_at bytes left (length bytes) refl in
    let used : 5 + length bytes ≡ length (kb ∷ (four ++ bytes)) = omega (arith, length-append four bytes) in
    subst (λ (x : List ℕ). decoded (kb ∷ rest) ≡ Ok (record { kind = k; bytes = x }, length (kb ∷ (four ++ bytes)))) body
    (subst (λ (n : ℕ). decoded (kb ∷ rest) ≡ Ok (record { kind = k; bytes = take (length bytes) (drop 4 rest) }, n)) used found)

pub decoded_again : (m : Said) (left : List ℕ) → IsMessage m → decoded (message_bytes m ++ left) ≡ Ok (m, length (message_bytes m))
decoded_again m left fits =
    let small : length m.bytes < 2 ^ 32 = omega (arith, limit_most m.kind) in
    spelled_again (kind_byte m.kind) m.kind (to_be_bytes w32 (length m.bytes)) m.bytes left (kind_again m.kind) refl (from_be_bytes-to_be_bytes_4 (length m.bytes) small) fits

-- what bytes begin with is decoded
pub decoded_begin : (bytes : List ℕ) (m : Said) (left : List ℕ) → Begins bytes m left → decoded bytes ≡ Ok (m, length (message_bytes m))
decoded_begin bytes m left b = ap decoded b.whole ∙ decoded_again m left b.is

-- bytes begin with one message
pub begins_once : (bytes : List ℕ) (m other : Said) (left right : List ℕ) → Begins bytes m left → Begins bytes other right → (m ≡ other) × (left ≡ right)
begins_once bytes m other left right a b =
    let both : ◌≡◌ {A = Result (Said × ℕ) MessageFault} (Ok (m, length (message_bytes m))) (Ok (other, length (message_bytes other))) = sym (decoded_begin bytes m left a) ∙ decoded_begin bytes other right b in
    let pair : ◌≡◌ {A = Said × ℕ} (m, length (message_bytes m)) (other, length (message_bytes other)) = cc in
    let one : m ≡ other = ap (λ (p : Said × ℕ). p.0) pair in
    let wholes : message_bytes m ++ left ≡ message_bytes m ++ right = sym a.whole ∙ b.whole ∙ ap (λ (x : Said). message_bytes x ++ right) (sym one) in
    (one, append_cancel (message_bytes m) left right wholes)
  where
    append_cancel : (s x y : List ℕ) → s ++ x ≡ s ++ y → x ≡ y
    append_cancel [] x y e = e
    append_cancel (c ∷ s) x y e = append_cancel s x y cc

pub no_other : (m other : Said) (x y : List ℕ) → IsMessage m → IsMessage other → message_bytes m ++ x ≡ message_bytes other ++ y → (m ≡ other) × (x ≡ y)
no_other m other x y fits too e =
    begins_once (message_bytes m ++ x) m other x y (record { is = fits; whole = refl }) (record { is = too; whole = e })

-- ---- what is decoded is spelled

-- what an answer tells of the bytes
record HasHead (byte : ℕ) (bytes : List ℕ) (k : Kind) (len : ℕ) : Type 0 where
  pub kind_is : kind_of_byte byte ≡ Some k
  pub long : 4 ≤ length bytes
  pub length_is : from_be_bytes w32 (take 4 bytes) ≡ len
  pub fits : len ≤ limit_of k

test_ok : {X : Type 0} (b : Bool) (fault : MessageFault) (r : Result X MessageFault) (x : X) → cond b (Err fault) r ≡ Ok x → (b ≡ false) × (r ≡ Ok x)
test_ok true fault r x e = absurd cc
test_ok false fault r x e = (refl, e)

head_has : (byte : ℕ) (bytes : List ℕ) (o : Option Kind) (k : Kind) (len : ℕ) → kind_of_byte byte ≡ o → kind_read o bytes ≡ Ok (k, len) → HasHead byte bytes k len
head_has byte bytes None k len h e = absurd cc
head_has byte bytes (Some j) k len h e =
    let n : ℕ = from_be_bytes w32 (take 4 bytes) in
    let a = test_ok (nat_lt (length bytes) 4) Truncated (cond (nat_lt (limit_of j) n) (Err TooLong) (Ok (j, n))) (k, len) e in
    let b = test_ok (nat_lt (limit_of j) n) TooLong (Ok (j, n)) (k, len) a.1 in
    let pair : ◌≡◌ {A = Kind × ℕ} (j, n) (k, len) = cc in
    let kind_same : j ≡ k = ap (λ (p : Kind × ℕ). p.0) pair in
    let len_same : n ≡ len = ap (λ (p : Kind × ℕ). p.1) pair in
    let few : n ≤ limit_of j = ltb-false (limit_of j) n b.0 in
    let few_here : len ≤ limit_of k = subst (λ (p : Kind × ℕ). p.1 ≤ limit_of p.0) pair few in
    record { kind_is = h ∙ ap (λ (x : Kind). Some x) kind_same; long = ltb-false (length bytes) 4 a.0; length_is = len_same; fits = few_here }

pub record Spelled (bytes : List ℕ) (m : Said) (n : ℕ) : Type 0 where
  pub begins : Begins bytes m (drop n bytes)
  pub within : n ≤ length bytes

spelled_from : (byte : ℕ) (bytes : List ℕ) (k : Kind) (len : ℕ) → IsBytes bytes → HasHead byte bytes k len → 5 + len ≤ length (byte ∷ bytes) → Spelled (byte ∷ bytes) (record { kind = k; bytes = take len (drop 4 bytes) }) (5 + len)
spelled_from byte bytes k len are h within =
    let body : List ℕ = take len (drop 4 bytes) in
    let room : len ≤ length (drop 4 bytes) = omega (arith, length-drop 4 bytes) in
    let few : length body ≡ len = length-take-le len (drop 4 bytes) room in
    let four : to_be_bytes w32 len ≡ take 4 bytes =
    be_bytes_4 (take 4 bytes) len (length-take-le 4 bytes h.long) (bytes_take 4 bytes are) (sym h.length_is) in
    let left : List ℕ = drop len (drop 4 bytes) in
    let whole : bytes ≡ (take 4 bytes ++ body) ++ left =
    sym (take-append-drop 4 bytes) ∙ ap (λ (x : List ℕ). take 4 bytes ++ x) (sym (take-append-drop len (drop 4 bytes))) ∙ sym (append_assoc (take 4 bytes) body left) in
    let head : take 4 bytes ≡ to_be_bytes w32 (length body) = sym four ∙ ap (to_be_bytes w32) (sym few) in
    let spelled : byte ∷ bytes ≡ (kind_byte k ∷ (to_be_bytes w32 (length body) ++ body)) ++ left =
    ap (λ (b : ℕ). b ∷ bytes) (byte_is byte k h.kind_is) ∙ ap (λ (x : List ℕ). kind_byte k ∷ x) (whole ∙ ap (λ (x : List ℕ). (x ++ body) ++ left) head) in
    let ends : left ≡ drop (5 + len) (byte ∷ bytes) = dropped len in
    record { begins = record { is = subst (λ (n : ℕ). n ≤ limit_of k) (sym few) h.fits; whole = spelled ∙ ap (λ (x : List ℕ). (kind_byte k ∷ (to_be_bytes w32 (length body) ++ body)) ++ x) ends }; within = within }
  where
    five : (n : ℕ) → suc (4 + n) ≡ 5 + n
    five n = omega arith

    dropped : (n : ℕ) → drop n (drop 4 bytes) ≡ drop (5 + n) (byte ∷ bytes)
    dropped n = drop-drop n 4 bytes ∙ ap (λ (i : ℕ). drop i (byte ∷ bytes)) (five n)

pub decoded_spelled : (bytes : List ℕ) (m : Said) (n : ℕ) → IsBytes bytes → decoded bytes ≡ Ok (m, n) → Spelled bytes m n
decoded_spelled [] m n are e = absurd cc
decoded_spelled (byte ∷ bytes) m n are e = at_head (head_read (byte ∷ bytes)) refl e
  where
    at_head : (r : Result (Kind × ℕ) MessageFault) → head_read (byte ∷ bytes) ≡ r → body_read (byte ∷ bytes) r ≡ Ok (m, n) → Spelled (byte ∷ bytes) m n
    at_head (Err fault) h e' = absurd cc
    at_head (Ok head) h e' =
        let a = test_ok (nat_lt (length (byte ∷ bytes)) (5 + head.1)) Truncated (Ok (record { kind = head.0; bytes = take head.1 (drop 4 bytes) }, 5 + head.1)) (m, n) e' in
        let pair : ◌≡◌ {A = Said × ℕ} (record { kind = head.0; bytes = take head.1 (drop 4 bytes) }, 5 + head.1) (m, n) = cc in
        let has = head_has byte bytes (kind_of_byte byte) head.0 head.1 refl h in
        let here = spelled_from byte bytes head.0 head.1 (λ i. are (suc i)) has (ltb-false _ _ a.0) in
        subst (λ (p : Said × ℕ). Spelled (byte ∷ bytes) p.0 p.1) pair here

-- ---- a part of a message

some_bytes : (bytes : List ℕ) → bytes ≢ [] → 1 ≤ length bytes
some_bytes [] h = absurd (h refl)
some_bytes (b ∷ bytes) h = omega arith

part_from : (kb : ℕ) (k : Kind) (four bytes rest more : List ℕ) → kind_of_byte kb ≡ Some k → length four ≡ 4 → from_be_bytes w32 four ≡ length bytes → length bytes ≤ limit_of k →
    four ++ bytes ≡ rest ++ more → 1 ≤ length more → decoded (kb ∷ rest) ≡ Err Truncated
part_from kb k four bytes rest more hk h4 hv fits e some = at_test (nat_lt (length rest) 4) refl
  where
    lengths : length rest + length more ≡ 4 + length bytes
    lengths = omega (arith, length-append rest more, length-append four bytes, ap length e)

    at_test : (b : Bool) → nat_lt (length rest) 4 ≡ b → decoded (kb ∷ rest) ≡ Err Truncated
    at_test true h = short_head kb k rest hk (ltb-true (length rest) 4 h)
    at_test false h =
        let long : 4 ≤ length rest = ltb-false (length rest) 4 h in
        let front : take 4 rest ≡ four = sym (take-append-le 4 rest more long) ∙ ap (take 4) (sym e) ∙ take_at four bytes 4 h4 in
        let head : head_read (kb ∷ rest) ≡ Ok (k, length bytes) = ap (λ (o : Option Kind). kind_read o rest) hk ∙ length_found k rest (length bytes) long (ap (from_be_bytes w32) front ∙ hv) fits in
        let one : length (kb ∷ rest) ≡ 1 + length rest = omega arith in
        body_lacks (kb ∷ rest) k (length bytes) head (omega (arith, lengths))

pub part_is_truncated : (m : Said) (part more : List ℕ) → IsMessage m → message_bytes m ≡ part ++ more → more ≢ [] → decoded part ≡ Err Truncated
part_is_truncated m [] more fits e some = refl
part_is_truncated m (byte ∷ rest) more fits e some =
    let small : length m.bytes < 2 ^ 32 = omega (arith, limit_most m.kind) in
    let first : kind_byte m.kind ≡ byte = cc in
    let others : to_be_bytes w32 (length m.bytes) ++ m.bytes ≡ rest ++ more = cc in
    part_from byte m.kind (to_be_bytes w32 (length m.bytes)) m.bytes rest more (ap kind_of_byte (sym first) ∙ kind_again m.kind) refl (from_be_bytes-to_be_bytes_4 (length m.bytes) small) fits others (some_bytes more some)

-- ---- answers

pub answer_spelled : (bytes : List ℕ) (r : Result (Said × ℕ) MessageFault) → IsBytes bytes → Answers (decoded bytes) r → IfOk r (λ found. Begins bytes found.0 (drop found.1 bytes))
answer_spelled bytes (Ok found) are e = (decoded_spelled bytes found.0 found.1 are e).begins
answer_spelled bytes (Err fault) are e = tt

pub answer_within : (bytes : List ℕ) (r : Result (Said × ℕ) MessageFault) → IsBytes bytes → Answers (decoded bytes) r → IfOk r (λ found. found.1 ≤ length bytes)
answer_within bytes (Ok found) are e = (decoded_spelled bytes found.0 found.1 are e).within
answer_within bytes (Err fault) are e = tt

pub answer_whole : (bytes : List ℕ) (r : Result (Said × ℕ) MessageFault) → Answers (decoded bytes) r → (m : Said) (left : List ℕ) → Begins bytes m left → Answers (Ok (m, length (message_bytes m))) r
answer_whole bytes r e m left b = subst (λ (read : Result (Said × ℕ) MessageFault). Answers read r) (decoded_begin bytes m left b) e
