-- Tokens one behind another: what they tell, and that bytes are those of one list of tokens only.
use Rattle.std.proofs.Common.{◌≡◌, ℕ, suc, ◌+◌, ◌-◌, ◌*◌, ◌^◌, ◌<◌, ◌≤◌, Bool, true, false, cond, List, [], ◌∷◌, ◌++◌, length, get_or, take, drop, Option, Some, None, refl, sym, ap, subst, ◌∙◌, append_assoc, append-nil, arith}
use Rattle.mr_talk.proofs.Names.{AllByRecursion, AreDigits, ArePairs, BeginsWith, CanBeWritten, Copy, Digits, EndsBadly, Fits, IsBlamed, IsErrAnd, IsNoToken}
use Rattle.mr_talk.proofs.Names.{IsRunOf, IsToken, Literal, Long, MAX_FRAMES_BYTES, MatchResult, Move, Spelled, Spells, Takes, Tells, TellsTooMuch, TellsUpTo}
use Rattle.mr_talk.proofs.Names.{Token, Unpacks, Writes, append_cancel_left, be_bytes_4, body, drop-drop, flat_map, flat_map-append, from_be_bytes}
use Rattle.mr_talk.proofs.Names.{from_be_bytes-to_be_bytes_4, head, highest, le-ltb, length-append, length-drop, length-take-le, lowest, min, moves, nat_lt}
use Rattle.mr_talk.proofs.Names.{place_after, rest_tokens, run_size, size_of, spell, take-add, take-append-drop, take_at, to_be_bytes, token_bytes}
use Rattle.mr_talk.proofs.Names.{two_digits, w32}
use Rattle.std.proofs.Math.ListN.{drop_of_length-le}
use Rattle.mr_talk.proofs.MessageLaws.{bytes_take}
use Rattle.mr_talk.specs.Packed.{End, begun, says}
use Rattle.mr_talk.specs.declared.packing.Run.{Run}
use Rattle.mr_talk.specs.declared.packing.Run.TheVariants as run
use Rattle.std.proofs.Common.{Result, Ok, Err}
use Rattle.mr_talk.specs.declared.packed.PackedFault.{PackedFault}
use Rattle.mr_talk.specs.declared.packed.PackedFault.TheVariants.{OutOfMemory, BadToken, TooLong}

-- ---- tokens one behind another

all_append : (xs ys : List Token) → AllByRecursion IsToken xs → AllByRecursion IsToken ys → AllByRecursion IsToken (xs ++ ys)
all_append [] ys a b = b
all_append (x ∷ xs) ys a b = (a.0, all_append xs ys a.1 b)

spells_append : (xs ys : List Token) (from mid to : Spelled) → Spells xs from mid → Spells ys mid to → Spells (xs ++ ys) from to
spells_append [] ys from mid to a b = subst (λ (s : Spelled). Spells ys s to) (sym a) b
spells_append (x ∷ xs) ys from mid to a b = (a.0, a.1, spells_append xs ys a.0 mid to a.2 b)

pub tells_on : (x y : List ℕ) (from mid to : Spelled) → Tells x from mid → Tells y mid to → Tells (x ++ y) from to
tells_on x y from mid to a b = record {
  tokens = a.tokens ++ b.tokens;
  are = all_append a.tokens b.tokens a.are b.are;
  whole = ap (λ (z : List ℕ). z ++ y) a.whole ∙ ap (λ (z : List ℕ). flat_map token_bytes a.tokens ++ z) b.whole ∙ sym (flat_map-append token_bytes a.tokens b.tokens);
  spelled = spells_append a.tokens b.tokens from mid to a.spelled b.spelled;
}

pub tells_one : (t : Token) (from to : Spelled) → IsToken t → spell t from ≡ Some to → Tells (token_bytes t) from to
tells_one t from to is e = record {
  tokens = t ∷ [];
  are = (is, tt);
  whole = sym (append-nil (token_bytes t));
  spelled = (to, e, refl);
}

pub tells_nothing : (s : Spelled) → Tells [] s s
tells_nothing s = record { tokens = []; are = tt; whole = refl; spelled = refl }

-- ---- what was told before stays in front

abbrev behind : List ℕ → Spelled → Spelled
behind told s = record { before = s.before; place = s.place; now = s.now; told = told ++ s.told }

-- ---- a token is read as it is written

some_is : {X : Type 0} (x y : X) → Some x ≡ Some y → x ≡ y
some_is x y e = cc

-- lists of one length at the front of one list
same_front : (a b x y : List ℕ) → length a ≡ length b → a ++ x ≡ b ++ y → (a ≡ b) × (x ≡ y)
same_front a b x y long e =
    let one : a ≡ b = sym (take_at a x (length a) refl) ∙ ap (take (length a)) e ∙ take_at b y (length a) (sym long) in
    (one, append_cancel_left b x y (ap (λ (z : List ℕ). z ++ x) (sym one) ∙ e))

Same : Token → Token → List ℕ → List ℕ → Type 0
Same t u x y = (t ≡ u) × (x ≡ y)

head_same : (t u : Token) (x y : List ℕ) → token_bytes t ++ x ≡ token_bytes u ++ y → head t ≡ head u
head_same t u x y e = ap (λ (l : List ℕ). get_or l 0 0) e

body_same : (t u : Token) (x y : List ℕ) → token_bytes t ++ x ≡ token_bytes u ++ y → body t ++ x ≡ body u ++ y
body_same t u x y e = ap (drop 1) e

long_same : (a b x y : List ℕ) → length a < 2 ^ 32 → length b < 2 ^ 32 → (to_be_bytes w32 (length a) ++ a) ++ x ≡ (to_be_bytes w32 (length b) ++ b) ++ y → (a ≡ b) × (x ≡ y)
long_same a b x y fits too e =
    let four = same_front (to_be_bytes w32 (length a)) (to_be_bytes w32 (length b)) (a ++ x) (b ++ y) refl (sym (append_assoc (to_be_bytes w32 (length a)) a x) ∙ e ∙ append_assoc (to_be_bytes w32 (length b)) b y) in
    let long : length a ≡ length b = sym (from_be_bytes-to_be_bytes_4 (length a) fits) ∙ ap (from_be_bytes w32) four.0 ∙ from_be_bytes-to_be_bytes_4 (length b) too in
    same_front a b x y long four.1

apart : (t u : Token) → IsToken t → IsToken u → head t ≡ head u → highest t < lowest u → ⊥
apart t u a b e h = absurd (omega (arith, a.low, a.high, b.low, b.high, e, h))

-- bytes begin with one token only
pub one_token : (t u : Token) (x y : List ℕ) → IsToken t → IsToken u → token_bytes t ++ x ≡ token_bytes u ++ y → (t ≡ u) × (x ≡ y)
one_token End End x y a b e = (refl, body_same End End x y e)
one_token (Copy n) (Copy m) x y a b e = (ap (λ (k : ℕ). Copy k) (head_same (Copy n) (Copy m) x y e), body_same (Copy n) (Copy m) x y e)
one_token (Literal s) (Literal t) x y a b e =
    let both = same_front s t x y (omega (arith, head_same (Literal s) (Literal t) x y e)) (body_same (Literal s) (Literal t) x y e) in
    (ap (λ (k : List ℕ). Literal k) both.0, both.1)
one_token (Digits s) (Digits t) x y a b e =
    let both = same_front s t x y (omega (arith, head_same (Digits s) (Digits t) x y e)) (body_same (Digits s) (Digits t) x y e) in
    (ap (λ (k : List ℕ). Digits k) both.0, both.1)
one_token (Move n) (Move m) x y a b e =
    (ap (λ (k : ℕ). Move k) (omega (arith, head_same (Move n) (Move m) x y e)), body_same (Move n) (Move m) x y e)
one_token (Long s) (Long t) x y a b e =
    let both = long_same s t x y (omega (arith, a.short, length-append (to_be_bytes w32 (length s)) s)) (omega (arith, b.short, length-append (to_be_bytes w32 (length t)) t)) (body_same (Long s) (Long t) x y e) in
    (ap (λ (k : List ℕ). Long k) both.0, both.1)
one_token t u x y a b e = absurd (omega (arith, a.low, a.high, b.low, b.high, head_same t u x y e))

-- bytes that are told begin with the token that is read, and what is left tells what it did
pub tells_left : (bytes : List ℕ) (t : Token) (used : ℕ) (from next to : Spelled) → BeginsWith bytes t used → spell t from ≡ Some next → Tells bytes from to → Tells (drop used bytes) next to
tells_left bytes t used from next to b e h = at_tokens h.tokens h.are h.whole h.spelled
  where
    at_tokens : (ts : List Token) → AllByRecursion IsToken ts → bytes ≡ flat_map token_bytes ts → Spells ts from to → Tells (drop used bytes) next to
    at_tokens [] are whole spelled = absurd (omega (arith, ap length (sym b.whole ∙ whole), length-append (token_bytes t) (drop used bytes)))
    at_tokens (u ∷ ts) are whole spelled =
        let one = one_token t u (drop used bytes) (flat_map token_bytes ts) b.is are.0 (sym b.whole ∙ whole) in
        let same : next ≡ spelled.0 = some_is next spelled.0 (sym e ∙ ap (λ (k : Token). spell k from) one.0 ∙ spelled.1) in
        record { tokens = ts; are = are.1; whole = one.1; spelled = subst (λ (s : Spelled). Spells ts s to) (sym same) spelled.2 }

-- what is told is a token at the front
pub tells_token : (bytes : List ℕ) (from to : Spelled) → 0 < length bytes → Tells bytes from to → IsNoToken bytes → ⊥
tells_token bytes from to some h none = at_tokens h.tokens h.are h.whole
  where
    at_tokens : (ts : List Token) → AllByRecursion IsToken ts → bytes ≡ flat_map token_bytes ts → ⊥
    at_tokens [] are whole = absurd (omega (arith, ap length whole, some))
    at_tokens (u ∷ ts) are whole = none u (flat_map token_bytes ts) are.0 whole

-- it is spelled
pub tells_spelled : (bytes : List ℕ) (t : Token) (used : ℕ) (from to : Spelled) → BeginsWith bytes t used → Tells bytes from to → spell t from ≡ None → ⊥
tells_spelled bytes t used from to b h none = at_tokens h.tokens h.are h.whole h.spelled
  where
    at_tokens : (ts : List Token) → AllByRecursion IsToken ts → bytes ≡ flat_map token_bytes ts → Spells ts from to → ⊥
    at_tokens [] are whole spelled = absurd (omega (arith, ap length (sym b.whole ∙ whole), length-append (token_bytes t) (drop used bytes)))
    at_tokens (u ∷ ts) are whole spelled =
        let one = one_token t u (drop used bytes) (flat_map token_bytes ts) b.is are.0 (sym b.whole ∙ whole) in
        let e : ◌≡◌ {A = Option Spelled} None (Some spelled.0) = sym none ∙ ap (λ (k : Token). spell k from) one.0 ∙ spelled.1 in
        absurd cc

-- nothing tells nothing more
pub tells_end : (from to : Spelled) → Tells [] from to → from ≡ to
tells_end from to h = at_tokens h.tokens h.whole h.spelled
  where
    at_tokens : (ts : List Token) → [] ≡ flat_map token_bytes ts → Spells ts from to → from ≡ to
    at_tokens [] whole spelled = spelled
    at_tokens (u ∷ ts) whole spelled = absurd cc

-- ---- frames only grow

abbrev pub spelled_size : Spelled → ℕ
spelled_size s = length s.told + length s.now

token_grows : (t : Token) (from to : Spelled) → spell t from ≡ Some to → length from.told + length from.now ≤ length to.told + length to.now
token_grows End from to e = let same = some_is _ to e in subst (λ (s : Spelled). length from.told + length from.now ≤ length s.told + length s.now) same (omega (arith, length-append from.told from.now))
token_grows (Copy n) from to e = at_test (nat_lt (length from.before) (from.place + n)) e
  where
    at_test : (b : Bool) → cond b None (Some (says (take n (drop from.place from.before)) from)) ≡ Some to → length from.told + length from.now ≤ length to.told + length to.now
    at_test true h = absurd cc
    at_test false h = subst (λ (s : Spelled). length from.told + length from.now ≤ length s.told + length s.now) (some_is _ to h) (omega (arith, length-append from.now (take n (drop from.place from.before))))
token_grows (Literal bytes) from to e = subst (λ (s : Spelled). length from.told + length from.now ≤ length s.told + length s.now) (some_is _ to e) (omega (arith, length-append from.now bytes))
token_grows (Digits bytes) from to e = subst (λ (s : Spelled). length from.told + length from.now ≤ length s.told + length s.now) (some_is _ to e) (omega (arith, length-append from.now (flat_map two_digits bytes)))
token_grows (Move n) from to e = subst (λ (s : Spelled). length from.told + length from.now ≤ length s.told + length s.now) (some_is _ to e) (omega arith)
token_grows (Long bytes) from to e = subst (λ (s : Spelled). length from.told + length from.now ≤ length s.told + length s.now) (some_is _ to e) (omega (arith, length-append from.now bytes))

spells_grows : (ts : List Token) (from to : Spelled) → Spells ts from to → length from.told + length from.now ≤ length to.told + length to.now
spells_grows [] from to h = subst (λ (s : Spelled). length from.told + length from.now ≤ length s.told + length s.now) h (omega arith)
spells_grows (t ∷ ts) from to h = omega (arith, token_grows t from h.0 h.1, spells_grows ts h.0 to h.2)

pub tells_grows : (bytes : List ℕ) (from to : Spelled) → Tells bytes from to → length from.told + length from.now ≤ length to.told + length to.now
tells_grows bytes from to h = spells_grows h.tokens from to h.spelled

-- ---- frames one behind another

told_behind : (told : List ℕ) (t : Token) (from to : Spelled) → spell t from ≡ Some to → spell t (behind told from) ≡ Some (behind told to)
told_behind told End from to e = ap (λ (l : List ℕ). Some (begun from.now l)) (append_assoc told from.told from.now) ∙ ap (λ (s : Spelled). Some (behind told s)) (some_is _ to e)
told_behind told (Copy n) from to e = at_test (nat_lt (length from.before) (from.place + n)) refl e
  where
    at_test : (b : Bool) → nat_lt (length from.before) (from.place + n) ≡ b → cond b None (Some (says (take n (drop from.place from.before)) from)) ≡ Some to → spell (Copy n) (behind told from) ≡ Some (behind told to)
    at_test true f h = absurd cc
    at_test false f h =
        ap (λ (b : Bool). cond b None (Some (says (take n (drop from.place from.before)) (behind told from)))) f ∙ ap (λ (s : Spelled). Some (behind told s)) (some_is _ to h)
told_behind told (Literal bytes) from to e = ap (λ (s : Spelled). Some (behind told s)) (some_is _ to e)
told_behind told (Digits bytes) from to e = ap (λ (s : Spelled). Some (behind told s)) (some_is _ to e)
told_behind told (Move n) from to e = ap (λ (s : Spelled). Some (behind told s)) (some_is _ to e)
told_behind told (Long bytes) from to e = ap (λ (s : Spelled). Some (behind told s)) (some_is _ to e)

spells_behind : (told : List ℕ) (ts : List Token) (from to : Spelled) → Spells ts from to → Spells ts (behind told from) (behind told to)
spells_behind told [] from to h = ap (λ (s : Spelled). behind told s) h
spells_behind told (t ∷ ts) from to h = (behind told h.0, told_behind told t from h.0 h.1, spells_behind told ts h.0 to h.2)

tells_behind : (told bytes : List ℕ) (from to : Spelled) → Tells bytes from to → Tells bytes (behind told from) (behind told to)
tells_behind told bytes from to h = record { tokens = h.tokens; are = h.are; whole = h.whole; spelled = spells_behind told h.tokens from to h.spelled }

-- frames that are packed behind others
pub unpacks_on : (before x f mid y g after : List ℕ) → Unpacks before x f mid → Unpacks mid y g after → Unpacks before (x ++ y) (f ++ g) after
unpacks_on before x f mid y g after a b =
    let more : Tells y (begun mid f) (begun after (f ++ g)) = subst (λ (l : List ℕ). Tells y (begun mid l) (begun after (f ++ g))) (append-nil f) (tells_behind f y (begun mid []) (begun after g) b) in
    tells_on x y (begun before []) (begun mid f) (begun after (f ++ g)) a more

-- no frame is packed by no bytes
pub unpacks_none : (before : List ℕ) → Unpacks before [] [] before
unpacks_none before = tells_nothing (begun before [])

-- ---- a long token as it is read

pub long_begins : (bytes rest four tail b : List ℕ) (size : ℕ) → 0 < length bytes → get_or bytes 0 0 ≡ 255 → rest ≡ drop 1 bytes → four ≡ take 4 rest → tail ≡ drop 4 rest → 4 ≤ length rest →
    ((i : ℕ) → get_or bytes i 0 < 256) → size ≡ from_be_bytes w32 four → b ≡ take size tail → size ≤ length tail → size < 2 ^ 32 → BeginsWith bytes (Long b) (5 + size)
long_begins [] rest four tail b size some first ra fa ta long are is ba fits few = absurd (omega (arith, some))
long_begins (h ∷ r) rest four tail b size some first ra fa ta long are is ba fits few =
    let front : take 4 r ≡ four = ap (take 4) (sym ra) ∙ sym fa in
    let behind_four : drop 4 r ≡ tail = ap (drop 4) (sym ra) ∙ sym ta in
    let long_r : 4 ≤ length r = omega (arith, ap length ra, long) in
    let many : length b ≡ size = ap length ba ∙ length-take-le size tail fits in
    let spelled : to_be_bytes w32 size ≡ take 4 r = be_bytes_4 (take 4 r) size (length-take-le 4 r long_r) (bytes_take 4 r (λ i. are (suc i))) (is ∙ ap (from_be_bytes w32) (sym front)) in
    let left : List ℕ = drop size (drop 4 r) in
    let body_is : take size (drop 4 r) ≡ b = ap (take size) behind_four ∙ sym ba in
    let whole : r ≡ (take 4 r ++ take size (drop 4 r)) ++ left =
    sym (take-append-drop 4 r) ∙ ap (λ (x : List ℕ). take 4 r ++ x) (sym (take-append-drop size (drop 4 r))) ∙ sym (append_assoc (take 4 r) (take size (drop 4 r)) left) in
    let four_is : take 4 r ≡ to_be_bytes w32 (length b) = sym spelled ∙ ap (to_be_bytes w32) (sym many) in
    let ends : left ≡ drop (5 + size) (h ∷ r) = drop-drop size 4 r ∙ ap (λ (i : ℕ). drop i (h ∷ r)) (five size) in
    record {
      is = record { low = omega arith; high = omega arith; short = omega (arith, length-append (to_be_bytes w32 (length b)) b, many, few) };
      size = omega (arith, length-append (to_be_bytes w32 (length b)) b, many);
      whole = ap (λ (x : ℕ). x ∷ r) first ∙ ap (λ (x : List ℕ). 255 ∷ x) (whole ∙ ap (λ (x : List ℕ). (x ++ take size (drop 4 r)) ++ left) four_is ∙ ap (λ (x : List ℕ). (to_be_bytes w32 (length b) ++ x) ++ left) body_is
          ∙ ap (λ (x : List ℕ). (to_be_bytes w32 (length b) ++ b) ++ x) ends);
    }
  where
    five : (n : ℕ) → suc (4 + n) ≡ 5 + n
    five n = omega arith

-- ---- tokens taken one after the other

pub none_left : (bytes slice : List ℕ) (at : ℕ) (from to : Spelled) → slice ≡ drop at bytes → at < length bytes → Tells (drop at bytes) from to → IsNoToken slice → ⊥
none_left bytes slice at from to is within h none = tells_token (drop at bytes) from to (omega (arith, length-drop at bytes, within)) h (subst IsNoToken is none)

pub take_fault : (t : Token) (old new to : Spelled) (bytes : List ℕ) (used : ℕ) (fault : PackedFault) → BeginsWith bytes t used → Tells bytes old to → Takes t old (Err fault) new → fault ≡ OutOfMemory
take_fault t old new to bytes used OutOfMemory b h takes = refl
take_fault t old new to bytes used BadToken b h takes = absurd (tells_spelled bytes t used old to b h takes)
take_fault t old new to bytes used TooLong b h takes = absurd takes

-- one token more was taken
pub taken_more : (bytes slice : List ℕ) (at used : ℕ) (t : Token) (start from next : Spelled) → slice ≡ drop at bytes → BeginsWith slice t used → spell t from ≡ Some next → Tells (take at bytes) start from → Tells (take (at + used) bytes) start next
taken_more bytes slice at used t start from next is b e h =
    let begins : BeginsWith (drop at bytes) t used = subst (λ (s : List ℕ). BeginsWith s t used) is b in
    let front : take used (drop at bytes) ≡ token_bytes t = ap (take used) begins.whole ∙ take_at (token_bytes t) (drop used (drop at bytes)) used (sym begins.size) in
    subst (λ (s : List ℕ). Tells s start next) (ap (λ (x : List ℕ). take at bytes ++ x) (sym front) ∙ sym (take-add at used bytes)) (tells_on (take at bytes) (token_bytes t) start from next h (tells_one t from next begins.is e))

pub left_more : (bytes slice : List ℕ) (at used : ℕ) (t : Token) (from next to : Spelled) → slice ≡ drop at bytes → BeginsWith slice t used → spell t from ≡ Some next → Tells (drop at bytes) from to → Tells (drop (at + used) bytes) next to
left_more bytes slice at used t from next to is b e h =
    let begins : BeginsWith (drop at bytes) t used = subst (λ (s : List ℕ). BeginsWith s t used) is b in
    subst (λ (s : List ℕ). Tells s next to) (drop-drop used at bytes) (tells_left (drop at bytes) t used from next to begins e h)

pub used_within : (bytes slice : List ℕ) (at used : ℕ) (t : Token) → slice ≡ drop at bytes → at ≤ length bytes → BeginsWith slice t used → at + used ≤ length bytes
used_within bytes slice at used t is within b = omega (arith, ap length b.whole, length-append (token_bytes t) (drop used slice), b.size, ap length is, length-drop at bytes, within)

-- what is told in the end is not long, so no part of it is
pub not_long : (bytes slice : List ℕ) (at used most : ℕ) (t : Token) (from next to : Spelled) → slice ≡ drop at bytes → BeginsWith slice t used → spell t from ≡ Some next → Tells (drop at bytes) from to → length to.told + length to.now ≤ most →
    length next.told + length next.now ≤ most
not_long bytes slice at used most t from next to is b e h few = omega (arith, tells_grows (drop (at + used) bytes) next to (left_more bytes slice at used t from next to is b e h), few)

pub all_told : (bytes : List ℕ) (at : ℕ) (from to : Spelled) → length bytes ≤ at → Tells (drop at bytes) from to → from ≡ to
all_told bytes at from to past h = tells_end from to (subst (λ (s : List ℕ). Tells s from to) (drop_of_length-le bytes past) h)

pub no_memory : {X : Type 0} (P : X → Type 0) (r : Result X PackedFault) (fault : PackedFault) → IsErrAnd r (λ e. e ≡ fault) → fault ≡ OutOfMemory → MatchResult r P (λ f. f ≡ OutOfMemory)
no_memory P (Ok x) fault e is = absurd e
no_memory P (Err f) fault e is = e ∙ is

-- ---- why bytes aren't unpacked

told_up_to : (bytes : List ℕ) (at : ℕ) (from to : Spelled) → Tells (take at bytes) from to → TellsUpTo bytes from to (drop at bytes)
told_up_to bytes at from to h = record { taken = take at bytes; whole = sym (take-append-drop at bytes); told = h }

-- more bytes than none are not at their end
not_ended : (bytes : List ℕ) (at : ℕ) → at < length bytes → drop at bytes ≡ [] → ⊥
not_ended bytes at within e = absurd (omega (arith, ap length e, length-drop at bytes, within))

-- there is no token
pub bad_end : (bytes slice : List ℕ) (at : ℕ) (from to : Spelled) → slice ≡ drop at bytes → at < length bytes → Tells (take at bytes) from to → length to.told + length to.now ≤ MAX_FRAMES_BYTES → IsNoToken slice → EndsBadly bytes from
bad_end bytes slice at from to is within h few none = record {
  to = to;
  left = drop at bytes;
  told = told_up_to bytes at from to h;
  few = few;
  stops = λ t more token e. absurd (none t more token (is ∙ e));
  within = λ e after frames same. not_ended bytes at within e;
}

-- there is one that spells nothing
pub bad_take : (bytes slice : List ℕ) (at used : ℕ) (t : Token) (from to new : Spelled) (fault : PackedFault) → slice ≡ drop at bytes → BeginsWith slice t used → Tells (take at bytes) from to →
    length to.told + length to.now ≤ MAX_FRAMES_BYTES → Takes t to (Err fault) new → IsBlamed fault bytes from
bad_take bytes slice at used t from to new OutOfMemory is b h few takes = tt
bad_take bytes slice at used t from to new TooLong is b h few takes = absurd takes
bad_take bytes slice at used t from to new BadToken is b h few takes = record {
  to = to;
  left = drop at bytes;
  told = told_up_to bytes at from to h;
  few = few;
  stops = λ u more token e. ap (λ (k : Token). spell k to) (sym (one_token t u (drop used slice) more b.is token (sym b.whole ∙ is ∙ e)).0) ∙ takes;
  within = λ e after frames same. absurd (omega (arith, ap length (sym b.whole ∙ is ∙ e), length-append (token_bytes t) (drop used slice)));
}

-- one token more spells too much
pub too_much : (bytes slice : List ℕ) (at used : ℕ) (t : Token) (start from next : Spelled) → slice ≡ drop at bytes → BeginsWith slice t used → spell t from ≡ Some next → Tells (take at bytes) start from → MAX_FRAMES_BYTES < size_of next →
    TellsTooMuch bytes start
too_much bytes slice at used t start from next is b e h more =
    record { to = next; left = drop (at + used) bytes; told = told_up_to bytes (at + used) start next (taken_more bytes slice at used t start from next is b e h); more = more }

-- the bytes are at their end, within a frame
pub ends_within : (bytes : List ℕ) (from to : Spelled) (fault : PackedFault) → fault ≡ BadToken → Tells bytes from to → length to.told + length to.now ≤ MAX_FRAMES_BYTES → ((after told : List ℕ) → to ≡ begun after told → ⊥) → IsBlamed fault bytes from
ends_within bytes from to BadToken is h few within = record {
  to = to;
  left = [];
  told = record { taken = bytes; whole = sym (append-nil bytes); told = h };
  few = few;
  stops = λ t more token e. absurd cc;
  within = λ e after frames same. within after frames same;
}
ends_within bytes from to fault is h few within = absurd cc

-- ---- frames as they are packed

-- what is left as it is, and the end
pub rest_tells : (s : Spelled) (rest : List ℕ) → length rest < 2 ^ 32 → Tells (flat_map token_bytes (rest_tokens rest)) s (begun (s.now ++ rest) (s.told ++ (s.now ++ rest)))
rest_tells s [] few = record {
  tokens = End ∷ [];
  are = (record { low = omega arith; high = omega arith; short = omega arith }, tt);
  whole = refl;
  spelled = (begun s.now (s.told ++ s.now), refl, ap (λ (l : List ℕ). begun l (s.told ++ l)) (sym (append-nil s.now)));
}
rest_tells s (b ∷ bytes) few = record {
  tokens = Long (b ∷ bytes) ∷ End ∷ [];
  are = (record { low = omega arith; high = omega arith; short = omega (arith, length-append (to_be_bytes w32 (length (b ∷ bytes))) (b ∷ bytes), few) }, (record { low = omega arith; high = omega arith; short = omega arith }, tt));
  whole = refl;
  spelled = (says (b ∷ bytes) s, refl, (begun (s.now ++ b ∷ bytes) (s.told ++ (s.now ++ b ∷ bytes)), refl, refl));
}

-- what is packed of a frame so far
abbrev pub partly : (before : List ℕ) (place : ℕ) (now : List ℕ) → Spelled
partly before place now = record { before = before; place = place; now = now; told = [] }

pub frame_tells : (before frame packed more new : List ℕ) (place at : ℕ) → length (drop at frame) < 2 ^ 32 → Tells packed (begun before []) (partly before place (take at frame)) → more ≡ drop at frame →
    new ≡ packed ++ flat_map token_bytes (rest_tokens more) → Tells new (begun before []) (begun frame frame)
frame_tells before frame packed more new place at few h is e =
    let whole : take at frame ++ drop at frame ≡ frame = take-append-drop at frame in
    let rest = rest_tells (partly before place (take at frame)) (drop at frame) few in
    let all = tells_on packed (flat_map token_bytes (rest_tokens (drop at frame))) (begun before []) (partly before place (take at frame)) (begun (take at frame ++ drop at frame) (take at frame ++ drop at frame)) h rest in
    subst (λ (s : List ℕ). Tells s (begun before []) (begun frame frame)) (ap (λ (l : List ℕ). packed ++ flat_map token_bytes (rest_tokens l)) (sym is) ∙ sym e)
    (subst (λ (l : List ℕ). Tells (packed ++ flat_map token_bytes (rest_tokens (drop at frame))) (begun before []) (begun l l)) whole all)

pub plain_tells : (before frame new : List ℕ) → length frame < 2 ^ 32 → new ≡ [] ++ flat_map token_bytes (rest_tokens frame) → Tells new (begun before []) (begun frame frame)
plain_tells before frame new few e = subst (λ (s : List ℕ). Tells s (begun before []) (begun frame frame)) (sym e) (rest_tells (begun before []) frame few)

-- ---- runs

pub run_small : (before rest : List ℕ) (place : ℕ) (r : Run) → Fits before place rest r → (run_size r ≤ 128) × (moves r ≤ 62) × (run_size r ≤ length rest)
run_small before rest place (run.Copy n) f = (omega (arith, f.1), omega arith, f.3)
run_small before rest place (run.Literal n) f = (omega (arith, f.1), omega arith, f.2)
run_small before rest place (run.Digits n) f = (omega (arith, f.1), omega arith, f.2)
run_small before rest place (run.Move n) f = (omega arith, f, omega arith)

pub place_inside : (r : Run) (place long : ℕ) → place_after r place long ≤ long
place_inside (run.Copy n) place long = omega arith
place_inside (run.Literal n) place long = omega arith
place_inside (run.Digits n) place long = omega arith
place_inside (run.Move n) place long = omega arith

says_is : (before frame bytes : List ℕ) (place at n : ℕ) → length bytes ≡ n → bytes ≡ take n (drop at frame) → says bytes (partly before place (take at frame)) ≡ partly before (min (place + n) (length before)) (take (at + n) frame)
says_is before frame bytes place at n long is =
    ap (λ (k : ℕ). partly before (min (place + k) (length before)) (take at frame ++ bytes)) long
    ∙ ap (λ (l : List ℕ). partly before (min (place + n) (length before)) (take at frame ++ l)) is
    ∙ ap (λ (l : List ℕ). partly before (min (place + n) (length before)) l) (sym (take-add at n frame))

run_spells : (before frame : List ℕ) (place at : ℕ) (r : Run) (t : Token) → Fits before place (drop at frame) r → IsRunOf r (drop at frame) t →
    spell t (partly before place (take at frame)) ≡ Some (partly before (place_after r place (length before)) (take (at + run_size r) frame))
run_spells before frame place at (run.Copy n) t f is =
    let few : n ≤ length (drop place before) = omega (arith, length-drop place before, f.2) in
    ap (λ (k : Token). spell k (partly before place (take at frame))) is
    ∙ ap (λ (b : Bool). cond b None (Some (says (take n (drop place before)) (partly before place (take at frame))))) (le-ltb (length before) (place + n) f.2)
    ∙ ap (λ (s : Spelled). Some s) (says_is before frame (take n (drop place before)) place at n (length-take-le n (drop place before) few) f.4)
run_spells before frame place at (run.Literal n) t f is =
    ap (λ (k : Token). spell k (partly before place (take at frame))) is
    ∙ ap (λ (s : Spelled). Some s) (says_is before frame (take n (drop at frame)) place at n (length-take-le n (drop at frame) f.2) refl)
run_spells before frame place at (run.Digits n) t f is =
    ap (λ (k : Token). spell k (partly before place (take at frame))) is.2
    ∙ ap (λ (s : Spelled). Some s) (says_is before frame (flat_map two_digits is.0) place at (2 * n) (ap length is.1.spelled ∙ length-take-le (2 * n) (drop at frame) f.2) is.1.spelled)
run_spells before frame place at (run.Move n) t f is =
    ap (λ (k : Token). spell k (partly before place (take at frame))) is
    ∙ ap (λ (k : ℕ). Some (partly before (min (place + n - 31) (length before)) (take k frame))) same
  where
    same : at ≡ at + 0
    same = omega arith

-- one run more
pub run_more : (before frame rest old new : List ℕ) (place at to upto : ℕ) (r : Run) → rest ≡ drop at frame → Fits before place rest r → Writes r rest old new → to ≡ place_after r place (length before) → upto ≡ at + run_size r →
    Tells old (begun before []) (partly before place (take at frame)) → Tells new (begun before []) (partly before to (take upto frame))
run_more before frame rest old new place at to upto r is f w to_is upto_is h =
    let e : spell w.token (partly before place (take at frame)) ≡ Some (partly before (place_after r place (length before)) (take (at + run_size r) frame)) =
    run_spells before frame place at r w.token (subst (λ (l : List ℕ). Fits before place l r) is f) (subst (λ (l : List ℕ). IsRunOf r l w.token) is w.of_run) in
    let all = tells_on old (token_bytes w.token) (begun before []) (partly before place (take at frame)) _ h (tells_one w.token (partly before place (take at frame)) _ w.is e) in
    subst (λ (s : List ℕ). Tells s (begun before []) (partly before to (take upto frame))) (sym w.behind)
    (subst (λ (k : ℕ). Tells (old ++ token_bytes w.token) (begun before []) (partly before k (take upto frame))) (sym to_is)
    (subst (λ (k : ℕ). Tells (old ++ token_bytes w.token) (begun before []) (partly before (place_after r place (length before)) (take k frame))) (sym upto_is) all))

-- ---- a run as it is written

writes : (r : Run) (rest old new : List ℕ) (t : Token) (first : ℕ) (more : List ℕ) → IsToken t → IsRunOf r rest t → first ≡ head t → more ≡ body t → new ≡ (old ++ first ∷ []) ++ more → Writes r rest old new
writes r rest old new t first more is of_run f m e = record {
  token = t;
  is = is;
  of_run = of_run;
  behind = e ∙ append_assoc old (first ∷ []) more ∙ ap (λ (b : ℕ). old ++ b ∷ more) f ∙ ap (λ (l : List ℕ). old ++ head t ∷ l) m;
}

pub writes_copy : (r : Run) (n : ℕ) (rest old new : List ℕ) → r ≡ run.Copy n → CanBeWritten r rest → new ≡ old ++ n ∷ [] → Writes r rest old new
writes_copy r n rest old new e can is =
    let here : (0 < n) × (n ≤ 63) = subst (λ (x : Run). CanBeWritten x rest) e can in
    subst (λ (x : Run). Writes x rest old new) (sym e) (record { token = Copy n; is = record { low = omega (arith, here.0); high = omega (arith, here.1); short = omega arith }; of_run = refl; behind = is })

pub writes_move : (r : Run) (n first : ℕ) (rest old new : List ℕ) → r ≡ run.Move n → CanBeWritten r rest → first ≡ 192 + n → new ≡ old ++ first ∷ [] → Writes r rest old new
writes_move r n first rest old new e can f is =
    let here : n ≤ 62 = subst (λ (x : Run). CanBeWritten x rest) e can in
    subst (λ (x : Run). Writes x rest old new) (sym e) (record { token = Move n; is = record { low = omega arith; high = omega (arith, here); short = omega arith }; of_run = refl; behind = is ∙ ap (λ (b : ℕ). old ++ b ∷ []) f })

pub writes_literal : (r : Run) (n first : ℕ) (rest more old new : List ℕ) → r ≡ run.Literal n → CanBeWritten r rest → first ≡ 63 + n → more ≡ take n rest → new ≡ (old ++ first ∷ []) ++ more → Writes r rest old new
writes_literal r n first rest more old new e can f m is =
    let here : (0 < n) × (n ≤ 64) × (n ≤ length rest) = subst (λ (x : Run). CanBeWritten x rest) e can in
    let long : length (take n rest) ≡ n = length-take-le n rest here.2 in
    subst (λ (x : Run). Writes x rest old new) (sym e)
    (writes (run.Literal n) rest old new (Literal (take n rest)) first more
    (record { low = omega (arith, long, here.0); high = omega (arith, long, here.1); short = omega (arith, long, here.1) }) refl (f ∙ ap (λ (k : ℕ). 63 + k) (sym long)) m is)

pub writes_digits : (r : Run) (n first : ℕ) (rest bytes old new : List ℕ) → r ≡ run.Digits n → CanBeWritten r rest → first ≡ 127 + n → ArePairs n rest bytes → new ≡ (old ++ first ∷ []) ++ bytes → Writes r rest old new
writes_digits r n first rest bytes old new e can f pairs is =
    let here : (0 < n) × (n ≤ 64) × (2 * n ≤ length rest) × AreDigits (2 * n) rest = subst (λ (x : Run). CanBeWritten x rest) e can in
    subst (λ (x : Run). Writes x rest old new) (sym e)
    (writes (run.Digits n) rest old new (Digits bytes) first bytes
    (record { low = omega (arith, pairs.many, here.0); high = omega (arith, pairs.many, here.1); short = omega (arith, pairs.many, here.1) }) (bytes, pairs, refl) (f ∙ ap (λ (k : ℕ). 127 + k) (sym pairs.many)) refl is)
