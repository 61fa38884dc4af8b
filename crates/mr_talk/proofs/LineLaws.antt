-- What reads and feeds leave ahead.
use Rattle.std.proofs.Common.{◌≡◌, ℕ, List, [], ◌∷◌, ◌++◌, length, take, drop, Option, Some, None, Result, Ok, Err, OnErr, refl, sym, ap, subst, ◌∙◌, append_assoc, take-append-drop}
use Rattle.mr_talk.proofs.Names.{Appends, Appends-trans, Begins, Hears, IfErr, IsBegun, IsErrAnd, IsSame, Nexts, Said, append-nil, kind_byte, message_bytes}
use Rattle.mr_talk.proofs.Names.{to_be_bytes, w32}
use Rattle.mr_talk.specs.Line.{ahead}
use Rattle.mr_talk.proofs.StreamLaws.{begins_more}

-- ---- writing

-- all was written
pub begun_all : (a b : Option (List ℕ)) (xs : List ℕ) → Appends a b xs → IsBegun a b xs
begun_all a b xs p = record { part = xs; more = []; whole = sym (append-nil xs); written = p }

pub begun_take : (a b : Option (List ℕ)) (n : ℕ) (xs : List ℕ) → Appends a b (take n xs) → IsBegun a b xs
begun_take a b n xs p = record { part = take n xs; more = drop n xs; whole = sym (take-append-drop n xs); written = p }

-- a beginning of what stands in front is one of the whole
pub begun_front : (a b : Option (List ℕ)) (xs ys : List ℕ) → IsBegun a b xs → IsBegun a b (xs ++ ys)
begun_front a b xs ys h = record { part = h.part; more = h.more ++ ys; whole = ap (λ (z : List ℕ). z ++ ys) h.whole ∙ append_assoc h.part h.more ys; written = h.written }

-- so is all of it, with a beginning of what stands behind it
pub begun_behind : (a b c : Option (List ℕ)) (xs ys : List ℕ) → Appends a b xs → IsBegun b c ys → IsBegun a c (xs ++ ys)
begun_behind a b c xs ys p h = record {
  part = xs ++ h.part;
  more = h.more;
  whole = ap (λ (z : List ℕ). xs ++ z) h.whole ∙ sym (append_assoc xs h.part h.more);
  written = Appends-trans a b c xs h.part p h.written;
}

-- the three pieces in which a message is written
pub spelled_in_pieces : (m : Said) (kind : ℕ) (long : List ℕ) → kind ≡ kind_byte m.kind → long ≡ to_be_bytes w32 (length m.bytes) → (kind ∷ []) ++ (long ++ m.bytes) ≡ message_bytes m
spelled_in_pieces m kind long k n = ap (λ (x : ℕ). x ∷ (long ++ m.bytes)) k ∙ ap (λ (x : List ℕ). kind_byte m.kind ∷ (x ++ m.bytes)) n

pub holds_on_err : {T E P : Type 0} (r : Result T E) → P → OnErr r P
holds_on_err (Ok x) p = tt
holds_on_err (Err e) p = p

-- what holds of the fault that a `?` passes on
pub if_err : {T E : Type 0} (P : E → Type 0) (r : Result T E) (fault : E) → IsErrAnd r (λ e. e ≡ fault) → P fault → IfErr r P
if_err P (Ok x) fault is p = absurd is
if_err P (Err e) fault is p = subst P (sym is) p

-- ---- reading

-- what was ahead at the start is ahead still
hears_gives : (bytes : List ℕ) (rest rest' bytes' : Option (List ℕ)) (m : Said) → ahead rest bytes' ≡ Some bytes → Nexts rest (Ok (Some m)) rest' → Hears (Some bytes) (Ok m) (ahead rest' bytes')
hears_gives bytes None rest' bytes' m e n = absurd cc
hears_gives bytes (Some rest) rest' None m e n = absurd cc
hears_gives bytes (Some rest) rest' (Some xs) m e n =
    let is : rest ++ xs ≡ bytes = cc in
    (n.0 ++ xs, ap (λ (z : Option (List ℕ)). ahead z (Some xs)) n.1, subst (λ (z : List ℕ). Begins z m (n.0 ++ xs)) is (begins_more rest m n.0 xs n.2))

pub receive_gives : (start rest rest' bytes : Option (List ℕ)) (m : Said) → IsSame start (ahead rest bytes) → Nexts rest (Ok (Some m)) rest' → Hears start (Ok m) (ahead rest' bytes)
receive_gives None rest rest' bytes m s n = tt
receive_gives (Some b) rest rest' bytes m s n = hears_gives b rest rest' bytes m s n

pub same_self : (o : Option (List ℕ)) → IsSame o o
same_self None = tt
same_self (Some b) = refl
