-- what a request may carry, and that there is one request
use Rattle.std.proofs.Common.{◌≡◌, ◌≤◌, ◌<◌, ◌+◌, ℕ, zero, suc, true, refl, sym, ap, subst, ◌∙◌, arith, List, [], ◌∷◌, ◌++◌, take, map, length, Option, Some, None, IfSome}
use Rattle.mr_replica.proofs.Names.{All, All-cons, All-head, All-nil, All-tail, AllPairs, AllPairs-head, AllPairs-tail, AllZip, AreAsked, AreItems}
use Rattle.mr_replica.proofs.Names.{AreListable, ComesFirst, ConciseFragment, Form, FragmentsRise, IsAskOf, IsLongestWithin, IsPieceOf, IsQuestion}
use Rattle.mr_replica.proofs.Names.{MAX_ASKED_BYTES, Name, Pairs, Part, Piece, Question, State, append_assoc, fragment_bytes, items_bytes, least_follows}
use Rattle.mr_replica.proofs.Names.{least_item, length-append, piece_of, total_len, vector_bytes}
use Rattle.std.proofs.lemmas.List.Sums.{sum_by_push, sum_by-cons}
use Rattle.mr_replica.proofs.Kept.{may_list, pieces_unique}

-- ---- a frame carries the fragments of parts

-- the fragments of listable parts have items that a frame carries
pub parts_carried : (ps : List Part) (fs : List ConciseFragment) → AllZip IsPieceOf ps (map piece_of fs) → All (λ p. IfSome p.items AreListable) ps → All (λ f. AreItems (piece_of f).items) fs
parts_carried [] [] are h = All-nil (λ (f : ConciseFragment). AreItems (piece_of f).items)
parts_carried (p ∷ ps) (f ∷ fs) are h =
    All-cons (λ (f : ConciseFragment). AreItems (piece_of f).items) f fs
    (subst AreItems (sym are.0.items) (may_list p.items (All-head (λ (p : Part). IfSome p.items AreListable) p ps h)))
    (parts_carried ps fs are.1 (All-tail (λ (p : Part). IfSome p.items AreListable) p ps h))
parts_carried ps fs are h = absurd are

-- the least items of parts in order
follows : (a b : Option (List Name)) → IfSome b AreListable → ComesFirst a b → least_follows (Some (least_item a)) (least_item b) ≡ true
follows a b ok first = grind arith

abbrev Listable : Part → Type 0
Listable p = IfSome p.items AreListable

abbrev Before : Part → Part → Type 0
Before p q = ComesFirst p.items q.items

rise_behind : (p : Part) (ps : List Part) (fs : List Piece) → AllZip IsPieceOf ps fs → All Listable ps → All (Before p) ps → AllPairs Before ps → FragmentsRise (Some (least_item p.items)) fs
rise_behind p [] [] are ok above order = tt
rise_behind p (q ∷ qs) (f ∷ fs) are ok above order =
    rw are.0.items
    (follows p.items q.items (All-head Listable q qs ok) (All-head (Before p) q qs above), rise_behind q qs fs are.1 (All-tail Listable q qs ok) (AllPairs-head Before q qs order) (AllPairs-tail Before q qs order))
rise_behind p qs fs are ok above order = absurd are

parts_rise : (ps : List Part) (fs : List Piece) → AllZip IsPieceOf ps fs → All Listable ps → AllPairs Before ps → FragmentsRise None fs
parts_rise [] [] are ok order = tt
parts_rise (q ∷ qs) (f ∷ fs) are ok order =
    rw are.0.items (refl, rise_behind q qs fs are.1 (All-tail Listable q qs ok) (AllPairs-head Before q qs order) (AllPairs-tail Before q qs order))
parts_rise qs fs are ok order = absurd are

-- so does a beginning of them
rise_take : (n : ℕ) (before : Option (Option Name)) (ps : List Piece) → FragmentsRise before ps → FragmentsRise before (take n ps)
rise_take zero before ps h = tt
rise_take (suc n) before [] h = tt
rise_take (suc n) before (p ∷ ps) h = (h.0, rise_take n (Some (least_item p.items)) ps h.1)

-- the fragments that a request tells rise
asked_rise : (is_part : Part → Type 0) (known : Pairs) (asked : List Piece) → AreAsked is_part known asked → FragmentsRise None asked
asked_rise is_part known asked h = grind (arith, rise_take, parts_rise)

-- how many bytes a piece takes
abbrev size : Piece → ℕ
size p = length (fragment_bytes p)

-- each piece takes some
piece_counts : (ps : List Piece) → length ps ≤ total_len ps
piece_counts [] = omega arith
piece_counts (p ∷ ps) = omega (arith, sum_by-cons size p ps, one p.items, length-append (items_bytes p.items) (vector_bytes p.vector), piece_counts ps)
  where
    one : (items : Option (List Name)) → 1 ≤ length (items_bytes items)
    one None = omega arith
    one (Some items) = omega arith

-- such a request is one that a frame carries
pub asked_question : (is_part : Part → Type 0) (known : Pairs) (session : ℕ) (asked : List Piece) → 1 ≤ session → AreAsked is_part known asked → IsQuestion session asked
asked_question is_part known session asked from h = record {
  session_from = from;
  rise = asked_rise is_part known asked h;
  few = omega (arith, piece_counts asked, h.longest.within);
}

-- ---- the longest beginning

-- How far the beginning goes, and what is left of the room.
pub record FitsSoFar (most : ℕ) (all asked left : List Piece) (room : ℕ) : Type 0 where
  pub whole : all ≡ asked ++ left
  pub used : total_len asked + room ≡ most

total_more : (asked : List Piece) (p : Piece) → total_len (asked ++ p ∷ []) ≡ total_len asked + length (fragment_bytes p)
total_more asked p = sum_by_push (λ (p : Piece). length (fragment_bytes p)) asked p

pub fits_more : (most : ℕ) (all asked left : List Piece) (p : Piece) (room len rest : ℕ) → FitsSoFar most all asked (p ∷ left) room → len ≡ length (fragment_bytes p) → rest + len ≡ room → FitsSoFar most all (asked ++ p ∷ []) left rest
fits_more most all asked left p room len rest h is taken = grind (arith, append_assoc, total_more)

-- a beginning that takes less than this with one piece more is no longer
no_longer : (asked : List Piece) (p : Piece) (rest : List Piece) (n : ℕ) → total_len (take n (asked ++ p ∷ rest)) < total_len asked + length (fragment_bytes p) → length (take n (asked ++ p ∷ rest)) ≤ length asked
no_longer asked p rest zero less = omega arith
no_longer [] p rest (suc n) less =
    let more : total_len (take (suc n) ([] ++ p ∷ rest)) ≡ size p + total_len (take n rest) = sum_by-cons size p (take n rest) in
    absurd (omega (arith, less, more))
no_longer (q ∷ asked) p rest (suc n) less =
    let more : total_len (take (suc n) ((q ∷ asked) ++ p ∷ rest)) ≡ size q + total_len (take n (asked ++ p ∷ rest)) = sum_by-cons size q (take n (asked ++ p ∷ rest)) in
    let used : total_len (q ∷ asked) ≡ size q + total_len asked = sum_by-cons size q asked in
    let shorter : length (take n (asked ++ p ∷ rest)) ≤ length asked = no_longer asked p rest n (omega (arith, less, more, used)) in
    omega (arith, shorter)

is_beginning : (asked rest : List Piece) → asked ≡ take (length asked) (asked ++ rest)
is_beginning [] rest = refl
is_beginning (p ∷ asked) rest = ap (λ ps. p ∷ ps) (is_beginning asked rest)

-- where the next piece does not fit
pub fits_until : (most : ℕ) (all asked left : List Piece) (p : Piece) (room : ℕ) → FitsSoFar most all asked (p ∷ left) room → room < length (fragment_bytes p) → IsLongestWithin most all asked
fits_until most all asked left p room h less = grind (arith, is_beginning, no_longer)

-- there is one
one_longest : (most : ℕ) (all a b : List Piece) → IsLongestWithin most all a → IsLongestWithin most all b → a ≡ b
one_longest most all a b h k = grind arith

-- ---- one request

-- what a request tells of a knowledge is one list
same_asked : (is_part : Part → Type 0) (known : Pairs) (a b : List Piece) → AreAsked is_part known a → AreAsked is_part known b → a ≡ b
same_asked is_part known a b h k =
    let pieces : map piece_of k.fragments ≡ map piece_of h.fragments = pieces_unique is_part (map piece_of k.fragments) (map piece_of h.fragments) k.are h.are in
    one_longest MAX_ASKED_BYTES (map piece_of h.fragments) a b h.longest (subst (λ ps. IsLongestWithin MAX_ASKED_BYTES ps b) pieces k.longest)

-- a replica has one request to make
pub same_ask : {K : Type 0} (form : Form K) (s : State K) (a b : Question) → IsAskOf form s a → IsAskOf form s b → b ≡ a
same_ask form s a b h k =
    let target : b.target ≡ a.target = k.target ∙ sym h.target in
    let session : b.session ≡ a.session = k.session ∙ sym h.session in
    let filter : b.filter ≡ a.filter = k.filter ∙ sym h.filter in
    let fragments : b.fragments ≡ a.fragments = same_asked (form.is_part s.knowledge) (form.known s.knowledge) b.fragments a.fragments k.fragments h.fragments in
    λ i. record { target = target i; session = session i; filter = filter i; fragments = fragments i }
