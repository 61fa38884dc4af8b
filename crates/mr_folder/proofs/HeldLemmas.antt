-- digests among others, and among the names of files
use Rattle.std.proofs.Common.{◌≡◌, ◌↔◌, ◌⊎◌, ℕ, zero, suc, ◌+◌, ◌<◌, Bool, true, false, if◌then◌else◌, List, [], ◌∷◌, ◌++◌, length, get_or, take, Option, None, Some, Result, Ok, Err, sym, ◌∙◌, ap, ap₂, subst, arith, inl, inr, ⊎_elim, refl}
use Rattle.mr_folder.proofs.Names.{Contains, IsDigest, bytes_decides, bytes_eq, cases_lt, cons_option, decode_sized, decode_sized-encode_lower, digest_of}
use Rattle.mr_folder.proofs.Names.{encode_lower, false≢true, filter_map, if_lower, is_ok, nat_list_cmp_total, option_to_list, slice_cmp, take_more}
use Rattle.mr_folder.proofs.Names.{texts_ties}
use Rattle.std.proofs.lemmas.List.Elements.{filter_map-append}
use Rattle.std.specs.List.Sorted.{IsSorted, IsPartitionPoint, IsBinarySearchResult, IsSearchInRange}
use Rattle.std.specs.Ordering.{is_eq, nat_cmp}
use Rattle.std.specs.declared.cmp.Ordering.TheVariants.{Less, Greater}
use Rattle.std.proofs.lemmas.List.Sorted.{searchable_from_sorted}
use Rattle.hex.specs.declared.error.FromHexError.{FromHexError}

-- no text compares with itself as less or greater
apart : (x y : List ℕ) → y ≡ x → is_eq (slice_cmp nat_cmp y x) ≡ true
apart x y same = sym (texts_ties y x) ∙ (bytes_decides y x).1 same

-- a binary search finds exactly what is among sorted texts
pub held-search : (xs : List (List ℕ)) (x : List ℕ) (found : Result ℕ ℕ) → IsSorted (slice_cmp nat_cmp) xs → IsSearchInRange found (length xs) → IsBinarySearchResult (λ y. slice_cmp nat_cmp y x) xs found → (is_ok found ≡ true) ↔ Contains xs x
held-search xs x (Ok i) sorted within at =
    (λ _. (i, within, (bytes_decides (get_or xs i x) x).0 (texts_ties (get_or xs i x) x ∙ ap is_eq (at x))), λ _. refl)
held-search xs x (Err i) sorted within parts =
    let p : IsPartitionPoint (λ y. slice_cmp nat_cmp y x ≡ Less) (λ y. slice_cmp nat_cmp y x ≡ Greater) xs i = parts (searchable_from_sorted nat_list_cmp_total (λ y. y) xs x sorted) in (
      λ is. absurd (false≢true is),
      λ among. absurd (elim (cases_lt among.0 i) [
        | inl before ↦ false≢true (sym (ap is_eq (p.0 among.0 x (omega arith) before)) ∙ apart x (get_or xs among.0 x) among.2)
        | inr after ↦ false≢true (sym (ap is_eq (p.1 among.0 x after among.1)) ∙ apart x (get_or xs among.0 x) among.2)
      ]),
    )

-- an element of a longer list
pub first_among : {X : Type 0} (x : X) (xs : List X) → Contains (x ∷ xs) x
first_among x xs = (0, omega (arith), refl)

pub more_among : {X : Type 0} (y x : X) (xs : List X) → Contains xs x → Contains (y ∷ xs) x
more_among y x xs among = (suc among.0, omega (arith, among.1), among.2)

among_cases : {X : Type 0} (y x : X) (xs : List X) → Contains (y ∷ xs) x → (y ≡ x) ⊎ Contains xs x
among_cases y x xs (zero, lt, is) = inl is
among_cases y x xs (suc k, lt, is) = inr (k, omega (arith, lt), is)

among_none : {X : Type 0} (x : X) → Contains [] x → ⊥
among_none x among = omega (arith, among.1)

-- what is among the results came of an element
from_cons : {X Y : Type 0} (f : X → Option Y) (x : X) (xs : List X) (y : Y) → (Contains (filter_map f xs) y → (z : X) × Contains xs z × (f z ≡ Some y)) → (o : Option Y) → f x ≡ o → Contains (cons_option o (filter_map f xs)) y → (z : X) × Contains (x ∷ xs) z × (f z ≡ Some y)
from_cons f x xs y before None is among = let found = before among in (found.0, more_among x found.0 xs found.1, found.2)
from_cons f x xs y before (Some w) is among =
    ⊎_elim
    (λ same. (x, first_among x xs, is ∙ ap Some same))
    (λ rest. let found = before rest in (found.0, more_among x found.0 xs found.1, found.2))
    (among_cases w y (filter_map f xs) among)

pub from_filter_map : {X Y : Type 0} (f : X → Option Y) (xs : List X) (y : Y) → Contains (filter_map f xs) y → (x : X) × Contains xs x × (f x ≡ Some y)
from_filter_map f [] y among = absurd (among_none y among)
from_filter_map f (x ∷ xs) y among = from_cons f x xs y (from_filter_map f xs y) (f x) refl among

among_more : {Y : Type 0} (o : Option Y) (y : Y) (ys : List Y) → Contains ys y → Contains (cons_option o ys) y
among_more None y ys among = among
among_more (Some w) y ys among = more_among w y ys among

pub to_filter_map : {X Y : Type 0} (f : X → Option Y) (xs : List X) (x : X) (y : Y) → Contains xs x → f x ≡ Some y → Contains (filter_map f xs) y
to_filter_map f [] x y among is = absurd (among_none x among)
to_filter_map f (z ∷ xs) x y among is =
    ⊎_elim
    (λ same. subst (λ o. Contains (cons_option o (filter_map f xs)) y) (sym (ap f same ∙ is)) (first_among y (filter_map f xs)))
    (λ rest. among_more (f z) y (filter_map f xs) (to_filter_map f xs x y rest is))
    (among_cases z x xs among)

-- a name is that of a digest exactly where its digits are
pub digest_of-encode_lower : (digest : List ℕ) → IsDigest digest → digest_of (encode_lower digest) ≡ Some digest
digest_of-encode_lower digest is =
    ap (if_lower (encode_lower digest)) (decode_sized-encode_lower digest 32 is.long is.bytes)
    ∙ written digest (encode_lower digest) refl
  where
    written : (d name : List ℕ) → encode_lower d ≡ name → if_lower name (Ok d) ≡ Some d
    written d name same = let yes : bytes_eq (encode_lower d) name ≡ true = (bytes_decides (encode_lower d) name).1 same in rw yes refl

pub encode_lower-digest_of : (name digest : List ℕ) → digest_of name ≡ Some digest → encode_lower digest ≡ name
encode_lower-digest_of name digest is = go (decode_sized name 32) is
  where
    test : (d : List ℕ) (b : Bool) → bytes_eq (encode_lower d) name ≡ b → (if b then Some d else None) ≡ Some digest → encode_lower digest ≡ name
    test d true same found = let e : d ≡ digest = cc in subst (λ x. encode_lower x ≡ name) e ((bytes_decides (encode_lower d) name).0 same)
    test d false same found = absurd (cc)

    go : (r : Result (List ℕ) FromHexError) → if_lower name r ≡ Some digest → encode_lower digest ≡ name
    go (Ok d) found = test d (bytes_eq (encode_lower d) name) refl found
    go (Err e) found = absurd (cc)

-- the digests of names are those whose digits are among them
pub digests_of_names : (names : List (List ℕ)) (digest : List ℕ) → IsDigest digest → Contains (filter_map digest_of names) digest ↔ Contains names (encode_lower digest)
digests_of_names names digest is = (
  λ among. let found = from_filter_map digest_of names digest among in subst (Contains names) (sym (encode_lower-digest_of found.0 digest found.2)) found.1,
  λ among. to_filter_map digest_of names (encode_lower digest) digest among (digest_of-encode_lower digest is),
)

-- what the names tell of a digest, their digests tell
pub digests_tell : (names digests : List (List ℕ)) → digests ≡ filter_map digest_of names → (digest : List ℕ) → IsDigest digest → (P : Type 0) → Contains names (encode_lower digest) ↔ P → Contains digests digest ↔ P
digests_tell names digests are digest is P told = (
  λ among. told.0 ((digests_of_names names digest is).0 (subst (λ l. Contains l digest) are among)),
  λ p. subst (λ l. Contains l digest) (sym are) ((digests_of_names names digest is).1 (told.1 p)),
)

-- one more element's result
pub one_more : {X Y : Type 0} (f : X → Option Y) (xs : List X) (i : ℕ) (d : X) (ys more : List Y) (y : Option Y) → i < length xs → ys ≡ filter_map f (take i xs) → f (get_or xs i d) ≡ y → more ≡ ys ++ option_to_list y → more ≡ filter_map f (take (i + 1) xs)
one_more {X} {Y} f xs i d ys more y lt were is now =
    now
    ∙ (ap₂ (λ (a b : List Y). a ++ b) were (last (f (get_or xs i d)) y is)
    ∙ (sym (filter_map-append f (take i xs) (get_or xs i d ∷ [])) ∙ ap (filter_map f) (sym (take_more xs i d lt))))
  where
    last : (o p : Option Y) → o ≡ p → option_to_list p ≡ cons_option o []
    last None p e = ap option_to_list (sym e)
    last (Some z) p e = ap option_to_list (sym e)
