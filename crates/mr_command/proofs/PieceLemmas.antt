-- the parts of a word, one after the other
use Rattle.std.proofs.Common.{◌≡◌, ◌≢◌, ◌==◌, ℕ, ◌<◌, ◌∙◌, List, [], ◌∷◌, ◌++◌, length, map, ap, append-nil, append_assoc, All, Bool, true, false, Option, Some, None, Result, Ok, Err, IfOk, Bor, refl, sym, arith}
use Rattle.mr_command.proofs.Names.{IsSplitOnceResult, IsVersion, IsVersionName, MatchOption, Name, fails_before_first, false≢true, is_err, map-append}
use Rattle.mr_command.proofs.Names.{name_text, parts_of, position_or_len, slice_split_first, slice_split_none, split_once_first}
use Rattle.std.proofs.lemmas.List.Elements.{All-nil, All-push, All-head, All-tail}
use Rattle.mr_version.specs.declared.fault.VersionFault.{VersionFault}

-- a text with no separator is its one part
pub parts-whole : (separator : ℕ) (text : List ℕ) → position_or_len (λ b. b == separator) text ≡ length text → parts_of separator text ≡ text ∷ []
parts-whole separator text none = slice_split_none (λ b. b == separator) text (λ k d inside. fails_before_first (λ b. b == separator) text k d (omega arith))

-- what `split_once` says of the parts
pub parts-split : (separator : ℕ) (text : List ℕ) (r : Option (Bor (List ℕ) × Bor (List ℕ))) → separator < 128 → IsSplitOnceResult separator text r → MatchOption r (parts_of separator text ≡ text ∷ []) (λ p. parts_of separator text ≡ p.0.now ∷ parts_of separator p.1.now)
parts-split separator text None ascii split = parts-whole separator text (split_once_first separator text None split ascii)
parts-split separator text (Some p) ascii split =
    let cut = split_once_first separator text (Some p) split ascii in
    rw (cut.1, cut.2) (slice_split_first (λ b. b == separator) text 0 cut.0)

-- a thing whose text is not the one at this place
no_text : {X : Type 0} (text : X → List ℕ) (Is : X → Type 0) (front next : List (List ℕ)) (piece : List ℕ) (xs : List X) → ((x : X) → Is x → piece ≢ text x) → All Is xs → map text xs ≡ front ++ piece ∷ next → ⊥
no_text text Is [] next piece [] none each same = cc
no_text text Is (f ∷ front) next piece [] none each same = cc
no_text text Is [] next piece (x ∷ xs) none each same =
    let here : piece ≡ text x = cc in
    none x (All-head Is x xs each) here
no_text text Is (f ∷ front) next piece (x ∷ xs) none each same =
    let rest : map text xs ≡ front ++ piece ∷ next = cc in
    no_text text Is front next piece xs none (All-tail Is x xs each) rest

-- The parts before those that are left are the texts of these things, and each of them is such.
pub record NamedSoFar {X : Type 0} (text : X → List ℕ) (Is : X → Type 0) (all left : List (List ℕ)) (xs : List X) : Type 0 where
  pub pieces : all ≡ map text xs ++ left
  pub each : All Is xs

module _ {X : Type 0} (text : X → List ℕ) (Is : X → Type 0) where
  pub named-begin : (all left : List (List ℕ)) (xs : List X) → left ≡ all → xs ≡ [] → NamedSoFar text Is all left xs
  named-begin all left xs is none = rw (is, none) (record { pieces = refl; each = All-nil Is })

  -- one more thing, whose text is the next part
  pub named-more : (all left next : List (List ℕ)) (xs : List X) (x : X) → NamedSoFar text Is all left xs → left ≡ text x ∷ next → Is x → NamedSoFar text Is all next (xs ++ x ∷ [])
  named-more all left next xs x so_far cut such = record {
    pieces = so_far.pieces ∙ ap (λ ps. map text xs ++ ps) cut ∙ sym (append_assoc (map text xs) (text x ∷ []) next) ∙ ap (λ ps. ps ++ next) (sym (map-append text xs (x ∷ [])));
    each = All-push Is xs x so_far.each such;
  }

  -- no part is left
  pub named-end : (all left : List (List ℕ)) (xs : List X) → NamedSoFar text Is all left xs → left ≡ [] → map text xs ≡ all
  named-end all left xs so_far none = sym (so_far.pieces ∙ ap (λ ps. map text xs ++ ps) none ∙ append-nil (map text xs))

  -- the next part is the text of no such thing
  pub named-none : (all left next : List (List ℕ)) (xs : List X) (piece : List ℕ) → NamedSoFar text Is all left xs → left ≡ piece ∷ next → ((x : X) → Is x → piece ≢ text x) → (others : List X) → All Is others → map text others ≡ all → ⊥
  named-none all left next xs piece so_far cut none others each same =
      no_text text Is (map text xs) next piece others none each (same ∙ so_far.pieces ∙ ap (λ ps. map text xs ++ ps) cut)

-- what a reader answers is a version whose text it read, or none
pub record IsReadAs (piece : List ℕ) : Type 0 where
  pub version : Name
  pub spelled : piece ≡ name_text version
  pub such : IsVersionName version

pub read_some : (r : Result Name VersionFault) (failed : Bool) → failed ≡ is_err r → failed ≡ false → (piece : List ℕ) → IfOk r (λ v. piece ≡ name_text v) → IfOk r (λ v. IsVersion v.author v.counter) → IsReadAs piece
read_some (Ok v) failed is not piece spelled range = record { version = v; spelled = spelled; such = range }
read_some (Err e) failed is not piece spelled range = absurd (false≢true (sym not ∙ is))

pub read_none : (r : Result Name VersionFault) (failed : Bool) (v : Name) → failed ≡ is_err r → failed ≡ true → r ≡ Ok v → ⊥
read_none r failed v is was same = false≢true (sym (ap is_err same) ∙ sym is ∙ was)

-- what is said of nothing is said of each
pub all_any : {X : Type 0} (xs : List X) → All (λ _. Unit {0}) xs
all_any xs _ _ _ = tt
