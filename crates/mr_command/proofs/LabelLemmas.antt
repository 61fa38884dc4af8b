-- the different ones of the parts of a word, one after the other
use Rattle.std.proofs.Common.{◌≡◌, ℕ, ◌<◌, ◌≤◌, ◌∙◌, ◌||◌, Bool, true, false, List, [], ◌∷◌, ◌++◌, length, map, Bor, ap, append-nil, append_assoc, refl, sym, arith}
use Rattle.mr_command.proofs.Names.{different_labels, has_label, length-append, list_any, text_eq}
use Rattle.std.specs.List.{IsDistinct}
use Rattle.std.specs.Cmp.Lexicographic.{nat_list_eq_equiv}
use Rattle.std.proofs.lemmas.List.Folds.{list_any-append}
use Rattle.std.proofs.lemmas.Map.Keys.{IsDistinct-push}
use Rattle.std.proofs.lemmas.Map.Made.{length-from_keys}
use Rattle.std.proofs.lemmas.Map.Steps.{list_any_congr}

-- the texts that were seen are those of the parts before those that are left, each once
pub record SeenSoFar (all left seen : List (List ℕ)) : Type 0 where
  pub before : List (List ℕ)
  pub pieces : all ≡ before ++ left
  pub apart : IsDistinct text_eq seen
  pub same : (label : List ℕ) → has_label seen label ≡ has_label before label

pub seen-begin : (all left seen : List (List ℕ)) → left ≡ all → seen ≡ [] → SeenSoFar all left seen
unfolding IsDistinct
seen-begin all left seen is none = rw (is, none) (record { before = []; pieces = refl; apart = tt; same = λ label. refl })

-- a text that was seen adds nothing
found_again : (same rest : Bool) → (same ≡ true → rest ≡ true) → rest ≡ (rest || (same || false))
found_again same true again = refl
found_again true false again = again refl
found_again false false again = refl

module _ (all left next seen : List (List ℕ)) (piece : List ℕ) (so_far : SeenSoFar all left seen) (cut : left ≡ piece ∷ next) where
  taken : all ≡ (so_far.before ++ piece ∷ []) ++ next
  taken = so_far.pieces ∙ ap (λ ps. so_far.before ++ ps) cut ∙ sym (append_assoc so_far.before (piece ∷ []) next)

  pub seen-again : has_label seen piece ≡ true → SeenSoFar all next seen
  seen-again has = record {
    before = so_far.before ++ piece ∷ [];
    pieces = taken;
    apart = so_far.apart;
    same = λ label.
        found_again (text_eq label piece) (has_label seen label) (λ same. list_any_congr nat_list_eq_equiv label piece seen same ∙ has)
        ∙ ap (λ b. b || (text_eq label piece || false)) (so_far.same label)
        ∙ sym (list_any-append (text_eq label) so_far.before (piece ∷ []));
  }

  pub seen-more : has_label seen piece ≡ false → SeenSoFar all next (seen ++ piece ∷ [])
  seen-more lacks = record {
    before = so_far.before ++ piece ∷ [];
    pieces = taken;
    apart = IsDistinct-push nat_list_eq_equiv seen piece so_far.apart lacks;
    same = λ label.
        list_any-append (text_eq label) seen (piece ∷ [])
        ∙ ap (λ b. b || (text_eq label piece || false)) (so_far.same label)
        ∙ sym (list_any-append (text_eq label) so_far.before (piece ∷ []));
  }

-- no part is left
pub seen-all : (all left seen : List (List ℕ)) → SeenSoFar all left seen → left ≡ [] → length seen ≡ different_labels all
seen-all all left seen so_far none =
    let whole : all ≡ so_far.before = so_far.pieces ∙ ap (λ ps. so_far.before ++ ps) none ∙ append-nil so_far.before in
    length-from_keys nat_list_eq_equiv seen all so_far.apart (λ label. so_far.same label ∙ ap (λ ps. has_label ps label) (sym whole))

-- there are at least as many as were seen so far
pub seen-le : (all left seen : List (List ℕ)) → SeenSoFar all left seen → length seen ≤ different_labels all
seen-le all [] seen so_far = let as_many = seen-all all [] seen so_far refl in omega (arith, as_many)
seen-le all (piece ∷ next) seen so_far =
    by (has_label seen piece) refl
    (λ has. seen-le all next seen (seen-again all (piece ∷ next) next seen piece so_far refl has))
    (λ lacks. seen-le all next (seen ++ piece ∷ []) (seen-more all (piece ∷ next) next seen piece so_far refl lacks))
  where
    by : (b : Bool) → has_label seen piece ≡ b → (has_label seen piece ≡ true → length seen ≤ different_labels all) → (has_label seen piece ≡ false → length (seen ++ piece ∷ []) ≤ different_labels all) → length seen ≤ different_labels all
    by true is again more = again is
    by false is again more =
        let longer = more is in
        let long = length-append seen (piece ∷ []) in
        omega (arith, longer, long)

-- and one more where the next was not
pub seen-many : (all left next seen : List (List ℕ)) (piece : List ℕ) → SeenSoFar all left seen → left ≡ piece ∷ next → has_label seen piece ≡ false → length seen < different_labels all
seen-many all left next seen piece so_far cut lacks =
    let more = seen-le all next (seen ++ piece ∷ []) (seen-more all left next seen piece so_far cut lacks) in
    let long = length-append seen (piece ∷ []) in
    omega (arith, more, long)

-- a text among those that are lent
pub has_lent : (piece : List ℕ) (lent : List (Bor (List ℕ))) → list_any (λ text. text_eq text.now piece) lent ≡ has_label (map (λ text. text.now) lent) piece
has_lent piece [] = refl
has_lent piece (text ∷ lent) = λ i. nat_list_eq_equiv.symm text.now piece i || has_lent piece lent i
