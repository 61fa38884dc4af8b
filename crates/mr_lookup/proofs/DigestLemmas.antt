-- the text of fragments, one after the other
use Rattle.std.proofs.Common.{◌≡◌, ℕ, ◌+◌, ◌-◌, ◌<◌, ◌≤◌, List, [], ◌∷◌, ◌++◌, length, take, drop, get_or, sym, ap, ◌∙◌, arith, append_assoc}
use Rattle.mr_lookup.proofs.Names.{All-weaker, ConciseFragment, Form, Part, drop-take, drop_at, flat_map, fragment_text, knowledge_text, length-drop}
use Rattle.mr_lookup.proofs.Names.{length-take, sha256, take_more}
use Rattle.std.proofs.lemmas.Grind.{flat_map-append}
use Rattle.mr_forms.specs.ByMeaning.{IsByMeaning}
use Rattle.mr_forms.specs.Parts.{ArePartsThat}
use Rattle.mr_replica.specs.Fragments.{AreFragmentsOf}
use Rattle.mr_replica.proofs.FragmentLemmas.{one_text}
use Rattle.mr_lookup.specs.Digest.{IsDigestOf}

-- what stands before a fragment that isn't the first, and it
abbrev behind : ConciseFragment → List ℕ
behind f = (59 ∷ 32 ∷ []) ++ fragment_text f

text_both : (xs ys : List ConciseFragment) → 1 ≤ length xs → 1 ≤ length ys → knowledge_text (xs ++ ys) ≡ knowledge_text xs ++ ((59 ∷ 32 ∷ []) ++ knowledge_text ys)
text_both [] ys some more = absurd (omega (arith, some))
text_both (x ∷ xs) [] some more = absurd (omega (arith, more))
text_both (x ∷ xs) (y ∷ ys) some more =
    ap (λ (l : List ℕ). fragment_text x ++ l) (flat_map-append behind xs (y ∷ ys)) ∙ sym (append_assoc (fragment_text x) (flat_map behind xs) (behind y ++ flat_map behind ys))
    ∙ ap (λ (l : List ℕ). (fragment_text x ++ flat_map behind xs) ++ l) (append_assoc (59 ∷ 32 ∷ []) (fragment_text y) (flat_map behind ys))

piece : (fs : List ConciseFragment) (i : ℕ) → i < length fs → take (i + 1) fs ≡ take i fs ++ take 1 (drop i fs)
piece [] i less = absurd (omega (arith, less))
piece (f ∷ fs) i less =
    let more : take (i + 1) (f ∷ fs) ≡ take i (f ∷ fs) ++ get_or (f ∷ fs) i f ∷ [] = take_more (f ∷ fs) i f less in
    let first : drop i (take (i + 1) (f ∷ fs)) ≡ take 1 (drop i (f ∷ fs)) = drop-take i 1 (f ∷ fs) in
    let front : length (take i (f ∷ fs)) ≡ i = let is = length-take i (f ∷ fs) in omega (arith, is, less) in
    let back : drop i (take i (f ∷ fs) ++ get_or (f ∷ fs) i f ∷ []) ≡ get_or (f ∷ fs) i f ∷ [] = drop_at (take i (f ∷ fs)) (get_or (f ∷ fs) i f ∷ []) i front in
    more ∙ ap (λ (l : List ConciseFragment). take i (f ∷ fs) ++ l) (sym back ∙ ap (drop i) (sym more) ∙ first)

-- one fragment more
pub text_grows : (fs : List ConciseFragment) (i : ℕ) → 1 ≤ i → i < length fs → knowledge_text (take (i + 1) fs) ≡ knowledge_text (take i fs) ++ ((59 ∷ 32 ∷ []) ++ knowledge_text (take 1 (drop i fs)))
text_grows fs i from less =
    let front : 1 ≤ length (take i fs) = let is = length-take i fs in omega (arith, is, from, less) in
    let one : 1 ≤ length (take 1 (drop i fs)) = let is = length-take 1 (drop i fs) in let left = length-drop i fs in omega (arith, is, left, less) in
    ap knowledge_text (piece fs i less) ∙ text_both (take i fs) (take 1 (drop i fs)) front one

-- so the text grows by what is hashed
pub text_step : (fs : List ConciseFragment) (i : ℕ) (m text : List ℕ) → 1 ≤ i → i < length fs → m ≡ knowledge_text (take i fs) → text ≡ knowledge_text (take ((i + 1) - i) (drop i fs))
    → (m ++ (59 ∷ 32 ∷ [])) ++ text ≡ knowledge_text (take (i + 1) fs)
text_step fs i m text from less before is =
    let one : (i + 1) - i ≡ 1 = omega arith in
    append_assoc m (59 ∷ 32 ∷ []) text ∙ ap (λ (l : List ℕ). m ++ ((59 ∷ 32 ∷ []) ++ l)) (is ∙ ap (λ (n : ℕ). knowledge_text (take n (drop i fs))) one)
    ∙ ap (λ (l : List ℕ). l ++ ((59 ∷ 32 ∷ []) ++ knowledge_text (take 1 (drop i fs)))) before ∙ sym (text_grows fs i from less)

-- ---- knowledges that know the same

parts_as : (P Q : Part → Type 0) → ((p : Part) → P p → Q p) → ((p : Part) → Q p → P p) → (parts : List Part) → ArePartsThat P parts → ArePartsThat Q parts
parts_as P Q to back parts h = record {
  in_order = h.in_order;
  are = All-weaker P Q to parts h.are;
  has_all = λ p is. h.has_all p (back p is);
}

fragments_as : (P Q : Part → Type 0) → ((p : Part) → P p → Q p) → ((p : Part) → Q p → P p) → (fragments : List ConciseFragment) → AreFragmentsOf P fragments → AreFragmentsOf Q fragments
fragments_as P Q to back fragments h = record { parts = h.parts; are_parts = parts_as P Q to back h.parts h.are_parts; by_part = h.by_part }

module _ {K : Type 0} (form : Form K) (by_meaning : IsByMeaning form) where
  -- the digest of one knowledge's text is that of each other one that knows the same
  pub digest_of : (knowledge : K) (fragments : List ConciseFragment) (digest : List ℕ) → AreFragmentsOf (form.is_part knowledge) fragments → digest ≡ sha256 (knowledge_text fragments) → IsDigestOf form knowledge digest
  digest_of knowledge fragments digest are is = record {
    fragments = fragments;
    are_all = are;
    digest_is = is;
    same = λ other same others others_are.
        is ∙ ap sha256 (one_text (form.is_part knowledge) fragments others are
        (fragments_as (form.is_part other) (form.is_part knowledge) (by_meaning.parts other knowledge (λ i v. sym (same i v))) (by_meaning.parts knowledge other same) others others_are));
  }
