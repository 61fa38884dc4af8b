-- the lanes and the marks of a picture
use Rattle.std.proofs.Common.{◌≡◌, ◌<◌, ◌≤◌, ℕ, zero, suc, ◌+◌, ◌∙◌, ap, sym, subst, List, [], ◌∷◌, ◌++◌, length, map, take, refl, arith}
use Rattle.mr_draw.proofs.Names.{AreMarksOf, Happened, IsMarkOf, MAX_ROWS, Name, below, length-take-le, map-append, named_at, named_by, named_from}
use Rattle.mr_world.specs.Kept.{WorldView}
use Rattle.mr_draw.specs.MarkView.{MarkView}
use Rattle.mr_draw.specs.HeadingView.{HeadingView}

-- one id more
pub below-more : (n : ℕ) → below (n + 1) ≡ below n ++ n ∷ []
below-more n = let next : n + 1 ≡ suc n = omega arith in ap below next

-- the first n are at most n
length-first : (n : ℕ) (hs : List Happened) → length (take n hs) ≤ n
length-first zero hs = omega arith
length-first (suc n) [] = omega arith
length-first (suc n) (h ∷ hs) = let later = length-first n hs in omega (arith, later)

-- ---- the marks of happenings

module _ {K : Type 0} (w : WorldView K) (all shown : List Happened) (contested : List Name) where
  -- one happening more has its mark in the next row
  marks-more : (n : ℕ) (hs : List Happened) (ms : List MarkView) (h : Happened) (m : MarkView) → AreMarksOf w all shown contested n hs ms
      → IsMarkOf w all shown contested (n + length hs) h m → AreMarksOf w all shown contested n (hs ++ h ∷ []) (ms ++ m ∷ [])
  marks-more n [] [] h m are mark =
      let n_is : n + 0 ≡ n = omega arith in
      (subst (λ k. IsMarkOf w all shown contested k h m) n_is mark, tt)
  marks-more n [] (x ∷ ms) h m are mark = absurd are
  marks-more n (x ∷ hs) [] h m are mark = absurd are
  marks-more n (x ∷ hs) (y ∷ ms) h m are mark =
      let later : n + length (x ∷ hs) ≡ (n + 1) + length hs = omega arith in
      (are.0, marks-more (n + 1) hs ms h m are.1 (subst (λ k. IsMarkOf w all shown contested k h m) later mark))

  -- a loop that puts behind the others the mark of the next happening
  pub marks-pushed : (i : ℕ) (x : Happened) (before after : List MarkView) (m : MarkView) → i < length shown → take (i + 1) shown ≡ take i shown ++ x ∷ []
      → AreMarksOf w all shown contested 0 (take i shown) before → IsMarkOf w all shown contested i x m → after ≡ before ++ m ∷ [] → AreMarksOf w all shown contested 0 (take (i + 1) shown) after
  marks-pushed i x before after m inside more invariant mark pushed =
      let long : length (take i shown) ≡ i = length-take-le i shown (omega (arith, inside)) in
      let row : i ≡ 0 + length (take i shown) = omega (arith, long) in
      rw (more, pushed) (marks-more 0 (take i shown) before x m invariant (subst (λ k. IsMarkOf w all shown contested k x m) row mark))

  -- as many marks as happenings
  length-marks : (n : ℕ) (hs : List Happened) (ms : List MarkView) → AreMarksOf w all shown contested n hs ms → length ms ≡ length hs
  length-marks n [] [] are = refl
  length-marks n [] (m ∷ ms) are = absurd are
  length-marks n (h ∷ hs) [] are = absurd are
  length-marks n (h ∷ hs) (m ∷ ms) are = let later = length-marks (n + 1) hs ms are.1 in omega (arith, later)

  -- the marks of the first happenings are few
  pub marks-few : (hs : List Happened) (ms : List MarkView) → AreMarksOf w all shown contested 0 (take MAX_ROWS hs) ms → length ms ≤ MAX_ROWS
  marks-few hs ms are =
      let same : length ms ≡ length (take MAX_ROWS hs) = length-marks 0 (take MAX_ROWS hs) ms are in
      let most : length (take MAX_ROWS hs) ≤ MAX_ROWS = length-first MAX_ROWS hs in
      omega (arith, same, most)

-- ---- what stands above the lanes

-- one lane more has its name in the next column
named_from-more : (names : List (List ℕ)) (n : ℕ) (lanes : List ℕ) (lane : ℕ) → named_from names n (lanes ++ lane ∷ []) ≡ named_from names n lanes ++ named_at names (n + length lanes) lane ∷ []
named_from-more names n [] lane = let n_is : n + 0 ≡ n = omega arith in ap (λ k. named_at names k lane ∷ []) (sym n_is)
named_from-more names n (x ∷ xs) lane =
    let later : (n + 1) + length xs ≡ n + length (x ∷ xs) = omega arith in
    ap (λ ns. named_at names n x ∷ ns) (named_from-more names (n + 1) xs lane ∙ ap (λ k. named_from names (n + 1) xs ++ named_at names k lane ∷ []) later)

-- a loop that puts behind the others what stands above the next lane
pub names-pushed : (names : List (List ℕ)) (all : List ℕ) (i x : ℕ) (before after : List HeadingView) (h : HeadingView) → i < length all → take (i + 1) all ≡ take i all ++ x ∷ [] →
    map named_by before ≡ named_from names 0 (take i all) → named_by h ≡ named_at names i x → after ≡ before ++ h ∷ [] → map named_by after ≡ named_from names 0 (take (i + 1) all)
names-pushed names all i x before after h inside more invariant name pushed =
    let long : length (take i all) ≡ i = length-take-le i all (omega (arith, inside)) in
    let column : 0 + length (take i all) ≡ i = omega (arith, long) in
    ap (map named_by) pushed ∙ map-append named_by before (h ∷ []) ∙ ap (λ ns. ns ++ named_by h ∷ []) invariant
    ∙ ap (λ s. named_from names 0 (take i all) ++ s ∷ []) (name ∙ ap (λ k. named_at names k x) (sym column))
    ∙ sym (named_from-more names 0 (take i all) x) ∙ ap (named_from names 0) (sym more)
