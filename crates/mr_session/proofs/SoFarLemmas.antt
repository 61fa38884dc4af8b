-- A vector that grows by the runs of a list of revisions, in order: what is so far, and what each run makes of it.
use Rattle.std.proofs.Common.{◌≡◌, ◌≤◌, ◌+◌, ◌-◌, ℕ, List, [], ◌∷◌, ◌++◌, map, length, take, drop, None, append_assoc, append-nil, refl, sym, ap, subst, ◌∙◌, arith}
use Rattle.mr_session.proofs.Names.{AreInVersionOrder, AuthorColumn, Hole, IsAbove, IsBelowFirst, IsExtended, IsGrowth, IsRow, IsSame, IsTurned, Name, Rev}
use Rattle.mr_session.proofs.Names.{Run, extent, is_listed, slice_get, version_of, with_last}
use Rattle.mr_session.proofs.RowLemmas.{in_row, row_names, next_above, names_split}
use Rattle.mr_session.proofs.GrowingLemmas.{row_listed}
use Rattle.mr_session.proofs.WalkLemmas.{rest_of, drop_rises}

-- the versions so far and those of the rest are all, and the rest stands above
pub record SoFar (columns : List AuthorColumn) (author upto : ℕ) (holes : List Hole) (rest : List Rev) (whole : List Name) : Type 0 where
  pub grown : IsGrowth columns author (extent upto holes)
  pub in_order : AreInVersionOrder rest
  pub above : IsBelowFirst author upto (map version_of rest)
  pub done : List Name
  pub parts : done ++ map version_of rest ≡ whole
  pub has : IsSame (with_last columns author (extent upto holes)) (is_listed done)

pub begins : (columns : List AuthorColumn) (author upto : ℕ) (holes : List Hole) (rs : List Rev) → IsGrowth columns author (extent upto holes) → AreInVersionOrder rs → IsBelowFirst author upto (map version_of rs) → IsSame (with_last columns author (extent upto holes)) (is_listed []) → SoFar columns author upto holes rs (map version_of rs)
begins columns author upto holes rs grown in_order above none = record {
  grown = grown;
  in_order = in_order;
  above = above;
  done = [];
  parts = refl;
  has = none;
}

below_first : (author upto : ℕ) (names : List Name) → ((v : Name) (vs : List Name) → names ≡ v ∷ vs → IsAbove author upto v.author v.counter) → IsBelowFirst author upto names
below_first author upto names all = grind arith

row_and_rest : (rs : List Rev) (v : Name) (n : ℕ) (d : Rev) → n ≤ length rs → IsRow v n rs → in_row v n ++ map version_of (drop n rs) ≡ map version_of rs
row_and_rest rs v n d within row = ap (λ (l : List Name). l ++ map version_of (drop n rs)) (sym (row_names rs v n d within row)) ∙ sym (names_split n rs)

-- one run more
pub goes_on : (c c1 c2 : List AuthorColumn) (a a1 a2 u u1 u2 : ℕ) (h h1 h2 : List Hole) (rs : List Rev) (whole : List Name) (d : Rev) (v : Name) (n : ℕ) (run : Run)
    → SoFar c a u h rs whole → 1 ≤ n → n ≤ length rs → IsRow v n rs → run.author ≡ v.author → run.first ≡ v.counter → run.last ≡ v.counter + (n - 1)
    → IsTurned (with_last c a (extent u h)) run c1 a1 (extent u1 h1) → IsExtended (with_last c1 a1 (extent u1 h1)) run c2 a2 (extent u2 h2)
    → SoFar c2 a2 u2 h2 (take (length rs - n) (drop n rs)) whole
goes_on c c1 c2 a a1 a2 u u1 u2 h h1 h2 rs whole d v n run is some within row author_is first_is last_is turned grown =
    let rest = rest_of rs n in
    let author_at : v.author ≡ a2 = sym (grown.author_is ∙ author_is) in
    let upto_at : v.counter + (n - 1) ≡ u2 = sym (grown.upto_is ∙ last_is) in
    let above : IsBelowFirst a2 u2 (map version_of (drop n rs)) =
    below_first a2 u2 (map version_of (drop n rs)) (λ w ws at.
    subst (λ (q : ℕ). IsAbove q u2 w.author w.counter) author_at (subst (λ (k : ℕ). IsAbove v.author k w.author w.counter) upto_at (next_above rs v n d is.in_order some within row w ws at))) in
    record {
      grown = grown.grown;
      in_order = rw rest (drop_rises n rs is.in_order);
      above = rw rest above;
      done = is.done ++ in_row v n;
      parts = rw rest
          (append_assoc is.done (in_row v n) (map version_of (drop n rs))
          ∙ (ap (λ (l : List Name). is.done ++ l) (row_and_rest rs v n d within row) ∙ is.parts));
      has = row_listed (with_last c1 a1 (extent u1 h1)) (with_last c2 a2 (extent u2 h2)) is.done v n run some author_is first_is last_is (λ w. turned.same w ∙ is.has w) grown.has;
    }

-- where nothing is left
pub ends : (columns : List AuthorColumn) (author upto : ℕ) (holes : List Hole) (rs : List Rev) (whole : List Name) → SoFar columns author upto holes rs whole → slice_get rs 0 ≡ None → IsSame (with_last columns author (extent upto holes)) (is_listed whole)
ends columns author upto holes [] whole is none w = is.has w ∙ ap (λ (l : List Name). is_listed l w) (sym (append-nil is.done) ∙ is.parts)
ends columns author upto holes (x ∷ xs) whole is none w = absurd (cc)
