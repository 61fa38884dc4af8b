use Rattle.std.proofs.Common.{◌≡◌, ◌≤◌, ℕ, Bool, true, false, sym, ◌∙◌, arith}
use Rattle.mr_forms.proofs.Names.{HasNoAuthorFrom, HasNoRunFrom, HasVersionsAlone, IsFirstFrom, IsNextAuthor, IsSame, IsVersion, Name, Versions, both}
use Rattle.mr_forms.proofs.Names.{false≢true, is_gt, name_cmp, name_eq, nat_tests, or_cases}

-- two sets of versions together
pub versions_alone-both : (s t u : Versions) → IsSame u (both s t) → HasVersionsAlone s → HasVersionsAlone t → HasVersionsAlone u
versions_alone-both s t u same from_s from_t v h = grind (arith, or_cases)

-- a version alone
pub version_alone : (w : Name) → IsVersion w.author w.counter → HasVersionsAlone (name_eq w)
version_alone w is v same = grind (arith, nat_tests)

-- a version of an author from a counter on is none below that one
pub from_start : (author from c : ℕ) → from ≤ c → is_gt (name_cmp (record { author = author; counter = from }) (record { author = author; counter = c })) ≡ false
from_start author from c above = grind (arith, nat_tests)

pub from_start_at : (start : Name) (author from c : ℕ) → (start.author ≡ author) × (start.counter ≡ from) → from ≤ c → is_gt (name_cmp start (record { author = author; counter = c })) ≡ false
from_start_at start author from c is above = rw (is.0, is.1) (from_start author from c above)

-- what is not below w, and of its author, has its counter or a higher one
pub from_counter : (author a b : ℕ) → is_gt (name_cmp (record { author = author; counter = a }) (record { author = author; counter = b })) ≡ false → a ≤ b
from_counter author a b h = grind (arith, nat_tests)

-- what is not below w is of no lower author
pub from_author : (a b : Name) → is_gt (name_cmp a b) ≡ false → a.author ≤ b.author
from_author a b h = grind (arith, nat_tests)

not_in : (b : Bool) → (b ≡ true → ⊥) → b ≡ false
not_in b h = grind arith

after_first : (id q k : ℕ) → id ≤ q → 1 ≤ k → is_gt (name_cmp (record { author = id; counter = 1 }) (record { author = q; counter = k })) ≡ false
after_first id q k above from = grind (arith, nat_tests)

after_start : (start : Name) (id q k : ℕ) → (start.author ≡ id) × (start.counter ≡ 1) → id ≤ q → 1 ≤ k → is_gt (name_cmp start (record { author = q; counter = k })) ≡ false
after_start start id q k is above from = rw (is.0, is.1) (after_first id q k above from)

-- the first version from a place on is of another author, and so there is none of this author
pub no_run-other : (set : Versions) (author from : ℕ) (w : Name) → is_gt (name_cmp (record { author = author; counter = from }) w) ≡ false → ((q : Name) → is_gt (name_cmp (record { author = author; counter = from }) q) ≡ false → set q ≡ true → is_gt (name_cmp w q) ≡ false) → (w.author ≡ author → ⊥) → HasNoRunFrom set author from
no_run-other set author from w after least other c above =
    not_in (set (record { author = author; counter = c })) (λ is_in.
    let low = from_author (record { author = author; counter = from }) w after in
    let high = from_author w (record { author = author; counter = c }) (least (record { author = author; counter = c }) (from_start author from c above) is_in) in
    other (omega arith))

-- the first version from a place on is of the author, and so it is the first of the author's
pub first_from-least : (set : Versions) (author from : ℕ) (w : Name) → is_gt (name_cmp (record { author = author; counter = from }) w) ≡ false → ((q : Name) → is_gt (name_cmp (record { author = author; counter = from }) q) ≡ false → set q ≡ true → is_gt (name_cmp w q) ≡ false) → set w ≡ true → w.author ≡ author → IsFirstFrom set author from w.counter
first_from-least set author from w after least is_in same = grind (arith, from_counter, not_in, from_start)

-- the same, from a version
pub no_run-after : (set : Versions) (start : Name) (author from : ℕ) (w : Name) → (start.author ≡ author) × (start.counter ≡ from) → is_gt (name_cmp start w) ≡ false → ((q : Name) → is_gt (name_cmp start q) ≡ false → set q ≡ true → is_gt (name_cmp w q) ≡ false) → (w.author ≡ author → ⊥) → HasNoRunFrom set author from
no_run-after set start author from w is after least other = rw (← is.0, ← is.1) (no_run-other set start.author start.counter w after least (λ same. other (same ∙ is.0)))

pub first_from-after : (set : Versions) (start : Name) (author from : ℕ) (w : Name) → (start.author ≡ author) × (start.counter ≡ from) → is_gt (name_cmp start w) ≡ false → ((q : Name) → is_gt (name_cmp start q) ≡ false → set q ≡ true → is_gt (name_cmp w q) ≡ false) → set w ≡ true → w.author ≡ author → IsFirstFrom set author from w.counter
first_from-after set start author from w is after least is_in same = rw (← is.0, ← is.1) (first_from-least set start.author start.counter w after least is_in (same ∙ sym is.0))

-- the first version from an author on is of the next author
pub next_author-first : (set : Versions) (start : Name) (id : ℕ) (w : Name) → (start.author ≡ id) × (start.counter ≡ 1) → HasVersionsAlone set → ((q : Name) → is_gt (name_cmp start q) ≡ false → set q ≡ true → is_gt (name_cmp w q) ≡ false) → is_gt (name_cmp start w) ≡ false → set w ≡ true → IsNextAuthor set id w.author
next_author-first set start id w is alone least after is_in = record {
  above = let low = from_author start w after in let e = is.0 in omega arith;
  author_in = (alone w is_in).author_in;
  between = λ q above below k. not_in (set (record { author = q; counter = k })) (λ there.
      let real = alone (record { author = q; counter = k }) there in
      let high = from_author w (record { author = q; counter = k }) (least (record { author = q; counter = k }) (after_start start id q k is above real.counter_from) there) in
      absurd (omega arith));
}

pub no_author-none : (set : Versions) (start : Name) (id : ℕ) → (start.author ≡ id) × (start.counter ≡ 1) → HasVersionsAlone set → ((q : Name) → is_gt (name_cmp start q) ≡ false → set q ≡ false) → HasNoAuthorFrom set id
no_author-none set start id is alone h q above k = grind (arith, not_in, false≢true, after_start)
