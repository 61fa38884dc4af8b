-- where a subject ends and a body begins
use Rattle.std.proofs.Common.{◌≡◌, ◌≢◌, ℕ, zero, suc, ◌<◌, ◌≤◌, Bool, true, false, nat_eq, List, [], ◌∷◌, ◌++◌, length, take, drop, refl, ap, ◌∙◌, arith}
use Rattle.mr_command.proofs.Names.{Decides-eqb, starts_with}
use Rattle.std.specs.Str.Pattern.{LacksTextAt}
use Rattle.std.proofs.lemmas.Slice.Eq.{starts_is}
use Rattle.mr_command.specs.Message.{mark, subject_of, body_of}

not_true : (b : Bool) → (b ≡ true → ⊥) → b ≡ false
not_true true never = absurd (never refl)
not_true false never = refl

-- a text that begins with the mark
starts : (text rest : List ℕ) → text ≡ mark ++ rest → starts_with nat_eq text mark ≡ true
starts text rest is = (starts_is Decides-eqb text mark (starts_with nat_eq text mark) refl).1 rest is

-- one that doesn't
lacks : (text : List ℕ) → ((rest : List ℕ) → text ≢ mark ++ rest) → starts_with nat_eq text mark ≡ false
lacks text none = not_true (starts_with nat_eq text mark) (λ is. none (drop 4 text) ((starts_is Decides-eqb text mark (starts_with nat_eq text mark) refl).0 is))

subject_goes_on : (b : ℕ) (bs : List ℕ) → starts_with nat_eq (b ∷ bs) mark ≡ false → subject_of (b ∷ bs) ≡ b ∷ subject_of bs
subject_goes_on b bs none = rw none refl

body_goes_on : (b : ℕ) (bs : List ℕ) → starts_with nat_eq (b ∷ bs) mark ≡ false → body_of (b ∷ bs) ≡ body_of bs
body_goes_on b bs none = rw none refl

subject_ends : (b : ℕ) (bs : List ℕ) → starts_with nat_eq (b ∷ bs) mark ≡ true → subject_of (b ∷ bs) ≡ []
subject_ends b bs here = rw here refl

body_begins : (b : ℕ) (bs : List ℕ) → starts_with nat_eq (b ∷ bs) mark ≡ true → body_of (b ∷ bs) ≡ drop 4 (b ∷ bs)
body_begins b bs here = rw here refl

-- the subject ends at the first mark
pub subject-found : (text : List ℕ) (i : ℕ) (rest : List ℕ) → ((k : ℕ) → k < i → LacksTextAt mark text k) → drop i text ≡ mark ++ rest → subject_of text ≡ take i text
subject-found [] zero rest before is = cc
subject-found [] (suc i) rest before is = cc
subject-found (b ∷ bs) zero rest before is = subject_ends b bs (starts (b ∷ bs) rest is)
subject-found (b ∷ bs) (suc i) rest before is =
    subject_goes_on b bs (lacks (b ∷ bs) (before 0 (omega arith)))
    ∙ ap (λ t. b ∷ t) (subject-found bs i rest (λ k below. before (suc k) (omega arith)) is)

-- and the body begins behind it
pub body-found : (text : List ℕ) (i : ℕ) (rest : List ℕ) → ((k : ℕ) → k < i → LacksTextAt mark text k) → drop i text ≡ mark ++ rest → body_of text ≡ rest
body-found [] zero rest before is = cc
body-found [] (suc i) rest before is = cc
body-found (b ∷ bs) zero rest before is = body_begins b bs (starts (b ∷ bs) rest is) ∙ ap (drop 4) is
body-found (b ∷ bs) (suc i) rest before is =
    body_goes_on b bs (lacks (b ∷ bs) (before 0 (omega arith)))
    ∙ body-found bs i rest (λ k below. before (suc k) (omega arith)) is

-- without a mark all is subject
pub subject-none : (text : List ℕ) → ((k : ℕ) → k ≤ length text → LacksTextAt mark text k) → subject_of text ≡ text
subject-none [] none = refl
subject-none (b ∷ bs) none =
    subject_goes_on b bs (lacks (b ∷ bs) (none 0 (omega arith)))
    ∙ ap (λ t. b ∷ t) (subject-none bs (λ k below. none (suc k) (omega arith)))

pub body-none : (text : List ℕ) → ((k : ℕ) → k ≤ length text → LacksTextAt mark text k) → body_of text ≡ []
body-none [] none = refl
body-none (b ∷ bs) none = body_goes_on b bs (lacks (b ∷ bs) (none 0 (omega arith))) ∙ body-none bs (λ k below. none (suc k) (omega arith))
