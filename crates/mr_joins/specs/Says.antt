-- what values say, and what several say together
use Rattle.std.specs.Prelude.{◌≡◌, ◌⊎◌, ◌<◌, ◌≤◌, true, List, [], ◌∷◌}
use Rattle.mr_joins.specs.declared.count.Count.{Count}
use Rattle.mr_joins.specs.Count.{never, larger, is_set}

-- what a value says of each key
abbrev pub Says : Type 0 → Type 0
Says K = K → Count

-- two values together: the greater of each count
abbrev pub both : {K : Type 0} → Says K → Says K → Says K
both a b key = larger (a key) (b key)

-- all heads together; none say nothing
abbrev pub together : {K : Type 0} → List (Says K) → Says K
together [] key = never
together (head ∷ heads) key = larger (head key) (together heads key)

-- each count is at most the other one
pub record IsBelow {K : Type 0} (a b : Says K) : Type 0 where
  pub raised : (key : K) → (a key).raised ≤ (b key).raised
  pub gone : (key : K) → (a key).gone ≤ (b key).gone

-- one of some values
abbrev pub IsAmong : {A : Type 0} → A → List A → Type 0
IsAmong x [] = ⊥
IsAmong x (y ∷ ys) = (x ≡ y) ⊎ IsAmong x ys

-- some values are among others
abbrev pub AreAmong : {A : Type 0} → List A → List A → Type 0
AreAmong {A} some others = (x : A) → IsAmong x some → IsAmong x others

-- two values say the same
abbrev pub Agree : {K : Type 0} → Says K → Says K → Type 0
Agree {K} a b = (key : K) → a key ≡ b key

-- the mail is deleted: nothing was raised beyond what the deletions knew
abbrev pub IsDeleted : {K : Type 0} → Says K → Type 0
IsDeleted {K} v = (key : K) → (v key).raised ≤ (v key).gone

-- the mail stands: something was
abbrev pub Stands : {K : Type 0} → Says K → Type 0
Stands {K} v = (key : K) × ((v key).gone < (v key).raised)

-- the element is set, by one of the deliveries
abbrev pub Has : {D E : Type 0} → Says (D × E) → E → Type 0
Has {D} v e = (d : D) × (is_set (v (d, e)) ≡ true)
