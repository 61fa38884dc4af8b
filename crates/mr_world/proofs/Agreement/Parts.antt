-- What the records of a stream up to an index show and tell.
use Rattle.std.proofs.Common.{◌≡◌, refl, ap, subst, ℕ, ◌+◌, ◌<◌, ◌==◌, Bool, false, ◌||◌, ◌&&◌, List, ◌∷◌, inl, inr, IsTrue, arith, eqb-true, eq-eqb, nat_lt}
use Rattle.mr_world.proofs.Names.Lists.{and_from, and_parts, eqb-false, lt-ltb, ltb-true, list_any}
use Rattle.mr_world.proofs.Names.Wire.{Body, Sent}
use Rattle.mr_world.proofs.Names.Model.{In}
use Rattle.mr_world.proofs.Names.Laws.{any_elim, any_intro, cases, false_from, one_test, or_left, or_parts, or_right}
use Rattle.mr_world.proofs.Names.World.{is_among}

pub record IsAt (s t n : ℕ) (x : Sent) : Type 0 where
  pub source : x.header.source ≡ s
  pub stream : x.header.stream ≡ t
  pub index : x.header.index < n

at_parts : (s t n : ℕ) (x : Sent) → IsTrue (is_among s t n x) → IsAt s t n x
at_parts s t n x h = grind (arith, and_parts, eqb-true, ltb-true)

at_from : (s t n : ℕ) (x : Sent) → IsAt s t n x → IsTrue (is_among s t n x)
at_from s t n x h = grind (arith, and_from, eq-eqb, lt-ltb)

-- some record of the stream below the index has p
abbrev pub parts : (Body → Bool) → List Sent → (s t n : ℕ) → Bool
parts p given s t n = list_any (λ x. is_among s t n x && p x.body) given

parts_elim : (p : Body → Bool) (given : List Sent) (s t n : ℕ) → IsTrue (parts p given s t n) → (x : Sent) × In x given × IsAt s t n x × IsTrue (p x.body)
parts_elim p given s t n h = grind (arith, any_elim, is_among, and_parts, at_parts)

parts_intro : (p : Body → Bool) (given : List Sent) (s t n : ℕ) (x : Sent) → In x given → IsAt s t n x → IsTrue (p x.body) → IsTrue (parts p given s t n)
parts_intro p given s t n x i a h = any_intro (λ (x : Sent). is_among s t n x && p x.body) given x i (and_from (is_among s t n x) (p x.body) (at_from s t n x a) h)

pub parts_other : (p : Body → Bool) (x : Sent) (given : List Sent) (s t n : ℕ) → ¬ IsAt s t n x → parts p (x ∷ given) s t n ≡ parts p given s t n
parts_other p x given s t n not_at = ap (λ (b : Bool). (b && p x.body) || parts p given s t n) (false_from (is_among s t n x) (λ h. not_at (at_parts s t n x h)))

-- an index further makes no difference where each record of the stream is below
parts_below : (p : Body → Bool) (given : List Sent) (s t n : ℕ) → ((y : Sent) → In y given → y.header.source ≡ s → y.header.stream ≡ t → y.header.index < n) → parts p given s t (n + 1) ≡ parts p given s t n
parts_below p given s t n below = grind (arith, one_test, parts_elim, parts_intro)

-- the next record of the stream is given
pub parts_next : (p : Body → Bool) (x : Sent) (given : List Sent) → ((y : Sent) → In y given → y.header.source ≡ x.header.source → y.header.stream ≡ x.header.stream → y.header.index < x.header.index) →
    parts p (x ∷ given) x.header.source x.header.stream (x.header.index + 1) ≡ (p x.body || parts p given x.header.source x.header.stream x.header.index)
parts_next p x given below = grind (arith, is_among, at_from, parts_below)

-- the next record of the stream, given already, is taken
pub parts_taken : (p : Body → Bool) (given : List Sent) (x : Sent) → In x given → ((y : Sent) → In y given → y.header.source ≡ x.header.source → y.header.stream ≡ x.header.stream → y.header.index ≡ x.header.index → y ≡ x) →
    parts p given x.header.source x.header.stream (x.header.index + 1) ≡ (parts p given x.header.source x.header.stream x.header.index || p x.body)
parts_taken p given x i one = grind (arith, one_test, parts_elim, cases, or_right, eqb-true, eqb-false, or_left, parts_intro, or_parts)

pub parts_none : (p : Body → Bool) (given : List Sent) (s t : ℕ) → parts p given s t 0 ≡ false
parts_none p given s t = false_from (parts p given s t 0) (λ h. let lt = (parts_elim p given s t 0 h).2.index in absurd (omega arith))
