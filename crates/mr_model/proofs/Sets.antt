-- What is known and held, at every moment of a run.
use Rattle.std.proofs.Common.{◌≡◌, refl, sym, subst, ℕ, ◌+◌, ◌==◌, Bool, true, false, not, ◌||◌, ◌&&◌, List, [], ◌∷◌, ◌⊎◌, inl, inr, IsTrue, IsFalse, eqb-true, eq-eqb, Some, length, if◌then◌else◌, arith}
use Rattle.mr_model.proofs.Names.{Holding, Issue, Moment, Name, Record, Versions, and_from, and_parts, at, at_two, both_ways, is, is_issued, made_with}
use Rattle.mr_model.proofs.Names.{numbered, only, only_if, version_in, ◌without◌, ◌with◌}
use Rattle.mr_model.proofs.Basics.{In, cases, or_parts, or_left, or_right, is_path, is_from}
use Rattle.mr_model.proofs.Issues.{IsIssueList, IsIssuable, made_kept}

-- every v of a is in b
abbrev pub Within : Versions → Versions → Type 0
Within a b = (v : Name) → IsTrue (a v) → IsTrue (b v)

-- with each version what it supersedes
abbrev pub IsDownward : {M : Type 0} → List (Issue M) → Versions → Type 0
IsDownward issues a = (w v : Name) → IsTrue (a w) → IsTrue (made_with issues w v) → IsTrue (a v)

-- ---- choices, and functions changed at one place

pub choice : {A : Type 0} (P : A → Type 0) (b : Bool) (x y : A) → (IsTrue b → P x) → (IsFalse b → P y) → P (if b then x else y)
choice P true x y h k = h refl
choice P false x y h k = k refl

pub at_elim : {A : Type 0} (P : ℕ → A → Type 0) (f : ℕ → A) (r : ℕ) (x : A) (q : ℕ) → P r x → P q (f q) → P q (at f r x q)
at_elim P f r x q here there = grind (arith, cases, eqb-true)

pub at_elim₂ : {A B : Type 0} (P : ℕ → A → B → Type 0) (f : ℕ → A) (g : ℕ → B) (r : ℕ) (x : A) (y : B) (q : ℕ) → P r x y → P q (f q) (g q) → P q (at f r x q) (at g r y q)
at_elim₂ P f g r x y q here there = grind (arith, cases, eqb-true)

pub at_same : {A : Type 0} (f : ℕ → A) (r : ℕ) (x : A) → at f r x r ≡ x
at_same f r x = rw (eq-eqb r r refl) refl

-- the other places are known to be others
pub two_elim : {A : Type 0} (P : ℕ → ℕ → A → Type 0) (f : ℕ → ℕ → A) (r s : ℕ) (x : A) (q u : ℕ) →
    P r s x → (¬ ((q ≡ r) × (u ≡ s)) → P q u (f q u)) → P q u (at_two f r s x q u)
two_elim P f r s x q u here there = grind (arith, cases, and_parts, eqb-true, both_ways, and_from, eq-eqb)

pub two_elim₂ : {A B : Type 0} (P : ℕ → ℕ → A → B → Type 0) (f : ℕ → ℕ → A) (g : ℕ → ℕ → B) (r s : ℕ) (x : A) (y : B) (q u : ℕ) →
    P r s x y → (¬ ((q ≡ r) × (u ≡ s)) → P q u (f q u) (g q u)) → P q u (at_two f r s x q u) (at_two g r s y q u)
two_elim₂ P f g r s x y q u here there = grind (arith, cases, and_parts, eqb-true, both_ways, and_from, eq-eqb)

pub two_same : {A : Type 0} (f : ℕ → ℕ → A) (s t : ℕ) (x : A) → at_two f s t x s t ≡ x
two_same f s t x = rw (and_from (s == s) (t == t) (eq-eqb s s refl) (eq-eqb t t refl)) refl

pub numbered_in : {A : Type 0} (xs : List A) (n : ℕ) (x : A) → numbered xs n ≡ Some x → In x xs
numbered_in [] n x e = absurd (cc)
numbered_in (y ∷ ys) n x e = grind (arith, numbered_in ys n x, cases)

-- ---- the invariant

-- a replica knows issued versions alone, with each what it supersedes, and what it holds
pub record IsKnowing {M : Type 0} (issues : List (Issue M)) (h : Holding) : Type 0 where
  pub issued : Within h.known (is_issued issues)
  pub downward : IsDownward issues h.known
  pub stored : Within h.stored h.known
  pub outed : Within h.pushed_out h.known

pub held_known : {M : Type 0} (issues : List (Issue M)) (h : Holding) (v : Name) → IsKnowing issues h → IsTrue (h.stored v) ⊎ IsTrue (h.pushed_out v) → IsTrue (h.known v)
held_known issues h v inv k = elim k [ inl a ↦ inv.stored v a | inr a ↦ inv.outed v a ]

pub record SetsOf {M : Type 0} (issues : List (Issue M)) (holding : ℕ → Holding) (known_at_answer : ℕ → ℕ → Versions) (given : List Record) : Type 0 where
  pub list : IsIssueList issues
  pub each : (r : ℕ) → IsKnowing issues (holding r)
  pub answer_known : (k t : ℕ) → Within (known_at_answer k t) (holding k).known
  pub answer_downward : (k t : ℕ) → IsDownward issues (known_at_answer k t)
  pub given_known : (x : Record) (w : Name) → In x given → version_in x.body ≡ Some w → IsTrue ((holding x.source).known w)

abbrev pub SetsHold : {M C : Type 0} → Moment M C → Type 0
SetsHold m = SetsOf m.issues m.holding m.known_at_answer m.given

-- ---- one more issue in the list

pub issued_kept : {M : Type 0} (x : Issue M) (e : List (Issue M)) → Within (is_issued e) (is_issued (x ∷ e))
issued_kept x e v h = or_right (is x.version v) (is_issued e v) h

pub downward_kept : {M : Type 0} (x : Issue M) (e : List (Issue M)) → IsIssuable e x → (a : Versions) → Within a (is_issued e) → IsDownward e a → IsDownward (x ∷ e) a
downward_kept x e ok a iss down w v h k = down w v h (subst IsTrue (made_kept x e ok w v (iss w h)) k)

pub listing_knowing : {M : Type 0} (x : Issue M) (e : List (Issue M)) → IsIssuable e x → (h : Holding) → IsKnowing e h → IsKnowing (x ∷ e) h
listing_knowing x e ok h inv = grind (arith, issued_kept, downward_kept)

pub listing_sets : {M : Type 0} (x : Issue M) (e : List (Issue M)) (holding : ℕ → Holding) (known_at_answer : ℕ → ℕ → Versions) (given : List Record) → IsIssuable e x →
    SetsOf e holding known_at_answer given → SetsOf (x ∷ e) holding known_at_answer given
listing_sets x e holding known_at_answer given ok inv =
    let down = λ (k t : ℕ). downward_kept x e ok (known_at_answer k t) (λ v h. (inv.each k).issued v (inv.answer_known k t v h)) (inv.answer_downward k t) in
    search (listing_knowing x e ok, inv.each, down, ok)

-- ---- the sets of one replica become others

pub known_grows : (holding : ℕ → Holding) (r : ℕ) (h : Holding) → Within (holding r).known h.known → (q : ℕ) → Within (holding q).known (at holding r h q).known
known_grows holding r h g q = at_elim (λ z (a : Holding). Within (holding z).known a.known) holding r h q g (λ v k. k)

pub changing_sets : {M : Type 0} (issues : List (Issue M)) (holding : ℕ → Holding) (known_at_answer : ℕ → ℕ → Versions) (given : List Record) (r : ℕ) (h : Holding) →
    Within (holding r).known h.known → IsKnowing issues h → SetsOf issues holding known_at_answer given → SetsOf issues (at holding r h) known_at_answer given
changing_sets issues holding known_at_answer given r h grows well inv = search (known_grows holding r h grows, at_elim (λ z (a : Holding). IsKnowing issues a) holding r h, inv.each, inv.answer_known, inv.given_known)

-- ---- words on sets

-- to learn what is known is to learn nothing
pub with_known : (a b : Versions) → Within b a → a with b ≡ a
with_known a b h = grind arith

pub learned_cases : (known lower : Versions) (w v : Name) → IsTrue ((known with only w with lower) v) → IsTrue (known v) ⊎ ((w ≡ v) ⊎ IsTrue (lower v))
learned_cases known lower w v h = grind (arith, or_parts, is_path)

pub learned_from : (known lower : Versions) (w v : Name) → IsTrue (known v) ⊎ ((w ≡ v) ⊎ IsTrue (lower v)) → IsTrue ((known with only w with lower) v)
learned_from known lower w v h = grind (arith, or_left, or_right, is_from)

pub only_parts : (b : Bool) (w v : Name) → IsTrue (only_if b w v) → IsTrue b × (w ≡ v)
only_parts b w v h = let both = and_parts b (is w v) h in (both.0, is_path w v both.1)

pub without_parts : (a b : Versions) (v : Name) → IsTrue ((a without b) v) → IsTrue (a v) × IsFalse (b v)
without_parts a b v h = grind (arith, and_parts)

pub without_from : (a b : Versions) (v : Name) → IsTrue (a v) → IsFalse (b v) → IsTrue ((a without b) v)
without_from a b v h n = and_from (a v) (not (b v)) h (rw n refl)

-- what is left of a after w came, with w where the test holds
pub remains_cases : (a lower : Versions) (b : Bool) (w v : Name) → IsTrue ((a without lower with only_if b w) v) → (IsTrue (a v) × IsFalse (lower v)) ⊎ (IsTrue b × (w ≡ v))
remains_cases a lower b w v h = elim (or_parts (a v && not (lower v)) (only_if b w v) h) [ inl k ↦ inl (without_parts a lower v k) | inr k ↦ inr (only_parts b w v k) ]

pub remains_old : (a lower : Versions) (b : Bool) (w v : Name) → IsTrue (a v) → IsFalse (lower v) → IsTrue ((a without lower with only_if b w) v)
remains_old a lower b w v h n = or_left (a v && not (lower v)) (only_if b w v) (without_from a lower v h n)

pub remains_new : (a lower : Versions) (b : Bool) (w v : Name) → IsTrue b → w ≡ v → IsTrue ((a without lower with only_if b w) v)
remains_new a lower b w v h e = or_right (a v && not (lower v)) (only_if b w v) (and_from b (is w v) h (is_from w v e))
