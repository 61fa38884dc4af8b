-- Revisions in version order.
use Rattle.std.proofs.Common.{◌≡◌, refl, subst, Bool, true, ◌||◌, ◌&&◌, List, [], ◌∷◌, filter, map, ◌⊎◌, inl, inr, IsTrue, arith, Some}
use Rattle.mr_world.proofs.Names.Lists.{AllByRecursion, find}
use Rattle.std.specs.declared.cmp.Ordering.{Ordering}
use Rattle.std.specs.declared.cmp.Ordering.TheVariants.{Less, Equal, Greater}
use Rattle.std.specs.Ordering.{is_lt}
use Rattle.std.proofs.lemmas.Cmp.{tied_itself}
use Rattle.mr_world.proofs.Names.Model.{In, Versions, is, is_before}
use Rattle.mr_world.proofs.Names.Laws.{before_from, cases, is_from, is_path}
use Rattle.mr_world.proofs.Names.Mails.{AreInVersionOrder, Name, Rev, entered, greater_is_after, head_before, holds, name_cmp, revision_of}
use Rattle.mr_world.proofs.Names.Mails.{tail_rises, version_of}
use Rattle.mr_version.specs.Order.{exact_names, names_total}
use Rattle.mr_world.proofs.Groundwork.Tools.{find_in, find_none, or_past, some_of}

pub before_irrefl : (v : Name) → ¬ IsTrue (is_before v v)
before_irrefl v h = let e : is_lt Equal ≡ true = rw (tied_itself names_total v) at h in cc

-- two versions are one, or one stands before the other
pub placing : (v w : Name) → IsTrue (is_before v w) ⊎ ((v ≡ w) ⊎ IsTrue (is_before w v))
placing v w = grind (arith, name_cmp, is_before, before_from, exact_names, greater_is_after)

-- ---- what is held

pub held_in : (rs : List Rev) (v : Name) → IsTrue (holds rs v) → (r : Rev) × In r rs × (r.version ≡ v)
held_in rs v h = let r = some_of (revision_of rs v) h in let f = find_in (λ (x : Rev). is x.version v) rs r.0 r.1 in (r.0, f.0, is_path r.0.version v f.1)

pub in_held : (rs : List Rev) (r : Rev) → In r rs → IsTrue (holds rs r.version)
in_held rs r i = grind (arith, find_none (λ (x : Rev). is x.version r.version) rs, is_from r.version r.version refl)

-- of those that are held, the ones that pass a test of their versions
pub held_some : (p : Rev → Bool) (q : Versions) (rs : List Rev) → ((r : Rev) → In r rs → p r ≡ q r.version) → (v : Name) → holds (filter p rs) v ≡ (holds rs v && q v)
held_some p q [] tests v = refl
held_some p q (r ∷ rs) tests v = grind (arith, held_some p q rs, is_path)

-- ---- order

-- the first stands before each other
pub first_before : (r : Rev) (rs : List Rev) → AreInVersionOrder (r ∷ rs) → (x : Rev) → In x rs → IsTrue (is_before r.version x.version)
first_before r rs o x i = go rs (head_before version_of r rs o) i
  where
    go : (xs : List Rev) → AllByRecursion (λ v. name_cmp r.version v ≡ Less) (map version_of xs) → In x xs → IsTrue (is_before r.version x.version)
    go [] h i = elim i [ ]
    go (y ∷ ys) h i = elim i [ inl e ↦ subst (λ (z : Rev). IsTrue (is_before r.version z.version)) e (before_from r.version y.version h.0) | inr j ↦ go ys h.1 j ]

pub rest_in_order : (r : Rev) (rs : List Rev) → AreInVersionOrder (r ∷ rs) → AreInVersionOrder rs
rest_in_order r rs o = tail_rises version_of r rs o

-- what is held with one more, before the others or at its place
pub held_more : (r : Rev) (rs : List Rev) (v : Name) → holds (r ∷ rs) v ≡ (is r.version v || holds rs v)
held_more r rs v = elim (cases (is r.version v)) [ inl t ↦ rw t refl | inr n ↦ rw n refl ]

pub held_entered : (r : Rev) (rs : List Rev) (v : Name) → holds (entered r rs) v ≡ (is r.version v || holds rs v)
held_entered r [] v = held_more r [] v
held_entered r (h ∷ hs) v = elim (cases (is_before h.version r.version)) [
  | inl t ↦ rw (t, held_more h (entered r hs) v, held_entered r hs v, held_more h hs v) (or_past (is h.version v) (is r.version v) (holds hs v))
  | inr n ↦ rw n (held_more r (h ∷ hs) v)
]

pub in_entered : (r : Rev) (rs : List Rev) (x : Rev) → In x (entered r rs) → (r ≡ x) ⊎ In x rs
in_entered r [] x i = i
in_entered r (h ∷ hs) x i = grind (arith, in_entered r hs x)

pub entered_in : (r : Rev) (rs : List Rev) (x : Rev) → (r ≡ x) ⊎ In x rs → In x (entered r rs)
entered_in r [] x i = i
entered_in r (h ∷ hs) x i = grind (arith, entered_in r hs x)

-- what is found first stands before whatever else passes
pub found_first : (p : Rev → Bool) (rs : List Rev) → AreInVersionOrder rs → (r : Rev) → find p rs ≡ Some r → (x : Rev) → In x rs → IsTrue (p x) → (r ≡ x) ⊎ IsTrue (is_before r.version x.version)
found_first p [] o r e x i h = absurd (cc)
found_first p (y ∷ ys) o r e x i h = grind (arith, first_before y ys o x, found_first p ys (rest_in_order y ys o) r)
