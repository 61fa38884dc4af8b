-- What is due of two lists in version order: no other that is due stands before it.
use Rattle.std.proofs.Common.{◌≡◌, refl, sym, ap, subst, Bool, List, ◌∙◌, ◌⊎◌, inl, inr, IsTrue, IsFalse, arith, Option, Some, None}
use Rattle.mr_world.proofs.Names.Lists.{both_ways, find}
use Rattle.mr_world.proofs.Names.Sessions.{lower}
use Rattle.mr_world.proofs.Names.Model.{In}
use Rattle.mr_world.proofs.Names.Laws.{before_trans, cases}
use Rattle.mr_world.proofs.Names.Mails.{AreInVersionOrder, Name, Rev, is_before, version_of}
use Rattle.mr_world.proofs.Groundwork.Orders.{found_first, placing}
use Rattle.mr_world.proofs.Groundwork.Tools.{find_in, find_none}

-- the one version is the other, or stands before it
abbrev pub IsNoLater : (v w : Name) → Type 0
IsNoLater v w = (v ≡ w) ⊎ IsTrue (is_before v w)

no_later_trans : (a b c : Name) → IsNoLater a b → IsNoLater b c → IsNoLater a c
no_later_trans a b c k h = grind (arith, is_before, before_trans)

-- the lower of two is one of them, and no later than either
lower_one : (a b : Option Rev) (r : Rev) → lower a b ≡ Some r → (a ≡ Some r) ⊎ (b ≡ Some r)
lower_one a b r e = grind arith

lower_neither : (a b : Option Rev) → lower a b ≡ None → (a ≡ None) × (b ≡ None)
lower_neither a b e = grind arith

-- of two versions the one that does not stand before the other is no earlier
not_before : (a b : Name) → IsFalse (is_before a b) → IsNoLater b a
not_before a b n = elim (placing a b) [ inl less ↦ absurd (both_ways (is_before a b) n less) | inr other ↦ elim other [ inl same ↦ inl (sym same) | inr more ↦ inr more ] ]

lower_least : (a b : Option Rev) (r q : Rev) → lower a b ≡ Some r → (a ≡ Some q) ⊎ (b ≡ Some q) → IsNoLater r.version q.version
lower_least None b r q e i = elim i [ inl none ↦ absurd (cc) | inr is ↦ (let same : r ≡ q = cc in inl (ap version_of same)) ]
lower_least (Some a) None r q e i = elim i [ inl is ↦ (let same : r ≡ q = cc in inl (ap version_of same)) | inr none ↦ absurd (cc) ]
lower_least (Some a) (Some b) r q e i = elim (cases (is_before a.version b.version)) [
  | inl t ↦ (let k : Some a ≡ Some r = rw t at e in let first : a ≡ r = cc in
      elim i [ inl is ↦ (let same : r ≡ q = cc in inl (ap version_of same)) | inr is ↦ (let other : b ≡ q = cc in inr (sym (λ j. is_before (version_of (first j)) (version_of (other j))) ∙ t)) ])
  | inr n ↦ (let k : Some b ≡ Some r = rw n at e in let second : b ≡ r = cc in
      elim i [ inl is ↦ (let other : a ≡ q = cc in no_later (second) other (not_before a.version b.version n)) | inr is ↦ (let same : r ≡ q = cc in inl (ap version_of same)) ])
]
  where
    no_later : b ≡ r → a ≡ q → IsNoLater b.version a.version → IsNoLater r.version q.version
    no_later p o h = subst (λ (z : Rev). IsNoLater z.version q.version) p (subst (λ (z : Rev). IsNoLater b.version z.version) o h)

module _ (p : Rev → Bool) (heads push_outs : List Rev) where
  -- it is one of them and passes, and no other that passes stands before it
  pub record IsFirst (r : Rev) : Type 0 where
    pub among : In r heads ⊎ In r push_outs
    pub passes : IsTrue (p r)
    pub first : (x : Rev) → In x heads ⊎ In x push_outs → IsTrue (p x) → IsNoLater r.version x.version

  pub lower_none : lower (find p heads) (find p push_outs) ≡ None → (x : Rev) → In x heads ⊎ In x push_outs → IsFalse (p x)
  lower_none is x i = let none = lower_neither (find p heads) (find p push_outs) is in elim i [ inl l ↦ find_none p heads none.0 x l | inr r ↦ find_none p push_outs none.1 x r ]

  -- what is found is of one of the two lists, and passes
  pub lower_found : (r : Rev) → lower (find p heads) (find p push_outs) ≡ Some r → (In r heads × IsTrue (p r)) ⊎ (In r push_outs × IsTrue (p r))
  lower_found r is = elim (lower_one (find p heads) (find p push_outs) r is) [ inl e ↦ inl (find_in p heads r e) | inr e ↦ inr (find_in p push_outs r e) ]

  -- of one that passes, another or the same is found first
  found : (rs : List Rev) → AreInVersionOrder rs → (x : Rev) → In x rs → IsTrue (p x) → (q : Rev) × (find p rs ≡ Some q) × IsNoLater q.version x.version
  found rs order x i h = go (find p rs) refl
    where
      go : (o : Option Rev) → find p rs ≡ o → (q : Rev) × (find p rs ≡ Some q) × IsNoLater q.version x.version
      go None e = absurd (both_ways (p x) (find_none p rs e x i) h)
      go (Some q) e = (q, e, elim (found_first p rs order q e x i h) [ inl same ↦ inl (ap version_of same) | inr less ↦ inr less ])

  pub lower_first : AreInVersionOrder heads → AreInVersionOrder push_outs → (r : Rev) → lower (find p heads) (find p push_outs) ≡ Some r → IsFirst r
  lower_first left right r is =
      let least = lower_least (find p heads) (find p push_outs) r in
      let whose = lower_found r is in record {
        among = elim whose [ inl l ↦ inl l.0 | inr l ↦ inr l.0 ];
        passes = elim whose [ inl l ↦ l.1 | inr l ↦ l.1 ];
        first = λ x i h. elim i [
          | inl l ↦ (let q = found heads left x l h in no_later_trans r.version q.0.version x.version (least q.0 is (inl q.1)) q.2)
          | inr l ↦ (let q = found push_outs right x l h in no_later_trans r.version q.0.version x.version (least q.0 is (inr q.1)) q.2)
        ];
      }
