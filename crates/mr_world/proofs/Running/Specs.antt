-- Specifications that are not refused.
use Rattle.std.proofs.Common.{◌≡◌, sym, subst, ℕ, ◌≤◌, ◌==◌, nat_lt, Bool, true, false, ◌||◌, List, ◌∷◌, ◌++◌, inl, refl, if◌then◌else◌, arith, Some, None}
use Rattle.mr_world.proofs.Names.Lists.{both_ways, eqb-false, list_any, ltb-false}
use Rattle.mr_world.proofs.Names.Laws.{any_intro, append_right, false_from}
use Rattle.mr_world.proofs.Names.World.{Spec, has_bad_capacity, has_bad_limit, has_same_id, spec_refusal}
use Rattle.mr_feed.specs.declared.port.TheConstants.{MAX_CAPACITY}
use Rattle.mr_replica.specs.declared.replica.TheConstants.{MAX_EVENTS}
use Rattle.mr_world.specs.declared.fault.SpecFault.TheVariants.{BadLimit, NoCapacity, SameReplica}

-- none of the cases holds
none_bad : (same limit capacity : Bool) → (if same then Some SameReplica else (if limit then Some BadLimit else (if capacity then Some NoCapacity else None))) ≡ None → (limit ≡ false) × (capacity ≡ false)
none_bad same limit capacity e = grind arith

neither : (a b : Bool) → (a || b) ≡ false → (a ≡ false) × (b ≡ false)
neither a b e = grind arith

-- a number that is neither 0 nor past the limit
in_range : (n most : ℕ) → ((n == 0) || nat_lt most n) ≡ false → (1 ≤ n) × (n ≤ most)
in_range n most e = grind (arith, neither, eqb-false, ltb-false)

module _ (all before after : List Spec) (spec : Spec) (whole : all ≡ before ++ spec ∷ after) (fine : spec_refusal all ≡ None) where
  not_so : (p : Spec → Bool) → list_any p all ≡ false → p spec ≡ false
  not_so p none = false_from (p spec) (λ t. both_ways (list_any p all) none
      (subst (λ (xs : List Spec). list_any p xs ≡ true) (sym whole) (any_intro p (before ++ spec ∷ after) spec (append_right before (spec ∷ after) spec (inl refl)) t)))

  none : (list_any has_bad_limit all ≡ false) × (list_any has_bad_capacity all ≡ false)
  none = none_bad (has_same_id all) (list_any has_bad_limit all) (list_any has_bad_capacity all) fine

  pub limit_fits : (1 ≤ spec.event_limit) × (spec.event_limit ≤ MAX_EVENTS)
  limit_fits = in_range spec.event_limit MAX_EVENTS (not_so has_bad_limit none.0)

  pub capacity_fits : (1 ≤ spec.port_capacity) × (spec.port_capacity ≤ MAX_CAPACITY)
  capacity_fits = in_range spec.port_capacity MAX_CAPACITY (not_so has_bad_capacity none.1)
