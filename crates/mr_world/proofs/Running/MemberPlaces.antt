-- A member stands at its place in the list, and one that goes back there is another of its id alone.
use Rattle.std.proofs.Common.{◌≡◌, ◌≢◌, ◌<◌, ◌≤◌, ◌==◌, ℕ, zero, suc, Bool, true, false, cond, List, [], ◌∷◌, length, get_or, arith, Option, Some, None, refl, sym, ap, subst, ◌∙◌, eqb-true, eq-eqb}
use Rattle.mr_world.proofs.Names.Lists.{ltb-false, ltb-true, map-set, nat_lt, option_map, position, position_or_len, set-get_or, slice_set}
use Rattle.std.specs.Prelude.{slice_get}
use Rattle.std.proofs.lemmas.List.Folds.{find_at, find-set, find_past}
use Rattle.std.proofs.lemmas.List.Sums.{passes_at_first}
use Rattle.std.proofs.lemmas.Option.{slice_get-get_or, get_or_from_slice_get, cond_some, slice_get_past}
use Rattle.mr_world.proofs.Names.World.{Becomes, MemberView, ids_of, member_at, replica_at}
use Rattle.mr_world.proofs.Groundwork.Tools.{differs}

none_here : {A : Type 0} (xs : List A) (i : ℕ) → slice_get xs i ≡ None → i < length xs → ⊥
none_here [] i e lt = omega arith
none_here (x ∷ xs) zero e lt = cc e
none_here (x ∷ xs) (suc i) e lt = none_here xs i e (omega arith)

module _ {K : Type 0} where
  abbrev has_id : ℕ → MemberView K → Bool
  has_id r m = m.replica.id == r

  -- m is the member of the id, at this place
  pub record IsPlace (ms : List (MemberView K)) (r place : ℕ) (m : MemberView K) : Type 0 where
    pub found : member_at ms r ≡ Some m
    pub first : place ≡ position_or_len (λ m. m.replica.id == r) ms
    pub within : place < length ms
    pub there : m ≡ get_or ms place m
    pub id : m.replica.id ≡ r

  pub place_found : (ms : List (MemberView K)) (r place : ℕ) (m : MemberView K) → position (λ m. m.replica.id == r) ms ≡ Some place → m ≡ get_or ms place m → IsPlace ms r place m
  place_found ms r place m at there = grind (arith, position_or_len, cond_some, ltb-true, find_at, slice_get-get_or, eqb-true, passes_at_first)

  -- no place, no member
  pub not_found : (ms : List (MemberView K)) (r : ℕ) → position (λ m. m.replica.id == r) ms ≡ None → member_at ms r ≡ None
  not_found ms r h = grind (arith, position_or_len, find_at, slice_get_past, ltb-false)

  -- ---- another goes back to the place

  found_changed : (ms : List (MemberView K)) (r place : ℕ) (m new : MemberView K) → IsPlace ms r place m → new.replica.id ≡ r → member_at (slice_set ms place new) r ≡ Some new
  found_changed ms r place m new p h = find-set (has_id r) ms place new p.first p.within (eq-eqb new.replica.id r h)

  found_other : (ms : List (MemberView K)) (r q place : ℕ) (m new : MemberView K) → IsPlace ms r place m → new.replica.id ≡ r → q ≢ r → member_at (slice_set ms place new) q ≡ member_at ms q
  found_other ms r q place m new p h ne = grind (arith, differs, find_past)

  -- what goes back as it was changes nothing
  pub goes_back : (ms : List (MemberView K)) (r place : ℕ) (m : MemberView K) → IsPlace ms r place m → slice_set ms place m ≡ ms
  goes_back ms r place m p = ap (λ (n : MemberView K). slice_set ms place n) p.there ∙ set-get_or ms place m

  -- the ids stay
  ids_stay : (ms : List (MemberView K)) (r place : ℕ) (m new : MemberView K) → IsPlace ms r place m → new.replica.id ≡ m.replica.id → ids_of (slice_set ms place new) ≡ ids_of ms
  ids_stay ms r place m new p h =
      map-set (λ (n : MemberView K). n.replica.id) ms place new
      ∙ (ap (λ (i : ℕ). slice_set (ids_of ms) place i) h ∙ (sym (map-set (λ (n : MemberView K). n.replica.id) ms place m) ∙ ap (λ (ns : List (MemberView K)). ids_of ns) (goes_back ms r place m p)))

  -- the member of the id has become another
  pub becomes : (ms : List (MemberView K)) (r place : ℕ) (m new : MemberView K) → IsPlace ms r place m → new.replica.id ≡ m.replica.id → Becomes r m new ms (slice_set ms place new)
  becomes ms r place m new p h = grind (arith, found_changed, found_other, ids_stay)

  -- a place that was found is one of them
  pub place_within : (ms : List (MemberView K)) (r place : ℕ) → position (λ m. m.replica.id == r) ms ≡ Some place → place < length ms
  place_within ms r place at = grind (arith, cond_some, position_or_len, ltb-true)

  -- there is a member at the place
  pub place_there : (ms : List (MemberView K)) (r place : ℕ) → position (λ m. m.replica.id == r) ms ≡ Some place → (m : MemberView K) × IsPlace ms r place m
  place_there ms r place at = cases (slice_get ms place) refl
    where
      cases : (o : Option (MemberView K)) → slice_get ms place ≡ o → (m : MemberView K) × IsPlace ms r place m
      cases (Some m) e = (m, place_found ms r place m at (sym (get_or_from_slice_get ms place m m e)))
      cases None e = absurd (past e)
        where
          past : slice_get ms place ≡ None → ⊥
          past e = none_here ms place e (place_within ms r place at)

  -- the replica of an id, or none
  pub replica_none : (ms : List (MemberView K)) (r : ℕ) → None ≡ position (λ m. m.replica.id == r) ms → None ≡ replica_at ms r
  replica_none ms r h = sym (ap (λ o. option_map (λ (m : MemberView K). m.replica) o) (not_found ms r (sym h)))

  pub replica_some : (ms : List (MemberView K)) (r place : ℕ) (m : MemberView K) → Some place ≡ position (λ m. m.replica.id == r) ms → m ≡ get_or ms place m → Some m.replica ≡ replica_at ms r
  replica_some ms r place m h there = sym (ap (λ o. option_map (λ (m : MemberView K). m.replica) o) (place_found ms r place m (sym h) there).found)
