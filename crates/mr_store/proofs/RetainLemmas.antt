-- what an index lists once each item's list keeps those that pass, and the lists that aren't needed go
use Rattle.std.proofs.Common.{◌≡◌, ◌≤◌, ◌||◌, Bool, true, false, cond, Option, Some, None, List, [], ◌∷◌, refl, sym, subst, map, vec_len, vec_capacity, arith, inl, inr}
use Rattle.mr_store.proofs.Names.{AllByRecursion, AreRising, BTreeMap, HasRoomFor, Less, Name, Room, Vec, filter, has_later, head_before, is_at, is_for_later}
use Rattle.mr_store.proofs.Names.{listed_for, lookup, name_cmp, name_eq, option_map, same_names, stays_listed, tail_rises}
use Rattle.std.specs.Map.Calls.{RetainsPairs}
use Rattle.mr_store.proofs.IndexLemmas.{items_of_list, HasSpace}
use Rattle.mr_store.proofs.RevisionLemmas.{either}
use Rattle.mr_store.proofs.Several.{key_of}

-- whether a list of these versions is needed
abbrev pub is_needed : Option Room → Name → List Name → Bool
is_needed room item vs = has_later item vs || is_for_later room item

module _ {Z : Type 0} (passes : Name → Bool) (room : Option Room) where
  -- the list keeps those that pass, in the memory that it has
  pub record IsKept (v w : Vec Name Z) : Type 0 where
    pub items : w.items ≡ filter passes v.items
    pub fewer : vec_len w ≤ vec_len v
    pub capacity : vec_capacity w ≡ vec_capacity v

  -- what an item's list becomes
  record Becomes (i : Name) (old new : Option (Vec Name Z)) : Type 0 where
    listed : items_of_list new ≡ stays_listed room i (option_map (filter passes) (items_of_list old))
    has_room : HasSpace old → HasSpace new

  -- an item's list that stays, or goes
  becomes_first : (i : Name) (b : Bool) (v w : Vec Name Z) (rest : Option (Vec Name Z)) → b ≡ is_needed room i w.items → IsKept v w → rest ≡ None → Becomes i (Some v) (cond b (Some w) rest)
  becomes_first i b v w rest stays kept h = grind arith

  none_later : (i : Name) (es : List (Name × Vec Name Z)) → AllByRecursion (λ u. name_cmp i u ≡ Less) (map key_of es) → lookup (is_at (name_cmp i)) es ≡ None
  none_later i [] later = refl
  none_later i (e ∷ es) later = rw later.0 (none_later i es later.1)

  module _ {F : Type 0} (T : F → Name → Vec Name Z → Bool → Vec Name Z → F → Type 0) (f : F) (each : (k : Name) (v : Vec Name Z) (b : Bool) (w : Vec Name Z) (f' : F) → T f k v b w f' → (b ≡ is_needed room k w.items) × IsKept v w × (f' ≡ f)) where
    -- no entry comes
    none_comes : (test : Name → Bool) (es kept : List (Name × Vec Name Z)) → RetainsPairs T f es kept → lookup test es ≡ None → lookup test kept ≡ None
    none_comes test [] kept h none = rw h refl
    none_comes test (e ∷ es) kept h none = grind (arith, none_comes test es h.3, either)

    becomes : (i : Name) (es kept : List (Name × Vec Name Z)) → AreRising key_of es → RetainsPairs T f es kept → Becomes i (lookup (is_at (name_cmp i)) es) (lookup (is_at (name_cmp i)) kept)
    becomes i [] kept rising h = rw h (record { listed = refl; has_room = λ has. has })
    becomes i (e ∷ es) kept rising h =
        let one = each e.0 e.1 h.0 h.1 h.2 h.4 in
        let rest = subst (λ g. RetainsPairs T g es h.3) one.2 h.5 in
        elim (either (name_eq i e.0)) [
          | inl here ↦
              let is : e.0 ≡ i = sym (same_names i e.0 here) in
              let later : AllByRecursion (λ u. name_cmp i u ≡ Less) (map key_of es) = subst (λ j. AllByRecursion (λ u. name_cmp j u ≡ Less) (map key_of es)) is (head_before key_of e es rising) in
              let none : lookup (is_at (name_cmp i)) h.3 ≡ None = none_comes (is_at (name_cmp i)) es h.3 rest (none_later i es later) in
              let stays : h.0 ≡ is_needed room i h.1.items = subst (λ j. h.0 ≡ is_needed room j h.1.items) is one.0 in
              rw (h.6, here) (subst (λ n. Becomes i (Some e.1) n) (shown i e.0 h.0 h.1 h.3 here) (becomes_first i h.0 e.1 h.1 (lookup (is_at (name_cmp i)) h.3) stays one.1 none))
          | inr apart ↦
              rw (h.6, apart) (subst (λ n. Becomes i (lookup (is_at (name_cmp i)) es) n) (passed i e.0 h.0 h.1 h.3 apart) (becomes i es h.3 (tail_rises key_of e es rising) rest))
        ]
      where
        shown : (i k : Name) (b : Bool) (w : Vec Name Z) (rest : List (Name × Vec Name Z)) → name_eq i k ≡ true
            → cond b (Some w) (lookup (is_at (name_cmp i)) rest) ≡ lookup (is_at (name_cmp i)) (cond b ((k, w) ∷ rest) rest)
        shown i k true w rest here = rw here refl
        shown i k false w rest here = refl

        passed : (i k : Name) (b : Bool) (w : Vec Name Z) (rest : List (Name × Vec Name Z)) → name_eq i k ≡ false
            → lookup (is_at (name_cmp i)) rest ≡ lookup (is_at (name_cmp i)) (cond b ((k, w) ∷ rest) rest)
        passed i k true w rest apart = rw apart refl
        passed i k false w rest apart = refl

    pub lists_kept : (old new : BTreeMap Name (Vec Name Z)) → AreRising key_of old.entries → RetainsPairs T f old.entries new.entries → (i : Name) → listed_for new i ≡ stays_listed room i (option_map (filter passes) (listed_for old i))
    lists_kept old new rising h i = (becomes i old.entries new.entries rising h).listed

    pub keeps_room : (old new : BTreeMap Name (Vec Name Z)) → AreRising key_of old.entries → RetainsPairs T f old.entries new.entries → (other : Option Room) → HasRoomFor other old → HasRoomFor other new
    keeps_room old new rising h None has = tt
    keeps_room old new rising h (Some other) has = (becomes other.item old.entries new.entries rising h).has_room has
