-- what is to be listed for an item, after each edit of its versions and of the room
use Rattle.std.proofs.Common.{◌≡◌, Bool, true, false, not, ◌||◌, cond, if◌then◌else◌, refl, sym, ap, subst, ◌∙◌, List, [], ◌∷◌, map, Option, Some, None, MatchOption, ◌⊎◌, inl, inr, Result, IfOk, length, ◌==◌, arith}
use Rattle.mr_store.proofs.Names.{AllByRecursion, AreConflicts, AreInVersionOrder, IsStrictlySortedBy, Less, Name, Rev, Room, Versions, all_filtered}
use Rattle.mr_store.proofs.Names.{are_several, eqb-true, filter, has_later, head_before, is_eq, is_for_later, is_listed, is_of, left_by, name_cmp, name_eq}
use Rattle.mr_store.proofs.Names.{name_eq-swap, name_eq_self, option_map, option_map_or, or_from, or_parts, revision_of, rises-filter, same_names}
use Rattle.mr_store.proofs.Names.{stays_listed, tail_rises, to_list, version_inserted, version_of, versions_of, without}
use Rattle.mr_store.proofs.RevisionLemmas.{either, is_none_of, without-more, is_none_of-more, left_by-listed, filter-all, unlisted_stay}

-- ---- versions that are not the first

no_other : (b : Bool) → not b ≡ false → b ≡ true
no_other b h = grind arith

-- where none is another than the first, all are the first
pub firsts_are_all : (item : Name) (vs : List Name) → has_later item vs ≡ false → filter (λ v. name_eq v item) vs ≡ vs
firsts_are_all item [] none = refl
firsts_are_all item (v ∷ vs) none = grind (arith, firsts_are_all item vs, or_parts, no_other)

-- some of these have no other
later_filter : (item : Name) (p : Name → Bool) (vs : List Name) → has_later item vs ≡ false → has_later item (filter p vs) ≡ false
later_filter item p [] none = refl
later_filter item p (v ∷ vs) none = grind (arith, later_filter item p vs, or_parts, or_from)

or_swap : (a b c : Bool) → (a || (b || c)) ≡ (b || (a || c))
or_swap a b c = grind arith

-- one more has others if it is another, or they have one
later_inserted : (item v : Name) (vs : List Name) → has_later item (version_inserted v vs) ≡ (not (name_eq v item) || has_later item vs)
later_inserted item v [] = refl
later_inserted item v (w ∷ vs) = grind (arith, later_inserted item v vs, or_swap)

-- rising versions of which none is another than the first are the first, or none
alone_in : (item : Name) (rs : List Rev) → AreInVersionOrder rs → has_later item (map version_of rs) ≡ false → (map version_of rs ≡ []) ⊎ (map version_of rs ≡ item ∷ [])
alone_in item [] rising none = inl refl
alone_in item (x ∷ []) rising none =
    let one = or_parts (not (name_eq x.version item)) false none in
    inr (ap (λ (v : Name). v ∷ []) (same_names x.version item (no_other (name_eq x.version item) one.0)))
alone_in item (x ∷ y ∷ rs) rising none =
    let one = or_parts (not (name_eq x.version item)) (has_later item (map version_of (y ∷ rs))) none in
    let two = or_parts (not (name_eq y.version item)) (has_later item (map version_of rs)) one.1 in
    let is_first : x.version ≡ item = same_names x.version item (no_other (name_eq x.version item) one.0) in
    let is_second : item ≡ y.version = sym (same_names y.version item (no_other (name_eq y.version item) two.0)) in
    let apart : name_eq x.version y.version ≡ false = ap is_eq (head_before version_of x (y ∷ rs) rising).0 in
    let same : name_eq x.version y.version ≡ true = subst (λ (v : Name). name_eq x.version v ≡ true) (is_first ∙ is_second) (name_eq_self x.version) in
    let no : true ≡ false = sym same ∙ apart in cc

pub first_or_none : (item : Name) (rs : List Rev) → AreInVersionOrder rs → has_later item (versions_of item rs) ≡ false → (versions_of item rs ≡ []) ⊎ (versions_of item rs ≡ item ∷ [])
first_or_none item rs rising none = alone_in item (filter (is_of item) rs) (rises-filter version_of (is_of item) rs rising) none

alone_not_several : (item : Name) (rs : List Rev) → AreInVersionOrder rs → has_later item (versions_of item rs) ≡ false → are_several (versions_of item rs) ≡ false
alone_not_several item rs rising none = elim (first_or_none item rs rising none) [ inl is ↦ ap are_several is | inr is ↦ ap are_several is ]

-- ---- what is to be listed

-- what is listed are the versions, and where nothing is none is another than the first
pub to_list-exact : (room : Option Room) (item : Name) (vs : List Name) → MatchOption (to_list room item vs) (has_later item vs ≡ false) (λ ws. ws ≡ vs)
to_list-exact room item vs = grind (arith, either, or_parts)

-- of some of the versions as much is listed as stays
pub stays-some : (room : Option Room) (item : Name) (p : Name → Bool) (vs : List Name) → stays_listed room item (option_map (filter p) (to_list room item vs)) ≡ to_list room item (filter p vs)
stays-some room item p vs = grind (arith, either, or_parts, or_from, later_filter)

-- without room for an item, as much is listed as without any
pub to_list-elsewhere : (room : Option Room) (item : Name) (vs : List Name) → is_for_later room item ≡ false → to_list room item vs ≡ to_list None item vs
to_list-elsewhere room item vs none = rw none refl

mapped : (f : List Name → List Name) (b c : Bool) (vs : List Name) → b ≡ c → option_map f (if b then Some vs else None) ≡ (if c then Some (f vs) else None)
mapped f b c vs same = grind arith

swapped : (a b : Bool) → (a || b) ≡ ((b || a) || false)
swapped a b = grind arith

-- a version that comes in its room is listed where it is to be
pub to_list-inserted : (item v : Name) (vs : List Name) → option_map (version_inserted v) (to_list (Some (record { item = item; version = v })) item vs) ≡ to_list None item (version_inserted v vs)
to_list-inserted item v vs = grind (arith, name_eq_self, swapped, later_inserted, mapped)

-- what isn't listed has no other version than the first
pub unlisted_alone : (room : Option Room) (item : Name) (vs : List Name) → to_list room item vs ≡ None → has_later item vs ≡ false
unlisted_alone room item vs unlisted = grind (arith, either)

-- and what is listed are the versions
pub listed_is : (room : Option Room) (item : Name) (vs ws : List Name) → to_list room item vs ≡ Some ws → ws ≡ vs
listed_is room item vs ws listed = grind (arith, either)

-- the list of an item with room for a later version
pub to_list-for_later : (room : Option Room) (item : Name) (vs : List Name) → is_for_later room item ≡ true → to_list room item vs ≡ Some vs
to_list-for_later room item vs for_later = elim (either (has_later item vs)) [ inl later ↦ rw later refl | inr none ↦ rw (none, for_later) refl ]

-- whether several are listed is whether there are several
pub several-listed : (room : Option Room) (item : Name) (rs : List Rev) → AreInVersionOrder rs → option_map_or are_several (to_list room item (versions_of item rs)) false ≡ are_several (versions_of item rs)
several-listed room item rs rising = grind (arith, either, alone_not_several, or_parts)

-- ---- the first version of an item

none_first : (item : Name) (x : Rev) (vs : List Name) → name_eq x.version item ≡ true → AllByRecursion (λ v. name_cmp x.version v ≡ Less) vs → filter (λ v. name_eq v item) vs ≡ []
none_first item x [] first later = refl
none_first item x (v ∷ vs) first later = grind (arith, none_first item x vs first later.1, name_eq-swap, same_names)

-- the item's version of a revision, if there is one of it
abbrev pub first_in : Name → Option Rev → List Name
first_in item None = []
first_in item (Some r) = if is_of item r then r.version ∷ [] else []

-- the revision of the first version's name has the first version, where it is one of the item
pub firsts_found : (item : Name) (rs : List Rev) → AreInVersionOrder rs → first_in item (revision_of rs item) ≡ filter (λ v. name_eq v item) (versions_of item rs)
firsts_found item [] rising = refl
firsts_found item (x ∷ xs) rising =
    elim (either (name_eq x.version item)) [
      | inl here ↦
          let later : AllByRecursion (λ v. name_cmp x.version v ≡ Less) (versions_of item xs) = all_filtered version_of (λ v. name_cmp x.version v ≡ Less) (is_of item) xs (head_before version_of x xs rising) in
          let rest : filter (λ v. name_eq v item) (versions_of item xs) ≡ [] = none_first item x (versions_of item xs) here later in
          rw here (elim (is_of item x) as (λ b. (if b then x.version ∷ [] else []) ≡ filter (λ v. name_eq v item) (map version_of (cond b (x ∷ filter (is_of item) xs) (filter (is_of item) xs)))) [
            | true ↦ rw here (ap (λ (vs : List Name). x.version ∷ vs) (sym rest))
            | false ↦ sym rest
          ])
      | inr other ↦ rw other (firsts_found item xs (tail_rises version_of x xs rising)
          ∙ (elim (is_of item x) as (λ b. filter (λ v. name_eq v item) (versions_of item xs) ≡ filter (λ v. name_eq v item) (map version_of (cond b (x ∷ filter (is_of item) xs) (filter (is_of item) xs)))) [ true ↦ rw other refl | false ↦ refl ]))
    ]

-- ---- an item of which the first version is all

-- where it has no version, none leaves
pub stays-none : (item : Name) (below : Versions) (rs : List Rev) → AreInVersionOrder rs → versions_of item rs ≡ [] → rs ≡ left_by item below rs
stays-none item below rs rising none = unlisted_stay (versions_of item rs) below rs none ∙ left_by-listed item below rs rising

-- where the first isn't to leave, none leaves
pub stays-above : (item : Name) (below : Versions) (rs : List Rev) → AreInVersionOrder rs → has_later item (versions_of item rs) ≡ false → below item ≡ false → rs ≡ left_by item below rs
stays-above item below rs rising alone above =
    elim (first_or_none item rs rising alone) [
      | inl none ↦ stays-none item below rs rising none
      | inr first ↦
          filter-all rs
          ∙ (is_none_of-more [] item below rs above
          ∙ (ap (λ (vs : List Name). filter (is_none_of vs below) rs) (sym first)
          ∙ left_by-listed item below rs rising))
    ]

-- and where it is, it alone leaves
pub first_leaves : (item : Name) (below : Versions) (rs : List Rev) → AreInVersionOrder rs → versions_of item rs ≡ item ∷ [] → below item ≡ true → without version_of item rs ≡ left_by item below rs
first_leaves item below rs rising first is_below = grind (arith, filter-all, without-more, is_none_of, left_by-listed)

-- the first version, where it was found and is to leave
pub first_out : (item : Name) (below : Versions) (rs : List Rev) (firsts : List Name) → AreInVersionOrder rs → has_later item (versions_of item rs) ≡ false
    → firsts ≡ filter (λ v. name_eq v item) (versions_of item rs) → (length firsts == 0) ≡ false → below item ≡ true → without version_of item rs ≡ left_by item below rs
first_out item below rs firsts rising alone are some is_below = grind (arith, firsts_are_all, first_or_none, first_leaves)

no_versions : (vs : List Name) → (length vs == 0) ≡ true → vs ≡ []
no_versions [] h = refl
no_versions (v ∷ vs) h = absurd (let none : length (v ∷ vs) ≡ 0 = eqb-true (length (v ∷ vs)) 0 h in omega (arith, none))

-- and where none was found
pub none_out : (item : Name) (below : Versions) (rs : List Rev) (firsts : List Name) → AreInVersionOrder rs → has_later item (versions_of item rs) ≡ false
    → firsts ≡ filter (λ v. name_eq v item) (versions_of item rs) → (length firsts == 0) ≡ true → rs ≡ left_by item below rs
none_out item below rs firsts rising alone are h = grind (arith, stays-none, firsts_are_all, no_versions)

-- ---- conflicts

-- the items of which several are listed are in conflict
pub are_conflicts : {V E : Type 0} (items : V → List Name) (result : Result V E) (listed : Name → Option (List Name)) (room : Option Room) (rs : List Rev) → AreInVersionOrder rs → ((i : Name) → listed i ≡ to_list room i (versions_of i rs))
    → IfOk result (λ v. IsStrictlySortedBy name_cmp (items v)) → IfOk result (λ v. (i : Name) → is_listed (items v) i ≡ option_map_or are_several (listed i) false) → IfOk result (λ v. AreConflicts rs (items v))
are_conflicts items result listed room rs rising indexed sorted exact = grind (arith, several-listed)
