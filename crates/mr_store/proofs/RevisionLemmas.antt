-- the versions of an item, after each edit of a list
use Rattle.std.proofs.Common.{◌≡◌, ◌<◌, ◌==◌, ℕ, zero, suc, length, Result, IfOk, IfErr, is_ok, is_some, Bool, true, false, not, ◌&&◌, ◌||◌, cond, if◌then◌else◌, refl, sym, ap, subst, ◌∙◌, List, [], ◌∷◌, ◌++◌, map, ◌⊎◌, inl, inr, Option, Some, None, arith}
use Rattle.mr_store.proofs.Names.{AllByRecursion, AreInVersionOrder, Less, Name, Rev, Versions, all_filtered, cons_option, entered, eqb-true, filter}
use Rattle.mr_store.proofs.Names.{filter_agree, filter_map, first_place, head_before, holds, is_before, is_listed, is_of, left_by, list_any, list_any-append}
use Rattle.mr_store.proofs.Names.{name_cmp, name_eq, name_eq-swap, name_eq_self, revision_of, same_names, slice_get, supersedes, tail_rises, version_inserted}
use Rattle.mr_store.proofs.Names.{version_of, versions_of, without}
use Rattle.std.proofs.lemmas.Option.{slice_get-get_or}
use Rattle.mr_madewith.specs.inner.Search.{IsFoundAt, IsGapFor}

pub either : (b : Bool) → (b ≡ true) ⊎ (b ≡ false)
either b = grind arith

-- of the item itself the superseded versions leave
versions_of-left_by_same : (item : Name) (below : Versions) (heads : List Rev) → versions_of item (left_by item below heads) ≡ filter (λ v. not (below v)) (versions_of item heads)
versions_of-left_by_same item below [] = refl
versions_of-left_by_same item below (r ∷ rs) = grind (arith, versions_of-left_by_same item below rs, either)

-- of another item none leaves
versions_of-left_by_other : (i item : Name) (below : Versions) (heads : List Rev) → name_eq item i ≡ false → versions_of i (left_by item below heads) ≡ versions_of i heads
versions_of-left_by_other i item below [] apart = refl
versions_of-left_by_other i item below (r ∷ rs) apart =
    elim (either (is_of item r)) [
      | inl of ↦
          let not_here : is_of i r ≡ false = ap (λ n. name_eq n i) (same_names r.item item of) ∙ apart in
          elim (either (below r.version)) [
            | inl is_below ↦ rw (of, is_below, not_here) (versions_of-left_by_other i item below rs apart)
            | inr above ↦ rw (of, above, not_here) (versions_of-left_by_other i item below rs apart)
          ]
      | inr other ↦ rw other (elim (is_of i r) as (λ b. map version_of (cond b (r ∷ filter (is_of i) (left_by item below rs)) (filter (is_of i) (left_by item below rs))) ≡ map version_of (cond b (r ∷ filter (is_of i) rs) (filter (is_of i) rs))) [
        | true ↦ ap (λ vs. r.version ∷ vs) (versions_of-left_by_other i item below rs apart)
        | false ↦ versions_of-left_by_other i item below rs apart
      ])
    ]

pub versions_of-left_by : (i item : Name) (below : Versions) (heads : List Rev) → versions_of i (left_by item below heads) ≡ (if name_eq item i then filter (λ v. not (below v)) (versions_of i heads) else versions_of i heads)
versions_of-left_by i item below heads =
    elim (either (name_eq item i)) [
      | inl same ↦ rw same (subst (λ j. versions_of j (left_by item below heads) ≡ filter (λ v. not (below v)) (versions_of j heads)) (same_names item i same) (versions_of-left_by_same item below heads))
      | inr apart ↦ rw apart (versions_of-left_by_other i item below heads apart)
    ]

map-itself : (P : Name → Type 0) (rs : List Name) → AllByRecursion P rs → AllByRecursion P (map (λ v. v) rs)
map-itself P [] h = tt
map-itself P (v ∷ vs) h = (h.0, map-itself P vs h.1)

-- a revision that enters adds its version to its item's
pub versions_of-entered : (i : Name) (r : Rev) (heads : List Rev) → AreInVersionOrder (entered r heads) → versions_of i (entered r heads) ≡ (if name_eq r.item i then version_inserted r.version (versions_of i heads) else versions_of i heads)
versions_of-entered i r [] rising = elim (name_eq r.item i) as (λ b. map version_of (cond b (r ∷ []) []) ≡ (if b then r.version ∷ [] else [])) [ true ↦ refl | false ↦ refl ]
versions_of-entered i r (x ∷ xs) rising =
    elim (either (is_before x.version r.version)) [
      | inl before ↦
          let rest : versions_of i (entered r xs) ≡ (if name_eq r.item i then version_inserted r.version (versions_of i xs) else versions_of i xs) =
          versions_of-entered i r xs (tail_rises version_of x (entered r xs) (rw before at rising)) in
          elim (either (is_of i x)) [
            | inl here ↦ rw (before, here) (ap (λ vs. x.version ∷ vs) rest ∙ (elim (name_eq r.item i) as (λ b. x.version ∷ (if b then version_inserted r.version (versions_of i xs) else versions_of i xs) ≡ (if b then version_inserted r.version (x.version ∷ versions_of i xs) else x.version ∷ versions_of i xs)) [ true ↦ rw before refl | false ↦ refl ]))
            | inr other ↦ rw (before, other) rest
          ]
      | inr after ↦
          let later : AllByRecursion (λ v. name_cmp r.version v ≡ Less) (versions_of i (x ∷ xs)) =
          all_filtered version_of (λ v. name_cmp r.version v ≡ Less) (is_of i) (x ∷ xs) (head_before version_of r (x ∷ xs) (rw after at rising)) in
          rw after (elim (name_eq r.item i) as (λ b. map version_of (cond b (r ∷ filter (is_of i) (x ∷ xs)) (filter (is_of i) (x ∷ xs))) ≡ (if b then version_inserted r.version (versions_of i (x ∷ xs)) else versions_of i (x ∷ xs))) [
            | true ↦ sym (first_place (λ v. v) r.version (versions_of i (x ∷ xs)) (map-itself (λ v. name_cmp r.version v ≡ Less) (versions_of i (x ∷ xs)) later))
            | false ↦ refl
          ])
    ]

pub filter-filter : {X : Type 0} (p q : X → Bool) (xs : List X) → filter q (filter p xs) ≡ filter (λ x. p x && q x) xs
filter-filter p q [] = refl
filter-filter p q (x ∷ xs) = grind (arith, filter-filter p q xs)

-- whether a revision stays, once one more of the listed versions was looked at
stays_more : (listed here below : Bool) → (here ≡ true → below ≡ true) → (not (listed && below) && not here) ≡ not ((listed || (here || false)) && below)
stays_more listed here below h = grind arith

stays_as_well : (listed here below : Bool) → (here ≡ true → below ≡ false) → not (listed && below) ≡ not ((listed || (here || false)) && below)
stays_as_well listed here below h = grind arith

-- whether the revision is none of these versions that are below
abbrev pub is_none_of : List Name → Versions → Rev → Bool
is_none_of vs below r = not (is_listed vs r.version && below r.version)

pub without-more : (vs : List Name) (v : Name) (below : Versions) (heads : List Rev) → below v ≡ true
    → without version_of v (filter (is_none_of vs below) heads) ≡ filter (is_none_of (vs ++ v ∷ []) below) heads
without-more vs v below heads is_below = grind (arith, filter-filter, filter_agree, list_any-append, stays_more, same_names)

pub is_none_of-more : (vs : List Name) (v : Name) (below : Versions) (heads : List Rev) → below v ≡ false
    → filter (is_none_of vs below) heads ≡ filter (is_none_of (vs ++ v ∷ []) below) heads
is_none_of-more vs v below heads above = grind (arith, filter_agree, list_any-append, stays_as_well, same_names)

-- tests that agree along a list keep the same elements
filter-along : {X : Type 0} (p q : X → Bool) (xs : List X) → AllByRecursion (λ x. p x ≡ q x) xs → filter p xs ≡ filter q xs
filter-along p q [] h = refl
filter-along p q (x ∷ xs) h = rw h.0 (elim (q x) as (λ b. cond b (x ∷ filter p xs) (filter p xs) ≡ cond b (x ∷ filter q xs) (filter q xs)) [ true ↦ ap (λ ys. x ∷ ys) (filter-along p q xs h.1) | false ↦ filter-along p q xs h.1 ])

-- among rising versions, those of an item are its held revisions'
pub unlisted_before : (v : Name) (vs : List Name) → AllByRecursion (λ u. name_cmp v u ≡ Less) vs → is_listed vs v ≡ false
unlisted_before v [] h = refl
unlisted_before v (u ∷ vs) h = rw h.0 (unlisted_before v vs h.1)

along_later : (item : Name) (x : Rev) (xs ys : List Rev) → AllByRecursion (λ v. name_cmp x.version v ≡ Less) (map version_of ys)
    → AllByRecursion (λ r. is_listed (versions_of item xs) r.version ≡ is_of item r) ys → AllByRecursion (λ r. is_listed (versions_of item (x ∷ xs)) r.version ≡ is_of item r) ys
along_later item x xs [] later h = tt
along_later item x xs (y ∷ ys) later h = grind (arith, along_later item x xs ys later.1 h.1, name_eq-swap)

is_listed-versions_of : (item : Name) (heads : List Rev) → AreInVersionOrder heads → AllByRecursion (λ r. is_listed (versions_of item heads) r.version ≡ is_of item r) heads
is_listed-versions_of item [] rising = tt
is_listed-versions_of item (x ∷ xs) rising =
    let later = head_before version_of x xs rising in (
      elim (is_of item x) as (λ b. is_listed (map version_of (cond b (x ∷ filter (is_of item) xs) (filter (is_of item) xs))) x.version ≡ b) [
        | true ↦ rw (name_eq_self x.version) refl
        | false ↦ unlisted_before x.version (versions_of item xs) (all_filtered version_of (λ v. name_cmp x.version v ≡ Less) (is_of item) xs later)
      ],
      along_later item x xs xs later (is_listed-versions_of item xs (tail_rises version_of x xs rising)),
    )

all_by : {X : Type 0} (P Q : X → Type 0) → ((x : X) → P x → Q x) → (xs : List X) → AllByRecursion P xs → AllByRecursion Q xs
all_by P Q f [] h = tt
all_by P Q f (x ∷ xs) h = (f x h.0, all_by P Q f xs h.1)

-- what is left when the item's versions that are below are taken out
pub left_by-listed : (item : Name) (below : Versions) (heads : List Rev) → AreInVersionOrder heads → filter (is_none_of (versions_of item heads) below) heads ≡ left_by item below heads
left_by-listed item below heads rising =
    filter-along (is_none_of (versions_of item heads) below) (λ r. not (supersedes item below r)) heads
    (all_by (λ r. is_listed (versions_of item heads) r.version ≡ is_of item r) (λ r. is_none_of (versions_of item heads) below r ≡ not (supersedes item below r)) (λ r h. ap (λ b. not (b && below r.version)) h) heads (is_listed-versions_of item heads rising))

-- a test that all pass keeps all
pub filter-all : {X : Type 0} (xs : List X) → xs ≡ filter (λ _. true) xs
filter-all [] = refl
filter-all (x ∷ xs) = ap (λ ys. x ∷ ys) (filter-all xs)

-- whether some version of the item passes
pub any-versions_of : (p : Name → Bool) (item : Name) (rs : List Rev) → list_any p (versions_of item rs) ≡ list_any (λ r. is_of item r && p r.version) rs
any-versions_of p item [] = refl
any-versions_of p item (r ∷ rs) = grind (arith, any-versions_of p item rs)

-- ---- the revisions of the versions that are below

-- the revision of a version that is below
abbrev pub found_below : Versions → List Rev → Name → Option Rev
found_below below rs v = if below v then revision_of rs v else None

found_along : (h k : Name → Option Rev) (vs : List Name) → AllByRecursion (λ v. h v ≡ k v) vs → filter_map h vs ≡ filter_map k vs
found_along h k [] same = refl
found_along h k (v ∷ vs) same = rw same.0 (ap (cons_option (k v)) (found_along h k vs same.1))

found_later : (below : Versions) (x : Rev) (xs : List Rev) (vs : List Name) → AllByRecursion (λ v. name_cmp x.version v ≡ Less) vs → AllByRecursion (λ v. found_below below (x ∷ xs) v ≡ found_below below xs v) vs
found_later below x xs [] later = tt
found_later below x xs (v ∷ vs) later = (rw later.0 refl, found_later below x xs vs later.1)

-- they are the revisions that are superseded
pub found-versions_of : (item : Name) (below : Versions) (rs : List Rev) → AreInVersionOrder rs → filter_map (found_below below rs) (versions_of item rs) ≡ filter (supersedes item below) rs
found-versions_of item below [] rising = refl
found-versions_of item below (x ∷ xs) rising =
    let rest : filter_map (found_below below (x ∷ xs)) (versions_of item xs) ≡ filter (supersedes item below) xs =
    found_along (found_below below (x ∷ xs)) (found_below below xs) (versions_of item xs) (found_later below x xs (versions_of item xs) (all_filtered version_of (λ v. name_cmp x.version v ≡ Less) (is_of item) xs (head_before version_of x xs rising)))
    ∙ found-versions_of item below xs (tail_rises version_of x xs rising) in
    elim (is_of item x) as (λ b. filter_map (found_below below (x ∷ xs)) (map version_of (cond b (x ∷ filter (is_of item) xs) (filter (is_of item) xs))) ≡ cond (b && below x.version) (x ∷ filter (supersedes item below) xs) (filter (supersedes item below) xs)) [
      | true ↦ rw (name_eq_self x.version) (elim (below x.version) as (λ b. cons_option (if b then Some x else None) (filter_map (found_below below (x ∷ xs)) (versions_of item xs)) ≡ cond b (x ∷ filter (supersedes item below) xs) (filter (supersedes item below) xs)) [
        | true ↦ ap (λ rs. x ∷ rs) rest
        | false ↦ rest
      ])
      | false ↦ rest
    ]

-- ---- what is left by a test of versions

-- the versions of the item that don't pass
pub versions_of-filter : (passes : Versions) (i : Name) (rs : List Rev) → versions_of i (filter (λ r. not (passes r.version)) rs) ≡ filter (λ v. not (passes v)) (versions_of i rs)
versions_of-filter passes i [] = refl
versions_of-filter passes i (r ∷ rs) = grind (arith, versions_of-filter passes i rs, either)

-- ---- what is left without those that pass

-- a version that stands before all of these is none of theirs
holds_before : (v : Name) (rs : List Rev) → AllByRecursion (λ u. name_cmp v u ≡ Less) (map version_of rs) → holds rs v ≡ false
holds_before v [] later = refl
holds_before v (r ∷ rs) later = grind (arith, holds_before v rs later.1, name_eq-swap)

passing_later : (p : Rev → Bool) (x : Rev) (xs ys : List Rev) → AllByRecursion (λ v. name_cmp x.version v ≡ Less) (map version_of ys)
    → AllByRecursion (λ r. not (holds (filter p xs) r.version) ≡ not (p r)) ys → AllByRecursion (λ r. not (holds (filter p (x ∷ xs)) r.version) ≡ not (p r)) ys
passing_later p x xs [] later h = tt
passing_later p x xs (y ∷ ys) later h = grind (arith, passing_later p x xs ys later.1 h.1)

-- among rising revisions, those that pass have the versions of no others
passing : (p : Rev → Bool) (rs : List Rev) → AreInVersionOrder rs → AllByRecursion (λ r. not (holds (filter p rs) r.version) ≡ not (p r)) rs
passing p [] rising = tt
passing p (x ∷ xs) rising =
    let later = head_before version_of x xs rising in (
      elim (either (p x)) [
        | inl passes ↦ rw (passes, name_eq_self x.version) refl
        | inr fails ↦ rw fails (ap not (holds_before x.version (filter p xs) (all_filtered version_of (λ v. name_cmp x.version v ≡ Less) p xs later)))
      ],
      passing_later p x xs xs later (passing p xs (tail_rises version_of x xs rising)),
    )

-- without the versions of those that pass, those are left that don't
pub filter-passing : (p : Rev → Bool) (rs : List Rev) → AreInVersionOrder rs → filter (λ r. not (holds (filter p rs) r.version)) rs ≡ filter (λ r. not (p r)) rs
filter-passing p rs rising = filter-along (λ r. not (holds (filter p rs) r.version)) (λ r. not (p r)) rs (passing p rs rising)

-- where none are to leave, all stay
pub none_left : (left rs : List Rev) → (length left == 0) ≡ true → rs ≡ filter (λ r. not (holds left r.version)) rs
none_left [] rs empty = filter-all rs
none_left (r ∷ left) rs empty = absurd (let none : length (r ∷ left) ≡ 0 = eqb-true (length (r ∷ left)) 0 empty in omega (arith, none))

-- ---- a search by version

-- a revision that was found is there
pub found_is_there : (rs : List Rev) (v : Name) (place : ℕ) → IsFoundAt version_of v rs place → revision_of rs v ≡ None → ⊥
found_is_there [] v place found none = let within = found.within in omega arith
found_is_there (r ∷ rs) v place found none = let some = slice_get-get_or (r ∷ rs) place r found.within in cc (some, found.is, none)

is_some-slice_get : (rs : List Rev) (i : ℕ) → i < length rs → is_some (slice_get rs i) ≡ true
is_some-slice_get [] i within = absurd (omega arith)
is_some-slice_get (r ∷ rs) zero within = refl
is_some-slice_get (r ∷ rs) (suc i) within = is_some-slice_get rs i (omega arith)

-- a search by version finds what is there
pub found_holds : (rs : List Rev) (v : Name) (found : Result ℕ ℕ) → IfOk found (IsFoundAt version_of v rs) → IfErr found (IsGapFor version_of v rs) → is_ok found ≡ holds rs v
found_holds rs v found there absent = grind (arith, is_some-slice_get, is_some)

none_of_both : (b : Bool) → (b && false) ≡ false
none_of_both b = grind arith

-- where no version is below, nothing leaves
pub left_by_none : (item : Name) (below : Versions) (rs : List Rev) → ((v : Name) → below v ≡ false) → rs ≡ left_by item below rs
left_by_none item below [] none = refl
left_by_none item below (r ∷ rs) none = rw (none r.version, none_of_both (is_of item r)) (ap (λ ss. r ∷ ss) (left_by_none item below rs none))

-- and nothing is superseded
pub supersedes_none : (item : Name) (below : Versions) (rs : List Rev) → ((v : Name) → below v ≡ false) → [] ≡ filter (supersedes item below) rs
supersedes_none item below [] none = refl
supersedes_none item below (r ∷ rs) none = rw (none r.version, none_of_both (is_of item r)) (supersedes_none item below rs none)

-- where no version is listed, all stay
pub unlisted_stay : (vs : List Name) (p : Name → Bool) (rs : List Rev) → vs ≡ [] → rs ≡ filter (λ r. not (is_listed vs r.version && p r.version)) rs
unlisted_stay [] p rs none = filter-all rs
unlisted_stay (v ∷ vs) p rs none = cc
