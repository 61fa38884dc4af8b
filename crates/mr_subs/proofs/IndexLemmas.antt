-- the versions of a shelf whose card has the label
use Rattle.std.proofs.Common.{◌≡◌, ℕ, Bool, true, false, cond, ◌&&◌, IsTrue, IsFalse, refl, ap, sym, subst, ◌∙◌, List, [], filter, Some}
use Rattle.mr_subs.proofs.Names.{AreShelved, BTreeSet, Equal, Greater, Less, MailCard, Name, Ordering, card_at, card_has_label}
use Rattle.std.specs.List.Sorted.{IsStrictlySortedBy}
use Rattle.mr_subs.proofs.Names.{exact_names, has_label, is_eq, is_listed, name_cmp, name_eq, on_shelf}
use Rattle.std.proofs.lemmas.List.Kept.{IsStrictlySortedBy-filter}
use Rattle.std.proofs.lemmas.Map.Views.{any-filter_same}
use Rattle.mr_model.specs.Versions.{Versions}

equal_of : (o : Ordering) → is_eq o ≡ true → o ≡ Equal
equal_of Less h = cc
equal_of Equal h = refl
equal_of Greater h = cc

-- versions that compare alike are one
pub same_version : (v u : Name) → name_eq v u ≡ true → v ≡ u
same_version v u h = exact_names v u (equal_of (name_cmp v u) h)

implied : (a b : Bool) → (a ≡ true → b ≡ true) → (a && b) ≡ a
implied true b h = h refl
implied false b h = refl

-- a list that has each version of a set, filtered by the set, has just these
pub is_listed-filter : (set : Versions) (versions : List Name) → ((v : Name) → IsTrue (set v) → IsTrue (is_listed versions v)) → (v : Name) → is_listed (filter set versions) v ≡ set v
is_listed-filter set versions h v =
    any-filter_same (name_eq v) set (set v) (λ u e. ap set (sym (same_version v u e))) versions
    ∙ implied (set v) (is_listed versions v) (h v)

-- and is in version order
pub rising-filter : (set : Versions) (versions found : List Name) → IsStrictlySortedBy name_cmp versions → found ≡ filter set versions → IsStrictlySortedBy name_cmp found
rising-filter set versions found h e = subst (IsStrictlySortedBy name_cmp) (sym e) (IsStrictlySortedBy-filter name_cmp set versions h)

-- no version is in version order
pub rising-none : IsStrictlySortedBy name_cmp []
unfolding IsStrictlySortedBy
rising-none = tt

-- ---- shelves under a table that changes at one version

-- where the version gets a card, and stands on the shelves of its labels
pub AreShelved-put : (old new : List (Name × MailCard)) (s t : List (List ℕ × BTreeSet Name)) (version : Name) (card : MailCard) →
    ((v : Name) → card_at new v ≡ cond (name_eq version v) (Some card) (card_at old v)) → AreShelved old s →
    ((q : List ℕ) → IsTrue (has_label card.labels q) → IsTrue (on_shelf t q version)) →
    ((q : List ℕ) (v : Name) → IsTrue (on_shelf s q v) → IsTrue (on_shelf t q v)) → AreShelved new t
AreShelved-put old new s t version card e well here kept label v p = cases (name_eq version v) refl (sym (ap (λ o. card_has_label o label) (e v)) ∙ p)
  where
    cases : (b : Bool) → name_eq version v ≡ b → IsTrue (card_has_label (cond b (Some card) (card_at old v)) label) → IsTrue (on_shelf t label v)
    cases true same q = subst (λ u. IsTrue (on_shelf t label u)) (same_version version v same) (here label q)
    cases false other q = kept label v (well label v q)

-- where the version gets another card, and stands on the shelves of its labels; others stay where they stand
pub AreShelved-changed : (old new : List (Name × MailCard)) (s t : List (List ℕ × BTreeSet Name)) (version : Name) (card : MailCard) →
    ((v : Name) → card_at new v ≡ cond (name_eq version v) (Some card) (card_at old v)) → AreShelved old s →
    ((q : List ℕ) → IsTrue (has_label card.labels q) → IsTrue (on_shelf t q version)) →
    ((v : Name) → IsFalse (name_eq version v) → (q : List ℕ) → IsTrue (on_shelf s q v) → IsTrue (on_shelf t q v)) → AreShelved new t
AreShelved-changed old new s t version card e well here kept label v p = cases (name_eq version v) refl (sym (ap (λ o. card_has_label o label) (e v)) ∙ p)
  where
    cases : (b : Bool) → name_eq version v ≡ b → IsTrue (card_has_label (cond b (Some card) (card_at old v)) label) → IsTrue (on_shelf t label v)
    cases true same q = subst (λ u. IsTrue (on_shelf t label u)) (same_version version v same) (here label q)
    cases false other q = kept v other label (well label v q)
