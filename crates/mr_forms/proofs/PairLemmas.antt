use Rattle.std.proofs.Common.{◌≡◌, ◌≢◌, ◌++◌, Bool, true, false, cond, ◌||◌, ◌&&◌, not, List, [], ◌∷◌, refl, ap, sym, ◌∙◌, arith}
use Rattle.mr_forms.proofs.Names.{IsTotalOrder, Name, Ordering, Pair, and_parts, eq_by_cmp, eq_by_cmp_equiv, false≢true, has_pair, is_eq, is_listed}
use Rattle.mr_forms.proofs.Names.{list_any-append, name_eq, names_total, on_total, ordering_then, pair, pair_cmp, then_total, tied_itself}
use Rattle.mr_forms.specs.inner.Fresh.{same_name}
use Rattle.mr_forms.proofs.SetLemmas.{name_eq-symmetric}

is_eq-then : (a b : Ordering) → is_eq (ordering_then a b) ≡ (is_eq a && is_eq b)
is_eq-then a b = grind arith

-- a pair is the one whose parts it has
pub pair_eq-parts : (i v : Name) (p : Pair) → eq_by_cmp pair_cmp (pair i v) p ≡ (name_eq p.item i && name_eq p.version v)
pair_eq-parts i v p = grind (arith, is_eq-then, name_eq-symmetric)

pub name_eq-itself : (v : Name) → name_eq v v ≡ true
name_eq-itself v = ap is_eq (tied_itself names_total v)

-- what has a version is not empty
pub filled_from_has : (vs : List Name) (v : Name) → is_listed vs v ≡ true → vs ≢ []
filled_from_has vs v has empty = grind arith

-- one pair more, beside what is known for all
learned_cases : (b all old : Bool) → (all || cond b true old) ≡ (b || (all || old))
learned_cases b all old = grind arith

pub learned_pair : (all new old : Bool) (item version i v : Name) → new ≡ cond (is_eq (pair_cmp (pair item version) (pair i v))) true old → (all || new) ≡ ((name_eq item i && name_eq version v) || (all || old))
learned_pair all new old item version i v updates = grind (arith, learned_cases, is_eq-then)

-- the order of pairs is total
pub pairs_total : IsTotalOrder pair_cmp
pairs_total = then_total (on_total (λ p. p.item) names_total) (on_total (λ p. p.version) names_total)

has_pair-congruent : (pairs : List Pair) (p q : Pair) → eq_by_cmp pair_cmp p q ≡ true → has_pair pairs p ≡ has_pair pairs q
has_pair-congruent [] p q same = refl
has_pair-congruent (x ∷ pairs) p q same = rw ((eq_by_cmp_equiv pairs_total).congr p q x same, has_pair-congruent pairs p q same) refl

absorbed_cases : (e known old : Bool) → (e ≡ true → known ≡ true) → (old || known) ≡ (e || (old || known))
absorbed_cases e known old implied = grind arith

-- a known pair adds nothing
pub absorbed : (known : List Pair) (x p : Pair) (old : Bool) → has_pair known x ≡ true → (old || has_pair known p) ≡ (eq_by_cmp pair_cmp p x || (old || has_pair known p))
absorbed known x p old has = absorbed_cases (eq_by_cmp pair_cmp p x) (has_pair known p) old (λ same. has_pair-congruent known p x same ∙ has)

appended_cases : (e known old : Bool) → ((old || (e || false)) || known) ≡ (e || (old || known))
appended_cases e known old = grind arith

-- a pair more at the end of the list
pub appended : (known : Bool) (old : List Pair) (x p : Pair) → (has_pair (old ++ x ∷ []) p || known) ≡ (eq_by_cmp pair_cmp p x || (has_pair old p || known))
appended known old x p = grind (arith, list_any-append, appended_cases)

joined_cases : (all any has missing old : Bool) → (missing || old) ≡ ((any && has) || old) → (all || (missing || old)) ≡ ((any && has) || (all || old))
joined_cases all any has missing old same = grind arith

-- pairs that join those known, beside what is known for all
pub joined_pairs : (all any listed has new missing old : Bool) → new ≡ (missing || old) → (missing || old) ≡ ((any && listed) || old) → listed ≡ has → (all || new) ≡ ((any && has) || (all || old))
joined_pairs all any listed has new missing old joins same is = ap (λ b. all || b) joins ∙ joined_cases all any has missing old (rw is at same)

-- a version more of those that are listed for an item
pub one_more_listed : (for_item this before rest : Bool) → ((for_item && this) || ((for_item && before) || rest)) ≡ ((for_item && (this || before)) || rest)
one_more_listed for_item this before rest = grind arith

-- an item more of those for which versions are listed
pub one_more_item : (this before listed rest : Bool) → ((this && listed) || ((before && listed) || rest)) ≡ (((this || before) && listed) || rest)
one_more_item this before listed rest = grind arith

-- the versions below and the version itself, listed for one item
pub listed_with : (for_item below this rest : Bool) → (((for_item || false) && (below || (this || false))) || rest) ≡ ((for_item && below) || ((for_item && this) || rest))
listed_with for_item below this rest = grind arith

-- ---- beyond what is known for all

-- what is known for all of a pair's version is known for all of the version of an equal pair
pub of_same_version : (all : List Name) (known : Bool) (i v : Name) (p : Pair) → is_listed all p.version ≡ known → eq_by_cmp pair_cmp (pair i v) p ≡ true → is_listed all v ≡ known
of_same_version all known i v p is same = ap (is_listed all) (sym (same_name p.version v (and_parts (name_eq p.item i) (name_eq p.version v) (sym (pair_eq-parts i v p) ∙ same)).1)) ∙ is

-- a pair whose version is known for all is left out
pub left_out : (had here rest all : Bool) → (here ≡ true → all ≡ true) → (had || ((here || rest) && not all)) ≡ (had || (rest && not all))
left_out had here rest all known = grind (arith, false≢true)

-- another one passes from what is left to what is had
pub taken_in : (new had here rest all total : Bool) → new ≡ (here || had) → (here ≡ true → all ≡ false) → (had || ((here || rest) && not all)) ≡ total → (new || (rest && not all)) ≡ total
taken_in new had here rest all total gains apart whole = grind (arith, false≢true)

-- with what is known for all, what is beyond it is all that is known
pub with_beyond : (all has : Bool) → (all || (has && not all)) ≡ (all || has)
with_beyond all has = grind arith
