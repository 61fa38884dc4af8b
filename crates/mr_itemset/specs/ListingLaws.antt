-- Knowledge by sets of items lists an item only where more is known for it than for all items.
use Rattle.std.specs.Prelude.{◌≡◌, ◌≢◌, ◌*◌, ℕ, zero, suc, Bool, true, false, if◌then◌else◌, List, [], ◌∷◌, Option, Some, None, IfSome, All, drop, take, refl}
use Rattle.std.specs.List.{list_any}
use Rattle.std.proofs.Common.{ap, sym, ◌∙◌, inl, inr, subst}
use Rattle.std.proofs.lemmas.Bool.{false≢true, or_cases, or_left, or_parts, or_right}
use Rattle.std.proofs.lemmas.Cmp.{eq_by_cmp_equiv}
use Rattle.std.proofs.lemmas.Map.Views.{All-from_any}
use Rattle.mr_version.specs.Name.{Name, name_eq}
use Rattle.mr_version.specs.Order.{names_total}
use Rattle.mr_forms.specs.declared.fragment.TheConstants.{MAX_ITEMS}
use Rattle.mr_forms.specs.Sets.{Versions, is_listed}
use Rattle.mr_forms.specs.Known.{Pairs}
use Rattle.mr_forms.specs.Listing.{HasMoreFor, ListsMore, SaysKnownForAll}
use Rattle.mr_forms.specs.inner.Fresh.{unlisted_item}
use Rattle.mr_concise.specs.declared.vector.AuthorColumn.{AuthorColumn}
use Rattle.mr_concise.specs.Vector.{vector_has}
use Rattle.mr_itemset.specs.declared.knowledge.Listed.{Listed}
use Rattle.mr_itemset.specs.Normal.{Normal, vector_in, normal_known}
use Rattle.mr_itemset.specs.inner.Normal.{items_of}
use Rattle.mr_itemset.specs.ItemForm.{HasNormalVersions, item_form}
use Rattle.mr_itemset.specs.Pieces.{HasPiece}
use Rattle.mr_itemset.specs.Sparing.{sparing_form}

-- an item that is not listed has what is known for all
pub vector_in-free : (all : List AuthorColumn) (xs : List Listed) (i : Name) → is_listed (items_of xs) i ≡ false → vector_in all xs i ≡ all
vector_in-free all [] i free = refl
vector_in-free all (x ∷ xs) i free =
    let parts = or_parts (name_eq i x.item) (is_listed (items_of xs) i) free in
    ap (λ b. if b then x.vector else vector_in all xs i) ((eq_by_cmp_equiv names_total).symm x.item i ∙ parts.0) ∙ vector_in-free all xs i parts.1

alike : (a b : Bool) → (a ≡ true → b ≡ true) → (b ≡ true → a ≡ true) → a ≡ b
alike true true there back = refl
alike true false there back = absurd (false≢true (there refl))
alike false true there back = absurd (false≢true (back refl))
alike false false there back = refl

-- An item of which something else is known than for all has more: else it would have no more than an item that is not
-- listed, which has just what is known for all.
has_more : (k : Normal) → SaysKnownForAll item_form k → (versions : Versions) → versions ≢ vector_has k.all → (i : Name) → normal_known k i ≡ versions → HasMoreFor (normal_known k) i
has_more k said versions other i is for_all = other (sym is ∙ same)
  where
    free : (j : Name) × (is_listed (items_of k.listed) j ≡ false)
    free = unlisted_item (items_of k.listed)

    free_known : (v : Name) → normal_known k free.0 v ≡ vector_has k.all v
    free_known v = ap (λ (c : List AuthorColumn). vector_has c v) (vector_in-free k.all k.listed free.0 free.1)

    same : normal_known k i ≡ vector_has k.all
    same = λ t v. alike (normal_known k i v) (vector_has k.all v) (λ known. sym (free_known v) ∙ for_all v known free.0) (λ known. said (vector_has k.all) refl i v known) t

-- an item that some of a list is, is in the list
any_take : (p : Name → Bool) (n : ℕ) (xs : List Name) → list_any p (take n xs) ≡ true → list_any p xs ≡ true
any_take p zero xs any = absurd (false≢true any)
any_take p (suc n) [] any = any
any_take p (suc n) (x ∷ xs) any = elim (or_cases (p x) (list_any p (take n xs)) any) [
  | inl here ↦ or_left (p x) (list_any p xs) here
  | inr there ↦ or_right (p x) (list_any p xs) (any_take p n xs there)
]

any_drop : (p : Name → Bool) (n : ℕ) (xs : List Name) → list_any p (drop n xs) ≡ true → list_any p xs ≡ true
any_drop p zero xs any = any
any_drop p (suc n) [] any = any
any_drop p (suc n) (x ∷ xs) any = or_right (p x) (list_any p xs) (any_drop p n xs any)

-- of each item of a piece just these versions are known
pub known_of : (most : ℕ) (pairs : Pairs) (versions : Versions) (items : List Name) → HasPiece most pairs versions items → (i : Name) → list_any (name_eq i) items ≡ true → pairs i ≡ versions
known_of most pairs versions items has i listed =
    (has.are.all i).0 (any_drop (name_eq i) (has.piece.0 * most) has.whole (any_take (name_eq i) most (drop (has.piece.0 * most) has.whole) (subst (λ (is : List Name). list_any (name_eq i) is ≡ true) has.piece.1 listed)))

lists : (k : Normal) → SaysKnownForAll item_form k → (items : Option (List Name)) (versions : Versions) → HasNormalVersions k items versions → IfSome items (λ listed. All (HasMoreFor (normal_known k)) listed)
lists k said None versions is = tt
lists k said (Some items) versions is =
    All-from_any (eq_by_cmp_equiv names_total) (HasMoreFor (normal_known k)) items (λ i listed. has_more k said versions is.1 i (known_of MAX_ITEMS (normal_known k) versions items is.2 i listed))

-- THE LAWS
pub item_lists_more : ListsMore item_form
item_lists_more k said p is = lists k said p.items p.versions is

-- what is told of items is what a part of the normal form says, less what all items have
pub sparing_lists_more : ListsMore sparing_form
sparing_lists_more k said p is = lists k (λ versions all. said versions (record { own = versions; normal = all; tells = refl })) p.items is.own is.normal
