-- values by their keys, pair by pair
use Rattle.std.proofs.Common.{◌≡◌, Bool, true, false, cond, List, [], ◌∷◌, ◌++◌, map, filter, Option, Some, None, refl, ap, sym, ◌∙◌}
use Rattle.std.specs.Cmp.{IsTotalOrder, tied_itself}
use Rattle.mr_compare.proofs.Names.{Equal, Greater, Less, Ordering, Vec, append-nil, filter-append, is_eq, items_of, lookup, map-append, values_at, values_of}

-- keys that compare alike find the same
alike : {K X : Type 0} {R : K → K → Ordering} → IsTotalOrder R → (x y : K) → R x y ≡ Equal → (es : List (K × X)) → lookup (λ k. is_eq (R x k)) es ≡ lookup (λ k. is_eq (R y k)) es
alike total x y same [] = refl
alike {K} {X} {R} total x y same (e ∷ es) =
    ap (λ (o : Ordering). cond (is_eq o) (Some e.1) (lookup (λ k. is_eq (R x k)) es)) (total.congr x y e.0 same)
    ∙ ap (λ (r : Option X). cond (is_eq (R y e.0)) (Some e.1) r) (alike total x y same es)

-- a key that isn't there is put in with one value
pub put_first : {K V : Type 0} {R : K → K → Ordering} → IsTotalOrder R → (old new : List (K × Vec V)) (key : K) (value : V) (one : Vec V) → one.items ≡ value ∷ [] →
    lookup (λ own. is_eq (R key own)) old ≡ None →
    ((q : K) → lookup (λ own. is_eq (R q own)) new ≡ cond (is_eq (R key q)) (Some one) (lookup (λ own. is_eq (R q own)) old)) →
    (q : K) → values_at R new q ≡ cond (is_eq (R key q)) (values_at R old q ++ value ∷ []) (values_at R old q)
put_first {K} {V} {R} total old new key value one is absent put q = ap items_of (put q) ∙ cases (R key q) refl
  where
    cases : (o : Ordering) → R key q ≡ o → items_of (cond (is_eq o) (Some one) (lookup (λ own. is_eq (R q own)) old)) ≡ cond (is_eq o) (values_at R old q ++ value ∷ []) (values_at R old q)
    cases Less e = refl
    cases Equal e = is ∙ ap (λ (r : Option (Vec V)). items_of r ++ value ∷ []) (sym absent ∙ alike total key q e old)
    cases Greater e = refl

-- a key that is there gets one value, and then those from before in front of it
pub put_more : {K V : Type 0} {R : K → K → Ordering} → IsTotalOrder R → (old mid new : List (K × Vec V)) (key : K) (value : V) (one before : Vec V) → one.items ≡ value ∷ [] →
    lookup (λ own. is_eq (R key own)) old ≡ Some before →
    ((q : K) → lookup (λ own. is_eq (R q own)) mid ≡ cond (is_eq (R key q)) (Some one) (lookup (λ own. is_eq (R q own)) old)) →
    ((q : K) → values_at R new q ≡ cond (is_eq (R key q)) (before.items ++ values_at R mid key) (values_at R mid q)) →
    (q : K) → values_at R new q ≡ cond (is_eq (R key q)) (values_at R old q ++ value ∷ []) (values_at R old q)
put_more {K} {V} {R} total old mid new key value one before is present put behind q = behind q ∙ cases (R key q) refl
  where
    self : is_eq (R key key) ≡ true
    self = ap is_eq (tied_itself total key)

    own : values_at R mid key ≡ value ∷ []
    own = ap items_of (put key) ∙ ap (λ (b : Bool). items_of (cond b (Some one) (lookup (λ k. is_eq (R key k)) old))) self ∙ is

    others : (o : Ordering) → R key q ≡ o → is_eq o ≡ false → values_at R mid q ≡ values_at R old q
    others o e not = ap items_of (put q) ∙ ap (λ (c : Ordering). items_of (cond (is_eq c) (Some one) (lookup (λ k. is_eq (R q k)) old))) e ∙ ap (λ (b : Bool). items_of (cond b (Some one) (lookup (λ k. is_eq (R q k)) old))) not

    cases : (o : Ordering) → R key q ≡ o → cond (is_eq o) (before.items ++ values_at R mid key) (values_at R mid q) ≡ cond (is_eq o) (values_at R old q ++ value ∷ []) (values_at R old q)
    cases Less e = others Less e refl
    cases Equal e = ap (λ (vs : List V). before.items ++ vs) own ∙ ap (λ (r : Option (Vec V)). items_of r ++ value ∷ []) (sym present ∙ alike total key q e old)
    cases Greater e = others Greater e refl

-- a filter of one pair more
kept_if : {K V : Type 0} (b : Bool) (p : K × V) (front : List (K × V)) → map (λ (x : K × V). x.1) (front ++ cond b (p ∷ []) []) ≡ cond b (map (λ (x : K × V). x.1) front ++ p.1 ∷ []) (map (λ (x : K × V). x.1) front)
kept_if true p front = map-append (λ x. x.1) front (p ∷ [])
kept_if false p front = ap (map (λ x. x.1)) (append-nil front)

-- the values of a key, with one pair more
pub values_of-more : {K V : Type 0} (R : K → K → Ordering) (q : K) (pairs : List (K × V)) (p : K × V) → values_of R q (pairs ++ p ∷ []) ≡ cond (is_eq (R p.0 q)) (values_of R q pairs ++ p.1 ∷ []) (values_of R q pairs)
values_of-more R q pairs p =
    ap (map (λ x. x.1)) (filter-append (λ x. is_eq (R x.0 q)) pairs (p ∷ [])) ∙ kept_if (is_eq (R p.0 q)) p (filter (λ x. is_eq (R x.0 q)) pairs)

-- a table that has the values of some pairs has those of one more
pub gathered_more : {K V : Type 0} (R : K → K → Ordering) (old new : List (K × Vec V)) (pairs : List (K × V)) (p : K × V) →
    ((q : K) → values_at R new q ≡ cond (is_eq (R p.0 q)) (values_at R old q ++ p.1 ∷ []) (values_at R old q)) → ((q : K) → values_at R old q ≡ values_of R q pairs) →
    (q : K) → values_at R new q ≡ values_of R q (pairs ++ p ∷ [])
gathered_more {K} {V} R old new pairs p put known q =
    put q ∙ ap (λ (vs : List V). cond (is_eq (R p.0 q)) (vs ++ p.1 ∷ []) vs) (known q) ∙ sym (values_of-more R q pairs p)
