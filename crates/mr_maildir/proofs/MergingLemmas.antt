-- what heads say together, label by label and flag by flag
use Rattle.std.proofs.Common.{◌≡◌, ℕ, zero, suc, ◌<◌, Bool, true, false, not, cond, ◌&&◌, ◌||◌, List, [], ◌∷◌, ◌++◌, refl, sym, ap, ◌∙◌, arith, ◌+◌, get_or, take, append_assoc}
use Rattle.mr_maildir.proofs.Names.{Deleted, Flag, IsPermutation, IsStrictlySortedBy, IsView, ViewParts, asked, cond-true, differ, false≢true, filter}
use Rattle.mr_maildir.proofs.Names.{filter-append, filter_more, flag_eq, flags_alike, flags_where, flat_map, has_flag, has_label, is_gone, length, list_all}
use Rattle.mr_maildir.proofs.Names.{list_any, list_any-IsPermutation, list_any-append, merged_view, replicate, stays, stays_flagged, stays_in, text_cmp}
use Rattle.mr_maildir.proofs.Names.{text_eq, view_eq, with_say}
use Rattle.mr_maildir.specs.Merging.{joined}
use Rattle.mr_maildir.proofs.LettersLemmas.{has_flag-flags_where, flags_where-le}
use Rattle.mr_maildir.proofs.ViewLemmas.{same_text, rising-in_order, has-in_order, rising-unique, view_eq-Decides}

-- ---- lists and tests

all_as_any : {X : Type 0} (p : X → Bool) (xs : List X) → list_all p xs ≡ not (list_any (λ x. not (p x)) xs)
all_as_any p [] = refl
all_as_any p (x ∷ xs) =
    elim (p x) as (λ b. (b && list_all p xs) ≡ not (not b || list_any (λ x. not (p x)) xs)) [ true ↦ all_as_any p xs | false ↦ refl ]

all_moved : {X : Type 0} (p : X → Bool) (xs ys : List X) → IsPermutation xs ys → list_all p xs ≡ list_all p ys
all_moved p xs ys moved =
    all_as_any p xs ∙ (ap not (list_any-IsPermutation (λ x. not (p x)) xs ys moved) ∙ sym (all_as_any p ys))

any_filtered : {X : Type 0} (p q : X → Bool) (xs : List X) → list_any p (filter q xs) ≡ list_any (λ x. q x && p x) xs
any_filtered p q [] = refl
any_filtered p q (x ∷ xs) =
    elim (q x) as (λ b. list_any p (cond b (x ∷ filter q xs) (filter q xs)) ≡ ((b && p x) || list_any (λ x. q x && p x) xs)) [
      | true ↦ ap (λ rest. p x || rest) (any_filtered p q xs)
      | false ↦ any_filtered p q xs
    ]

all_filtered : {X : Type 0} (p q : X → Bool) (xs : List X) → list_all p (filter q xs) ≡ list_all (λ x. not (q x) || p x) xs
all_filtered p q [] = refl
all_filtered p q (x ∷ xs) =
    elim (q x) as (λ b. list_all p (cond b (x ∷ filter q xs) (filter q xs)) ≡ ((not b || p x) && list_all (λ x. not (q x) || p x) xs)) [
      | true ↦ ap (λ rest. p x && rest) (all_filtered p q xs)
      | false ↦ all_filtered p q xs
    ]

any_flat : (heads : List ViewParts) (q : List ℕ) → has_label (flat_map (λ head. head.labels) heads) q ≡ list_any (λ head. has_label head.labels q) heads
any_flat [] q = refl
any_flat (head ∷ heads) q =
    list_any-append (text_eq q) head.labels (flat_map (λ head. head.labels) heads) ∙ ap (λ rest. has_label head.labels q || rest) (any_flat heads q)

-- a label is among those that pass, if it passes and is among all
has_filtered : (p : List ℕ → Bool) (xs : List (List ℕ)) (q : List ℕ) → has_label (filter p xs) q ≡ (p q && has_label xs q)
has_filtered p xs q = any_filtered (text_eq q) p xs ∙ passing xs
  where
    at_one : (x : List ℕ) (b : Bool) → text_eq q x ≡ b → (p x && b) ≡ (p q && b)
    at_one x true is = ap (λ y. p y && true) (sym (same_text q x is))
    at_one x false is = elim (p x) as (λ b. (b && false) ≡ (p q && false)) [
      | true ↦ elim (p q) as (λ b. false ≡ (b && false)) [ true ↦ refl | false ↦ refl ]
      | false ↦ elim (p q) as (λ b. false ≡ (b && false)) [ true ↦ refl | false ↦ refl ]
    ]

    apart : (b c r : Bool) → ((b && c) || (b && r)) ≡ (b && (c || r))
    apart true c r = refl
    apart false c r = refl

    none : (b : Bool) → false ≡ (b && false)
    none true = refl
    none false = refl

    passing : (xs : List (List ℕ)) → list_any (λ x. p x && text_eq q x) xs ≡ (p q && has_label xs q)
    passing [] = none (p q)
    passing (x ∷ xs) =
        ap (λ b. b || list_any (λ x. p x && text_eq q x) xs) (at_one x (text_eq q x) refl)
        ∙ (ap (λ rest. (p q && text_eq q x) || rest) (passing xs) ∙ apart (p q) (text_eq q x) (has_label xs q))

-- ---- loops over labels and heads

append_nothing : {X : Type 0} (xs : List X) → xs ++ [] ≡ xs
append_nothing [] = refl
append_nothing (x ∷ xs) = ap (λ rest. x ∷ rest) (append_nothing xs)

flat_map-both : {X Y : Type 0} (f : X → List Y) (xs ys : List X) → flat_map f (xs ++ ys) ≡ flat_map f xs ++ flat_map f ys
flat_map-both f [] ys = refl
flat_map-both f (x ∷ xs) ys = ap (λ rest. f x ++ rest) (flat_map-both f xs ys) ∙ sym (append_assoc (f x) (flat_map f xs) (flat_map f ys))

-- one more label: `done` is what the loop began with
pub one_more_label : (p : List ℕ → Bool) (start done new items : List (List ℕ)) (i : ℕ) (x : List ℕ) → i < length items → x ≡ get_or items i x → done ≡ start ++ filter p (take i items) → new ≡ done ++ cond (p x) (x ∷ []) [] → new ≡ start ++ filter p (take (i + 1) items)
one_more_label p start done new items i x below is was now =
    let more : filter p (take (i + 1) items) ≡ filter p (take i items) ++ cond (p (get_or items i x)) (get_or items i x ∷ []) [] = filter_more p items i x below in
    now ∙ (ap (λ ls. ls ++ cond (p x) (x ∷ []) []) was
    ∙ (append_assoc start (filter p (take i items)) (cond (p x) (x ∷ []) [])
    ∙ ap (λ ls. start ++ ls) (ap (λ y. filter p (take i items) ++ cond (p y) (y ∷ []) []) is ∙ sym more)))

-- one more head
pub one_more_head : (p : List ℕ → Bool) (q : ViewParts → Bool) (done new : List (List ℕ)) (heads : List ViewParts) (i : ℕ) (x : ViewParts) → i < length heads → x ≡ get_or heads i x → done ≡ filter p (flat_map (λ head. head.labels) (filter q (take i heads))) → new ≡ done ++ filter p (cond (q x) x.labels []) → new ≡ filter p (flat_map (λ head. head.labels) (filter q (take (i + 1) heads)))
one_more_head p q done new heads i x below is was now =
    let f : ViewParts → List (List ℕ) = λ head. head.labels in
    let more : filter q (take (i + 1) heads) ≡ filter q (take i heads) ++ cond (q x) (x ∷ []) [] =
    filter_more q heads i x below ∙ ap (λ y. filter q (take i heads) ++ cond (q y) (y ∷ []) []) (sym is) in
    let last : flat_map f (cond (q x) (x ∷ []) []) ≡ cond (q x) x.labels [] =
    elim (q x) as (λ b. flat_map f (cond b (x ∷ []) []) ≡ cond b x.labels []) [ true ↦ append_nothing x.labels | false ↦ refl ] in
    now ∙ (ap (λ ls. ls ++ filter p (cond (q x) x.labels [])) was
    ∙ (ap (λ ls. filter p (flat_map f (filter q (take i heads))) ++ filter p ls) (sym last)
    ∙ (sym (filter-append p (flat_map f (filter q (take i heads))) (flat_map f (cond (q x) (x ∷ []) [])))
    ∙ ap (filter p) (sym (flat_map-both f (filter q (take i heads)) (cond (q x) (x ∷ []) [])) ∙ ap (flat_map f) (sym more)))))

-- ---- the labels and the flags of heads

-- a label stays that some head has
has_joined : (ancestor : ViewParts) (heads : List ViewParts) (q : List ℕ) → has_label (joined ancestor heads).labels q ≡ (stays_in ancestor heads q && list_any (λ head. has_label head.labels q) heads)
has_joined ancestor heads q =
    has-in_order (filter (stays_in ancestor heads) (flat_map (λ head. head.labels) heads)) q
    ∙ (has_filtered (stays_in ancestor heads) (flat_map (λ head. head.labels) heads) q
    ∙ ap (λ any. stays_in ancestor heads q && any) (any_flat heads q))

and_same : (b : Bool) → (b && b) ≡ b
and_same true = refl
and_same false = refl

all_and_any : {X : Type 0} (p : X → Bool) (x : X) (xs : List X) → (list_all p (x ∷ xs) && list_any p (x ∷ xs)) ≡ list_all p (x ∷ xs)
all_and_any p x xs =
    elim (p x) as (λ b. ((b && list_all p xs) && (b || list_any p xs)) ≡ (b && list_all p xs)) [
      | true ↦ elim (list_all p xs) as (λ b. (b && true) ≡ b) [ true ↦ refl | false ↦ refl ]
      | false ↦ refl
    ]

stays_and_any : (had : Bool) (has : ViewParts → Bool) (heads : List ViewParts) → 0 < length heads → (stays had has heads && list_any has heads) ≡ stays had has heads
stays_and_any had has [] some = absurd (omega arith)
stays_and_any true has (head ∷ heads) some = all_and_any has head heads
stays_and_any false has (head ∷ heads) some = and_same (list_any has (head ∷ heads))

filter_all : {X : Type 0} (xs : List X) → filter (λ x. true) xs ≡ xs
filter_all [] = refl
filter_all (x ∷ xs) = ap (λ rest. x ∷ rest) (filter_all xs)

some_other : {X : Type 0} (p : X → Bool) (xs : List X) → list_all p xs ≡ false → 0 < length (filter (λ x. not (p x)) xs)
some_other p [] none = absurd (false≢true (sym none))
some_other p (x ∷ xs) none =
    elim (p x) as (λ b. (b && list_all p xs) ≡ false → 0 < length (cond (not b) (x ∷ filter (λ x. not (p x)) xs) (filter (λ x. not (p x)) xs))) [
      | true ↦ λ rest. some_other p xs rest
      | false ↦ λ _. omega arith
    ] none

-- some head has a say
some_asked : (heads : List ViewParts) → 0 < length heads → 0 < length (asked heads)
some_asked heads some =
    elim (list_all is_gone heads) as (λ b. list_all is_gone heads ≡ b → 0 < length (with_say b heads)) [
      | true ↦ λ _. rw (filter_all heads) some
      | false ↦ λ none. some_other is_gone heads none
    ] refl

-- the equation for each label
pub has_label-merged : (ancestor : ViewParts) (heads : List ViewParts) → 0 < length heads → (q : List ℕ) → has_label (merged_view ancestor heads).labels q ≡ stays_in ancestor (asked heads) q
has_label-merged ancestor heads some q =
    has_joined ancestor (asked heads) q
    ∙ stays_and_any (has_label ancestor.labels q) (λ head. has_label head.labels q) (asked heads) (some_asked heads some)

-- the equation for each flag
pub has_flag-merged : (ancestor : ViewParts) (heads : List ViewParts) (flag : Flag) → has_flag (merged_view ancestor heads).flags flag ≡ stays_flagged ancestor (asked heads) flag
has_flag-merged ancestor heads flag = has_flag-flags_where (stays_flagged ancestor (asked heads)) flag

rising-joined : (ancestor : ViewParts) (heads : List ViewParts) → IsStrictlySortedBy text_cmp (joined ancestor heads).labels
rising-joined ancestor heads = rising-in_order (filter (stays_in ancestor heads) (flat_map (λ head. head.labels) heads))

-- ---- the order of heads is indifferent

any_say : (gone : Bool) (has : ViewParts → Bool) (heads others : List ViewParts) → IsPermutation heads others → list_any has (with_say gone heads) ≡ list_any has (with_say gone others)
any_say gone has heads others moved =
    any_filtered has (λ head. gone || not (is_gone head)) heads
    ∙ (list_any-IsPermutation (λ head. (gone || not (is_gone head)) && has head) heads others moved
    ∙ sym (any_filtered has (λ head. gone || not (is_gone head)) others))

all_say : (gone : Bool) (has : ViewParts → Bool) (heads others : List ViewParts) → IsPermutation heads others → list_all has (with_say gone heads) ≡ list_all has (with_say gone others)
all_say gone has heads others moved =
    all_filtered has (λ head. gone || not (is_gone head)) heads
    ∙ (all_moved (λ head. not (gone || not (is_gone head)) || has head) heads others moved
    ∙ sym (all_filtered has (λ head. gone || not (is_gone head)) others))

any_asked : (has : ViewParts → Bool) (heads others : List ViewParts) → IsPermutation heads others → list_any has (asked heads) ≡ list_any has (asked others)
any_asked has heads others moved =
    any_say (list_all is_gone heads) has heads others moved ∙ ap (λ gone. list_any has (with_say gone others)) (all_moved is_gone heads others moved)

stays_asked : (had : Bool) (has : ViewParts → Bool) (heads others : List ViewParts) → IsPermutation heads others → stays had has (asked heads) ≡ stays had has (asked others)
stays_asked true has heads others moved =
    all_say (list_all is_gone heads) has heads others moved ∙ ap (λ gone. list_all has (with_say gone others)) (all_moved is_gone heads others moved)
stays_asked false has heads others moved = any_asked has heads others moved

pub merged-moved : (ancestor : ViewParts) (heads others : List ViewParts) → IsPermutation heads others → merged_view ancestor heads ≡ merged_view ancestor others
merged-moved ancestor heads others moved =
    let labels = rising-unique (merged_view ancestor heads).labels (merged_view ancestor others).labels (rising-joined ancestor (asked heads)) (rising-joined ancestor (asked others))
    (λ q. has_joined ancestor (asked heads) q
    ∙ ((λ i. stays_asked (has_label ancestor.labels q) (λ head. has_label head.labels q) heads others moved i && any_asked (λ head. has_label head.labels q) heads others moved i)
    ∙ sym (has_joined ancestor (asked others) q))) in
    let flags : stays_flagged ancestor (asked heads) ≡ stays_flagged ancestor (asked others) =
    λ i flag. stays_asked (flag_eq flag Deleted || has_flag ancestor.flags flag) (λ head. has_flag head.flags flag) heads others moved i in
    λ i. record { labels = labels i; flags = flags_where (flags i) }

-- ---- heads that are all alike are shown as they are

all_alike : {X : Type 0} (p : X → Bool) (x : X) (more : ℕ) → list_all p (x ∷ replicate more x) ≡ p x
all_alike p x zero = elim (p x) as (λ b. (b && true) ≡ b) [ true ↦ refl | false ↦ refl ]
all_alike p x (suc more) = ap (λ rest. p x && rest) (all_alike p x more) ∙ and_same (p x)

any_alike : {X : Type 0} (p : X → Bool) (x : X) (more : ℕ) → list_any p (x ∷ replicate more x) ≡ p x
any_alike p x zero = elim (p x) as (λ b. (b || false) ≡ b) [ true ↦ refl | false ↦ refl ]
any_alike p x (suc more) = ap (λ rest. p x || rest) (any_alike p x more) ∙ elim (p x) as (λ b. (b || b) ≡ b) [ true ↦ refl | false ↦ refl ]

filter_alike : {X : Type 0} (p : X → Bool) (x : X) (more : ℕ) → p x ≡ true → filter p (x ∷ replicate more x) ≡ x ∷ replicate more x
filter_alike p x zero passes = cond-true (p x) (x ∷ []) [] passes
filter_alike p x (suc more) passes =
    cond-true (p x) (x ∷ filter p (x ∷ replicate more x)) (filter p (x ∷ replicate more x)) passes
    ∙ ap (λ rest. x ∷ rest) (filter_alike p x more passes)

or_not : (b : Bool) → (b || not b) ≡ true
or_not true = refl
or_not false = refl

asked_alike : (head : ViewParts) (more : ℕ) → asked (head ∷ replicate more head) ≡ head ∷ replicate more head
asked_alike head more =
    ap (λ gone. with_say gone (head ∷ replicate more head)) (all_alike is_gone head more)
    ∙ filter_alike (λ other. is_gone head || not (is_gone other)) head more (or_not (is_gone head))

stays_alike : (had : Bool) (has : ViewParts → Bool) (head : ViewParts) (more : ℕ) → stays had has (head ∷ replicate more head) ≡ has head
stays_alike true has head more = all_alike has head more
stays_alike false has head more = any_alike has head more

joined_alike : (ancestor head : ViewParts) (more : ℕ) → IsView head → joined ancestor (head ∷ replicate more head) ≡ head
joined_alike ancestor head more is =
    let heads = head ∷ replicate more head in
    let labels = rising-unique (joined ancestor heads).labels head.labels (rising-joined ancestor heads) is.rising
    (λ q. has_joined ancestor heads q
    ∙ ((λ i. stays_alike (has_label ancestor.labels q) (λ h. has_label h.labels q) head more i && any_alike (λ h. has_label h.labels q) head more i)
    ∙ and_same (has_label head.labels q))) in
    let flags = flags_alike (joined ancestor heads).flags head.flags (flags_where-le (stays_flagged ancestor heads)) is.flags_in
    (λ flag. has_flag-flags_where (stays_flagged ancestor heads) flag
    ∙ stays_alike (flag_eq flag Deleted || has_flag ancestor.flags flag) (λ h. has_flag h.flags flag) head more) in
    λ i. record { labels = labels i; flags = flags i }

merged-alike : (ancestor head : ViewParts) (more : ℕ) → IsView head → merged_view ancestor (head ∷ replicate more head) ≡ head
merged-alike ancestor head more is =
    ap (λ heads. joined ancestor heads) (asked_alike head more) ∙ joined_alike ancestor head more is

pub merged-all_alike : (ancestor : ViewParts) (heads : List ViewParts) (head : ViewParts) (more : ℕ) → IsView head → heads ≡ head ∷ replicate more head → merged_view ancestor heads ≡ head
merged-all_alike ancestor heads head more is alike = ap (λ hs. merged_view ancestor hs) alike ∙ merged-alike ancestor head more is

-- heads that are all alike call for no merge
pub differ-alike : (head : ViewParts) (more : ℕ) → differ (head ∷ replicate more head) ≡ false
differ-alike head zero = refl
differ-alike head (suc more) =
    ap not (all_alike (view_eq head) head more ∙ (view_eq-Decides head head).1 refl)
