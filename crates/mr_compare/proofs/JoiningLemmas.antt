-- items and mails, one by one
use Rattle.std.proofs.Common.{◌≡◌, ℕ, ◌+◌, ◌<◌, Bool, true, false, cond, List, [], ◌∷◌, ◌++◌, map, filter, take, length, get_or, Option, Some, None, append_assoc, refl, ap, sym, ◌∙◌}
use Rattle.mr_compare.proofs.Names.{Name, ViewParts, append-nil, at_digest, filter-append, flat_map, flat_map-append, flat_map-cons, fold-append, is_eq}
use Rattle.mr_compare.proofs.Names.{left_mail, list_any, lowest, map-append, name_cmp, not, ord_min, text_cmp, together, values_of, ◌||◌}
use Rattle.std.proofs.Math.Bool.{or-false}
use Rattle.std.proofs.lemmas.List.Folds.{list_any-append}
use Rattle.std.proofs.lemmas.Map.Lookups.{exact_bytes}
use Rattle.mr_compare.specs.declared.sides.LeftMail.{LeftMail}
use Rattle.mr_compare.specs.inner.Joining.{lower_of}
use Rattle.mr_compare.specs.inner.MailsLeft.{next_mail}
use Rattle.mr_compare.proofs.GatherLemmas.{values_of-more}
use Rattle.mr_compare.proofs.LeftLemmas.{equal_of}
use Rattle.mr_compare.proofs.ListLemmas.{take_one}

-- those that a test lets pass, with one element more
passed-more : {X A : Type 0} (f : X → A) (p : X → Bool) (front : List X) (x : X) → map f (filter (λ y. not (p y)) (front ++ x ∷ [])) ≡ map f (filter (λ y. not (p y)) front) ++ cond (p x) [] (f x ∷ [])
passed-more {X} {A} f p front x =
    ap (map f) (filter-append (λ y. not (p y)) front (x ∷ [])) ∙ map-append f (filter (λ y. not (p y)) front) (filter (λ y. not (p y)) (x ∷ []))
    ∙ ap (λ (ys : List A). map f (filter (λ y. not (p y)) front) ++ ys) (one (p x))
  where
    one : (b : Bool) → map f (cond (not b) (x ∷ []) []) ≡ cond b [] (f x ∷ [])
    one true = refl
    one false = refl

-- a walk that puts those behind, one element further
pub passed-step : {X A : Type 0} (f : X → A) (p : X → Bool) (xs : List X) (i : ℕ) (x : X) (b : Bool) (start old new : List A) → i < length xs → x ≡ get_or xs i x → b ≡ p x → new ≡ old ++ cond b [] (f x ∷ []) →
    old ≡ start ++ map f (filter (λ y. not (p y)) (take i xs)) → new ≡ start ++ map f (filter (λ y. not (p y)) (take (i + 1) xs))
passed-step {X} {A} f p xs i x b start old new h e is put known =
    put ∙ ap (λ (c : Bool). old ++ cond c [] (f x ∷ [])) is ∙ ap (λ (ys : List A). ys ++ cond (p x) [] (f x ∷ [])) known
    ∙ append_assoc start (map f (filter (λ y. not (p y)) (take i xs))) (cond (p x) [] (f x ∷ []))
    ∙ ap (λ (ys : List A). start ++ ys) (sym (ap (λ (zs : List X). map f (filter (λ y. not (p y)) zs)) (take_one xs i x h e) ∙ passed-more f p (take i xs) x))

-- ---- the lowest version

-- with one more
pub lowest-more : (xs : List Name) (x : Name) → lowest (xs ++ x ∷ []) ≡ Some (lower_of (lowest xs) x)
lowest-more [] x = refl
lowest-more (y ∷ ys) x = ap Some (fold-append (ord_min name_cmp) y ys (x ∷ []))

pub lowest-step : (others xs : List Name) (i : ℕ) (x : Name) (old : Option Name) (lower : Name) → i < length xs → x ≡ get_or xs i x → lower ≡ lower_of old x → old ≡ lowest (others ++ take i xs) → Some lower ≡ lowest (others ++ take (i + 1) xs)
lowest-step others xs i x old lower h e is known =
    ap Some (is ∙ ap (λ o. lower_of o x) known) ∙ sym (lowest-more (others ++ take i xs) x)
    ∙ ap lowest (append_assoc others (take i xs) (x ∷ []) ∙ ap (λ ys. others ++ ys) (sym (take_one xs i x h e)))

-- and of lists
pub lowest-walk : {X : Type 0} (f : X → List Name) (xs : List X) (i : ℕ) (x : X) → i < length xs → x ≡ get_or xs i x → lowest (flat_map f (take i xs) ++ f x) ≡ lowest (flat_map f (take (i + 1) xs))
lowest-walk f xs i x h e =
    ap lowest (sym (ap (flat_map f) (take_one xs i x h e) ∙ flat_map-append f (take i xs) (x ∷ []) ∙ ap (λ ys. flat_map f (take i xs) ++ ys) (flat_map-cons f x [] ∙ append-nil (f x))))

-- ---- what was left of mails

any-more : (bs : List Bool) (b : Bool) → list_any (λ c. c) (bs ++ b ∷ []) ≡ (list_any (λ c. c) bs || b)
any-more bs b = list_any-append (λ c. c) bs (b ∷ []) ∙ ap (λ c. list_any (λ d. d) bs || c) (or-false b)

-- one item more is told of a mail
next-left : (views : List ViewParts) (bs : List Bool) (b : Bool) → Some (next_mail (left_mail views bs) views b) ≡ left_mail views (bs ++ b ∷ [])
next-left views [] b = ap (λ c. Some (record { view = together views; came = c })) (sym (or-false b))
next-left views (x ∷ xs) b = ap (λ c. Some (record { view = together views; came = c })) (sym (any-more (x ∷ xs) b))

-- texts that compare alike are one
same_text : (a b : List ℕ) → is_eq (text_cmp a b) ≡ true → a ≡ b
same_text a b h = exact_bytes a b (equal_of (text_cmp a b) h)

-- a table of what was left, with one item more: the mail was taken out, and is put in again
pub left_more : (views : List ℕ → List ViewParts) (old mid new : List (List ℕ × LeftMail)) (news : List (List ℕ × Bool)) (p : List ℕ × Bool) (known : Option LeftMail) (mail : LeftMail) →
    known ≡ at_digest old p.0 → mail ≡ next_mail known (views p.0) p.1 →
    ((q : List ℕ) → at_digest mid q ≡ cond (is_eq (text_cmp p.0 q)) None (at_digest old q)) →
    ((q : List ℕ) → at_digest new q ≡ cond (is_eq (text_cmp p.0 q)) (Some mail) (at_digest mid q)) →
    ((q : List ℕ) → at_digest old q ≡ left_mail (views q) (values_of text_cmp q news)) →
    (q : List ℕ) → at_digest new q ≡ left_mail (views q) (values_of text_cmp q (news ++ p ∷ []))
left_more views old mid new news p known mail was is taken put so_far q =
    put q ∙ cases (is_eq (text_cmp p.0 q)) refl ∙ sym (ap (left_mail (views q)) (values_of-more text_cmp q news p))
  where
    cases : (b : Bool) → is_eq (text_cmp p.0 q) ≡ b → cond b (Some mail) (at_digest mid q) ≡ left_mail (views q) (cond b (values_of text_cmp q news ++ p.1 ∷ []) (values_of text_cmp q news))
    cases true same =
        let here : p.0 ≡ q = same_text p.0 q same in
        ap Some (is ∙ ap (λ k. next_mail k (views p.0) p.1) was ∙ ap (λ d. next_mail (at_digest old d) (views d) p.1) here ∙ ap (λ k. next_mail k (views q) p.1) (so_far q))
        ∙ next-left (views q) (values_of text_cmp q news) p.1
    cases false other = taken q ∙ ap (λ (b : Bool). cond b None (at_digest old q)) other ∙ so_far q

-- once all items were gone through, each with what is told of it
pub left_all : (cards told_cards stayed : List ViewParts) (news told : List (List ℕ × Bool)) (q : List ℕ) → cards ≡ told_cards → news ≡ told → left_mail (cards ++ stayed) (values_of text_cmp q news) ≡ left_mail (told_cards ++ stayed) (values_of text_cmp q told)
left_all cards told_cards stayed news told q same is =
    ap (λ (vs : List ViewParts). left_mail (vs ++ stayed) (values_of text_cmp q news)) same
    ∙ ap (λ (ps : List (List ℕ × Bool)). left_mail (told_cards ++ stayed) (values_of text_cmp q ps)) is
