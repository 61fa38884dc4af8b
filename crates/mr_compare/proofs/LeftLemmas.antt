-- what entries leave of an item, entry by entry
use Rattle.std.proofs.Common.{◌≡◌, ℕ, ◌+◌, ◌<◌, Bool, true, false, cond, ◌&&◌, List, [], ◌∷◌, ◌++◌, take, length, get_or, filter, Option, Some, None, refl, ap, sym, ◌∙◌}
use Rattle.mr_compare.proofs.Names.{Equal, Greater, Less, MailCard, Name, Ordering, append-nil, card_left, eq_by_cmp, filter-append, fold-append, is_eq}
use Rattle.mr_compare.proofs.Names.{item_cards, last_added, last_told, lookup, map-append, name_cmp, name_eq, newer, of_item, ordering_then, pair_cmp}
use Rattle.mr_compare.proofs.Names.{told_last}
use Rattle.mr_version.specs.Order.{exact_names}
use Rattle.mr_model.specs.Headline as model
use Rattle.mr_feed.specs.declared.entry.Entry.{Entry}
use Rattle.mr_feed.specs.declared.entry.Entry.TheVariants.{Added, Dropped}
use Rattle.mr_feed.specs.Entry.{told, told_entry, entry_item, entry_version}
use Rattle.mr_feed.specs.Fold.{fold_from-append}
use Rattle.mr_compare.proofs.ListLemmas.{take_one}
use Rattle.mr_feed.specs.inner.Entry.{card_added}
use Rattle.mr_compare.specs.inner.Left.{newest_of, with_entry}

-- orderings that say equal are Equal
pub equal_of : (o : Ordering) → is_eq o ≡ true → o ≡ Equal
equal_of Less h = cc
equal_of Equal h = refl
equal_of Greater h = cc

-- names that are one by the test are one
pub same_name : (v u : Name) → name_eq v u ≡ true → v ≡ u
same_name v u h = exact_names v u (equal_of (name_cmp v u) h)

-- two parts of a pair compare alike where each does
pub is_eq-then : (a b : Ordering) → is_eq (ordering_then a b) ≡ (is_eq a && is_eq b)
is_eq-then Less b = refl
is_eq-then Equal b = refl
is_eq-then Greater b = refl

-- ---- one entry more

-- a filter of one more
kept_one : (p : Entry → Bool) (ys : List Entry) (x : Entry) → filter p (ys ++ x ∷ []) ≡ filter p ys ++ cond (p x) (x ∷ []) []
kept_one p ys x = filter-append p ys (x ∷ [])

of_item-more : (item : Name) (xs : List Entry) (i : ℕ) (x : Entry) → i < length xs → x ≡ get_or xs i x → of_item item (take (i + 1) xs) ≡ of_item item (take i xs) ++ cond (name_eq (entry_item x) item) (x ∷ []) []
of_item-more item xs i x h e = ap (of_item item) (take_one xs i x h e) ∙ kept_one (λ y. name_eq (entry_item y) item) (take i xs) x

card_of_one : (cards : model.Cards MailCard) (x : Entry) (v : Name) → model.fold_from cards (told (x ∷ [])) v ≡ cond (name_eq (entry_version x) v) (card_added x) (cards v)
card_of_one cards (Added item version card) v = refl
card_of_one cards (Dropped item version) v = refl

folded_one : (ys : List Entry) (x : Entry) (v : Name) → model.fold (told (ys ++ x ∷ [])) v ≡ cond (name_eq (entry_version x) v) (card_added x) (model.fold (told ys) v)
folded_one ys x v =
    ap (λ es. model.fold es v) (map-append told_entry ys (x ∷ []))
    ∙ ap (λ (f : model.Cards MailCard). f v) (fold_from-append model.no_cards (told ys) (told (x ∷ [])))
    ∙ card_of_one (model.fold (told ys)) x v

-- the cards of an item, with one entry more
folded_if : (b : Bool) (ys : List Entry) (x : Entry) (v : Name) → model.fold (told (ys ++ cond b (x ∷ []) [])) v ≡ cond (b && name_eq (entry_version x) v) (card_added x) (model.fold (told ys) v)
folded_if true ys x v = folded_one ys x v
folded_if false ys x v = ap (λ es. model.fold (told es) v) (append-nil ys)

pub item_cards-more : (item v : Name) (xs : List Entry) (i : ℕ) (x : Entry) → i < length xs → x ≡ get_or xs i x → item_cards (take (i + 1) xs) item v ≡ cond (name_eq (entry_item x) item && name_eq (entry_version x) v) (card_added x) (item_cards (take i xs) item v)
item_cards-more item v xs i x h e =
    ap (λ es. model.fold (told es) v) (of_item-more item xs i x h e) ∙ folded_if (name_eq (entry_item x) item) (of_item item (take i xs)) x v

-- the card that was added last, with one entry more
added_one : (ys : List Entry) (x : Entry) → last_added (ys ++ x ∷ []) ≡ Some (newest_of (last_added ys) x)
added_one [] x = refl
added_one (y ∷ ys) x = ap Some (fold-append newer None (y ∷ ys) (x ∷ []))

added_if : (b : Bool) (ys : List Entry) (x : Entry) → last_added (ys ++ cond b (x ∷ []) []) ≡ cond b (Some (newest_of (last_added ys) x)) (last_added ys)
added_if true ys x = added_one ys x
added_if false ys x = ap last_added (append-nil ys)

pub last_told-more : (item : Name) (xs : List Entry) (i : ℕ) (x : Entry) → i < length xs → x ≡ get_or xs i x → last_told (take (i + 1) xs) item ≡ cond (name_eq (entry_item x) item) (Some (newest_of (last_told (take i xs) item) x)) (last_told (take i xs) item)
last_told-more item xs i x h e = ap last_added (of_item-more item xs i x h e) ∙ added_if (name_eq (entry_item x) item) (of_item item (take i xs)) x

-- ---- steps of loops

-- a table of what was told last, with one entry more
pub changed_more : (old new : List (Name × Option MailCard)) (xs : List Entry) (i : ℕ) (x : Entry) (newest : Option MailCard) → i < length xs → x ≡ get_or xs i x →
    ((q : Name) → told_last new q ≡ cond (name_eq (entry_item x) q) (Some newest) (told_last old q)) → newest ≡ newest_of (told_last old (entry_item x)) x →
    ((q : Name) → told_last old q ≡ last_told (take i xs) q) → (q : Name) → told_last new q ≡ last_told (take (i + 1) xs) q
changed_more old new xs i x newest h e put is known q = put q ∙ cases (name_eq (entry_item x) q) refl ∙ sym (last_told-more q xs i x h e)
  where
    cases : (b : Bool) → name_eq (entry_item x) q ≡ b → cond b (Some newest) (told_last old q) ≡ cond b (Some (newest_of (last_told (take i xs) q) x)) (last_told (take i xs) q)
    cases true same = ap Some (is ∙ ap (λ n. newest_of (told_last old n) x) (same_name (entry_item x) q same) ∙ ap (λ o. newest_of o x) (known q))
    cases false other = known q

-- a table of cards, with one entry more of an item that changed
pub cards_more : (old new : List ((Name × Name) × MailCard)) (changed : Name → Bool) (xs : List Entry) (i : ℕ) (x : Entry) → i < length xs → x ≡ get_or xs i x → changed (entry_item x) ≡ true →
    ((q v : Name) → card_left new q v ≡ with_entry x (card_left old q v) q v) →
    ((q v : Name) → card_left old q v ≡ cond (changed q) (item_cards (take i xs) q v) None) → (q v : Name) → card_left new q v ≡ cond (changed q) (item_cards (take (i + 1) xs) q v) None
cards_more old new changed xs i x h e did put known q v =
    put q v ∙ cases (name_eq (entry_item x) q) refl ∙ ap (λ o. cond (changed q) o None) (sym (item_cards-more q v xs i x h e))
  where
    cases : (b : Bool) → name_eq (entry_item x) q ≡ b → cond (b && name_eq (entry_version x) v) (card_added x) (card_left old q v) ≡ cond (changed q) (cond (b && name_eq (entry_version x) v) (card_added x) (item_cards (take i xs) q v)) None
    cases true same =
        let yes : changed q ≡ true = ap changed (sym (same_name (entry_item x) q same)) ∙ did in
        ap (λ o. cond (name_eq (entry_version x) v) (card_added x) o) (known q v ∙ ap (λ b. cond b (item_cards (take i xs) q v) None) yes)
        ∙ ap (λ b. cond b (cond (name_eq (entry_version x) v) (card_added x) (item_cards (take i xs) q v)) None) (sym yes)
    cases false other = known q v

-- and with one entry more of another item
pub cards_same : (old : List ((Name × Name) × MailCard)) (changed : Name → Bool) (xs : List Entry) (i : ℕ) (x : Entry) → i < length xs → x ≡ get_or xs i x → changed (entry_item x) ≡ false →
    ((q v : Name) → card_left old q v ≡ cond (changed q) (item_cards (take i xs) q v) None) → (q v : Name) → card_left old q v ≡ cond (changed q) (item_cards (take (i + 1) xs) q v) None
cards_same old changed xs i x h e not known q v =
    known q v ∙ cases (name_eq (entry_item x) q) refl ∙ ap (λ o. cond (changed q) o None) (sym (item_cards-more q v xs i x h e))
  where
    cases : (b : Bool) → name_eq (entry_item x) q ≡ b → cond (changed q) (item_cards (take i xs) q v) None ≡ cond (changed q) (cond (b && name_eq (entry_version x) v) (card_added x) (item_cards (take i xs) q v)) None
    cases true same =
        let no : changed q ≡ false = ap changed (sym (same_name (entry_item x) q same)) ∙ not in
        ap (λ b. cond b (item_cards (take i xs) q v) None) no
        ∙ ap (λ b. cond b (cond (name_eq (entry_version x) v) (card_added x) (item_cards (take i xs) q v)) None) (sym no)
    cases false other = refl

-- and with one entry more, of whatever item
pub cards_step : (old new : List ((Name × Name) × MailCard)) (changed : Name → Bool) (xs : List Entry) (i : ℕ) (x : Entry) (b : Bool) → i < length xs → x ≡ get_or xs i x → b ≡ changed (entry_item x) →
    ((q v : Name) → card_left new q v ≡ cond b (with_entry x (card_left old q v) q v) (card_left old q v)) →
    ((q v : Name) → card_left old q v ≡ cond (changed q) (item_cards (take i xs) q v) None) → (q v : Name) → card_left new q v ≡ cond (changed q) (item_cards (take (i + 1) xs) q v) None
cards_step old new changed xs i x true h e did put known q v = cards_more old new changed xs i x h e (sym did) put known q v
cards_step old new changed xs i x false h e not put known q v = put q v ∙ cards_same old changed xs i x h e (sym not) known q v

-- ---- one entry in a table

abbrev found : List ((Name × Name) × MailCard) → (Name × Name) → Option MailCard
found table key = lookup (λ own. eq_by_cmp pair_cmp key own) table

pub put_added : (old new : List ((Name × Name) × MailCard)) (i w : Name) (card copy : MailCard) (e : Entry) → e ≡ Added i w card → copy ≡ card →
    ((q : Name × Name) → found new q ≡ cond (is_eq (pair_cmp (i, w) q)) (Some copy) (found old q)) → (item v : Name) → card_left new item v ≡ with_entry e (card_left old item v) item v
put_added old new i w card copy e is same put item v =
    put (item, v) ∙ ap (λ b. cond b (Some copy) (card_left old item v)) (is_eq-then (name_cmp i item) (name_cmp w v))
    ∙ ap (λ c. cond (name_eq i item && name_eq w v) (Some c) (card_left old item v)) same
    ∙ sym (ap (λ x. with_entry x (card_left old item v) item v) is)

pub put_dropped : (old new : List ((Name × Name) × MailCard)) (i w : Name) (e : Entry) → e ≡ Dropped i w →
    ((q : Name × Name) → found new q ≡ cond (is_eq (pair_cmp (i, w) q)) None (found old q)) → (item v : Name) → card_left new item v ≡ with_entry e (card_left old item v) item v
put_dropped old new i w e is put item v =
    put (item, v) ∙ ap (λ b. cond b None (card_left old item v)) (is_eq-then (name_cmp i item) (name_cmp w v))
    ∙ sym (ap (λ x. with_entry x (card_left old item v) item v) is)
