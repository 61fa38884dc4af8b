-- what a subscriber has that went through a feed, as the heads change
use Rattle.std.proofs.Common.{◌≡◌, Bool, true, false, not, cond, if◌then◌else◌, refl, sym, ap, subst, ◌∙◌, List, [], ◌∷◌, ◌++◌, map, filter, inl, inr, Option, Some, None, is_some, arith}
use Rattle.mr_replica.proofs.Names.{Added, AllByRecursion, AreInVersionOrder, Dropped, Entry, IfSome, Less, Name, Rev, added, arrival_alone, arrived, dropped}
use Rattle.mr_replica.proofs.Names.{entered, head_before, holds, is_before, is_eq, map-append, name_cmp, name_eq, name_eq-swap, name_eq_self, named-filter}
use Rattle.mr_replica.proofs.Names.{option_map, revision_of, rises-filter, rises-inserted, same_names, sides_of, tail_rises, told_more, unnamed, version_of}
use Rattle.mr_model.specs.Versions.{is}
use Rattle.mr_model.specs.History as model
use Rattle.mr_model.specs.Headline.{Cards, fold, fold_from, no_cards}
use Rattle.mr_model.proofs.Feeds.{folded-append}
use Rattle.mr_replica.specs.Folded.{told_item, AreNews, FoldsTo}

-- ---- the revision of a version, once the heads changed

-- names that stand behind a name are not that name
none_after : (v : Name) (rs : List Rev) → AllByRecursion (λ w. name_cmp v w ≡ Less) (map version_of rs) → revision_of rs v ≡ None
none_after v [] h = refl
none_after v (r ∷ rs) h = rw (name_eq-swap r.version v ∙ ap is_eq h.0) (none_after v rs h.1)

none_behind : (x : Rev) (rs : List Rev) (v : Name) → AreInVersionOrder (x ∷ rs) → name_eq x.version v ≡ true → revision_of rs v ≡ None
none_behind x rs v order same =
    none_after v rs (subst (λ (w : Name). AllByRecursion (λ u. name_cmp w u ≡ Less) (map version_of rs)) (same_names x.version v same) (head_before version_of x rs order))

-- where some leave, those that stay have their versions still
revision_of-left : (p : Rev → Bool) (rs : List Rev) (v : Name) → AreInVersionOrder rs → revision_of (filter (λ r. not (p r)) rs) v ≡ (if holds (filter p rs) v then None else revision_of rs v)
revision_of-left p [] v order = refl
revision_of-left p (x ∷ xs) v order =
    let stays : Rev → Bool = λ r. not (p r) in
    let rest = revision_of-left p xs v (tail_rises version_of x xs order) in
    elim (sides_of (name_eq x.version v)) [
      | inl here ↦
          let none : revision_of xs v ≡ None = none_behind x xs v order here in
          elim (p x) as (λ b. revision_of (cond (not b) (x ∷ filter stays xs) (filter stays xs)) v ≡ (if holds (cond b (x ∷ filter p xs) (filter p xs)) v then None else revision_of (x ∷ xs) v)) [
            | true ↦ rw here (named-filter version_of stays v xs none)
            | false ↦ rw (here, named-filter version_of p v xs none) refl
          ]
      | inr other ↦
          elim (p x) as (λ b. revision_of (cond (not b) (x ∷ filter stays xs) (filter stays xs)) v ≡ (if holds (cond b (x ∷ filter p xs) (filter p xs)) v then None else revision_of (x ∷ xs) v)) [
            | true ↦ rw other rest
            | false ↦ rw other rest
          ]
    ]

-- where a new one enters, it has its version
revision_of-entered : (r : Rev) (rs : List Rev) (v : Name) → revision_of rs r.version ≡ None → revision_of (entered r rs) v ≡ (if name_eq r.version v then Some r else revision_of rs v)
revision_of-entered r [] v new = refl
revision_of-entered r (x ∷ xs) v new =
    let apart : name_eq x.version r.version ≡ false = unnamed (name_eq x.version r.version) x (revision_of xs r.version) new in
    elim (is_before x.version r.version) as (λ b. revision_of (cond b (x ∷ entered r xs) (r ∷ x ∷ xs)) v ≡ (if name_eq r.version v then Some r else revision_of (x ∷ xs) v)) [
      | true ↦ elim (sides_of (name_eq x.version v)) [
        | inl here ↦
            let later : name_eq r.version v ≡ false = ap (λ (w : Name). name_eq r.version w) (sym (same_names x.version v here)) ∙ name_eq-swap r.version x.version ∙ apart in
            rw (here, later) refl
        | inr other ↦ rw other (revision_of-entered r xs v (rw apart at new))
      ]
      | false ↦ refl
    ]

-- each of rising revisions is the one of its version
found_behind : (x : Rev) (qs rs : List Rev) → AllByRecursion (λ w. name_cmp x.version w ≡ Less) (map version_of qs) → AllByRecursion (λ q. revision_of rs q.version ≡ Some q) qs → AllByRecursion (λ q. revision_of (x ∷ rs) q.version ≡ Some q) qs
found_behind x [] rs behind found = tt
found_behind x (q ∷ qs) rs behind found = grind (arith, found_behind x qs rs behind.1 found.1)

each_found : (rs : List Rev) → AreInVersionOrder rs → AllByRecursion (λ q. revision_of rs q.version ≡ Some q) rs
each_found [] order = tt
each_found (x ∷ xs) order = (rw (name_eq_self x.version) refl, found_behind x xs xs (head_before version_of x xs order) (each_found xs (tail_rises version_of x xs order)))

each_filter : (P : Rev → Type 0) (p : Rev → Bool) (rs : List Rev) → AllByRecursion P rs → AllByRecursion P (filter p rs)
each_filter P p [] h = tt
each_filter P p (x ∷ xs) h = grind (arith, each_filter P p xs h.1)

each_weaker : (P Q : Rev → Type 0) → ((r : Rev) → P r → Q r) → (rs : List Rev) → AllByRecursion P rs → AllByRecursion Q rs
each_weaker P Q f [] h = tt
each_weaker P Q f (x ∷ xs) h = (f x h.0, each_weaker P Q f xs h.1)

-- ---- the fold of the entries of a change, for any reading of entries as those of a history

module _ {C : Type 0} (tell : Entry → model.Entry C) (shown : Rev → C) (drops : (r : Rev) → tell (dropped r) ≡ model.Dropped r.item r.version) (adds : (r : Rev) → tell (added r) ≡ model.Added r.item r.version (shown r)) where
  -- those that leave have nothing more
  fold_left : (cards : Cards C) (left : List Rev) (v : Name) → fold_from cards (map tell (map dropped left)) v ≡ (if holds left v then None else cards v)
  fold_left cards [] v = refl
  fold_left cards (r ∷ left) v =
      ap (λ (e : model.Entry C). fold_from cards (e ∷ map tell (map dropped left)) v) (drops r)
      ∙ (fold_left (λ u. if is r.version u then None else cards u) left v ∙ either (name_eq r.version v) (revision_of left v) (cards v))
    where
      either : (b : Bool) (o : Option Rev) (c : Option C) → (if is_some o then None else (if b then None else c)) ≡ (if is_some (if b then Some r else o) then None else c)
      either true None c = refl
      either true (Some q) c = refl
      either false o c = refl

  -- the one that comes has what it shows
  fold_come : (cards : Cards C) (r : Rev) (v : Name) → fold_from cards (map tell (map added (r ∷ []))) v ≡ (if name_eq r.version v then Some (shown r) else cards v)
  fold_come cards r v = ap (λ (e : model.Entry C). fold_from cards (e ∷ []) v) (adds r)

  fold_more : (feed : List Entry) (left entering : List Rev) (v : Name) → fold (map tell (told_more feed left entering)) v ≡ fold_from (fold_from (fold (map tell feed)) (map tell (map dropped left))) (map tell (map added entering)) v
  fold_more feed left entering v = grind (arith, map-append, folded-append)

  abbrev Shows : List Entry → List Rev → Type 0
  Shows feed heads = (v : Name) → fold (map tell feed) v ≡ option_map shown (revision_of heads v)

  -- once those entries are gone through that tell what leaves, the fold is what stays
  shows_left : (p : Rev → Bool) (feed : List Entry) (heads : List Rev) → AreInVersionOrder heads → Shows feed heads → (v : Name) →
      fold_from (fold (map tell feed)) (map tell (map dropped (filter p heads))) v ≡ option_map shown (revision_of (filter (λ r. not (p r)) heads) v)
  shows_left p feed heads order h v = grind (arith, fold_left, revision_of-left)

  shows_on : (p : Rev → Bool) (comer : Option Rev) (feed : List Entry) (heads : List Rev) → AreInVersionOrder heads → IfSome comer (λ r. revision_of heads r.version ≡ None) → Shows feed heads
      → Shows (told_more feed (filter p heads) (arrival_alone comer)) (arrived comer (filter (λ r. not (p r)) heads))
  shows_on p comer feed heads order new h v = grind (arith, fold_more, shows_left, named-filter, fold_come, revision_of-entered)

-- ---- each entry is news

news-append : (items : Cards Name) (xs ys : List Entry) → AreNews items xs → AreNews (fold_from items (map told_item xs)) ys → AreNews items (xs ++ ys)
news-append items [] ys h k = k
news-append items (Added item version card ∷ xs) ys h k = (h.0, news-append (λ u. if is version u then Some item else items u) xs ys h.1 k)
news-append items (Dropped item version ∷ xs) ys h k = (h.0, news-append (λ u. if is version u then None else items u) xs ys h.1 k)

-- what stands behind a version is there still once that one is dropped
there_still : (w : Name) (items : Cards Name) (left : List Rev) → AllByRecursion (λ u. name_cmp w u ≡ Less) (map version_of left) → AllByRecursion (λ q. items q.version ≡ Some q.item) left
    → AllByRecursion (λ q. (if is w q.version then None else items q.version) ≡ Some q.item) left
there_still w items [] behind there = tt
there_still w items (q ∷ left) behind there = grind (arith, there_still w items left behind.1 there.1)

news-dropped : (items : Cards Name) (left : List Rev) → AreInVersionOrder left → AllByRecursion (λ q. items q.version ≡ Some q.item) left → AreNews items (map dropped left)
news-dropped items [] order there = tt
news-dropped items (r ∷ left) order there =
    (there.0, news-dropped (λ u. if is r.version u then None else items u) left (tail_rises version_of r left order) (there_still r.version items left (head_before version_of r left order) there.1))

-- the item of a revision, as a fold of items has it
abbrev item_of : Rev → Name
item_of r = r.item

abbrev ItemsAre : List Entry → List Rev → Type 0
ItemsAre feed heads = (v : Name) → fold (map told_item feed) v ≡ option_map item_of (revision_of heads v)

-- what leaves is there
each_there : (p : Rev → Bool) (feed : List Entry) (heads : List Rev) → AreInVersionOrder heads → ItemsAre feed heads → AllByRecursion (λ q. fold (map told_item feed) q.version ≡ Some q.item) (filter p heads)
each_there p feed heads order h = grind (arith, each_weaker, each_filter, each_found)

-- what comes is not there
news-come : (comer : Option Rev) (items : Cards Name) → IfSome comer (λ r. items r.version ≡ None) → AreNews items (map added (arrival_alone comer))
news-come comer items h = grind arith

gone_still : (p : Rev → Bool) (comer : Option Rev) (feed : List Entry) (heads : List Rev) → AreInVersionOrder heads → IfSome comer (λ r. revision_of heads r.version ≡ None) → ItemsAre feed heads
    → IfSome comer (λ r. fold_from (fold (map told_item feed)) (map told_item (map dropped (filter p heads))) r.version ≡ None)
gone_still p None feed heads order new h = tt
gone_still p (Some r) feed heads order new h =
    shows_left told_item item_of (λ q. refl) (λ q. refl) p feed heads order h r.version ∙ ap (λ (o : Option Rev). option_map item_of o) (named-filter version_of (λ r. not (p r)) r.version heads new)

news_on : (p : Rev → Bool) (comer : Option Rev) (feed : List Entry) (heads : List Rev) → AreInVersionOrder heads → IfSome comer (λ r. revision_of heads r.version ≡ None) → ItemsAre feed heads → AreNews no_cards feed
    → AreNews no_cards (told_more feed (filter p heads) (arrival_alone comer))
news_on p comer feed heads order new h news =
    news-append no_cards feed (map dropped (filter p heads) ++ map added (arrival_alone comer)) news
    (news-append (fold (map told_item feed)) (map dropped (filter p heads)) (map added (arrival_alone comer))
    (news-dropped (fold (map told_item feed)) (filter p heads) (rises-filter version_of p heads order) (each_there p feed heads order h))
    (news-come comer (fold_from (fold (map told_item feed)) (map told_item (map dropped (filter p heads)))) (gone_still p comer feed heads order new h)))

-- ---- one change of the heads: some leave, and one may come whose version is new

pub folds_on : (p : Rev → Bool) (comer : Option Rev) (feed : List Entry) (heads : List Rev) → AreInVersionOrder heads → IfSome comer (λ r. revision_of heads r.version ≡ None) → FoldsTo feed heads
    → FoldsTo (told_more feed (filter p heads) (arrival_alone comer)) (arrived comer (filter (λ r. not (p r)) heads))
folds_on p comer feed heads order new h = grind (arith, shows_on, news_on)

pub in_order_on : (p : Rev → Bool) (comer : Option Rev) (heads : List Rev) → AreInVersionOrder heads → IfSome comer (λ r. revision_of heads r.version ≡ None) → AreInVersionOrder (arrived comer (filter (λ r. not (p r)) heads))
in_order_on p comer heads order new = grind (arith, rises-filter, rises-inserted, named-filter)
