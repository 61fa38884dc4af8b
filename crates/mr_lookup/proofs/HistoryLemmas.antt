-- The versions of an item that a log tells: how the list of them comes about event by event, and that it is the only one.
use Rattle.std.proofs.Common.{◌≡◌, ◌⊎◌, inl, inr, ⊎_elim, ℕ, ◌+◌, ◌<◌, Bool, true, false, cond, List, [], ◌∷◌, ◌++◌, All, AllPairs, Contains, fold, take, length, get_or, Option, Some, None, length-append, refl, ap, sym, subst, ◌∙◌, arith}
use Rattle.mr_lookup.proofs.Names.{All-contains, All-nil, All-push, All-weaker, Any-from_list_any, Create, Edit, Event, IsHistory, Item, Mail, Name, Receive}
use Rattle.mr_lookup.proofs.Names.{Record, TellsEarlier, TellsFirst, TellsOf, TellsOf.created, TellsOf.edited, TellsOf.received, TellsVersion, count_by}
use Rattle.mr_lookup.proofs.Names.{fold_along, is_in, is_of_item, is_told, issued_next, issued_with, issues, list_any-append, name_eq, name_eq-itself}
use Rattle.mr_lookup.proofs.Names.{next_name, not, option_map, same_name, told_more, version_in, version_told_by, ◌&&◌, ◌||◌, ◌≢◌}
use Rattle.std.proofs.lemmas.List.Quantifiers.{all_pairs_push}
use Rattle.std.proofs.lemmas.Option.{same_Some, some_pair_parts}
use Rattle.mr_wire.specs.declared.frame.Body.{Body}
use Rattle.mr_lookup.proofs.ListLemmas.{beginnings, ends, one_list, places, split_longer}
use Rattle.mr_lookup.proofs.ToldLemmas.{taken_one}

-- events issue as many versions as there are among them that issue one
issued_as_counted : (es : List Event) → fold issued_with 0 es ≡ count_by issues es
issued_as_counted es = fold_along issued_with (λ (n : ℕ) (e : Event). n + cond (issues e) 1 0) (λ (m n : ℕ). m ≡ n) one 0 0 es refl
  where
    one : (m n : ℕ) (e : Event) → m ≡ n → issued_with m e ≡ n + cond (issues e) 1 0
    one m n (Create message) same = omega (arith, same)
    one m n (Edit bases message) same = omega (arith, same)
    one m n _ same = omega (arith, same)

-- what is issued next, with its message
next_told : (id issued : ℕ) (message : Mail) (t : Name × Mail) → issued_next id issued message ≡ Some t → (v : Name) × (next_name id issued ≡ Some v) × ((v, message) ≡ t)
next_told id issued message t is = cases (next_name id issued) is
  where
    cases : (o : Option Name) → option_map {U = Name × Mail} (λ version. (version, message)) o ≡ Some t → (v : Name) × (o ≡ Some v) × ((v, message) ≡ t)
    cases None h = absurd cc
    cases (Some v) h = (v, refl, same_Some (v, message) t h)

-- a version that is told is one of these
among : (told : List (Name × Mail)) (v : Name) → is_told told v ≡ true → (one : Name × Mail) × Contains told one × (one.0 ≡ v)
among told v is = let h = Any-from_list_any (λ one. name_eq one.0 v) told is in (h.1, (h.0, h.2, h.3), same_name h.1.0 v h.4)

module _ (id : ℕ) (item : Name) where
  -- ---- what a log tells, it tells with more events too

  longer : (es more : List Event) (v : Name) → TellsVersion id item es v → TellsVersion id item (es ++ more) v
  longer es more v h = record {
    before = h.before;
    event = h.event;
    after = h.after ++ more;
    message = h.message;
    is_split = split_longer es h.before (h.event ∷ h.after) more h.is_split;
    tells = h.tells;
  }

  first_longer : (es more : List Event) (v : Name) (m : Mail) → TellsFirst id item es v m → TellsFirst id item (es ++ more) v m
  first_longer es more v m h = record {
    before = h.before;
    event = h.event;
    after = h.after ++ more;
    is_split = split_longer es h.before (h.event ∷ h.after) more h.is_split;
    tells = h.tells;
    is_new = h.is_new;
  }

  earlier_longer : (es more : List Event) (v w : Name) → TellsEarlier id item es v w → TellsEarlier id item (es ++ more) v w
  earlier_longer es more v w h = record { beginning = h.beginning; rest = h.rest ++ more; is_split = split_longer es h.beginning h.rest more h.is_split; tells = h.tells; not_yet = h.not_yet }

  -- what is told first is told
  first_tells : (es : List Event) (v : Name) (m : Mail) → TellsFirst id item es v m → TellsVersion id item es v
  first_tells es v m h = record { before = h.before; event = h.event; after = h.after; message = m; is_split = h.is_split; tells = h.tells }

  -- an event that tells a version of the item tells that version with that message
  names : (es : List Event) (e : Event) (v : Name) (m : Mail) → TellsOf id item es e v m → version_told_by id (count_by issues es) e ≡ Some (v, m)
  names es e v m (created {message = message} next) = ap (option_map (λ w. (w, message))) next
  names es e v m (edited earlier between event base first {message = message} told next) = ap (option_map (λ w. (w, message))) next
  names es e v m (received sent r body of) = ap version_in body

  -- ---- one list

  -- of two versions each is not told before the other
  one_order : (es : List Event) (v w : Name) → TellsEarlier id item es v w → TellsEarlier id item es w v → ⊥
  one_order es v w h k = ⊎_elim
      (λ (p : (more : List Event) × (k.beginning ≡ h.beginning ++ more)). k.not_yet (subst (λ (l : List Event). TellsVersion id item l v) (sym p.1) (longer h.beginning p.0 v h.tells)))
      (λ (p : (more : List Event) × (h.beginning ≡ k.beginning ++ more)). h.not_yet (subst (λ (l : List Event). TellsVersion id item l w) (sym p.1) (longer k.beginning p.0 w k.tells)))
      (beginnings h.beginning h.rest k.beginning k.rest (sym h.is_split ∙ k.is_split))

  -- a version is told first with one message
  one_message : (es : List Event) (v : Name) (m n : Mail) → TellsFirst id item es v m → TellsFirst id item es v n → m ≡ n
  one_message es v m n h k = ⊎_elim
      (λ (same : (h.before ≡ k.before) × (h.event ≡ k.event)).
      let alike : version_told_by id (count_by issues h.before) h.event ≡ version_told_by id (count_by issues k.before) k.event = (λ i. version_told_by id (count_by issues (same.0 i)) (same.1 i)) in
      (some_pair_parts v v m n (sym (names h.before h.event v m h.tells) ∙ alike ∙ names k.before k.event v n k.tells)).1)
      (⊎_elim
      (λ (sooner : (more : List Event) × (k.before ≡ h.before ++ h.event ∷ more)). absurd (k.is_new (record { before = h.before; event = h.event; after = sooner.0; message = m; is_split = sooner.1; tells = h.tells })))
      (λ (later : (more : List Event) × (h.before ≡ k.before ++ k.event ∷ more)). absurd (h.is_new (record { before = k.before; event = k.event; after = later.0; message = n; is_split = later.1; tells = k.tells }))))
      (places h.before h.after k.before k.after h.event k.event (sym h.is_split ∙ k.is_split))

  -- what is in one history of the log is in each
  shared : (es : List Event) (xs ys : List (Name × Mail)) → IsHistory id item es xs → IsHistory id item es ys → (p : Name × Mail) → Contains xs p → Contains ys p
  shared es xs ys h k p has =
      let mine = All-contains (λ (one : Name × Mail). TellsFirst id item es one.0 one.1) xs p h.first has in
      let found = among ys p.0 (k.all p.0 (first_tells es p.0 p.1 mine)) in
      let theirs = All-contains (λ (one : Name × Mail). TellsFirst id item es one.0 one.1) ys found.0 k.first found.1 in
      let message = one_message es p.0 found.0.1 p.1 (subst (λ (v : Name). TellsFirst id item es v found.0.1) found.2 theirs) mine in
      let same : found.0 ≡ p = (λ i. (found.2 i, message i)) in
      subst (Contains ys) same found.1

  -- Two histories of one log are one list: they have the same versions, each with its first message, in the order in which the log
  -- tells these first.
  pub one_history : (log : List Event) (xs ys : List (Name × Mail)) → IsHistory id item log xs → IsHistory id item log ys → xs ≡ ys
  one_history log xs ys h k =
      one_list (λ (one other : Name × Mail). TellsEarlier id item log one.0 other.0) (λ one other. one_order log one.0 other.0) xs ys h.in_order k.in_order (shared log xs ys h k) (shared log ys xs k h)

  -- ---- one event more

  -- two versions, one of which is told earlier, are two
  apart : (log : List Event) (v w : Name) → TellsEarlier id item log v w → v ≢ w
  apart log v w h same = h.not_yet (subst (λ (u : Name). TellsVersion id item h.beginning u) same h.tells)

  module _ (es : List Event) (past : List (Name × Mail)) (so_far : IsHistory id item es past) where
    -- the code finds in the event behind these a version of the item
    abbrev Finds : Event → Name × Mail → Type 0
    Finds e t = (version_told_by id (count_by issues es) e ≡ Some t) × (is_of_item item past t.0 e ≡ true)

    -- what is among the past was told, with a first message
    was_told : (v : Name) → is_told past v ≡ true → (m : Mail) × TellsFirst id item es v m
    was_told v is =
        let h = among past v is in
        (h.0.1, subst (λ (w : Name). TellsFirst id item es w h.0.1) h.2 (All-contains (λ (one : Name × Mail). TellsFirst id item es one.0 one.1) past h.0 so_far.first h.1))

    -- what it finds is told,
    tells : (e : Event) (t : Name × Mail) → version_told_by id (count_by issues es) e ≡ Some t → is_of_item item past t.0 e ≡ true → TellsOf id item es e t.0 t.1
    tells (Create message) t is of =
        let h = next_told id (count_by issues es) message t is in
        let same = ap (λ (p : Name × Mail). p.0) h.2 ∙ same_name t.0 item of in
        subst (λ (p : Name × Mail). TellsOf id item es (Create message) p.0 p.1) (ap (λ (v : Name). (v, message)) (sym same) ∙ h.2) (created (h.1 ∙ ap Some same))
    tells (Edit [] message) t is of = absurd cc
    tells (Edit (base ∷ others) message) t is of =
        let h = next_told id (count_by issues es) message t is in
        let told = was_told base of in
        subst (λ (p : Name × Mail). TellsOf id item es (Edit (base ∷ others) message) p.0 p.1) h.2
        (subst (λ (l : List Event). TellsOf id item l (Edit (base ∷ others) message) h.0 message) (sym told.1.is_split)
        (edited told.1.before told.1.after told.1.event base told.0 told.1.tells (ap (λ (l : List Event). next_name id (count_by issues l)) (sym told.1.is_split) ∙ h.1)))
    tells (Receive (Record sent)) t is of = by_body sent.body refl is of
      where
        by_body : (b : Body) → sent.body ≡ b → version_in b ≡ Some t → is_in item b ≡ true → TellsOf id item es (Receive (Record sent)) t.0 t.1
        by_body (Item r) e f g = subst (λ (p : Name × Mail). TellsOf id item es (Receive (Record sent)) p.0 p.1) (same_Some (r.version, r.message) t f) (received sent r e (same_name r.item item g))
        by_body _ e f g = absurd cc
    tells _ t is of = absurd cc

    -- and what is told is found
    is_of : (log : List Event) (e : Event) (v : Name) (m : Mail) → TellsOf id item log e v m → log ≡ es → is_of_item item past v e ≡ true
    is_of log e v m (created next) is = name_eq-itself item
    is_of log e v m (edited earlier between event base first told next) is =
        so_far.all base (record { before = earlier; event = event; after = between; message = first; is_split = sym is; tells = told })
    is_of log e v m (received sent r body of) is = ap (is_in item) body ∙ ap (λ (w : Name). name_eq w item) of ∙ name_eq-itself item

    finds : (log : List Event) (e : Event) (v : Name) (m : Mail) → TellsOf id item log e v m → log ≡ es → Finds e (v, m)
    finds log e v m told is = (ap (λ (l : List Event). version_told_by id (count_by issues l) e) (sym is) ∙ names log e v m told, is_of log e v m told is)

    module _ (e : Event) where
      -- the log with it
      abbrev log : List Event
      log = es ++ e ∷ []

      -- what is told by then was told before, or the code finds it in the event
      by_then : (v : Name) → TellsVersion id item log v → TellsVersion id item es v ⊎ ((m : Mail) × Finds e (v, m))
      by_then v h = ⊎_elim
          (λ (p : (rest : List Event) × (es ≡ h.before ++ h.event ∷ rest)). inl (record { before = h.before; event = h.event; after = p.0; message = h.message; is_split = p.1; tells = h.tells }))
          (λ (p : (h.before ≡ es) × (h.event ≡ e)). inr (h.message, subst (λ (x : Event). Finds x (v, h.message)) p.1 (finds h.before h.event v h.message h.tells p.0)))
          (ends h.before h.after es h.event e (sym h.is_split))

      -- a first message stays the first,
      first_stays : All (λ one. TellsFirst id item log one.0 one.1) past
      first_stays = All-weaker (λ one. TellsFirst id item es one.0 one.1) (λ one. TellsFirst id item log one.0 one.1) (λ one. first_longer es (e ∷ []) one.0 one.1) past so_far.first

      -- and what is told earlier stays so
      earlier_stays : AllPairs (λ one other. TellsEarlier id item log one.0 other.0) past
      earlier_stays i j d less within = earlier_longer es (e ∷ []) _ _ (so_far.in_order i j d less within)

      -- it finds one that is new,
      one_more : (t : Name × Mail) → Finds e t → is_told past t.0 ≡ false → IsHistory id item log (past ++ t ∷ [])
      one_more t f new = record {
        all = λ v told. ⊎_elim
            (λ (h : TellsVersion id item es v). list_any-append (λ one. name_eq one.0 v) past (t ∷ []) ∙ ap (λ (b : Bool). b || is_told (t ∷ []) v) (so_far.all v h))
            (λ (h : (m : Mail) × Finds e (v, m)). subst (λ (p : Name × Mail). is_told (past ++ t ∷ []) p.0 ≡ true) (same_Some t (v, h.0) (sym f.0 ∙ h.1.0)) itself)
            (by_then v told);
        once = λ i j d less within. apart log _ _ (order i j d less within);
        first = All-push (λ one. TellsFirst id item log one.0 one.1) past t first_stays (record { before = es; event = e; after = []; is_split = refl; tells = tells e t f.0 f.1; is_new = not_yet });
        in_order = order;
      }
        where
          itself : is_told (past ++ t ∷ []) t.0 ≡ true
          itself = list_any-append (λ one. name_eq one.0 t.0) past (t ∷ []) ∙ ap (λ (b : Bool). b || is_told (t ∷ []) t.0) new ∙ ap (λ (b : Bool). b || false) (name_eq-itself t.0)

          not_yet : ¬ TellsVersion id item es t.0
          not_yet h = absurd (let told = so_far.all t.0 h in cc)

          order : AllPairs (λ one other. TellsEarlier id item log one.0 other.0) (past ++ t ∷ [])
          order = all_pairs_push (λ one other. TellsEarlier id item log one.0 other.0) past t earlier_stays (λ k d less.
              record { beginning = es; rest = e ∷ []; is_split = refl; tells = first_tells es _ _ (so_far.first k d less); not_yet = not_yet })

      -- or none
      none_more : ((v : Name) (m : Mail) → Finds e (v, m) → is_told past v ≡ true) → IsHistory id item log past
      none_more old = record {
        all = λ v told. ⊎_elim (so_far.all v) (λ (h : (m : Mail) × Finds e (v, m)). old v h.0 h.1) (by_then v told);
        once = so_far.once;
        first = first_stays;
        in_order = earlier_stays;
      }

      -- so the code's tests tell which of the two it is,
      by_tests : (t : Name × Mail) → version_told_by id (count_by issues es) e ≡ Some t → (b c : Bool) → is_of_item item past t.0 e ≡ b → is_told past t.0 ≡ c → IsHistory id item log (cond (b && not c) (past ++ t ∷ []) past)
      by_tests t is true false of new = one_more t (is, of) new
      by_tests t is true true of old = none_more (λ v m f. subst (λ (p : Name × Mail). is_told past p.0 ≡ true) (same_Some t (v, m) (sym is ∙ f.0)) old)
      by_tests t is false c of old = none_more (λ v m f. absurd (let no = subst (λ (p : Name × Mail). is_of_item item past p.0 e ≡ false) (same_Some t (v, m) (sym is ∙ f.0)) of in let yes = f.1 in cc))

      -- also where the event tells no version
      by_told : (o : Option (Name × Mail)) → version_told_by id (count_by issues es) e ≡ o → IsHistory id item log (told_more item past e o)
      by_told None is = none_more (λ v m f. absurd (let one = f.0 in cc))
      by_told (Some t) is = by_tests t is (is_of_item item past t.0 e) (is_told past t.0) refl refl

      -- and the past with what the code finds is the history of the log with the event
      pub one_event : IsHistory id item (es ++ e ∷ []) (told_more item past e (version_told_by id (count_by issues es) e))
      one_event = by_told (version_told_by id (count_by issues es) e) refl

-- where there is no event, nothing is told
pub none_yet : (id : ℕ) (item : Name) → IsHistory id item [] []
none_yet id item = record {
  all = λ v told. absurd (let long = ap length told.is_split in let more = length-append told.before (told.event ∷ told.after) in omega (arith, long, more));
  once = λ i j d less within. absurd (omega arith);
  first = All-nil _;
  in_order = λ i j d less within. absurd (omega arith);
}

-- one event more of a log
pub history-more : (id : ℕ) (item : Name) (log : List Event) (i : ℕ) (e : Event) (issued : ℕ) (old new : List (Name × Mail)) → i < length log → e ≡ get_or log i e → issued ≡ fold issued_with 0 (take i log) → IsHistory id item (take i log) old
    → new ≡ told_more item old e (version_told_by id issued e) → IsHistory id item (take (i + 1) log) new
history-more id item log i e issued old new h is count so_far more =
    subst (λ (told : List (Name × Mail)). IsHistory id item (take (i + 1) log) told) (sym (more ∙ ap (λ (n : ℕ). told_more item old e (version_told_by id n e)) (count ∙ issued_as_counted (take i log))))
    (subst (λ (es : List Event). IsHistory id item es (told_more item old e (version_told_by id (count_by issues (take i log)) e))) (sym (taken_one log i e h is)) (one_event id item (take i log) old so_far e))
