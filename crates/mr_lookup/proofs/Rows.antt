-- worked rows that take a proof
use Rattle.std.proofs.Common.{◌≡◌, ◌≤◌, ℕ, List, [], ◌∷◌, ◌++◌, Some, get_or, append_assoc, append-nil, refl, ap, sym, subst, arith}
use Rattle.mr_lookup.proofs.Names.{Create, Edit, Event, IsHistory, IsNewest, Item, Mail, Name, Receive, Record, count_by, issues, told_more, version_told_by}
use Rattle.mr_lookup.proofs.Names.{◌≢◌}
use Rattle.mr_wire.specs.declared.frame.Header.{Header}
use Rattle.mr_lookup.proofs.HistoryLemmas.{none_yet, one_event, one_history}
use Rattle.mr_lookup.proofs.VersionLemmas.{found}

abbrev name : (author counter : ℕ) → Name
name author counter = record { author = author; counter = counter }

-- of 5.1, 1.7, and 5.2, which is told twice, 5.2 is the newest of author 5, with the message that is told of it first
newest_row : (m n k : Mail) → IsNewest ((name 5 1, m) ∷ (name 1 7, k) ∷ (name 5 2, n) ∷ (name 5 2, k) ∷ []) 5 (name 5 2) n
newest_row m n k = found ((name 5 1, m) ∷ (name 1 7, k) ∷ (name 5 2, n) ∷ (name 5 2, k) ∷ []) 5 (Some (name 5 2, n)) refl

-- and where 5.2 is told, 5.1 is not
older_row : (m n : Mail) → IsNewest ((name 5 1, m) ∷ (name 5 2, n) ∷ []) 5 (name 5 1) m → ⊥
older_row m n h = let most : 2 ≤ 1 = h.newest (name 5 2) n refl refl in omega (arith, most)

-- ---- the past of an item

-- an Item of this version of the item 0.1 was received
abbrev got : Header → (author counter : ℕ) → Mail → Event
got h author counter message = Receive (Record (record { header = h; body = Item (record { item = name 0 1; version = name author counter; below = []; message = message }) }))

-- what is found in more events, one after the other
abbrev found_in : (id : ℕ) (item : Name) (es : List Event) (past : List (Name × Mail)) → (more : List Event) → List (Name × Mail)
found_in id item es past [] = past
found_in id item es past (e ∷ more) = found_in id item (es ++ e ∷ []) (told_more item past e (version_told_by id (count_by issues es) e)) more

-- is the history of all
all_found : (id : ℕ) (item : Name) (es : List Event) (past : List (Name × Mail)) → IsHistory id item es past → (more : List Event) → IsHistory id item (es ++ more) (found_in id item es past more)
all_found id item es past so_far [] = subst (λ (l : List Event). IsHistory id item l past) (sym (append-nil es)) so_far
all_found id item es past so_far (e ∷ more) =
    subst (λ (l : List Event). IsHistory id item l (found_in id item es past (e ∷ more))) (append_assoc es (e ∷ []) more)
    (all_found id item (es ++ e ∷ []) (told_more item past e (version_told_by id (count_by issues es) e)) (one_event id item es past so_far e) more)

found_from_none : (id : ℕ) (item : Name) (log : List Event) → IsHistory id item log (found_in id item [] [] log)
found_from_none id item log = all_found id item [] [] (none_yet id item) log

-- replica 0 makes 0.1 and changes it to 0.2, takes 1.1 of that item, and merges the two to 0.4; 0.3 is another item
merged_row : (h : Header) (m n : Mail) → IsHistory 0 (name 0 1) (Create m ∷ Edit (name 0 1 ∷ []) n ∷ Create n ∷ got h 1 1 m ∷ Edit (name 1 1 ∷ name 0 2 ∷ []) n ∷ [])
    ((name 0 1, m) ∷ (name 0 2, n) ∷ (name 1 1, m) ∷ (name 0 4, n) ∷ [])
merged_row h m n = found_from_none 0 (name 0 1) (Create m ∷ Edit (name 0 1 ∷ []) n ∷ Create n ∷ got h 1 1 m ∷ Edit (name 1 1 ∷ name 0 2 ∷ []) n ∷ [])

-- and of that one there is no other version
other_item_row : (h : Header) (m n : Mail) → IsHistory 0 (name 0 3) (Create m ∷ Edit (name 0 1 ∷ []) n ∷ Create n ∷ got h 1 1 m ∷ []) ((name 0 3, n) ∷ [])
other_item_row h m n = found_from_none 0 (name 0 3) (Create m ∷ Edit (name 0 1 ∷ []) n ∷ Create n ∷ got h 1 1 m ∷ [])

-- a version that is received again stands once, with its first message
again_row : (h : Header) (m n : Mail) → IsHistory 0 (name 0 1) (got h 1 1 m ∷ got h 1 2 n ∷ got h 1 1 n ∷ []) ((name 1 1, m) ∷ (name 1 2, n) ∷ [])
again_row h m n = found_from_none 0 (name 0 1) (got h 1 1 m ∷ got h 1 2 n ∷ got h 1 1 n ∷ [])

-- nothing was told of the item
no_past_row : (m n : Mail) → IsHistory 5 (name 0 1) (Create m ∷ Edit (name 5 1 ∷ []) n ∷ []) []
no_past_row m n = found_from_none 5 (name 0 1) (Create m ∷ Edit (name 5 1 ∷ []) n ∷ [])

-- replica 0 makes 0.1 and changes it to 0.2
abbrev two : (m n : Mail) → List Event
two m n = Create m ∷ Edit (name 0 1 ∷ []) n ∷ []

-- those are the item's versions,
past_row : (m n : Mail) → IsHistory 0 (name 0 1) (two m n) ((name 0 1, m) ∷ (name 0 2, n) ∷ [])
past_row m n = found_from_none 0 (name 0 1) (two m n)

-- and no other list is its history
only_row : (m n : Mail) (told : List (Name × Mail)) → IsHistory 0 (name 0 1) (two m n) told → told ≡ (name 0 1, m) ∷ (name 0 2, n) ∷ []
only_row m n told is = one_history 0 (name 0 1) (two m n) told ((name 0 1, m) ∷ (name 0 2, n) ∷ []) is (past_row m n)

-- one of them alone is not all,
short_row : (m n : Mail) → ¬ IsHistory 0 (name 0 1) (two m n) ((name 0 1, m) ∷ [])
short_row m n is = let only = only_row m n ((name 0 1, m) ∷ []) is in cc

-- one stands once,
twice_row : (m n : Mail) → ¬ IsHistory 0 (name 0 1) (two m n) ((name 0 1, m) ∷ (name 0 1, m) ∷ (name 0 2, n) ∷ [])
twice_row m n is = let only = only_row m n ((name 0 1, m) ∷ (name 0 1, m) ∷ (name 0 2, n) ∷ []) is in cc

-- and 0.2 not before 0.1
swapped_row : (m n : Mail) → ¬ IsHistory 0 (name 0 1) (two m n) ((name 0 2, n) ∷ (name 0 1, m) ∷ [])
swapped_row m n is =
    let only = only_row m n ((name 0 2, n) ∷ (name 0 1, m) ∷ []) is in
    let first : ◌≡◌ {A = ℕ} 2 1 = ap (λ (told : List (Name × Mail)). (get_or told 0 (name 0 1, m)).0.counter) only in
    absurd (omega (arith, first))

-- of two messages that were received of a version the later one is not told first
later_row : (h : Header) (m n : Mail) → m ≢ n → ¬ IsHistory 5 (name 0 1) (got h 1 1 m ∷ got h 1 1 n ∷ []) ((name 1 1, n) ∷ [])
later_row h m n other is =
    let log : List Event = got h 1 1 m ∷ got h 1 1 n ∷ [] in
    let only = one_history 5 (name 0 1) log ((name 1 1, m) ∷ []) ((name 1 1, n) ∷ []) (found_from_none 5 (name 0 1) log) is in
    other (ap (λ (told : List (Name × Mail)). (get_or told 0 (name 1 1, m)).1) only)
