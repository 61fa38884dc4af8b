-- how the texts of conditions, clauses and filters are put together
use Rattle.std.proofs.Common.{◌≡◌, ℕ, ◌+◌, ◌<◌, List, [], ◌∷◌, ◌++◌, map, take, get_or, length, sym, ◌∙◌, ap, refl, append_assoc, append-nil, string_bytes, true, cond, arith}
use Rattle.mr_filter.proofs.Names.{All-head, All-tail, AllPass, AllZip, ClauseParts, Flag, HasFlag, HasLabel, IsClause, IsClauseText, LacksFlag, LacksLabel}
use Rattle.mr_filter.proofs.Names.{Since, Spells, SpellsCondition, all_flags, codes, filter, flag_name, flat_map, has_flag, is_label, join_or, map-append}
use Rattle.mr_filter.proofs.Names.{ne_eqb, since_condition, take_more, texts_of}
use Rattle.std.specs.declared.string.String.{String}
use Rattle.std.specs.declared.alloc.Global.{Global}
use Rattle.mr_filter.specs.inner.Text.{SpellsMore}
use Rattle.mr_filter.proofs.ZipLemmas.{AllZip-append}

-- a loop's step: one more text at the end
pub texts_of-push : {X : Type 0} (f : X → List ℕ) (before : List (List ℕ)) (items new : List (String Global)) (text : String Global) (xs : List X) (i : ℕ) (x d : X) → i < length xs → x ≡ get_or xs i d → string_bytes text ≡ f x → texts_of items ≡ before ++ map f (take i xs) → new ≡ items ++ text ∷ [] → texts_of new ≡ before ++ map f (take (i + 1) xs)
texts_of-push f before items new text xs i x d below at written so_far added =
    let last : map f (take (i + 1) xs) ≡ map f (take i xs) ++ f x ∷ [] =
    ap (map f) (take_more xs i d below) ∙ map-append f (take i xs) (get_or xs i d ∷ []) ∙ ap (λ y. map f (take i xs) ++ f y ∷ []) (sym at) in
    ap texts_of added ∙ map-append (λ t. string_bytes t) items (text ∷ [])
    ∙ ap (λ ts. ts ++ string_bytes text ∷ []) so_far
    ∙ ap (λ t. (before ++ map f (take i xs)) ++ t ∷ []) written
    ∙ append_assoc before (map f (take i xs)) (f x ∷ [])
    ∙ ap (λ ts. before ++ ts) (sym last)

-- the texts behind the first stand each behind a separator
pub join_or-cons : (none separator text : List ℕ) (more : List (List ℕ)) → join_or none separator (text ∷ more) ≡ text ++ flat_map (λ part. separator ++ part) more
join_or-cons none separator text [] = sym (append-nil text)
join_or-cons none separator text (next ∷ more) = grind (arith, join_or-cons none separator next more, append_assoc)

-- a loop's step: one more pair at the end
pub AllZip-push : {A B : Type 0} (R : A → B → Type 0) (xs : List A) (i : ℕ) (x : A) (ys new : List B) (y : B) → i < length xs → x ≡ get_or xs i x → AllZip R (take i xs) ys → R x y → new ≡ ys ++ y ∷ [] → AllZip R (take (i + 1) xs) new
AllZip-push R xs i x ys new y below at so_far pair added =
    rw (added, take_more xs i x below) (AllZip-append R (take i xs) (get_or xs i x ∷ []) ys (y ∷ []) so_far (rw (← at) (pair, tt)))

-- labels behind a prefix are the conditions on them
spelled_labels : (labels : List (List ℕ)) → AllPass is_label labels → AllZip SpellsCondition (map (λ label. codes "label:" ++ label) labels) (map HasLabel labels)
spelled_labels [] each = tt
spelled_labels (x ∷ labels) each =
    ((x, (All-head (λ l. is_label l ≡ true) x labels each, refl), refl), spelled_labels labels (All-tail (λ l. is_label l ≡ true) x labels each))

spelled_barred : (labels : List (List ℕ)) → AllPass is_label labels → AllZip SpellsCondition (map (λ label. codes "!label:" ++ label) labels) (map LacksLabel labels)
spelled_barred [] each = tt
spelled_barred (x ∷ labels) each =
    ((x, (All-head (λ l. is_label l ≡ true) x labels each, refl), refl), spelled_barred labels (All-tail (λ l. is_label l ≡ true) x labels each))

spelled_flags : (flags : List Flag) → AllZip SpellsCondition (map (λ flag. codes "flag:" ++ flag_name flag) flags) (map HasFlag flags)
spelled_flags [] = tt
spelled_flags (f ∷ flags) = ((flag_name f, refl, refl), spelled_flags flags)

spelled_off : (flags : List Flag) → AllZip SpellsCondition (map (λ flag. codes "!flag:" ++ flag_name flag) flags) (map LacksFlag flags)
spelled_off [] = tt
spelled_off (f ∷ flags) = ((flag_name f, refl, refl), spelled_off flags)

-- a day after the first one is spelled by its date
pub SpellsMore-since : (day : ℕ) (date : List ℕ) (items new : List (String Global)) (text : String Global) → 0 < day → Spells date day → string_bytes text ≡ codes "since:" ++ date → new ≡ items ++ text ∷ [] → SpellsMore (texts_of items) (texts_of new) (since_condition day)
SpellsMore-since day date items new text after spelled written added =
    let written_later : since_condition day ≡ Since day ∷ [] = ap (λ b. cond b [] (Since day ∷ [])) (ne_eqb day 0 (λ same. absurd (omega arith))) in
    rw written_later
    (string_bytes text ∷ [], ((date, spelled, written), tt), ap texts_of added ∙ map-append (λ t. string_bytes t) items (text ∷ []))

-- the texts of a clause's conditions, in the order in which they are written
pub IsClauseText-joined : (clause : ClauseParts) (a b c d e : List (List ℕ)) (text : List ℕ) → IsClause clause
    → a ≡ map (λ label. codes "label:" ++ label) clause.all_labels
    → b ≡ a ++ map (λ label. codes "!label:" ++ label) clause.no_labels
    → c ≡ b ++ map (λ flag. codes "flag:" ++ flag_name flag) (filter (has_flag clause.flags_on) all_flags)
    → d ≡ c ++ map (λ flag. codes "!flag:" ++ flag_name flag) (filter (has_flag clause.flags_off) all_flags)
    → SpellsMore d e (since_condition clause.since)
    → text ≡ join_or (codes "all") (codes " & ") e
    → IsClauseText clause text
IsClauseText-joined clause a b c d e text kept wanted barred on off since is = grind (arith, AllZip-append, spelled_labels, spelled_barred, spelled_flags, spelled_off)
