-- what events tell of items, event by event
use Rattle.std.proofs.Common.{◌≡◌, ℕ, ◌+◌, ◌<◌, ◌≤◌, Bool, true, false, cond, List, [], ◌∷◌, ◌++◌, take, length, get_or, Option, Some, None, append_assoc, refl, ap, sym, subst, ◌∙◌, arith}
use Rattle.mr_lookup.proofs.Names.{Create, Edit, Event, HasFirstTold, IsVersion, Mail, Name, Notes, NotesOfItems, append-nil, first_told, fold, is_some}
use Rattle.mr_lookup.proofs.Names.{issued_with, message_at, name_cmp, name_eq, not, option_or, own_name, same_name, take_more, told_after, told_by, told_with}
use Rattle.mr_lookup.proofs.Names.{◌&&◌}
use Rattle.std.specs.Ordering.{is_eq}
use Rattle.std.proofs.lemmas.List.Sums.{fold-append}
use Rattle.mr_forms.proofs.SetLemmas.{name_eq-symmetric}

-- no event issues two versions
pub issued_one : (issued : ℕ) (e : Event) → issued_with issued e ≤ issued + 1
issued_one issued (Create message) = omega arith
issued_one issued (Edit bases message) = omega arith
issued_one issued _ = omega arith

-- one event more
pub taken_one : (es : List Event) (i : ℕ) (e : Event) → i < length es → e ≡ get_or es i e → take (i + 1) es ≡ take i es ++ e ∷ []
taken_one es i e h is = take_more es i e h ∙ ap (λ (x : Event). take i es ++ x ∷ []) (sym is)

pub issued-more : (es : List Event) (i : ℕ) (e : Event) (old new : ℕ) → i < length es → e ≡ get_or es i e → old ≡ fold issued_with 0 (take i es) → new ≡ issued_with old e → new ≡ fold issued_with 0 (take (i + 1) es)
issued-more es i e old new h is known more = more ∙ ap (λ n. issued_with n e) known ∙ sym (ap (fold issued_with 0) (taken_one es i e h is) ∙ fold-append issued_with 0 (take i es) (e ∷ []))

told_after-more : (id issued : ℕ) (es : List Event) (e : Event) → told_after id issued (es ++ e ∷ []) ≡ told_after id issued es ++ told_by id (fold issued_with issued es) e
told_after-more id issued [] e = append-nil (told_by id issued e)
told_after-more id issued (x ∷ es) e =
    ap (λ ps. told_by id issued x ++ ps) (told_after-more id (issued_with issued x) es e)
    ∙ sym (append_assoc (told_by id issued x) (told_after id (issued_with issued x) es) (told_by id (fold issued_with (issued_with issued x) es) e))

-- ---- the first message

or_if : (b : Bool) (m : Mail) (first more : Option Mail) → cond b (Some m) (option_or first more) ≡ option_or (cond b (Some m) first) more
or_if true m first more = refl
or_if false m first more = refl

pub message_at-append : (ps qs : List (Name × Mail)) (item : Name) → message_at (ps ++ qs) item ≡ option_or (message_at ps item) (message_at qs item)
message_at-append [] qs item = refl
message_at-append (p ∷ ps) qs item =
    ap (λ (o : Option Mail). cond (name_eq item p.0) (Some p.1) o) (message_at-append ps qs item) ∙ or_if (name_eq item p.0) p.1 (message_at ps item) (message_at qs item)

with_more : (wanted : Bool) (first more : Option Mail) → told_with more (cond wanted first None) wanted ≡ cond wanted (option_or first more) None
with_more true None None = refl
with_more true None (Some message) = refl
with_more true (Some first) None = refl
with_more true (Some first) (Some message) = refl
with_more false first None = refl
with_more false first (Some message) = refl

-- a table of what is told first, with one event more
pub told-more : (id : ℕ) (es : List Event) (i : ℕ) (e : Event) (issued : ℕ) (wanted : Name → Bool) (old new : List (Name × Mail)) → i < length es → e ≡ get_or es i e → issued ≡ fold issued_with 0 (take i es) →
    NotesOfItems (told_by id issued e) wanted old new → HasFirstTold id (take i es) wanted old → HasFirstTold id (take (i + 1) es) wanted new
told-more id es i e issued wanted old new h is count put known item is_version =
    put item is_version
    ∙ ap (λ o. told_with (message_at (told_by id issued e) item) o (wanted item)) (known item is_version)
    ∙ with_more (wanted item) (first_told id (take i es) item) (message_at (told_by id issued e) item)
    ∙ ap (λ o. cond (wanted item) o None) (sym (
    ap (λ xs. first_told id xs item) (taken_one es i e h is)
    ∙ ap (λ ps. message_at ps item) (told_after-more id 0 (take i es) e)
    ∙ message_at-append (told_after id 0 (take i es)) (told_by id (fold issued_with 0 (take i es)) e) item
    ∙ ap (λ n. option_or (first_told id (take i es) item) (message_at (told_by id n e) item)) (sym count)
    ))

-- ---- one message

-- a message is noted of an item that is wanted and has none
pub noted_first : (wanted : Name → Bool) (item : Name) (message copy : Mail) (old new : List (Name × Mail)) → (wanted item && not (is_some (message_at old item))) ≡ true → copy ≡ message →
    ((q : Name) → message_at new q ≡ cond (is_eq (name_cmp item q)) (Some copy) (message_at old q)) → Notes ((item, message) ∷ []) wanted old new
noted_first wanted item message copy old new is same put q =
    put q ∙ cases (name_eq item q) refl ∙ sym (ap (λ (b : Bool). told_with (cond b (Some message) None) (message_at old q) (wanted q)) (name_eq-symmetric q item))
  where
    here : (w : Bool) (o : Option Mail) → (w && not (is_some o)) ≡ true → Some copy ≡ told_with (Some message) o w
    here true None h = ap Some same
    here true (Some m) h = cc
    here false o h = cc

    cases : (b : Bool) → name_eq item q ≡ b → cond b (Some copy) (message_at old q) ≡ told_with (cond b (Some message) None) (message_at old q) (wanted q)
    cases true e = here (wanted q) (message_at old q) (subst (λ (v : Name). (wanted v && not (is_some (message_at old v))) ≡ true) (same_name item q e) is)
    cases false e = refl

-- and of one that isn't, or that has one, none is
pub unnoted : (wanted : Name → Bool) (item : Name) (message : Mail) (old : List (Name × Mail)) → (wanted item && not (is_some (message_at old item))) ≡ false → Notes ((item, message) ∷ []) wanted old old
unnoted wanted item message old is q =
    cases (name_eq item q) refl ∙ sym (ap (λ (b : Bool). told_with (cond b (Some message) None) (message_at old q) (wanted q)) (name_eq-symmetric q item))
  where
    here : (w : Bool) (o : Option Mail) → (w && not (is_some o)) ≡ false → o ≡ told_with (Some message) o w
    here true None h = cc
    here true (Some m) h = refl
    here false None h = refl
    here false (Some m) h = refl

    cases : (b : Bool) → name_eq item q ≡ b → message_at old q ≡ told_with (cond b (Some message) None) (message_at old q) (wanted q)
    cases true e = here (wanted q) (message_at old q) (subst (λ (v : Name). (wanted v && not (is_some (message_at old v))) ≡ false) (same_name item q e) is)
    cases false e = refl

-- no version has a name that is none
pub not_named : (id counter : ℕ) (message : Mail) (known : Option Mail) (wanted : Bool) → (IsVersion id counter → ⊥) → (item : Name) → IsVersion item.author item.counter →
    known ≡ told_with (message_at ((own_name id counter, message) ∷ []) item) known wanted
not_named id counter message known wanted none item is = cases (name_eq item (own_name id counter)) refl
  where
    cases : (b : Bool) → name_eq item (own_name id counter) ≡ b → known ≡ told_with (cond b (Some message) None) known wanted
    cases true e = absurd (none (subst (λ (v : Name). IsVersion v.author v.counter) (same_name item (own_name id counter) e) is))
    cases false e = refl
