-- a change that was seen is told, or waits, unless its mail is undecided
use Rattle.std.proofs.Common.{◌≡◌, ◌⊎◌, inl, inr, ℕ, suc, ◌+◌, ◌<◌, ◌≤◌, Bool, true, false, cond, List, [], ◌∷◌, ◌++◌, map, drop, length, get_or, add-one, Option, Some, None, All, refl, sym, ap, find, ◌∙◌}
use Rattle.mr_compare.proofs.Names.{Agree, All-from_recursion, AllByRecursion, Delete, Edit, IsHeeded, Standing, ViewParts, Waits, act_of, are_same, believed}
use Rattle.mr_compare.proofs.Names.{drop-cons, drop_all, first_undecided, has_news, if◌then◌else◌, is_doubted, is_undecided, keeps_folders, merge_or}
use Rattle.mr_compare.proofs.Names.{merged_act, not, option_map, told_for, view_eq-Decides, ◌&&◌, ◌||◌}
use Rattle.mr_compare.proofs.CompareLemmas.{unmerged_or}

same_is : (a b : Option ViewParts) → are_same a b ≡ true → b ≡ a
same_is None None h = refl
same_is None (Some b) h = cc
same_is (Some a) None h = cc
same_is (Some a) (Some b) h = ap Some (sym ((view_eq-Decides a b).0 h))

-- without news a mail of which nothing is told waits
waits : (mail : Standing) → has_news mail ≡ false → told_for mail ≡ merge_or mail.is_merge_due mail.held Agree → Waits mail
waits mail news told = go mail.is_merge_due (are_same mail.left mail.held) refl refl news
  where
    go : (due same : Bool) → mail.is_merge_due ≡ due → are_same mail.left mail.held ≡ same → (due || not same) ≡ false → Waits mail
    go true same d s h = cc
    go false false d s h = cc
    go false true d s h = record { undone = told ∙ unmerged_or mail.is_merge_due mail.held Agree d; as_left = same_is mail.left mail.held s }

edit_heeded : (mail : Standing) → is_undecided mail ≡ false → (view : ViewParts) → act_of mail.left mail.seen mail.held ≡ Edit view → (told_for mail ≡ Edit view) ⊎ Waits mail
edit_heeded mail decided view e =
    go (mail.is_certain || keeps_folders mail.held view) (ap (λ act. merged_act mail (believed mail act)) e) (ap (λ act. is_doubted mail act && has_news mail) (sym e) ∙ decided)
  where
    go : (sure : Bool) → told_for mail ≡ merged_act mail (if sure then Edit view else Agree) → (not sure && has_news mail) ≡ false → (told_for mail ≡ Edit view) ⊎ Waits mail
    go true told h = inl told
    go false told h = inr (waits mail h told)

removal_heeded : (mail : Standing) → is_undecided mail ≡ false → act_of mail.left mail.seen mail.held ≡ Delete → mail.has_file ≡ true → (told_for mail ≡ Delete) ⊎ Waits mail
removal_heeded mail decided e file =
    go mail.is_certain
    (ap (λ act. merged_act mail (believed mail act)) e ∙ ap (λ here. merged_act mail (if here && mail.is_certain then Delete else Agree)) file)
    (ap (λ here. here && not mail.is_certain && has_news mail) (sym file) ∙ ap (λ act. is_doubted mail act && has_news mail) (sym e) ∙ decided)
  where
    go : (sure : Bool) → told_for mail ≡ merged_act mail (if sure then Delete else Agree) → (not sure && has_news mail) ≡ false → (told_for mail ≡ Delete) ⊎ Waits mail
    go true told h = inl told
    go false told h = inr (waits mail h told)

heeded : (mail : Standing) → is_undecided mail ≡ false → IsHeeded mail
heeded mail decided = record { edit = edit_heeded mail decided; removal = removal_heeded mail decided }

each_heeded : (mails : List Standing) → first_undecided mails ≡ None → AllByRecursion IsHeeded mails
each_heeded [] h = tt
each_heeded (mail ∷ mails) h = go (λ none. each_heeded mails none) (is_undecided mail) refl h
  where
    go : (first_undecided mails ≡ None → AllByRecursion IsHeeded mails) → (found : Bool) → is_undecided mail ≡ found → option_map (λ (m : Standing). m.digest) (cond found (Some mail) (find is_undecided mails)) ≡ None → AllByRecursion IsHeeded (mail ∷ mails)
    go more true is none = cc
    go more false is none = (heeded mail is, more none)

-- where none was found each is heeded
pub all_heeded : (mails : List Standing) → first_undecided mails ≡ None → All IsHeeded mails
all_heeded mails none = All-from_recursion IsHeeded mails (each_heeded mails none)

-- ---- the first one in a walk over what stands for mails

-- the rest begins with this one
rest_at : {X : Type 0} (xs : List X) (i : ℕ) (x : X) → i < length xs → x ≡ get_or xs i x → drop i xs ≡ x ∷ drop (i + 1) xs
rest_at xs i x h e = drop-cons xs i x h ∙ ap (λ y. y ∷ drop (suc i) xs) (sym e) ∙ ap (λ n. x ∷ drop n xs) (sym (add-one i))

first_at : {X : Type 0} (f : X → Standing) (xs : List X) (i : ℕ) (x : X) (found : Bool) → i < length xs → x ≡ get_or xs i x → is_undecided (f x) ≡ found
    → first_undecided (map f (drop i xs)) ≡ option_map (λ (mail : Standing). mail.digest) (cond found (Some (f x)) (find is_undecided (map f (drop (i + 1) xs))))
first_at f xs i x found h e is =
    ap (λ rest. first_undecided (map f rest)) (rest_at xs i x h e) ∙ ap (λ (b : Bool). option_map (λ (mail : Standing). mail.digest) (cond b (Some (f x)) (find is_undecided (map f (drop (i + 1) xs))))) is

-- it isn't this one
pub passed : {X : Type 0} (f : X → Standing) (xs : List X) (i : ℕ) (x : X) (found : Bool) → i < length xs → x ≡ get_or xs i x → found ≡ is_undecided (f x) → found ≡ false
    → first_undecided (map f xs) ≡ first_undecided (map f (drop i xs)) → first_undecided (map f xs) ≡ first_undecided (map f (drop (i + 1) xs))
passed f xs i x found h e is other known = known ∙ first_at f xs i x false h e (sym is ∙ other)

-- the first one of some mails is that of them and others
pub first_of_both : (xs ys : List Standing) (digest : List ℕ) → Some digest ≡ first_undecided xs → Some digest ≡ first_undecided (xs ++ ys)
first_of_both [] ys digest h = cc
first_of_both (x ∷ xs) ys digest h = go (λ is. first_of_both xs ys digest is) (is_undecided x) h
  where
    go : (Some digest ≡ first_undecided xs → Some digest ≡ first_undecided (xs ++ ys)) → (found : Bool) → Some digest ≡ option_map (λ (m : Standing). m.digest) (cond found (Some x) (find is_undecided xs))
        → Some digest ≡ option_map (λ (m : Standing). m.digest) (cond found (Some x) (find is_undecided (xs ++ ys)))
    go more true is = is
    go more false is = more is

-- where none of some mails is one, the first one is that of the others
pub first_of_others : (xs ys : List Standing) → None ≡ first_undecided xs → first_undecided (xs ++ ys) ≡ first_undecided ys
first_of_others [] ys h = refl
first_of_others (x ∷ xs) ys h = go (λ is. first_of_others xs ys is) (is_undecided x) h
  where
    go : (None ≡ first_undecided xs → first_undecided (xs ++ ys) ≡ first_undecided ys) → (found : Bool) → None ≡ option_map (λ (m : Standing). m.digest) (cond found (Some x) (find is_undecided xs))
        → option_map (λ (m : Standing). m.digest) (cond found (Some x) (find is_undecided (xs ++ ys))) ≡ first_undecided ys
    go more true is = let wrong : None ≡ Some x.digest = is in cc
    go more false is = more is
