-- what is done for mails, mail by mail
use Rattle.std.proofs.Common.{◌≡◌, ℕ, ◌+◌, ◌<◌, Bool, true, false, cond, List, [], ◌∷◌, ◌++◌, map, take, length, get_or, Option, Some, None, All, refl, ap, sym, ◌∙◌, arith}
use Rattle.mr_compare.proofs.Names.{Act, Agree, AllByRecursion, Create, Delete, Edit, Follow, Remove, Standing, ViewParts, act_for, append-nil, append_assoc}
use Rattle.mr_compare.proofs.Names.{believed_acts, deletions, due, due_acts, flat_map-append, flat_map-cons, if_any, map-append, merge_or, merged_act}
use Rattle.mr_compare.proofs.Names.{recursion_from_All, sum_by-append, sum_by-cons, told_for}
use Rattle.mr_compare.proofs.ListLemmas.{take_one}
use Rattle.mr_compare.specs.declared.compare.MailAct.{MailAct}
use Rattle.mr_compare.specs.Tally.{deletes, count_of}

-- with one mail more
pub due-more : {X : Type 0} (f : X → Standing) (xs : List X) (i : ℕ) (x : X) (old acts new : List MailAct) → i < length xs → x ≡ get_or xs i x → acts ≡ old ++ due_acts (map f (take i xs)) → new ≡ acts ++ due (f x)
    → new ≡ old ++ due_acts (map f (take (i + 1) xs))
due-more f xs i x old acts new h e known put =
    let front = map f (take i xs) in
    let one_more = ap due_acts (ap (map f) (take_one xs i x h e) ∙ map-append f (take i xs) (x ∷ [])) ∙ flat_map-append due front (f x ∷ []) ∙ ap (λ more. due_acts front ++ more) (flat_map-cons due (f x) [] ∙ append-nil (due (f x))) in
    put ∙ ap (λ before. before ++ due (f x)) known ∙ append_assoc old (due_acts front) (due (f x)) ∙ sym (ap (λ acts. old ++ acts) one_more)

-- first for some mails, and then for others
pub due-both : (xs ys : List Standing) (none one two : List MailAct) → none ≡ [] → one ≡ none ++ due_acts xs → two ≡ one ++ due_acts ys → two ≡ due_acts (xs ++ ys)
due-both xs ys none one two empty first second = second ∙ ap (λ acts. acts ++ due_acts ys) (first ∙ ap (λ acts. acts ++ due_acts xs) empty) ∙ sym (flat_map-append due xs ys)

one : (digest : List ℕ) (act : Act) → count_of deletes (if_any digest act) ≡ cond (deletes act) 1 0
one digest Agree = refl
one digest Create = refl
one digest (Edit view) = refl
one digest Delete = refl
one digest Follow = refl
one digest Remove = refl

-- a merge deletes nothing
merge_deletes : (is_due : Bool) (held : Option ViewParts) (act : Act) → deletes act ≡ false → deletes (merge_or is_due held act) ≡ false
merge_deletes is_due None act h = h
merge_deletes true (Some held) act h = refl
merge_deletes false (Some held) act h = h

merged_deletes : (mail : Standing) (act : Act) → deletes (merged_act mail act) ≡ deletes act
merged_deletes mail Agree = merge_deletes mail.is_merge_due mail.held Agree refl
merged_deletes mail Create = refl
merged_deletes mail (Edit view) = refl
merged_deletes mail Delete = refl
merged_deletes mail Follow = merge_deletes mail.is_merge_due mail.held Follow refl
merged_deletes mail Remove = refl

-- as many acts delete as mails are deleted
pub counted : (mails : List Standing) → count_of deletes (due_acts mails) ≡ deletions mails
counted [] = refl
counted (x ∷ mails) =
    let here = one x.digest (told_for x) ∙ ap (λ (b : Bool). cond b 1 0) (merged_deletes x (act_for x)) in
    let more = counted mails in
    let both = ap (count_of deletes) (flat_map-cons due x mails) ∙ sum_by-append (λ (act : MailAct). cond (deletes act.act) 1 0) (due x) (due_acts mails) in
    let cons = sum_by-cons (λ (mail : Standing). cond (deletes (act_for mail)) 1 0) x mails in
    omega (arith, both, cons)

-- what was counted of all that is done
pub count_is : (mails : List Standing) (acts shown : List MailAct) (count : ℕ) → acts ≡ due_acts mails → shown ≡ acts → count ≡ count_of deletes shown → count ≡ deletions mails
count_is mails acts shown count known same is = is ∙ ap (count_of deletes) (same ∙ known) ∙ counted mails

-- ---- where no merge is due

pub unmerged_or : (is_due : Bool) (held : Option ViewParts) (act : Act) → is_due ≡ false → merge_or is_due held act ≡ act
unmerged_or is_due None act h = refl
unmerged_or is_due (Some held) act h = ap (λ (b : Bool). cond b (Edit held) act) h

unmerged_act : (mail : Standing) (act : Act) → mail.is_merge_due ≡ false → merged_act mail act ≡ act
unmerged_act mail Agree h = unmerged_or mail.is_merge_due mail.held Agree h
unmerged_act mail Create h = refl
unmerged_act mail (Edit view) h = refl
unmerged_act mail Delete h = refl
unmerged_act mail Follow h = unmerged_or mail.is_merge_due mail.held Follow h
unmerged_act mail Remove h = refl

unmerged_each : (mails : List Standing) → AllByRecursion (λ (mail : Standing). mail.is_merge_due ≡ false) mails → due_acts mails ≡ believed_acts mails
unmerged_each [] h = refl
unmerged_each (x ∷ mails) h =
    flat_map-cons due x mails
    ∙ ap (λ (act : Act). if_any x.digest act ++ due_acts mails) (unmerged_act x (act_for x) h.0)
    ∙ ap (λ (rest : List MailAct). if_any x.digest (act_for x) ++ rest) (unmerged_each mails h.1)
    ∙ sym (flat_map-cons (λ (mail : Standing). if_any mail.digest (act_for mail)) x mails)

-- nothing is merged where no merge is due
pub unmerged : (mails : List Standing) → All (λ (mail : Standing). mail.is_merge_due ≡ false) mails → due_acts mails ≡ believed_acts mails
unmerged mails h = unmerged_each mails (recursion_from_All (λ (mail : Standing). mail.is_merge_due ≡ false) mails h)
