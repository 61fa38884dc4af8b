-- which mails are deleted
use Rattle.std.proofs.Common.{◌≡◌, ℕ, Bool, true, false, cond, List, [], ◌∷◌, ◌++◌, map, Option, Some, None, Ok, All, IsSome, refl, ap, sym, subst, ◌∙◌}
use Rattle.std.specs.Prelude.{IsTrue, not, ◌&&◌, ◌||◌}
use Rattle.std.specs.Cmp.{tied_itself}
use Rattle.std.specs.Cmp.Lexicographic.{nat_list_cmp_total}
use Rattle.std.specs.List.{AllByRecursion}
use Rattle.std.specs.Ordering.{is_eq}
use Rattle.std.proofs.lemmas.Bool.{and_left, false_from_ne_true, false≢true, not-true, or_parts}
use Rattle.std.proofs.lemmas.List.Concat.{flat_map-cons}
use Rattle.std.proofs.lemmas.List.Elements.{All-append, All-cons, All-from_recursion, All-map, All-nil, All-same, recursion_from_All}
use Rattle.mr_mail.specs.Flag.{has_flag}
use Rattle.mr_mail.specs.Label.{text_cmp}
use Rattle.mr_mail.specs.declared.flags.Flag.TheVariants.{Deleted}
use Rattle.mr_maildir.specs.Act.{standing}
use Rattle.mr_maildir.specs.View.{ViewParts, is_gone, is_nowhere}
use Rattle.mr_maildir.specs.declared.act.Act.{Act}
use Rattle.mr_maildir.specs.declared.act.Act.TheVariants.{Agree, Create, Edit, Delete, Follow, Remove}
use Rattle.mr_scan.specs.declared.inodes.Stored.{Stored}
use Rattle.mr_compare.specs.Compare.{act_for, told_for, merge_or, merged_act, if_any, due, due_acts, IsDeletion}
use Rattle.mr_compare.specs.Sides.{lacks_file, standing_of_held, standing_of_unheld, standings_by}
use Rattle.mr_compare.specs.Tally.{deletes}
use Rattle.mr_compare.specs.declared.compare.MailAct.{MailAct}
use Rattle.mr_compare.specs.declared.compare.Standing.{Standing}
use Rattle.mr_compare.specs.declared.sides.HeldMail.{HeldMail}
use Rattle.mr_compare.specs.declared.sides.Sides.{Sides}
use Rattle.mr_compare.proofs.BelievedLemmas.{where_deleted}
use Rattle.mr_fold.specs.inner.Deciding.{IsStoredIfDeleted}
use Rattle.mr_fold.specs.inner.Lacking.{is_stored, is_missing, AreMissing}

-- ---- a deletion that is told is one

merge_keeps : (is_due : Bool) (held : Option ViewParts) (act : Act) → deletes act ≡ false → deletes (merge_or is_due held act) ≡ false
merge_keeps is_due None act h = h
merge_keeps true (Some held) act h = refl
merge_keeps false (Some held) act h = h

told_deletes : (mail : Standing) (act : Act) → deletes (merged_act mail act) ≡ true → act ≡ Delete
told_deletes mail Agree h = absurd (false≢true (sym (merge_keeps mail.is_merge_due mail.held Agree refl) ∙ h))
told_deletes mail Create h = absurd (false≢true h)
told_deletes mail (Edit view) h = absurd (false≢true h)
told_deletes mail Delete h = refl
told_deletes mail Follow h = absurd (false≢true (sym (merge_keeps mail.is_merge_due mail.held Follow refl) ∙ h))
told_deletes mail Remove h = absurd (false≢true h)

deletion : (mail : Standing) → deletes (told_for mail) ≡ true → IsDeletion mail
deletion mail h = (where_deleted {E = ℕ} (Ok (act_for mail)) mail refl).0 (told_deletes mail (act_for mail) h)

-- ---- the mail of each is one of the store's, if so is each that was removed

-- if the mail was removed, it is one of the store's
abbrev IsStored : List Stored → Standing → Type 0
IsStored stored mail = IsDeletion mail → IsTrue (is_stored stored mail.digest)

any_stored : (stored : List Stored) (digest : List ℕ) (act : Act) → (deletes act ≡ true → IsTrue (is_stored stored digest)) → All (IsStoredIfDeleted stored) (if_any digest act)
any_stored stored digest Agree h = All-nil (IsStoredIfDeleted stored)
any_stored stored digest Create h = All-cons (IsStoredIfDeleted stored) (record { digest = digest; act = Create }) [] h (All-nil (IsStoredIfDeleted stored))
any_stored stored digest (Edit view) h = All-cons (IsStoredIfDeleted stored) (record { digest = digest; act = Edit view }) [] h (All-nil (IsStoredIfDeleted stored))
any_stored stored digest Delete h = All-cons (IsStoredIfDeleted stored) (record { digest = digest; act = Delete }) [] h (All-nil (IsStoredIfDeleted stored))
any_stored stored digest Follow h = All-cons (IsStoredIfDeleted stored) (record { digest = digest; act = Follow }) [] h (All-nil (IsStoredIfDeleted stored))
any_stored stored digest Remove h = All-cons (IsStoredIfDeleted stored) (record { digest = digest; act = Remove }) [] h (All-nil (IsStoredIfDeleted stored))

due_stored : (stored : List Stored) (mails : List Standing) → AllByRecursion (IsStored stored) mails → All (IsStoredIfDeleted stored) (due_acts mails)
due_stored stored [] h = All-nil (IsStoredIfDeleted stored)
due_stored stored (mail ∷ mails) h =
    All-same (IsStoredIfDeleted stored) (due_acts (mail ∷ mails)) (due mail ++ due_acts mails) (flat_map-cons due mail mails)
    (All-append (IsStoredIfDeleted stored) (due mail) (due_acts mails) (any_stored stored mail.digest (told_for mail) (λ d. h.0 (deletion mail d))) (due_stored stored mails h.1))

-- ---- each that was removed is one of the store's

not_gone : (view : ViewParts) → IsSome (standing (Some view)) → is_gone view ≡ false
not_gone view file =
    let here : is_nowhere view ≡ false = false_from_ne_true (is_nowhere view) (λ e. false≢true (subst (λ (c : Bool). IsSome (cond c None (Some view))) e file)) in
    and_left (is_nowhere view) (has_flag view.flags Deleted) here

stored_if : (a b c : Bool) → b ≡ false → c ≡ true → (not (a || b) && c) ≡ false → a ≡ true
stored_if true b c n t h = refl
stored_if false true c n t h = let wrong : true ≡ false = n in cc
stored_if false false true n t h = let wrong : true ≡ false = h in cc
stored_if false false false n t h = let wrong : false ≡ true = t in cc

-- of these mails, none of which lacks its file without being among all that do
held_stored : (stored : List Stored) (sides : Sides) (mails : List HeldMail) → ((digest : List ℕ) → lacks_file sides digest ≡ false → is_missing stored mails digest ≡ false)
    → AllByRecursion (λ (mail : HeldMail). IsStored stored (standing_of_held sides mail)) mails
held_stored stored sides [] none = tt
held_stored stored sides (mail ∷ mails) none = (
  λ is.
      let found = none mail.digest (not-true (lacks_file sides mail.digest) is.file) in
      stored_if (is_stored stored mail.digest) (is_gone mail.view) (is_eq (text_cmp mail.digest mail.digest)) (not_gone mail.view is.had_file)
      (ap is_eq (tied_itself nat_list_cmp_total mail.digest)) (or_parts _ (is_missing stored mails mail.digest) found).0,
  held_stored stored sides mails (λ digest here. (or_parts _ (is_missing stored mails digest) (none digest here)).1),
)

unheld_stored : (stored : List Stored) (sides : Sides) (digests : List (List ℕ)) → AllByRecursion (λ (digest : List ℕ). IsStored stored (standing_of_unheld sides digest)) digests
unheld_stored stored sides [] = tt
unheld_stored stored sides (digest ∷ digests) = (λ is. let wrong : false ≡ true = is.had_file in (cc), unheld_stored stored sides digests)

-- no act that is due deletes a mail whose file the store doesn't have
pub deletes_stored : (stored : List Stored) (sides : Sides) (mails : List HeldMail) (others : List (List ℕ)) (acts : List MailAct) → AreMissing stored mails sides
    → acts ≡ due_acts (standings_by sides mails others) → All (IsStoredIfDeleted stored) acts
deletes_stored stored sides mails others acts missing is =
    All-same (IsStoredIfDeleted stored) acts (due_acts (standings_by sides mails others)) is
    (due_stored stored (standings_by sides mails others) (recursion_from_All (IsStored stored) (standings_by sides mails others)
    (All-append (IsStored stored) (map (standing_of_held sides) mails) (map (standing_of_unheld sides) others)
    (All-map (IsStored stored) (standing_of_held sides) mails
    (All-from_recursion (λ (mail : HeldMail). IsStored stored (standing_of_held sides mail)) mails (held_stored stored sides mails (λ digest here. sym (missing digest) ∙ here))))
    (All-map (IsStored stored) (standing_of_unheld sides) others
    (All-from_recursion (λ (digest : List ℕ). IsStored stored (standing_of_unheld sides digest)) others (unheld_stored stored sides others))))))
