-- what is done for a mail, case by case
use Rattle.std.proofs.Common.{◌≡◌, inl, inr, Bool, true, false, cond, not, ◌&&◌, ◌||◌, List, [], ◌∷◌, Option, Some, None, refl, sym, ◌∙◌, ap, subst}
use Rattle.std.specs.Prelude.{nat_lt, length}
use Rattle.std.proofs.lemmas.Bool.{false≢true, and_parts}
use Rattle.mr_version.specs.Name.{Name}
use Rattle.mr_mail.specs.Label.{has_label}
use Rattle.mr_mail.specs.declared.label.TheConstants.{MAX_LABELS}
use Rattle.mr_joins.specs.View.{ViewParts, view_eq, is_nowhere}
use Rattle.mr_joins.specs.Edited.{edited, deleted, has_room}
use Rattle.mr_decide.specs.Changing.{wanted, keeps_folders}
use Rattle.mr_decide.specs.Held.{together, shown, is_one_due}
use Rattle.mr_decide.specs.Deciding.{standing, is_left, files_to, follow, unchanged, changed, act_on_unseen, act_on_seen, act_by, together_of, act_on_unheld_seen, act_of}
use Rattle.mr_decide.specs.inner.Deciding.{Shows}
use Rattle.mr_decide.proofs.ChangingLemmas.{taken_was_left}
use Rattle.mr_decide.specs.Told.{IfJoin, IfChange, IfWait, IfCreate, IsHeeded, IsJoin, IsChange, has_news, WasChanged, WasRemoved}
use Rattle.mr_decide.specs.declared.deciding.Together.{Together}
use Rattle.mr_decide.specs.declared.held.HeldItem.{HeldItem}
use Rattle.mr_decide.specs.declared.mail_act.Seen.{Seen}
use Rattle.mr_decide.specs.declared.mail_act.Files.{Files}
use Rattle.mr_decide.specs.declared.mail_act.Files.TheVariants as files
use Rattle.mr_decide.specs.declared.mail_act.TooMuch.{TooMuch}
use Rattle.mr_decide.specs.declared.mail_act.TooMuch.TheVariants as too_much
use Rattle.mr_decide.specs.declared.mail_act.MailAct.{MailAct}
use Rattle.mr_decide.specs.declared.mail_act.MailAct.TheVariants as act

-- what holds in both branches
branch : (Q : MailAct → Type 0) (b : Bool) (x y : MailAct) → (b ≡ true → Q x) → (b ≡ false → Q y) → Q (cond b x y)
branch Q true x y f g = f refl
branch Q false x y f g = g refl

not_false : (b : Bool) → not b ≡ true → b ≡ false
not_false true h = absurd (false≢true h)
not_false false h = refl

not_true : (b : Bool) → not b ≡ false → b ≡ true
not_true true h = refl
not_true false h = absurd (false≢true (sym h))

or_none : (a b : Bool) → (a || b) ≡ false → (a ≡ false) × (b ≡ false)
or_none true b h = absurd (false≢true (sym h))
or_none false b h = (refl, h)

module _ (Q : MailAct → Type 0) where
  follow_case : (fs : Files) → Q act.Nothing → ((fs : Files) → Q (act.Files fs)) → Q (follow fs)
  follow_case files.Stay nothing rest = nothing
  follow_case (files.Follow view) nothing rest = rest (files.Follow view)
  follow_case files.Remove nothing rest = rest files.Remove

  unchanged_case : (mail : Together) (view : Option ViewParts) (seen : Seen) → (mail.is_due ≡ true → seen.has_file ≡ true → (fs : Files) → Q (act.Join mail.value fs)) → Q act.Nothing → ((fs : Files) → Q (act.Files fs)) → Q (unchanged mail view seen)
  unchanged_case mail view seen join nothing rest =
      branch Q (mail.is_due && seen.has_file) (act.Join mail.value (files_to mail.shown view seen.has_file)) (follow (files_to mail.shown view seen.has_file))
      (λ h. let parts = and_parts mail.is_due seen.has_file h in join parts.0 parts.1 (files_to mail.shown view seen.has_file))
      (λ h. follow_case (files_to mail.shown view seen.has_file) nothing rest)

  unseen_case : (mail : Together) (left : Option ViewParts) (seen : Seen) → Q (unchanged mail None seen) → Q act.Nothing →
      (is_left left mail.shown ≡ true → is_nowhere mail.shown ≡ false → seen.has_file ≡ true → seen.is_certain ≡ false → Q (act.Wait mail.is_due)) →
      (is_left left mail.shown ≡ true → is_nowhere mail.shown ≡ false → seen.has_file ≡ true → seen.is_certain ≡ true → Q (act.Change (deleted mail.value) files.Stay)) → Q (act_on_unseen mail left seen)
  unseen_case mail left seen same nothing wait change =
      branch Q (is_nowhere mail.shown || not (is_left left mail.shown)) (unchanged mail None seen) (cond (not seen.has_file) act.Nothing (cond (not seen.is_certain) (act.Wait mail.is_due) (act.Change (deleted mail.value) files.Stay)))
      (λ _. same)
      (λ h.
      let no = or_none (is_nowhere mail.shown) (not (is_left left mail.shown)) h in
      let was : is_left left mail.shown ≡ true = not_true (is_left left mail.shown) no.1 in
      branch Q (not seen.has_file) act.Nothing (cond (not seen.is_certain) (act.Wait mail.is_due) (act.Change (deleted mail.value) files.Stay))
      (λ _. nothing)
      (λ f.
      branch Q (not seen.is_certain) (act.Wait mail.is_due) (act.Change (deleted mail.value) files.Stay)
      (λ s. wait was no.0 (not_true seen.has_file f) (not_false seen.is_certain s))
      (λ s. change was no.0 (not_true seen.has_file f) (not_true seen.is_certain s))))

  changed_case : (mail : Together) (view w : ViewParts) → ((r : TooMuch) → Q (act.Refuse r)) → Q (act.Change (edited mail.value mail.first w.labels w.flags) (files_to w (Some view) true)) → Q (changed mail view w)
  changed_case mail view w refuse told =
      branch Q (nat_lt MAX_LABELS (length w.labels)) (act.Refuse too_much.Folders) (cond (not (has_room mail.value)) (act.Refuse too_much.Toggles) (act.Change (edited mail.value mail.first w.labels w.flags) (files_to w (Some view) true)))
      (λ _. refuse too_much.Folders)
      (λ _. branch Q (not (has_room mail.value)) (act.Refuse too_much.Toggles) (act.Change (edited mail.value mail.first w.labels w.flags) (files_to w (Some view) true)) (λ _. refuse too_much.Toggles) (λ _. told))

  seen_case : (mail : Together) (left : Option ViewParts) (seen : Seen) (view : ViewParts) → Q (unchanged mail (Some view) seen) →
      (seen.is_certain ≡ false → Q (act.Wait (mail.is_due || not (is_left left mail.shown)))) →
      (is_left left view ≡ false → view_eq view mail.shown ≡ false → (seen.is_certain ≡ false → keeps_folders (wanted mail.shown left view) mail.shown ≡ true) → Q (changed mail view (wanted mail.shown left view))) → Q (act_on_seen mail left seen view)
  seen_case mail left seen view same wait change =
      branch Q (view_eq view mail.shown || is_left left view) (unchanged mail (Some view) seen) rest
      (λ _. same)
      (λ h.
      let no = or_none (view_eq view mail.shown) (is_left left view) h in
      branch Q (view_eq w mail.shown) (unchanged mail (Some view) seen) later
      (λ _. same)
      (λ _.
      branch Q (not seen.is_certain && not (keeps_folders w mail.shown)) (act.Wait (mail.is_due || not (is_left left mail.shown))) (changed mail view w)
      (λ u. wait (not_false seen.is_certain (and_parts (not seen.is_certain) (not (keeps_folders w mail.shown)) u).0))
      (λ u. change no.1 no.0 (kept seen.is_certain (keeps_folders w mail.shown) u))))
    where
      w : ViewParts
      w = wanted mail.shown left view

      later : MailAct
      later = cond (not seen.is_certain && not (keeps_folders (wanted mail.shown left view) mail.shown)) (act.Wait (mail.is_due || not (is_left left mail.shown))) (changed mail view (wanted mail.shown left view))

      rest : MailAct
      rest = cond (view_eq (wanted mail.shown left view) mail.shown) (unchanged mail (Some view) seen) (cond (not seen.is_certain && not (keeps_folders (wanted mail.shown left view) mail.shown)) (act.Wait (mail.is_due || not (is_left left mail.shown))) (changed mail view (wanted mail.shown left view)))

      kept : (s k : Bool) → (not s && not k) ≡ false → s ≡ false → k ≡ true
      kept s true h c = refl
      kept true false h c = absurd (false≢true (sym c))
      kept false false h c = absurd (false≢true (sym h))

-- ---- heads are joined only where that is due and the file is here

by_view_join : (items : List HeldItem) (first : Name) (left : Option ViewParts) (seen : Seen) (view : Option ViewParts) → IfJoin (act_by (together_of items first) left seen view) (IsJoin items seen)
by_view_join items first left seen None =
    unseen_case (λ a. IfJoin a (IsJoin items seen)) (together_of items first) left seen
    (unchanged_case (λ a. IfJoin a (IsJoin items seen)) (together_of items first) None seen (λ d f fs. record { value_is = refl; due = d; file = f }) tt (λ fs. tt))
    tt (λ a b c d. tt) (λ a b c d. tt)
by_view_join items first left seen (Some view) =
    seen_case (λ a. IfJoin a (IsJoin items seen)) (together_of items first) left seen view
    (unchanged_case (λ a. IfJoin a (IsJoin items seen)) (together_of items first) (Some view) seen (λ d f fs. record { value_is = refl; due = d; file = f }) tt (λ fs. tt))
    (λ c. tt) (λ a b c. changed_case (λ a. IfJoin a (IsJoin items seen)) (together_of items first) view (wanted (shown items) left view) (λ r. tt) tt)

unheld_case : (Q : MailAct → Type 0) (left : Option ViewParts) (seen : Seen) (view : Option ViewParts) → Q act.Nothing → Q (act.Files files.Remove) → ((v : ViewParts) → view ≡ Some v → seen.is_own ≡ false → is_left left v ≡ false → Q (act.Create v)) → Q (act_on_unheld_seen left seen view)
unheld_case Q left seen None nothing remove create = nothing
unheld_case Q left seen (Some v) nothing remove create =
    branch Q (seen.is_own || is_left left v) (act.Files files.Remove) (act.Create v)
    (λ _. remove)
    (λ h. let no = or_none seen.is_own (is_left left v) h in create v refl no.0 no.1)

pub joins : (items : List HeldItem) (left : Option ViewParts) (seen : Seen) → IfJoin (act_of items left seen) (IsJoin items seen)
joins [] left seen = unheld_case (λ a. IfJoin a (IsJoin [] seen)) left seen (standing seen.view) tt tt (λ v e o l. tt)
joins (first ∷ items) left seen = by_view_join (first ∷ items) first.item left seen (standing seen.view)

-- ---- what waits isn't certain

waits_by : (items : List HeldItem) (first : Name) (left : Option ViewParts) (seen : Seen) (view : Option ViewParts) → IfWait (act_by (together_of items first) left seen view) (λ news. (seen.is_certain ≡ false) × (news ≡ has_news items left))
waits_by items first left seen None =
    unseen_case (λ a. IfWait a (λ news. (seen.is_certain ≡ false) × (news ≡ has_news items left))) (together_of items first) left seen
    (unchanged_case (λ a. IfWait a (λ news. (seen.is_certain ≡ false) × (news ≡ has_news items left))) (together_of items first) None seen (λ d f fs. tt) tt (λ fs. tt))
    tt (λ was stood f s. (s, as_left was)) (λ a b c d. tt)
  where
    or_false : (b : Bool) → b ≡ (b || false)
    or_false true = refl
    or_false false = refl

    as_left : is_left left (shown items) ≡ true → is_one_due items (shown items) ≡ has_news items left
    as_left was = or_false (is_one_due items (shown items)) ∙ ap (λ (b : Bool). is_one_due items (shown items) || not b) (sym was)
waits_by items first left seen (Some view) =
    seen_case (λ a. IfWait a (λ news. (seen.is_certain ≡ false) × (news ≡ has_news items left))) (together_of items first) left seen view
    (unchanged_case (λ a. IfWait a (λ news. (seen.is_certain ≡ false) × (news ≡ has_news items left))) (together_of items first) (Some view) seen (λ d f fs. tt) tt (λ fs. tt))
    (λ s. (s, refl)) (λ a b c. changed_case (λ a. IfWait a (λ news. (seen.is_certain ≡ false) × (news ≡ has_news items left))) (together_of items first) view (wanted (shown items) left view) (λ r. tt) tt)

pub waits : (items : List HeldItem) (left : Option ViewParts) (seen : Seen) → IfWait (act_of items left seen) (λ news. (seen.is_certain ≡ false) × (news ≡ has_news items left))
waits [] left seen = unheld_case (λ a. IfWait a (λ news. (seen.is_certain ≡ false) × (news ≡ has_news [] left))) left seen (standing seen.view) tt tt (λ v e o l. tt)
waits (first ∷ items) left seen = waits_by (first ∷ items) first.item left seen (standing seen.view)

-- ---- what is new is seen, isn't held, wasn't left, and isn't the program's own

creates_by : (items : List HeldItem) (first : Name) (left : Option ViewParts) (seen : Seen) (view : Option ViewParts) (P : ViewParts → Type 0) → IfCreate (act_by (together_of items first) left seen view) P
creates_by items first left seen None P =
    unseen_case (λ a. IfCreate a P) (together_of items first) left seen
    (unchanged_case (λ a. IfCreate a P) (together_of items first) None seen (λ d f fs. tt) tt (λ fs. tt))
    tt (λ a b c d. tt) (λ a b c d. tt)
creates_by items first left seen (Some view) P =
    seen_case (λ a. IfCreate a P) (together_of items first) left seen view
    (unchanged_case (λ a. IfCreate a P) (together_of items first) (Some view) seen (λ d f fs. tt) tt (λ fs. tt))
    (λ c. tt) (λ a b c. changed_case (λ a. IfCreate a P) (together_of items first) view (wanted (shown items) left view) (λ r. tt) tt)

pub creates : (items : List HeldItem) (left : Option ViewParts) (seen : Seen) → IfCreate (act_of items left seen) (λ view. (items ≡ []) × (standing seen.view ≡ Some view) × (is_left left view ≡ false) × (seen.is_own ≡ false))
creates [] left seen =
    unheld_case (λ a. IfCreate a (λ view. ◌≡◌ {A = List HeldItem} [] [] × (standing seen.view ≡ Some view) × (is_left left view ≡ false) × (seen.is_own ≡ false))) left seen (standing seen.view) tt tt
    (λ v e o l. (refl, e, l, o))
creates (first ∷ items) left seen = creates_by (first ∷ items) first.item left seen (standing seen.view) (λ view. (first ∷ items ≡ []) × (standing seen.view ≡ Some view) × (is_left left view ≡ false) × (seen.is_own ≡ false))

-- ---- no change is lost

or_both : (a b : Bool) → a ≡ false → b ≡ false → (a || b) ≡ false
or_both true b h i = h
or_both false b h i = i

heeds_change : (items : List HeldItem) (first : Name) (left : Option ViewParts) (seen : Seen) (view : ViewParts) → is_left left view ≡ false → view_eq view (shown items) ≡ false → view_eq (wanted (shown items) left view) (shown items) ≡ false →
    IsHeeded (act_on_seen (together_of items first) left seen view)
heeds_change items first left seen view otherwise not_shown wants =
    subst IsHeeded (sym (λ i. cond (or_both (view_eq view (shown items)) (is_left left view) not_shown otherwise i) (unchanged (together_of items first) (Some view) seen) (cond (wants i) (unchanged (together_of items first) (Some view) seen) later)))
    (branch IsHeeded (not seen.is_certain && not (keeps_folders (wanted (shown items) left view) (shown items))) (act.Wait (is_one_due items (shown items) || not (is_left left (shown items)))) (changed (together_of items first) view (wanted (shown items) left view)) (λ _. tt) (λ _. changed_case IsHeeded (together_of items first) view (wanted (shown items) left view) (λ r. tt) tt))
  where
    later : MailAct
    later = cond (not seen.is_certain && not (keeps_folders (wanted (shown items) left view) (shown items))) (act.Wait (is_one_due items (shown items) || not (is_left left (shown items)))) (changed (together_of items first) view (wanted (shown items) left view))

pub heeded : (items : List HeldItem) (left : Option ViewParts) (seen : Seen) (first : HeldItem) (more : List HeldItem) (view : ViewParts) → items ≡ first ∷ more → WasChanged items left seen view → IsHeeded (act_of items left seen)
heeded [] left seen first more view some was = absurd (cc)
heeded (own ∷ items) left seen first more view some was =
    subst (λ (v : Option ViewParts). IsHeeded (act_by (together_of (own ∷ items) own.item) left seen v)) (sym was.seen_so)
    (heeds_change (own ∷ items) own.item left seen view was.otherwise was.not_shown was.wants)

heeds_removal : (items : List HeldItem) (first : Name) (left : Option ViewParts) (seen : Seen) → is_left left (shown items) ≡ true → is_nowhere (shown items) ≡ false → seen.has_file ≡ true → IsHeeded (act_on_unseen (together_of items first) left seen)
heeds_removal items first left seen was stood file =
    subst IsHeeded (sym (λ i. cond (or_both (is_nowhere (shown items)) (not (is_left left (shown items))) stood (ap not was) i) (unchanged (together_of items first) None seen) (cond (not (file i)) act.Nothing later)))
    (branch IsHeeded (not seen.is_certain) (act.Wait (is_one_due items (shown items))) (act.Change (deleted (together items)) files.Stay) (λ _. tt) (λ _. tt))
  where
    later : MailAct
    later = cond (not seen.is_certain) (act.Wait (is_one_due items (shown items))) (act.Change (deleted (together items)) files.Stay)

pub removal_heeded : (items : List HeldItem) (left : Option ViewParts) (seen : Seen) (first : HeldItem) (more : List HeldItem) → items ≡ first ∷ more → WasRemoved items left seen → IsHeeded (act_of items left seen)
removal_heeded [] left seen first more some was = absurd (cc)
removal_heeded (own ∷ items) left seen first more some was =
    subst (λ (v : Option ViewParts). IsHeeded (act_by (together_of (own ∷ items) own.item) left seen v)) (sym was.unseen)
    (heeds_removal (own ∷ items) own.item left seen was.as_left was.stood was.file)

-- ---- what is told as a change

change_by : (items : List HeldItem) (first : Name) (left : Option ViewParts) (seen : Seen) (view : Option ViewParts) → standing seen.view ≡ view → IfChange (act_by (together_of items first) left seen view) (Shows items left seen) →
    IfChange (act_by (together_of items first) left seen view) (IsChange items left seen)
change_by items first left seen None is shows =
    unseen_case (λ a. IfChange a (IsChange items left seen)) (together_of items first) left seen
    (unchanged_case (λ a. IfChange a (IsChange items left seen)) (together_of items first) None seen (λ d f fs. tt) tt (λ fs. tt))
    tt (λ a b c d. tt) (λ was stood file certain. inl (record { value_is = refl; unseen = is; file = file; certain = certain; as_left = was; stood = stood }))
change_by items first left seen (Some view) is shows =
    seen_case (λ a. IfChange a (Shows items left seen) → IfChange a (IsChange items left seen)) (together_of items first) left seen view
    (unchanged_case (λ a. IfChange a (Shows items left seen) → IfChange a (IsChange items left seen)) (together_of items first) (Some view) seen (λ d f fs s. tt) (λ s. tt) (λ fs s. tt))
    (λ c s. tt)
    (λ otherwise not_shown kept. changed_case (λ a. IfChange a (Shows items left seen) → IfChange a (IsChange items left seen)) (together_of items first) view (wanted (shown items) left view) (λ r s. tt)
    (λ s. inr (view, record { seen_so = is; otherwise = otherwise; shows = s view is; taken = λ label there gone. taken_was_left (shown items) left view label there (sym (ap (λ (v : ViewParts). has_label v.labels label) (s view is)) ∙ gone); folders = kept })))
    shows

pub changes : (items : List HeldItem) (left : Option ViewParts) (seen : Seen) → IfChange (act_of items left seen) (Shows items left seen) → IfChange (act_of items left seen) (IsChange items left seen)
changes [] left seen shows = unheld_case (λ a. IfChange a (IsChange [] left seen)) left seen (standing seen.view) tt tt (λ v e o l. tt)
changes (first ∷ items) left seen shows = change_by (first ∷ items) first.item left seen (standing seen.view) refl shows
