-- which acts are believed
use Rattle.std.proofs.Common.{◌≡◌, ◌≢◌, ◌↔◌, Bool, true, false, Option, Some, None, IsSome, Result, IfOk, refl, sym, ap, subst, ◌∙◌}
use Rattle.mr_compare.proofs.Names.{Act, Agree, Create, Delete, Edit, Follow, IfOk-weaker, IsDeletion, IsTrue, Remove, Standing, ViewParts, act_for, act_of}
use Rattle.mr_compare.proofs.Names.{act_of_standing, act_on_unseen, believed, believed_edit, if◌then◌else◌, is_left, keeps_folders, standing, ◌&&◌, ◌||◌}
use Rattle.mr_maildir.proofs.ActLemmas.{deletes_exactly, creates_exactly, undeleted}

either : (b : Bool) (P : Act → Type 0) (x y : Act) → P x → P y → P (if b then x else y)
either true P x y one other = one
either false P x y one other = other

-- ---- deletions

if_both : (a b : Bool) → ((if a && b then Delete else Agree) ≡ Delete) ↔ ((Delete ≡ Delete) × (a ≡ true) × (b ≡ true))
if_both true true = (λ _. (refl, refl, refl), λ _. refl)
if_both true false = (λ e. cc, λ h. let wrong : false ≡ true = h.2 in cc)
if_both false b = (λ e. cc, λ h. let wrong : false ≡ true = h.1 in cc)

believed-deletes : (mail : Standing) (act : Act) → (believed mail act ≡ Delete) ↔ ((act ≡ Delete) × (mail.has_file ≡ true) × (mail.is_certain ≡ true))
believed-deletes mail Agree = (λ e. cc, λ h. let wrong : Agree ≡ Delete = h.0 in cc)
believed-deletes mail Create =
    (λ e. absurd (either mail.is_own (λ act. act ≢ Delete) Remove Create (λ w. cc) (λ w. cc) e), λ h. let wrong : Create ≡ Delete = h.0 in cc)
believed-deletes mail (Edit view) =
    (λ e. absurd (either (mail.is_certain || keeps_folders mail.held view) (λ act. act ≢ Delete) (Edit view) Agree (λ w. cc) (λ w. cc) e), λ h. let wrong : Edit view ≡ Delete = h.0 in cc)
believed-deletes mail Delete = if_both mail.has_file mail.is_certain
believed-deletes mail Follow =
    (λ e. absurd (either mail.has_file (λ act. act ≢ Delete) Follow Agree (λ w. cc) (λ w. cc) e), λ h. let wrong : Follow ≡ Delete = h.0 in cc)
believed-deletes mail Remove = (λ e. cc, λ h. let wrong : Remove ≡ Delete = h.0 in cc)

-- a mail is deleted exactly where it was removed here
deleted : (mail : Standing) → (act_for mail ≡ Delete) ↔ IsDeletion mail
deleted mail =
    let first = believed-deletes mail (act_of mail.left mail.seen mail.held) in
    let second = deletes_exactly mail.left mail.seen mail.held in (
      λ e.
          let b = first.0 e in
          let d = second.0 b.0 in
          record { file = b.1; certain = b.2; unseen = d.0; as_left = d.1; had_file = d.2 },
      λ h. first.1 (second.1 (h.unseen, h.as_left, h.had_file), h.file, h.certain),
    )

-- ---- new mails

if_own : (own : Bool) → ((if own then Remove else Create) ≡ Create) ↔ ((Create ≡ Create) × (own ≡ false))
if_own true = (λ e. cc, λ h. let wrong : true ≡ false = h.1 in cc)
if_own false = (λ _. (refl, refl), λ _. refl)

believed-creates : (mail : Standing) (act : Act) → (believed mail act ≡ Create) ↔ ((act ≡ Create) × (mail.is_own ≡ false))
believed-creates mail Agree = (λ e. cc, λ h. let wrong : Agree ≡ Create = h.0 in cc)
believed-creates mail Create = if_own mail.is_own
believed-creates mail (Edit view) =
    (λ e. absurd (either (mail.is_certain || keeps_folders mail.held view) (λ act. act ≢ Create) (Edit view) Agree (λ w. cc) (λ w. cc) e), λ h. let wrong : Edit view ≡ Create = h.0 in cc)
believed-creates mail Delete =
    (λ e. absurd (either (mail.has_file && mail.is_certain) (λ act. act ≢ Create) Delete Agree (λ w. cc) (λ w. cc) e), λ h. let wrong : Delete ≡ Create = h.0 in cc)
believed-creates mail Follow =
    (λ e. absurd (either mail.has_file (λ act. act ≢ Create) Follow Agree (λ w. cc) (λ w. cc) e), λ h. let wrong : Follow ≡ Create = h.0 in cc)
believed-creates mail Remove = (λ e. cc, λ h. let wrong : Remove ≡ Create = h.0 in cc)

created : (mail : Standing) → (act_for mail ≡ Create) ↔ (IsSome (standing mail.seen) × (standing mail.left ≡ None) × (mail.held ≡ None) × (mail.is_own ≡ false))
created mail =
    let first = believed-creates mail (act_of mail.left mail.seen mail.held) in
    let second = creates_exactly mail.left mail.seen mail.held in (
      λ e.
          let b = first.0 e in
          let d = second.0 b.0 in
          (d.0, d.1, d.2, b.1),
      λ h. first.1 (second.1 (h.0, h.1, h.2), h.3),
    )

-- ---- edits

edit-keeps : (mail : Standing) (v view : ViewParts) → believed_edit mail v ≡ Edit view → mail.is_certain ≡ false → IsTrue (keeps_folders mail.held view)
edit-keeps mail v view e uncertain = go mail.is_certain (keeps_folders mail.held v) refl e uncertain
  where
    go : (a k : Bool) → keeps_folders mail.held v ≡ k → (if a || k then Edit v else Agree) ≡ Edit view → a ≡ false → IsTrue (keeps_folders mail.held view)
    go true k q w f = let wrong : true ≡ false = f in cc
    go false true q w f = let same : v ≡ view = cc in subst (λ (x : ViewParts). keeps_folders mail.held x ≡ true) same q
    go false false q w f = let wrong : Agree ≡ Edit view = w in cc

believed-edits : (mail : Standing) (act : Act) (view : ViewParts) → believed mail act ≡ Edit view → mail.is_certain ≡ false → IsTrue (keeps_folders mail.held view)
believed-edits mail Agree view e uncertain = cc
believed-edits mail Create view e uncertain = absurd (either mail.is_own (λ act. act ≢ Edit view) Remove Create (λ w. cc) (λ w. cc) e)
believed-edits mail (Edit v) view e uncertain = edit-keeps mail v view e uncertain
believed-edits mail Delete view e uncertain = absurd (either (mail.has_file && mail.is_certain) (λ act. act ≢ Edit view) Delete Agree (λ w. cc) (λ w. cc) e)
believed-edits mail Follow view e uncertain = absurd (either mail.has_file (λ act. act ≢ Edit view) Follow Agree (λ w. cc) (λ w. cc) e)
believed-edits mail Remove view e uncertain = cc

-- ---- what has no file

lacking_unseen : (mail : Standing) → mail.has_file ≡ false → (held : Option ViewParts) → believed mail (act_on_unseen mail.left held) ≡ Agree
lacking_unseen mail none None = refl
lacking_unseen mail none (Some held) =
    either (is_left mail.left held) (λ act. believed mail act ≡ Agree) Delete Follow
    (ap (λ (file : Bool). if file && mail.is_certain then Delete else Agree) none)
    (ap (λ (file : Bool). if file then Follow else Agree) none)

lacking : (mail : Standing) → mail.has_file ≡ false → standing mail.seen ≡ None → act_for mail ≡ Agree
lacking mail none unseen =
    ap (λ (s : Option ViewParts). believed mail (act_of_standing mail.left s mail.held)) unseen ∙ lacking_unseen mail none (standing mail.held)

-- ---- of an answer that is such an act

module _ {E : Type 0} (r : Result Act E) (mail : Standing) (is : IfOk r (λ act. act ≡ act_for mail)) where
  pub where_deleted : IfOk r (λ act. (act ≡ Delete) ↔ IsDeletion mail)
  where_deleted = IfOk-weaker r (λ act. act ≡ act_for mail) (λ act. (act ≡ Delete) ↔ IsDeletion mail) (λ act e. rw e (deleted mail)) is

  pub where_created : IfOk r (λ act. (act ≡ Create) ↔ (IsSome (standing mail.seen) × (standing mail.left ≡ None) × (mail.held ≡ None) × (mail.is_own ≡ false)))
  where_created = IfOk-weaker r (λ act. act ≡ act_for mail) (λ act. (act ≡ Create) ↔ (IsSome (standing mail.seen) × (standing mail.left ≡ None) × (mail.held ≡ None) × (mail.is_own ≡ false))) (λ act e. rw e (created mail)) is

  pub where_edited : IfOk r (λ act. (view : ViewParts) → act ≡ Edit view → mail.is_certain ≡ false → IsTrue (keeps_folders mail.held view))
  where_edited =
      IfOk-weaker r (λ act. act ≡ act_for mail) (λ act. (view : ViewParts) → act ≡ Edit view → mail.is_certain ≡ false → IsTrue (keeps_folders mail.held view))
      (λ act e view edit. believed-edits mail (act_of mail.left mail.seen mail.held) view (sym e ∙ edit)) is

  pub where_undeleted : IfOk r (λ act. mail.held ≡ None → act ≢ Delete)
  where_undeleted =
      IfOk-weaker r (λ act. act ≡ act_for mail) (λ act. mail.held ≡ None → act ≢ Delete)
      (λ act e none wrong. undeleted mail.left mail.seen mail.held none ((believed-deletes mail (act_of mail.left mail.seen mail.held)).0 (sym e ∙ wrong)).0) is

  pub where_lacking : IfOk r (λ act. mail.has_file ≡ false → standing mail.seen ≡ None → act ≡ Agree)
  where_lacking =
      IfOk-weaker r (λ act. act ≡ act_for mail) (λ act. mail.has_file ≡ false → standing mail.seen ≡ None → act ≡ Agree)
      (λ act e none unseen. e ∙ lacking mail none unseen) is
