-- changes of the Maildir that aren't told yet, and that a note of what is shown would take back
use Rattle.std.specs.Prelude.{◌≡◌, ℕ, Bool, true, false, not, ◌&&◌, ◌||◌, ◌⊎◌, List, Option, find, option_map}
use Rattle.mr_maildir.specs.View.{ViewParts}
use Rattle.mr_maildir.specs.Act.{act_of}
use Rattle.mr_maildir.specs.declared.act.Act.{Act}
use Rattle.mr_maildir.specs.declared.act.Act.TheVariants.{Agree, Edit, Delete}
use Rattle.mr_compare.specs.declared.compare.Standing.{Standing}
use Rattle.mr_compare.specs.Compare.{keeps_folders, told_for}
use Rattle.mr_compare.specs.Sides.{are_same}

-- an act that only two quiet listings tell, and they don't: an edit out of a folder, and the removal of a mail whose file is here
abbrev pub is_doubted : Standing → Act → Bool
is_doubted mail (Edit view) = not (mail.is_certain || keeps_folders mail.held view)
is_doubted mail Delete = mail.has_file && not mail.is_certain
is_doubted mail _ = false

-- it isn't held as it was left, or a merge of its heads will be told
abbrev pub has_news : Standing → Bool
has_news mail = mail.is_merge_due || not (are_same mail.left mail.held)

-- a change is seen of a mail of which there is news, and only two quiet listings would tell it
abbrev pub is_undecided : Standing → Bool
is_undecided mail = is_doubted mail (act_of mail.left mail.seen mail.held) && has_news mail

-- the first mail of which that is so
abbrev pub first_undecided : List Standing → Option (List ℕ)
first_undecided mails = option_map (λ (mail : Standing). mail.digest) (find is_undecided mails)

-- nothing is done for a mail, and it is held as it was left: the next listing finds what was changed
pub record Waits (mail : Standing) : Type 0 where
  pub undone : told_for mail ≡ Agree
  pub as_left : mail.held ≡ mail.left

-- what was changed in the Maildir is told, or waits; what has no file here was not removed
pub record IsHeeded (mail : Standing) : Type 0 where
  pub edit : (view : ViewParts) → act_of mail.left mail.seen mail.held ≡ Edit view → (told_for mail ≡ Edit view) ⊎ Waits mail
  pub removal : act_of mail.left mail.seen mail.held ≡ Delete → mail.has_file ≡ true → (told_for mail ≡ Delete) ⊎ Waits mail
