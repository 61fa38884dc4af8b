-- the mails that aren't held, and which acts delete one
use Rattle.std.specs.Prelude.{ℕ, IsTrue, List}
use Rattle.std.specs.Global.{Vec}
use Rattle.std.specs.List.Sorted.{IsPermutation, IsSorted}
use Rattle.mr_mail.specs.Label.{text_cmp}
use Rattle.mr_scan.specs.declared.inodes.Stored.{Stored}
use Rattle.mr_compare.specs.MailsLeft.{unheld}
use Rattle.mr_compare.specs.Tally.{deletes}
use Rattle.mr_compare.specs.declared.compare.MailAct.{MailAct}
use Rattle.mr_compare.specs.declared.joining.ItemHeads.{ItemHeads}
use Rattle.mr_compare.specs.declared.sides.Sides.{Sides}
use Rattle.mr_fold.specs.inner.Lacking.{is_stored}

-- these are the mails that aren't held and that the sides tell of, rising
pub record AreOthers (items : List (List ℕ × Vec ItemHeads)) (sides : Sides) (others : List (List ℕ)) : Type 0 where
  pub rising : IsSorted text_cmp others
  pub each : IsPermutation (unheld items sides) others

-- if the act deletes its mail, that is one of the store's mails
abbrev pub IsStoredIfDeleted : List Stored → MailAct → Type 0
IsStoredIfDeleted stored act = IsTrue (deletes act.act) → IsTrue (is_stored stored act.digest)
