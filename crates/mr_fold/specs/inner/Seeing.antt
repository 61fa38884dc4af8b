-- what a scan says of the mails
use Rattle.std.specs.Prelude.{◌≡◌, ℕ, if◌then◌else◌, List, Option, Some, None}
use Rattle.std.specs.BTreeMap.{BTreeMap}
use Rattle.std.specs.Global.{Vec}
use Rattle.mr_mail.specs.Label.{text_eq}
use Rattle.mr_maildir.specs.File.{FileParts}
use Rattle.mr_maildir.specs.View.{ViewParts}
use Rattle.mr_scan.specs.Seen.{seen_view}
use Rattle.mr_scan.specs.declared.inodes.Stored.{Stored}
use Rattle.mr_scan.specs.declared.scanned.Scan.{Scan}
use Rattle.mr_compare.specs.Sides.{at_digest}
use Rattle.mr_compare.specs.declared.sides.HeldMail.{HeldMail}
use Rattle.mr_compare.specs.declared.sides.LeftMail.{LeftMail}
use Rattle.mr_compare.specs.declared.sides.Sides.{Sides}
use Rattle.mr_fold.specs.inner.Lacking.{AreMissing}

-- how a mail is held, if it is this one
abbrev pub held_view : List ℕ → Option HeldMail → Option ViewParts
held_view digest None = None
held_view digest (Some mail) = if text_eq mail.digest digest then Some mail.view else None

-- how a mail was left: as it is held, unless it changed since
abbrev pub left_view : Option LeftMail → List ℕ → Option HeldMail → Option ViewParts
left_view None digest held = held_view digest held
left_view (Some mail) digest held = mail.view

-- A mail that has these files is seen in all their folders, as one that was left in some view, or wasn't left. One without files isn't seen.
abbrev pub IsSeenIn : Option (Vec FileParts) → Option ViewParts → Type 0
IsSeenIn None seen = seen ≡ None
IsSeenIn (Some files) seen = (left : Option ViewParts) × (seen ≡ Some (seen_view left files.items))

-- just the mails are seen whose files a scan found
abbrev pub AreSeen : (scan : List (List ℕ × Vec FileParts)) → (seen : List (List ℕ × ViewParts)) → Type 0
AreSeen scan seen = (digest : List ℕ) → IsSeenIn (at_digest scan digest) (at_digest seen digest)

-- So the sides are of what a scan says: how mails were left stays known, so that none that was never shown counts as removed; the mails are seen whose
-- files were found; and those of the held ones lack their files of which the store has none.
pub record Says (stored : List Stored) (mails : List HeldMail) (left : BTreeMap (List ℕ) LeftMail) (scan : Scan) (sides : Sides) : Type 0 where
  pub left_are : sides.left ≡ left
  pub seen : AreSeen scan.mails.entries sides.seen.entries
  pub missing : AreMissing stored mails sides
