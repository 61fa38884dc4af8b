-- mails whose files aren't here, as they are looked for
use Rattle.std.specs.Prelude.{◌≡◌, ℕ, Bool, true, false, not, ◌&&◌, ◌||◌, if◌then◌else◌, List, [], map, Option, Some, None}
use Rattle.std.specs.Global.{Vec}
use Rattle.std.specs.List.{flat_map, list_any}
use Rattle.std.specs.Ordering.{is_eq}
use Rattle.mr_version.specs.Name.{Name}
use Rattle.mr_mail.specs.Label.{text_cmp}
use Rattle.mr_maildir.specs.View.{is_gone}
use Rattle.mr_scan.specs.declared.inodes.Stored.{Stored}
use Rattle.mr_compare.specs.Joining.{at_item}
use Rattle.mr_compare.specs.Sides.{lacks_file}
use Rattle.mr_compare.specs.declared.joining.ItemHeads.{ItemHeads}
use Rattle.mr_compare.specs.declared.sides.HeldMail.{HeldMail}
use Rattle.mr_compare.specs.declared.sides.LeftMail.{LeftMail}
use Rattle.mr_compare.specs.declared.sides.Sides.{Sides}
use Rattle.mr_fold.specs.Lacking.{has_digest}

-- one of the store's mails is that of the digest
abbrev pub is_stored : List Stored → List ℕ → Bool
is_stored mails digest = list_any (λ (stored : Stored). is_eq (text_cmp stored.digest digest)) mails

-- one of the held mails is that of the digest, isn't gone, and is none of the store's mails
abbrev pub is_missing : List Stored → List HeldMail → List ℕ → Bool
is_missing stored mails digest = list_any (λ (mail : HeldMail). not (is_stored stored mail.digest || is_gone mail.view) && is_eq (text_cmp mail.digest digest)) mails

-- the sides say of just these of the held mails that they lack their files
abbrev pub AreMissing : List Stored → List HeldMail → Sides → Type 0
AreMissing stored mails sides = (digest : List ℕ) → lacks_file sides digest ≡ is_missing stored mails digest

-- the items of an entry's mail, if that is among the lacking ones
abbrev pub items_of : (lacking : List (List ℕ)) → List ℕ × Vec ItemHeads → List Name
items_of lacking e = if has_digest lacking e.0 then map (λ (heads : ItemHeads). heads.item) e.1.items else []

-- the items of the lacking mails
abbrev pub lacking_items : (lacking : List (List ℕ)) → List (List ℕ × Vec ItemHeads) → List Name
lacking_items lacking held = flat_map (items_of lacking) held

-- a digest that may be known is this one
abbrev pub is_digest : List ℕ → Option (List ℕ) → Bool
is_digest digest None = false
is_digest digest (Some own) = is_eq (text_cmp own digest)

-- the table tells the digest of one of the items
abbrev pub is_told_of : List (Name × List ℕ) → List Name → List ℕ → Bool
is_told_of digests items digest = list_any (λ item. is_digest digest (at_item digests item)) items

-- how a mail was left that wasn't shown: not at all, as one that came since
abbrev pub unshown : LeftMail
unshown = record { view = None; came = true }
