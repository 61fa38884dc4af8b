-- the three sides of mails, brought together
use Rattle.std.specs.Prelude.{ℕ, Bool, true, false, not, ◌&&◌, ◌++◌, List, map, Option, Some, None}
use Rattle.std.specs.BTreeMap.{BTreeMap}
use Rattle.std.specs.List.{list_any}
use Rattle.std.specs.Map.{lookup}
use Rattle.std.specs.Ordering.{is_eq}
use Rattle.mr_mail.specs.Label.{text_cmp}
use Rattle.mr_maildir.specs.View.{ViewParts, view_eq}
use Rattle.mr_compare.specs.declared.compare.Standing.{Standing}
use Rattle.mr_compare.specs.declared.sides.HeldMail.{HeldMail}
use Rattle.mr_compare.specs.declared.sides.LeftMail.{LeftMail}
use Rattle.mr_compare.specs.declared.sides.Sides.{Sides}

-- what a table has by a digest
abbrev pub at_digest : {X : Type 0} → List (List ℕ × X) → List ℕ → Option X
at_digest table digest = lookup (λ own. is_eq (text_cmp digest own)) table

-- whether two listings say the same of a mail
abbrev pub are_same : Option ViewParts → Option ViewParts → Bool
are_same None None = true
are_same None (Some before) = false
are_same (Some view) None = false
are_same (Some view) (Some before) = view_eq view before

-- the listing before says the same of a mail that is seen so, if there was one
abbrev pub was_same : Option (BTreeMap (List ℕ) ViewParts) → List ℕ → Option ViewParts → Bool
was_same None digest seen = true
was_same (Some before) digest seen = are_same seen (at_digest before.entries digest)

-- each listing says the same of it, and they were quiet
abbrev pub is_certain : Sides → List ℕ → Bool
is_certain sides digest = sides.are_quiet && was_same sides.seen_before digest (at_digest sides.seen.entries digest)

abbrev pub lacks_file : Sides → List ℕ → Bool
lacks_file sides digest = list_any (λ own. is_eq (text_cmp digest own)) sides.lacking.keys

-- a mail that is held so was left so, unless it changed since
abbrev pub left_of_held : Option LeftMail → ViewParts → Option ViewParts
left_of_held None held = Some held
left_of_held (Some left) held = left.view

-- one that isn't held was left as the feed's beginning has it, if that has it
abbrev pub left_of_unheld : Option LeftMail → Option ViewParts
left_of_unheld None = None
left_of_unheld (Some left) = left.view

abbrev pub has_come : Option LeftMail → Bool
has_come None = false
has_come (Some left) = left.came

-- how a mail stands that is held
abbrev pub standing_of_held : Sides → HeldMail → Standing
standing_of_held sides mail = record {
  digest = mail.digest;
  first = Some mail.first;
  left = left_of_held (at_digest sides.left.entries mail.digest) mail.view;
  seen = at_digest sides.seen.entries mail.digest;
  held = Some mail.view;
  is_merge_due = mail.is_merge_due;
  has_file = not (lacks_file sides mail.digest);
  is_certain = is_certain sides mail.digest;
  is_own = false;
}

-- how one stands that isn't
abbrev pub standing_of_unheld : Sides → List ℕ → Standing
standing_of_unheld sides digest = record {
  digest = digest;
  first = None;
  left = left_of_unheld (at_digest sides.left.entries digest);
  seen = at_digest sides.seen.entries digest;
  held = None;
  is_merge_due = false;
  has_file = not (lacks_file sides digest);
  is_certain = is_certain sides digest;
  is_own = has_come (at_digest sides.left.entries digest);
}

-- how all mails stand: those that are held, and then these others
abbrev pub standings_by : Sides → List HeldMail → List (List ℕ) → List Standing
standings_by sides mails others = map (standing_of_held sides) mails ++ map (standing_of_unheld sides) others
