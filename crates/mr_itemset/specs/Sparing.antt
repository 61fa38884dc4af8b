use Rattle.std.specs.Prelude.{◌-◌, ◌+◌, ◌==◌, ℕ, zero, suc, Bool, ◌||◌, ◌&&◌, not, if◌then◌else◌, nat_le, nat_lt}
use Rattle.mr_version.specs.Name.{Name}
use Rattle.mr_forms.specs.Sets.{Versions}
use Rattle.mr_forms.specs.Known.{Form}
use Rattle.mr_concise.specs.Column.{column_has}
use Rattle.mr_concise.specs.Vector.{column_of, vector_has}
use Rattle.mr_itemset.specs.declared.rule.TheConstants.{SPARED_HOLES}
use Rattle.mr_itemset.specs.declared.sparing.TheConstants.{MAX_LISTED_ITEMS}
use Rattle.mr_itemset.specs.Normal.{Normal, normal_known}
use Rattle.mr_itemset.specs.ItemForm.{HasHoleyItem, ListsTooMany}
use Rattle.mr_itemset.specs.Told.{IsToldPart}

-- its author's version before it
abbrev pub before : Name → Name
before v = record { author = v.author; counter = v.counter - 1 }

-- How many holes a set of counters from 1 on has among the first so many. A hole ends right before a counter that the set
-- has, where the counter before that is missing.
abbrev pub holes_among : (ℕ → Bool) → ℕ → ℕ
holes_among has zero = 0
holes_among has (suc c) = if has (suc c) && (nat_le 1 c && not (has c)) then suc (holes_among has c) else holes_among has c

-- how many holes the author's versions that all items have leave
abbrev pub holes_for_all : Normal → ℕ → ℕ
holes_for_all k author = holes_among (column_has (column_of k.all author)) (column_of k.all author).upto

-- A version goes to all items where it is its author's first, or all items have the one before it, or its author's column
-- for all items has holes to spare.
abbrev pub goes_to_all : Normal → Name → Bool
goes_to_all k v = (v.counter == 1) || (vector_has k.all (before v) || nat_lt (holes_for_all k v.author) SPARED_HOLES)

-- the one version comes right behind the other
abbrev pub comes_next : Name → Name → Bool
comes_next u v = (u.author == v.author) && (u.counter + 1 == v.counter)

-- As a knowledge of items, but a version is learned for its item alone where it does not go to all. The item's first
-- version, where it is below, takes the version behind it along, and goes along with a version that goes to all.
abbrev pub spreads : Normal → Name → Name → Versions → Bool
spreads k item v set = (set item && (goes_to_all k item && comes_next item v)) || goes_to_all k v

abbrev pub sparing_form : Form Normal
sparing_form = record {
  known = normal_known;
  is_part = IsToldPart;
  learns_for_all = spreads;
  firsts_for_all = λ k item v set. spreads k item v set && goes_to_all k item;
  has_too_many_holes = HasHoleyItem;
  has_too_many_items = ListsTooMany MAX_LISTED_ITEMS;
}
