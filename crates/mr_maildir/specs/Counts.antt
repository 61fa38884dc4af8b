-- the counts of a mail's elements, as lines of a body tell them
use Rattle.std.specs.Prelude.{ℕ, Bool, true, ◌&&◌, ◌==◌, ◌^◌, nat_le, nat_lt, if◌then◌else◌, List, [], ◌∷◌, ◌++◌, codes}
use Rattle.std.specs.Fmt.{decimal}
use Rattle.std.specs.List.{list_all}
use Rattle.mr_version.specs.Name.{Name, name_eq, name_text}
use Rattle.mr_version.specs.declared.author.TheConstants.{AUTHORS}
use Rattle.mr_version.specs.declared.version.TheConstants.{MAX_COUNTER}
use Rattle.mr_mail.specs.Label.{is_label}
use Rattle.mr_joins.specs.declared.count.Count.{Count}
use Rattle.mr_joins.specs.declared.element.Element.{Element}
use Rattle.mr_joins.specs.declared.element.Element.TheVariants as element
use Rattle.mr_joins.specs.declared.mark.Mark.{Mark}
use Rattle.mr_joins.specs.Word.{is_word}
use Rattle.mr_maildir.specs.Letters.{letter_of}

-- ---- what may be told

abbrev pub is_item : Name → Bool
is_item item = nat_lt item.author AUTHORS && nat_le 1 item.counter && nat_le item.counter MAX_COUNTER

abbrev pub is_element : Element → Bool
is_element (element.Flag flag) = true
is_element (element.Other word) = is_word word
is_element (element.Folder label) = is_label label

-- toggled once at least, and not deleted beyond that
abbrev pub is_count : Count → Bool
is_count count = nat_le 1 count.raised && nat_lt count.raised (2 ^ 32) && nat_le count.gone count.raised

abbrev pub is_mark : Mark → Bool
is_mark m = is_item m.item && is_element m.element && is_count m.count

-- ---- how it is written

-- a flag's letter, as names of files have it; a word; a folder's label
abbrev pub element_text : Element → List ℕ
element_text (element.Flag flag) = letter_of flag ∷ []
element_text (element.Other word) = word
element_text (element.Folder label) = label

-- how often, and behind a slash how often as the mail was deleted, where it was
abbrev pub count_text : Count → List ℕ
count_text count = if count.gone == 0 then decimal count.raised else decimal count.raised ++ 47 ∷ decimal count.gone

-- a mark on its line
abbrev pub mark_text : Mark → List ℕ
mark_text m = 32 ∷ (element_text m.element ++ 32 ∷ count_text m.count)

-- what the line of an item's marks begins with, in a record of the own item
abbrev pub item_key : Name → Name → List ℕ
item_key own item = if name_eq own item then codes "counts" else codes "counts of " ++ name_text item

-- the lines of marks behind a line that is begun: a mark stands on it, if it is of its item, and else begins another one
abbrev pub lines_from : Name → List ℕ → Name → List Mark → List (List ℕ)
lines_from own line item [] = line ∷ []
lines_from own line item (m ∷ marks) =
    if name_eq item m.item then lines_from own (line ++ mark_text m) item marks
    else line ∷ lines_from own (item_key own m.item ++ mark_text m) m.item marks

-- marks as lines: one for those of each item that stand together
abbrev pub counts_lines : Name → List Mark → List (List ℕ)
counts_lines own [] = []
counts_lines own (m ∷ marks) = lines_from own (item_key own m.item ++ mark_text m) m.item marks

-- a line with its newline
abbrev pub ended : List ℕ → List ℕ
ended line = line ++ 10 ∷ []
