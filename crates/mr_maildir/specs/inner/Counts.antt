-- what private functions promise of the lines of counts
use Rattle.std.specs.Prelude.{ℕ, Bool, ◌&&◌, ◌==◌, if◌then◌else◌, Option, Some, None, List, [], ◌∷◌, ◌++◌, codes}
use Rattle.std.specs.Fmt.{decimal}
use Rattle.std.specs.List.{list_all, flat_map}
use Rattle.mr_version.specs.Name.{Name, name_eq, name_text}
use Rattle.mr_joins.specs.declared.mark.Mark.{Mark}
use Rattle.mr_maildir.specs.Counts.{count_text, element_text, is_mark, item_key, mark_text}

-- marks of this item
abbrev pub is_run : Name → List Mark → Bool
is_run item marks = list_all (λ (m : Mark). is_mark m && name_eq item m.item) marks

-- the line of an item's marks
abbrev pub line_of : Name → Name → List Mark → List ℕ
line_of own item marks = item_key own item ++ flat_map mark_text marks

-- the words of marks on their line, and what stands between `counts` and these
abbrev pub pair_words : List Mark → List (List ℕ)
pair_words [] = []
pair_words (m ∷ marks) = element_text m.element ∷ count_text m.count ∷ pair_words marks

abbrev pub item_words : Name → Name → List (List ℕ)
item_words own item = if name_eq own item then [] else codes "of" ∷ name_text item ∷ []

-- what stands between marks of two items, and marks behind one of this item
abbrev pub between : Name → Name → Name → List ℕ
between own item next = if name_eq item next then [] else 10 ∷ item_key own next

abbrev pub marks_behind : Name → Name → List Mark → List ℕ
marks_behind own item [] = []
marks_behind own item (m ∷ marks) = between own item m.item ++ mark_text m ++ marks_behind own m.item marks

-- what stands behind the slash of a count
abbrev pub gone_text : ℕ → Option (List ℕ)
gone_text gone = if gone == 0 then None else Some (decimal gone)
