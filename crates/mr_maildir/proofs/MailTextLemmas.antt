-- how the body of a mail is read
use Rattle.std.proofs.Common.{◌≡◌, ℕ, ◌+◌, ◌<◌, Bool, true, false, not, cond, ◌&&◌, List, [], ◌∷◌, ◌++◌, length, map, Option, Some, None, refl, sym, ap, ◌∙◌, append_assoc, arith}
use Rattle.std.proofs.lemmas.List.{length-map, map-append}
use Rattle.mr_version.specs.Name.{Name, name_eq, name_text}
use Rattle.mr_joins.specs.declared.mark.Mark.{Mark}
use Rattle.mr_mail.specs.Label.{is_label}
use Rattle.mr_maildir.proofs.Names.{Bor, and_from, and_parts, codes, cut_at, flat_map, is_name_for, is_one_line, is_plain, is_safe_folder, is_safe_name, is_some, label_of, list_all, name_key, text_eq, ◌==◌}
use Rattle.mr_maildir.proofs.ByteLemmas.{lacks}
use Rattle.mr_maildir.proofs.LayoutLemmas.{cut_in_front, split_some}
use Rattle.mr_maildir.proofs.CountsLemmas.{count_no_newline, element_no_newline, lacks-append, mark_parts, name_no_newline}
use Rattle.mr_maildir.proofs.ToldLemmas.{folder-one_line, key-one_line, name-one_line}
use Rattle.mr_maildir.specs.Counts.{count_text, counts_lines, element_text, ended, is_item, is_mark, item_key, lines_from, mark_text}
use Rattle.mr_maildir.specs.Lines.{AreLines, FolderParts, LinesParts, folder_in, folder_line, is_counts_line, is_folder, is_other_line, is_some_name, name_in, name_line, name_lines, told_lines}

-- lines of which none has a newline
abbrev pub are_lines : List (List ℕ) → Bool
are_lines lines = list_all (lacks 10) lines

lines-append : (a b : List (List ℕ)) → are_lines a ≡ true → are_lines b ≡ true → are_lines (a ++ b) ≡ true
lines-append [] b la lb = lb
lines-append (x ∷ a) b la lb =
    let two = and_parts (lacks 10 x) (are_lines a) la in
    and_from (lacks 10 x) (are_lines (a ++ b)) two.0 (lines-append a b two.1 lb)

-- a text of lines, cut at its newlines
pub cut_ended : (lines : List (List ℕ)) → are_lines lines ≡ true → cut_at 10 (flat_map ended lines) ≡ lines ++ [] ∷ []
cut_ended [] all = refl
cut_ended (line ∷ lines) all =
    let two = and_parts (lacks 10 line) (are_lines lines) all in
    ap (cut_at 10) (append_assoc line (10 ∷ []) (flat_map ended lines)) ∙ (cut_in_front 10 line (flat_map ended lines) two.0 ∙ ap (λ l. line ∷ l) (cut_ended lines two.1))

-- ---- no line that is written has a newline

mark_lacks : (m : Mark) → is_mark m ≡ true → lacks 10 (mark_text m) ≡ true
mark_lacks m is =
    let parts = mark_parts m is in
    lacks-append 10 (element_text m.element) (32 ∷ count_text m.count) (element_no_newline m.element parts.1) (count_no_newline m.count parts.2)

key_lacks : (own item : Name) → is_item item ≡ true → lacks 10 (item_key own item) ≡ true
key_lacks own item is =
    elim (name_eq own item) as (λ t. lacks 10 (cond t (codes "counts") (codes "counts of " ++ name_text item)) ≡ true) [
      | true ↦ refl
      | false ↦ lacks-append 10 (codes "counts of ") (name_text item) refl (name_no_newline item is)
    ]

from_lack : (own : Name) (line : List ℕ) (item : Name) (marks : List Mark) → lacks 10 line ≡ true → list_all is_mark marks ≡ true → are_lines (lines_from own line item marks) ≡ true
from_lack own line item [] la each = and_from (lacks 10 line) true la refl
from_lack own line item (m ∷ marks) la each =
    let two = and_parts (is_mark m) (list_all is_mark marks) each in
    elim (name_eq item m.item) as (λ t. are_lines (cond t (lines_from own (line ++ mark_text m) item marks) (line ∷ lines_from own (item_key own m.item ++ mark_text m) m.item marks)) ≡ true) [
      | true ↦ from_lack own (line ++ mark_text m) item marks (lacks-append 10 line (mark_text m) la (mark_lacks m two.0)) two.1
      | false ↦ and_from (lacks 10 line) (are_lines (lines_from own (item_key own m.item ++ mark_text m) m.item marks)) la
          (from_lack own (item_key own m.item ++ mark_text m) m.item marks (lacks-append 10 (item_key own m.item) (mark_text m) (key_lacks own m.item (mark_parts m two.0).0) (mark_lacks m two.0)) two.1)
    ]

counts_lack : (own : Name) (marks : List Mark) → list_all is_mark marks ≡ true → are_lines (counts_lines own marks) ≡ true
counts_lack own [] each = refl
counts_lack own (m ∷ marks) each =
    let two = and_parts (is_mark m) (list_all is_mark marks) each in
    from_lack own (item_key own m.item ++ mark_text m) m.item marks (lacks-append 10 (item_key own m.item) (mark_text m) (key_lacks own m.item (mark_parts m two.0).0) (mark_lacks m two.0)) two.1

folder_lacks : (f : FolderParts) → is_folder f ≡ true → lacks 10 (folder_line f) ≡ true
folder_lacks f is =
    let one = (and_parts (is_label f.label && is_name_for f.label f.name) (not (is_plain f.name)) is).0 in
    let two = and_parts (is_label f.label) (is_name_for f.label f.name) one in
    let safe = (and_parts (is_safe_folder f.name) (text_eq (label_of f.name) f.label) two.1).0 in
    lacks-append 10 (codes "folder " ++ (f.label ++ 32 ∷ [])) f.name (key-one_line f.label two.0) (folder-one_line f.name safe)

folders_lack : (folders : List FolderParts) → list_all is_folder folders ≡ true → are_lines (map folder_line folders) ≡ true
folders_lack [] each = refl
folders_lack (f ∷ folders) each =
    let two = and_parts (is_folder f) (list_all is_folder folders) each in
    and_from (lacks 10 (folder_line f)) (are_lines (map folder_line folders)) (folder_lacks f two.0) (folders_lack folders two.1)

others_lack : (others : List (List ℕ)) → list_all is_other_line others ≡ true → are_lines others ≡ true
others_lack [] each = refl
others_lack (line ∷ others) each =
    let two = and_parts (is_other_line line) (list_all is_other_line others) each in
    and_from (lacks 10 line) (are_lines others) (and_parts (not (is_some (name_in line)) && not (is_some (folder_in line)) && not (is_counts_line line)) (is_one_line line) two.0).1 (others_lack others two.1)

name_lacks : (name : Option (List ℕ)) → is_some_name name ≡ true → are_lines (name_lines name) ≡ true
name_lacks None safe = refl
name_lacks (Some name) safe = and_from (lacks 10 (name_line name)) true (lacks-append 10 name_key name refl (name-one_line name safe)) refl

pub told_lack : (own : Name) (told : LinesParts) → AreLines told → are_lines (told_lines own told) ≡ true
told_lack own told are =
    lines-append (name_lines told.name) (map folder_line told.folders ++ (counts_lines own told.marks ++ told.others)) (name_lacks told.name are.name_in)
    (lines-append (map folder_line told.folders) (counts_lines own told.marks ++ told.others) (folders_lack told.folders are.folders_in)
    (lines-append (counts_lines own told.marks) told.others (counts_lack own told.marks are.marks_in) (others_lack told.others are.others_in)))

-- ---- the lines of a text, but the last

same_front : (a b : List (List ℕ)) (x y : List ℕ) → a ++ x ∷ [] ≡ b ++ y ∷ [] → a ≡ b
same_front [] [] x y is = refl
same_front [] (c ∷ []) x y is = cc
same_front [] (c ∷ d ∷ b) x y is = cc
same_front (c ∷ []) [] x y is = cc
same_front (c ∷ d ∷ a) [] x y is = cc
same_front (c ∷ a) (d ∷ b) x y is =
    let head : c ≡ d = cc in
    let tail : a ++ x ∷ [] ≡ b ++ y ∷ [] = cc in
    let rest = same_front a b x y tail in
    cc

pub front_lines : (own : Name) (told : LinesParts) (text : List ℕ) (lines front : List (Bor (List ℕ))) (last : Bor (List ℕ)) → AreLines told → text ≡ flat_map ended (told_lines own told) → map (λ (line : Bor (List ℕ)). line.now) lines ≡ cut_at 10 text → lines ≡ front ++ last ∷ [] → map (λ (line : Bor (List ℕ)). line.now) front ≡ told_lines own told
front_lines own told text lines front last are written cut split =
    same_front (map (λ (line : Bor (List ℕ)). line.now) front) (told_lines own told) last.now []
    (sym (map-append (λ (line : Bor (List ℕ)). line.now) front (last ∷ [])) ∙ (ap (map (λ (line : Bor (List ℕ)). line.now)) (sym split) ∙ (cut ∙ (ap (cut_at 10) written ∙ cut_ended (told_lines own told) (told_lack own told are)))))

-- a text has a line at least
pub some_lines : (text : List ℕ) (lines : List (Bor (List ℕ))) → map (λ (line : Bor (List ℕ)). line.now) lines ≡ cut_at 10 text → length lines ≡ 0 → ⊥
some_lines text lines is none =
    let some = split_some (λ b. b == 10) text in
    let same : length lines ≡ length (cut_at 10 text) = sym (length-map lines (λ (line : Bor (List ℕ)). line.now)) ∙ ap length is in
    absurd (omega arith)
