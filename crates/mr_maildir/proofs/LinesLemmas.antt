-- how the lines of a mail's body are read
use Rattle.std.proofs.Common.{◌≡◌, ◌≢◌, ℕ, zero, suc, ◌+◌, ◌-◌, ◌<◌, ◌≤◌, Bool, true, false, not, cond, ◌&&◌, List, [], ◌∷◌, ◌++◌, length, drop, get_or, map, Option, Some, None, refl, sym, ap, subst, ◌∙◌, append_assoc, arith, lit<}
use Rattle.std.specs.Prelude.{unwrap_or}
use Rattle.std.proofs.lemmas.List.{drop_more, length-drop, map-append}
use Rattle.std.proofs.Math.ListN.{drop_of_length-le}
use Rattle.mr_maildir.specs.declared.lines.FolderName.{FolderName}
use Rattle.std.proofs.lemmas.Grind.{flat_map-append}
use Rattle.mr_version.specs.Name.{Name, name_eq, name_text}
use Rattle.mr_joins.specs.declared.mark.Mark.{Mark}
use Rattle.std.specs.Ordering.{is_lt}
use Rattle.mr_mail.specs.Label.{is_label, is_label_byte, text_cmp}
use Rattle.mr_maildir.proofs.Names.{Bor, IsSplitOnceResult, MatchOption, and_from, and_parts, behind_key, codes, eq-eqb, false≢true, flat_map, is_name_for, is_one_line, is_plain, is_safe_name, is_some, list_all, name_key, split_parts, ◌==◌}
use Rattle.mr_maildir.proofs.ByteLemmas.{lacks, lacks-from}
use Rattle.mr_maildir.proofs.CountsLemmas.{label_bytes, lacks_by, mark_parts, no_word, same_self}
use Rattle.mr_maildir.proofs.ToldLemmas.{behind-key}
use Rattle.mr_maildir.specs.Counts.{counts_lines, is_item, is_mark, item_key, lines_from, mark_text}
use Rattle.mr_maildir.specs.Lines.{AreLines, FolderParts, LinesParts, are_rising, before_byte, behind_byte, folder_in, folder_in_line, folder_line, folder_of, folder_told, is_counts_line, is_folder, is_other_line, is_some_name, name_in, name_in_line, name_line, name_lines, told_lines}
use Rattle.mr_maildir.specs.inner.Counts.{is_run, line_of}
use Rattle.mr_maildir.specs.inner.Lines.{begins_counts, begins_folder, first_name}

append_nothing : {X : Type 0} (xs : List X) → xs ++ [] ≡ xs
append_nothing [] = refl
append_nothing (x ∷ xs) = ap (λ rest. x ∷ rest) (append_nothing xs)

-- ---- a text at its first space

not_byte : (x c : ℕ) → not (x == c) ≡ true → (x == c) ≡ false
not_byte x c is =
    elim (x == c) as (λ t. not t ≡ true → t ≡ false) [
      | true ↦ λ no. absurd (false≢true no)
      | false ↦ λ _. refl
    ] is

pub before_cut : (c : ℕ) (a b : List ℕ) → lacks c a ≡ true → (before_byte c (a ++ c ∷ b) ≡ a) × (behind_byte c (a ++ c ∷ b) ≡ b)
before_cut c [] b la = (ap (λ t. cond t [] (c ∷ before_byte c b)) (eq-eqb c c refl), ap (λ t. cond t b (behind_byte c b)) (eq-eqb c c refl))
before_cut c (x ∷ a) b la =
    let two = and_parts (not (x == c)) (lacks c a) la in
    let rest = before_cut c a b two.1 in
    let other = not_byte x c two.0 in
    (ap (λ t. cond t [] (x ∷ before_byte c (a ++ c ∷ b))) other ∙ ap (λ l. x ∷ l) rest.0, ap (λ t. cond t (a ++ c ∷ b) (behind_byte c (a ++ c ∷ b))) other ∙ rest.1)

pub before_none : (c : ℕ) (a : List ℕ) → lacks c a ≡ true → (before_byte c a ≡ a) × (behind_byte c a ≡ [])
before_none c [] la = (refl, refl)
before_none c (x ∷ a) la =
    let two = and_parts (not (x == c)) (lacks c a) la in
    let rest = before_none c a two.1 in
    let other = not_byte x c two.0 in
    (ap (λ t. cond t [] (x ∷ before_byte c a)) other ∙ ap (λ l. x ∷ l) rest.0, ap (λ t. cond t a (behind_byte c a)) other ∙ rest.1)

-- what `split_once` gives, or the whole text with nothing behind it
pub space_cut : (text : List ℕ) (r : Option (Bor (List ℕ) × Bor (List ℕ))) (whole nothing : Bor (List ℕ)) → IsSplitOnceResult 32 text r → whole.now ≡ text → nothing.now ≡ [] → ((unwrap_or r (whole, nothing)).0.now ≡ before_byte 32 text) × ((unwrap_or r (whole, nothing)).1.now ≡ behind_byte 32 text)
space_cut text r whole nothing cases all none = go r (split_parts 32 text r cases (lit< tt))
  where
    go : (r : Option (Bor (List ℕ) × Bor (List ℕ))) → MatchOption r ((i : ℕ) → i < length text → get_or text i 0 ≢ 32) (λ x. (text ≡ x.0.now ++ (32 ∷ x.1.now)) × ((i : ℕ) → i < length x.0.now → get_or x.0.now i 0 ≢ 32)) → ((unwrap_or r (whole, nothing)).0.now ≡ before_byte 32 text) × ((unwrap_or r (whole, nothing)).1.now ≡ behind_byte 32 text)
    go None h = let rest = before_none 32 text (lacks-from 32 text h) in (all ∙ sym rest.0, none ∙ sym rest.1)
    go (Some x) h = let rest = before_cut 32 x.0.now x.1.now (lacks-from 32 x.0.now h.1) in (sym rest.0 ∙ ap (before_byte 32) (sym h.0), sym rest.1 ∙ ap (behind_byte 32) (sym h.0))

-- ---- folders

-- a folder's line tells the folder
pub folder_read : (f : FolderParts) → is_folder f ≡ true → folder_in (folder_line f) ≡ Some f
folder_read f is =
    let two = and_parts (is_label f.label && is_name_for f.label f.name) (not (is_plain f.name)) is in
    let label = (and_parts (is_label f.label) (is_name_for f.label f.name) two.0).0 in
    let no_space : lacks 32 f.label ≡ true = lacks_by 32 is_label_byte refl f.label (label_bytes f.label label) in
    let cut = before_cut 32 f.label f.name no_space in
    let told : folder_told (f.label ++ 32 ∷ f.name) ≡ f = λ i. record { label = cut.0 i; name = cut.1 i } in
    let text : (f.label ++ 32 ∷ []) ++ f.name ≡ f.label ++ 32 ∷ f.name = append_assoc f.label (32 ∷ []) f.name in
    ap folder_in_line (behind-key (codes "folder ") ((f.label ++ 32 ∷ []) ++ f.name))
    ∙ (ap (λ t. folder_in_line (Some t)) text
    ∙ (ap (λ g. cond (is_folder g) (Some g) None) told
    ∙ ap (λ t. cond t (Some f) None) is))

-- some folders are left in the lines, and with them those that were read are all
pub record FoldersLeft (lines : List (Bor (List ℕ))) (rest : List (List ℕ)) (before told read : List FolderParts) : Type 0 where
  pub left : List FolderParts
  pub each : list_all is_folder left ≡ true
  pub lines_left : map (λ (line : Bor (List ℕ)). line.now) lines ≡ map folder_line left ++ rest
  pub all : read ++ left ≡ before ++ told

-- where the first line tells no folder none is left
pub folders_end : (line : Bor (List ℕ)) (lines : List (Bor (List ℕ))) (rest : List (List ℕ)) (before told read : List FolderParts) → folder_in line.now ≡ None → FoldersLeft (line ∷ lines) rest before told read → (map (λ (line : Bor (List ℕ)). line.now) (line ∷ lines) ≡ rest) × (read ≡ before ++ told)
folders_end line lines rest before told read none l = go l.left l.each l.lines_left l.all
  where
    go : (left : List FolderParts) → list_all is_folder left ≡ true → line.now ∷ map (λ (line : Bor (List ℕ)). line.now) lines ≡ map folder_line left ++ rest → read ++ left ≡ before ++ told → (line.now ∷ map (λ (line : Bor (List ℕ)). line.now) lines ≡ rest) × (read ≡ before ++ told)
    go [] each is all = (is, sym (append_nothing read) ∙ all)
    go (f ∷ left) each is all =
        let first : line.now ≡ folder_line f = cc in
        let found = folder_read f (and_parts (is_folder f) (list_all is_folder left) each).0 in
        let both : None ≡ Some f = sym none ∙ (ap folder_in first ∙ found) in
        absurd (cc)

pub folders_none : (rest : List (List ℕ)) (before told read : List FolderParts) → FoldersLeft [] rest before told read → ([] ≡ rest) × (read ≡ before ++ told)
folders_none rest before told read l = go l.left l.lines_left l.all
  where
    go : (left : List FolderParts) → [] ≡ map folder_line left ++ rest → read ++ left ≡ before ++ told → ([] ≡ rest) × (read ≡ before ++ told)
    go [] is all = (is, sym (append_nothing read) ∙ all)
    go (f ∷ left) is all = absurd (cc)

-- one that is told is the first that is left
pub folders_more : (line : Bor (List ℕ)) (lines : List (Bor (List ℕ))) (rest : List (List ℕ)) (before told read : List FolderParts) (f : FolderParts) → folder_in line.now ≡ Some f → begins_folder rest ≡ false → FoldersLeft (line ∷ lines) rest before told read → FoldersLeft lines rest before told (read ++ f ∷ [])
folders_more line lines rest before told read f some ends l = go l.left l.each l.lines_left l.all
  where
    ended : (rest : List (List ℕ)) → begins_folder rest ≡ false → line.now ∷ map (λ (line : Bor (List ℕ)). line.now) lines ≡ rest → ⊥
    ended [] lacks is = cc
    ended (other ∷ rest) lacks is =
        let first : line.now ≡ other = cc in
        absurd (false≢true (sym lacks ∙ (ap (λ t. is_some (folder_in t)) (sym first) ∙ ap is_some some)))

    go : (left : List FolderParts) → list_all is_folder left ≡ true → line.now ∷ map (λ (line : Bor (List ℕ)). line.now) lines ≡ map folder_line left ++ rest → read ++ left ≡ before ++ told → FoldersLeft lines rest before told (read ++ f ∷ [])
    go [] each is all = absurd (ended rest ends is)
    go (g ∷ left) each is all =
        let two = and_parts (is_folder g) (list_all is_folder left) each in
        let first : line.now ≡ folder_line g = cc in
        let behind : map (λ (line : Bor (List ℕ)). line.now) lines ≡ map folder_line left ++ rest = cc in
        let both : Some f ≡ Some g = sym some ∙ (ap folder_in first ∙ folder_read g two.0) in
        let same : f ≡ g = cc in
        record { left = left; each = two.1; lines_left = behind; all = append_assoc read (f ∷ []) left ∙ (ap (λ h. read ++ h ∷ left) same ∙ all) }

-- ---- lines of counts

pub run_pushed : (item : Name) (run : List Mark) (m : Mark) → is_run item run ≡ true → (is_mark m && name_eq item m.item) ≡ true → is_run item (run ++ m ∷ []) ≡ true
run_pushed item [] m runs is = and_from (is_mark m && name_eq item m.item) true is refl
run_pushed item (n ∷ run) m runs is =
    let two = and_parts (is_mark n && name_eq item n.item) (is_run item run) runs in
    and_from (is_mark n && name_eq item n.item) (is_run item (run ++ m ∷ [])) two.0 (run_pushed item run m two.1 is)

-- the first of the lines of marks is that of some of them, and the others are those of the others
pub record FirstLine (own : Name) (lines : List (List ℕ)) (marks : List Mark) : Type 0 where
  pub item : Name
  pub first : Mark
  pub more : List Mark
  pub left : List Mark
  pub is : is_item item ≡ true
  pub runs : is_run item (first ∷ more) ≡ true
  pub left_in : list_all is_mark left ≡ true
  pub cut : lines ≡ line_of own item (first ∷ more) ∷ counts_lines own left
  pub all : marks ≡ (first ∷ more) ++ left

line_from : (own item : Name) (first : Mark) (more marks : List Mark) → is_item item ≡ true → is_run item (first ∷ more) ≡ true → list_all is_mark marks ≡ true → FirstLine own (lines_from own (line_of own item (first ∷ more)) item marks) ((first ∷ more) ++ marks)
line_from own item first more [] is runs each = record { item = item; first = first; more = more; left = []; is = is; runs = runs; left_in = refl; cut = refl; all = refl }
line_from own item first more (m ∷ marks) is runs each =
    let two = and_parts (is_mark m) (list_all is_mark marks) each in
    elim (name_eq item m.item) as (λ t. name_eq item m.item ≡ t → FirstLine own (cond t (lines_from own (line_of own item (first ∷ more) ++ mark_text m) item marks) (line_of own item (first ∷ more) ∷ lines_from own (item_key own m.item ++ mark_text m) m.item marks)) ((first ∷ more) ++ m ∷ marks)) [
      | true ↦ λ same.
          let longer = line_from own item first (more ++ m ∷ []) marks is (run_pushed item (first ∷ more) m runs (and_from (is_mark m) (name_eq item m.item) two.0 same)) two.1 in
          let line : line_of own item (first ∷ more ++ m ∷ []) ≡ line_of own item (first ∷ more) ++ mark_text m =
          ap (λ t. item_key own item ++ t) (flat_map-append mark_text (first ∷ more) (m ∷ []) ∙ ap (λ t. flat_map mark_text (first ∷ more) ++ t) (append_nothing (mark_text m)))
          ∙ sym (append_assoc (item_key own item) (flat_map mark_text (first ∷ more)) (mark_text m)) in
          let P : List ℕ → Type 0 = λ l. FirstLine own (lines_from own l item marks) ((first ∷ more) ++ m ∷ marks) in
          let Q : List Mark → Type 0 = λ l. FirstLine own (lines_from own (line_of own item (first ∷ more ++ m ∷ [])) item marks) l in
          subst P line (subst Q (ap (λ l. first ∷ l) (append_assoc more (m ∷ []) marks)) longer)
      | false ↦ λ _. record { item = item; first = first; more = more; left = m ∷ marks; is = is; runs = runs; left_in = each; cut = refl; all = refl }
    ] refl

pub counts_first : (own : Name) (m : Mark) (marks : List Mark) → list_all is_mark (m ∷ marks) ≡ true → FirstLine own (counts_lines own (m ∷ marks)) (m ∷ marks)
counts_first own m marks each =
    let two = and_parts (is_mark m) (list_all is_mark marks) each in
    let runs : is_run m.item (m ∷ []) ≡ true = and_from (is_mark m && name_eq m.item m.item) true (and_from (is_mark m) (name_eq m.item m.item) two.0 (same_self m.item)) refl in
    let P : List ℕ → Type 0 = λ l. FirstLine own (lines_from own (item_key own m.item ++ l) m.item marks) (m ∷ marks) in
    subst P (append_nothing (mark_text m)) (line_from own m.item m [] marks (mark_parts m two.0).0 runs two.1)

pub counts_line : (own item : Name) (first : Mark) (more : List Mark) → is_counts_line (line_of own item (first ∷ more)) ≡ true
counts_line own item first more =
    elim (name_eq own item) as (λ t. is_counts_line (cond t (codes "counts") (codes "counts of " ++ name_text item) ++ flat_map mark_text (first ∷ more)) ≡ true) [
      | true ↦ refl
      | false ↦ refl
    ]

-- some marks are left in the lines, and with them those that were read are all
pub record CountsLeft (own : Name) (lines : List (Bor (List ℕ))) (rest : List (List ℕ)) (before told read : List Mark) : Type 0 where
  pub left : List Mark
  pub each : list_all is_mark left ≡ true
  pub lines_left : map (λ (line : Bor (List ℕ)). line.now) lines ≡ counts_lines own left ++ rest
  pub all : read ++ left ≡ before ++ told

pub counts_none : (own : Name) (rest : List (List ℕ)) (before told read : List Mark) → CountsLeft own [] rest before told read → ([] ≡ rest) × (read ≡ before ++ told)
counts_none own rest before told read l = go l.left l.each l.lines_left l.all
  where
    go : (left : List Mark) → list_all is_mark left ≡ true → [] ≡ counts_lines own left ++ rest → read ++ left ≡ before ++ told → ([] ≡ rest) × (read ≡ before ++ told)
    go [] each is all = (is, sym (append_nothing read) ∙ all)
    go (m ∷ left) each is all =
        let first = counts_first own m left each in
        let some : [] ≡ line_of own first.item (first.first ∷ first.more) ∷ (counts_lines own first.left ++ rest) = is ∙ ap (λ l. l ++ rest) first.cut in
        absurd (cc)

pub counts_end : (own : Name) (line : Bor (List ℕ)) (lines : List (Bor (List ℕ))) (rest : List (List ℕ)) (before told read : List Mark) → is_counts_line line.now ≡ false → CountsLeft own (line ∷ lines) rest before told read → (map (λ (line : Bor (List ℕ)). line.now) (line ∷ lines) ≡ rest) × (read ≡ before ++ told)
counts_end own line lines rest before told read none l = go l.left l.each l.lines_left l.all
  where
    go : (left : List Mark) → list_all is_mark left ≡ true → line.now ∷ map (λ (line : Bor (List ℕ)). line.now) lines ≡ counts_lines own left ++ rest → read ++ left ≡ before ++ told → (line.now ∷ map (λ (line : Bor (List ℕ)). line.now) lines ≡ rest) × (read ≡ before ++ told)
    go [] each is all = (is, sym (append_nothing read) ∙ all)
    go (m ∷ left) each is all =
        let first = counts_first own m left each in
        let cut = is ∙ ap (λ l. l ++ rest) first.cut in
        let here : line.now ≡ line_of own first.item (first.first ∷ first.more) = cc in
        absurd (false≢true (sym none ∙ (ap is_counts_line here ∙ counts_line own first.item first.first first.more)))

-- the first line is that of the first marks that are left
pub record NextLine (own : Name) (line : List ℕ) (lines : List (Bor (List ℕ))) (rest : List (List ℕ)) (before told read : List Mark) : Type 0 where
  pub item : Name
  pub run : List Mark
  pub is : is_item item ≡ true
  pub runs : is_run item run ≡ true
  pub some : run ≢ []
  pub written : line ≡ line_of own item run
  pub left : CountsLeft own lines rest before told (read ++ run)

pub counts_more : (own : Name) (line : Bor (List ℕ)) (lines : List (Bor (List ℕ))) (rest : List (List ℕ)) (before told read : List Mark) → is_counts_line line.now ≡ true → begins_counts rest ≡ false → CountsLeft own (line ∷ lines) rest before told read → NextLine own line.now lines rest before told read
counts_more own line lines rest before told read here ends l = go l.left l.each l.lines_left l.all
  where
    ended : (rest : List (List ℕ)) → begins_counts rest ≡ false → line.now ∷ map (λ (line : Bor (List ℕ)). line.now) lines ≡ rest → ⊥
    ended [] lacks is = cc
    ended (other ∷ rest) lacks is =
        let first : line.now ≡ other = cc in
        absurd (false≢true (sym lacks ∙ (ap is_counts_line (sym first) ∙ here)))

    go : (left : List Mark) → list_all is_mark left ≡ true → line.now ∷ map (λ (line : Bor (List ℕ)). line.now) lines ≡ counts_lines own left ++ rest → read ++ left ≡ before ++ told → NextLine own line.now lines rest before told read
    go [] each is all = absurd (ended rest ends is)
    go (m ∷ left) each is all =
        let first = counts_first own m left each in
        let cut = is ∙ ap (λ l. l ++ rest) first.cut in
        let one : line.now ≡ line_of own first.item (first.first ∷ first.more) = cc in
        let others : map (λ (line : Bor (List ℕ)). line.now) lines ≡ counts_lines own first.left ++ rest = cc in
        record {
          item = first.item;
          run = first.first ∷ first.more;
          is = first.is;
          runs = first.runs;
          some = λ none. cc;
          written = one;
          left = record {
            left = first.left;
            each = first.left_in;
            lines_left = others;
            all = append_assoc read (first.first ∷ first.more) first.left ∙ (ap (λ l. read ++ l) (sym first.all) ∙ all);
          };
        }

-- ---- the same, at a place in all lines

none_behind : (lines : List (Bor (List ℕ))) (i : ℕ) → length lines ≤ i → drop i lines ≡ []
none_behind lines i long = drop_of_length-le lines long

pub folders_end_at : (lines : List (Bor (List ℕ))) (i : ℕ) (rest : List (List ℕ)) (before told read : List FolderParts) → i < length lines → folder_in (get_or lines i no_word).now ≡ None → FoldersLeft (drop i lines) rest before told read → (map (λ (line : Bor (List ℕ)). line.now) (drop i lines) ≡ rest) × (read ≡ before ++ told)
folders_end_at lines i rest before told read below none left =
    let P : List (Bor (List ℕ)) → Type 0 = λ l. FoldersLeft l rest before told read in
    let Q : List (Bor (List ℕ)) → Type 0 = λ l. (map (λ (line : Bor (List ℕ)). line.now) l ≡ rest) × (read ≡ before ++ told) in
    let cut = drop_more lines i no_word below in
    subst Q (sym cut) (folders_end (get_or lines i no_word) (drop (i + 1) lines) rest before told read none (subst P cut left))

pub folders_out : (lines : List (Bor (List ℕ))) (i : ℕ) (rest : List (List ℕ)) (before told read : List FolderParts) → length lines ≤ i → FoldersLeft (drop i lines) rest before told read → (map (λ (line : Bor (List ℕ)). line.now) (drop i lines) ≡ rest) × (read ≡ before ++ told)
folders_out lines i rest before told read long left =
    let P : List (Bor (List ℕ)) → Type 0 = λ l. FoldersLeft l rest before told read in
    let Q : List (Bor (List ℕ)) → Type 0 = λ l. (map (λ (line : Bor (List ℕ)). line.now) l ≡ rest) × (read ≡ before ++ told) in
    let cut = none_behind lines i long in
    subst Q (sym cut) (folders_none rest before told read (subst P cut left))

pub folders_more_at : (lines : List (Bor (List ℕ))) (i : ℕ) (rest : List (List ℕ)) (before told read : List FolderParts) (f : FolderParts) → i < length lines → folder_in (get_or lines i no_word).now ≡ Some f → begins_folder rest ≡ false → FoldersLeft (drop i lines) rest before told read → FoldersLeft (drop (i + 1) lines) rest before told (read ++ f ∷ [])
folders_more_at lines i rest before told read f below some ends left =
    let P : List (Bor (List ℕ)) → Type 0 = λ l. FoldersLeft l rest before told read in
    folders_more (get_or lines i no_word) (drop (i + 1) lines) rest before told read f some ends (subst P (drop_more lines i no_word below) left)

-- what a line tells is a folder
pub folder_in_is : (line : List ℕ) (f : FolderParts) → folder_in line ≡ Some f → is_folder f ≡ true
folder_in_is line f told = go (behind_key (codes "folder ") line) told
  where
    go : (o : Option (List ℕ)) → folder_in_line o ≡ Some f → is_folder f ≡ true
    go None e = let no_folder : None ≡ Some f = e in cc
    go (Some text) e =
        elim (is_folder (folder_told text)) as (λ t. is_folder (folder_told text) ≡ t → cond t (Some (folder_told text)) None ≡ Some f → is_folder f ≡ true) [
          | true ↦ λ is same. let one : folder_told text ≡ f = cc in ap is_folder (sym one) ∙ is
          | false ↦ λ _ same. cc
        ] refl e

pub folders_pushed : (folders new : List FolderName) (folder : FolderName) → new ≡ folders ++ folder ∷ [] → map folder_of new ≡ map folder_of folders ++ folder_of folder ∷ []
folders_pushed folders new folder is = ap (map folder_of) is ∙ map-append folder_of folders (folder ∷ [])

pub all_folders : (folders : List FolderParts) (f : FolderParts) → list_all is_folder folders ≡ true → is_folder f ≡ true → list_all is_folder (folders ++ f ∷ []) ≡ true
all_folders [] f all is = and_from (is_folder f) true is refl
all_folders (g ∷ folders) f all is =
    let two = and_parts (is_folder g) (list_all is_folder folders) all in
    and_from (is_folder g) (list_all is_folder (folders ++ f ∷ [])) two.0 (all_folders folders f two.1 is)

pub counts_end_at : (own : Name) (lines : List (Bor (List ℕ))) (i : ℕ) (rest : List (List ℕ)) (before told read : List Mark) → i < length lines → is_counts_line (get_or lines i no_word).now ≡ false → CountsLeft own (drop i lines) rest before told read → (map (λ (line : Bor (List ℕ)). line.now) (drop i lines) ≡ rest) × (read ≡ before ++ told)
counts_end_at own lines i rest before told read below none left =
    let P : List (Bor (List ℕ)) → Type 0 = λ l. CountsLeft own l rest before told read in
    let Q : List (Bor (List ℕ)) → Type 0 = λ l. (map (λ (line : Bor (List ℕ)). line.now) l ≡ rest) × (read ≡ before ++ told) in
    let cut = drop_more lines i no_word below in
    subst Q (sym cut) (counts_end own (get_or lines i no_word) (drop (i + 1) lines) rest before told read none (subst P cut left))

pub counts_out : (own : Name) (lines : List (Bor (List ℕ))) (i : ℕ) (rest : List (List ℕ)) (before told read : List Mark) → length lines ≤ i → CountsLeft own (drop i lines) rest before told read → (map (λ (line : Bor (List ℕ)). line.now) (drop i lines) ≡ rest) × (read ≡ before ++ told)
counts_out own lines i rest before told read long left =
    let P : List (Bor (List ℕ)) → Type 0 = λ l. CountsLeft own l rest before told read in
    let Q : List (Bor (List ℕ)) → Type 0 = λ l. (map (λ (line : Bor (List ℕ)). line.now) l ≡ rest) × (read ≡ before ++ told) in
    let cut = none_behind lines i long in
    subst Q (sym cut) (counts_none own rest before told read (subst P cut left))

pub counts_more_at : (own : Name) (lines : List (Bor (List ℕ))) (i : ℕ) (rest : List (List ℕ)) (before told read : List Mark) → i < length lines → is_counts_line (get_or lines i no_word).now ≡ true → begins_counts rest ≡ false → CountsLeft own (drop i lines) rest before told read → NextLine own (get_or lines i no_word).now (drop (i + 1) lines) rest before told read
counts_more_at own lines i rest before told read below here ends left =
    let P : List (Bor (List ℕ)) → Type 0 = λ l. CountsLeft own l rest before told read in
    counts_more own (get_or lines i no_word) (drop (i + 1) lines) rest before told read here ends (subst P (drop_more lines i no_word below) left)

-- ---- the name in front

pub name_read : (name : List ℕ) → is_safe_name name ≡ true → name_in (name_line name) ≡ Some name
name_read name safe = ap name_in_line (behind-key name_key name) ∙ ap (λ t. cond t (Some name) None) safe

pub name_in_is : (lines : List (List ℕ)) (name : List ℕ) → first_name lines ≡ Some name → is_safe_name name ≡ true
name_in_is [] name told = let none : None ≡ Some name = told in cc
name_in_is (line ∷ lines) name told = go (behind_key name_key line) told
  where
    go : (o : Option (List ℕ)) → name_in_line o ≡ Some name → is_safe_name name ≡ true
    go None e = let none : None ≡ Some name = e in cc
    go (Some text) e =
        elim (is_safe_name text) as (λ t. is_safe_name text ≡ t → cond t (Some text) None ≡ Some name → is_safe_name name ≡ true) [
          | true ↦ λ is same. let one : text ≡ name = cc in ap is_safe_name (sym one) ∙ is
          | false ↦ λ _ same. cc
        ] refl e

-- the first of the lines behind a name tells none
other_no_name : (line : List ℕ) → is_other_line line ≡ true → name_in line ≡ None
other_no_name line is = none_from (name_in line) (and_parts (not (is_some (name_in line))) (not (is_some (folder_in line))) (and_parts (not (is_some (name_in line)) && not (is_some (folder_in line))) (not (is_counts_line line)) (and_parts (not (is_some (name_in line)) && not (is_some (folder_in line)) && not (is_counts_line line)) (is_one_line line) is).0).0).0
  where
    none_from : (o : Option (List ℕ)) → not (is_some o) ≡ true → o ≡ None
    none_from None e = refl
    none_from (Some x) e = absurd (false≢true e)

other_no_folder : (line : List ℕ) → is_other_line line ≡ true → is_some (folder_in line) ≡ false
other_no_folder line is = no_some (is_some (folder_in line)) (and_parts (not (is_some (name_in line))) (not (is_some (folder_in line))) (and_parts (not (is_some (name_in line)) && not (is_some (folder_in line))) (not (is_counts_line line)) (and_parts (not (is_some (name_in line)) && not (is_some (folder_in line)) && not (is_counts_line line)) (is_one_line line) is).0).0).1
  where
    no_some : (b : Bool) → not b ≡ true → b ≡ false
    no_some true e = absurd (false≢true e)
    no_some false e = refl

other_no_counts : (line : List ℕ) → is_other_line line ≡ true → is_counts_line line ≡ false
other_no_counts line is = no_some (is_counts_line line) (and_parts (not (is_some (name_in line)) && not (is_some (folder_in line))) (not (is_counts_line line)) (and_parts (not (is_some (name_in line)) && not (is_some (folder_in line)) && not (is_counts_line line)) (is_one_line line) is).0).1
  where
    no_some : (b : Bool) → not b ≡ true → b ≡ false
    no_some true e = absurd (false≢true e)
    no_some false e = refl

-- a line of counts tells neither a name nor a folder
counts_no_name : (own item : Name) (first : Mark) (more : List Mark) → name_in (line_of own item (first ∷ more)) ≡ None
counts_no_name own item first more =
    elim (name_eq own item) as (λ t. name_in (cond t (codes "counts") (codes "counts of " ++ name_text item) ++ flat_map mark_text (first ∷ more)) ≡ None) [
      | true ↦ refl
      | false ↦ refl
    ]

counts_no_folder : (own item : Name) (first : Mark) (more : List Mark) → is_some (folder_in (line_of own item (first ∷ more))) ≡ false
counts_no_folder own item first more =
    elim (name_eq own item) as (λ t. is_some (folder_in (cond t (codes "counts") (codes "counts of " ++ name_text item) ++ flat_map mark_text (first ∷ more))) ≡ false) [
      | true ↦ refl
      | false ↦ refl
    ]

pub others_begin : (others : List (List ℕ)) → list_all is_other_line others ≡ true → (first_name others ≡ None) × (begins_folder others ≡ false) × (begins_counts others ≡ false)
others_begin [] all = (refl, refl, refl)
others_begin (line ∷ others) all =
    let is = (and_parts (is_other_line line) (list_all is_other_line others) all).0 in
    (other_no_name line is, other_no_folder line is, other_no_counts line is)

pub counts_begin : (own : Name) (marks : List Mark) (others : List (List ℕ)) → list_all is_mark marks ≡ true → list_all is_other_line others ≡ true → (first_name (counts_lines own marks ++ others) ≡ None) × (begins_folder (counts_lines own marks ++ others) ≡ false)
counts_begin own [] others each all = let rest = others_begin others all in (rest.0, rest.1)
counts_begin own (m ∷ marks) others each all =
    let first = counts_first own m marks each in
    let cut : counts_lines own (m ∷ marks) ++ others ≡ line_of own first.item (first.first ∷ first.more) ∷ (counts_lines own first.left ++ others) = ap (λ l. l ++ others) first.cut in
    (ap first_name cut ∙ counts_no_name own first.item first.first first.more, ap begins_folder cut ∙ counts_no_folder own first.item first.first first.more)

pub folders_begin : (own : Name) (folders : List FolderParts) (marks : List Mark) (others : List (List ℕ)) → list_all is_mark marks ≡ true → list_all is_other_line others ≡ true → first_name (map folder_line folders ++ (counts_lines own marks ++ others)) ≡ None
folders_begin own [] marks others each all = (counts_begin own marks others each all).0
folders_begin own (f ∷ folders) marks others each all = refl

-- the name, and the lines behind it
pub name_cut : (lines : List (Bor (List ℕ))) (name : Option (List ℕ)) (rest : List (List ℕ)) → is_some_name name ≡ true → first_name rest ≡ None → map (λ (line : Bor (List ℕ)). line.now) lines ≡ name_lines name ++ rest → (first_name (map (λ (line : Bor (List ℕ)). line.now) lines) ≡ name) × (map (λ (line : Bor (List ℕ)). line.now) (drop (cond (is_some name) 1 0) lines) ≡ rest)
name_cut lines None rest safe none is = (ap first_name is ∙ none, is)
name_cut [] (Some name) rest safe none is = absurd (cc)
name_cut (line ∷ lines) (Some name) rest safe none is =
    let first : line.now ≡ name_line name = cc in
    let behind : map (λ (line : Bor (List ℕ)). line.now) lines ≡ rest = cc in
    (ap name_in first ∙ name_read name safe, behind)

pub name_place : (lines : List (Bor (List ℕ))) (name : Option (List ℕ)) → first_name (map (λ (line : Bor (List ℕ)). line.now) lines) ≡ name → cond (is_some name) 1 0 ≤ length lines
name_place lines None is = omega arith
name_place [] (Some name) is = let none : None ≡ Some name = is in absurd (cc)
name_place (line ∷ lines) (Some name) is = omega arith

pub name_safe : (lines : List (List ℕ)) (name : Option (List ℕ)) → first_name lines ≡ name → is_some_name name ≡ true
name_safe lines None is = refl
name_safe lines (Some name) is = name_in_is lines name is

-- ---- folders in order

pub rising_at : (folders : List FolderName) (i : ℕ) (a b : FolderName) → 1 ≤ i → i < length folders → a ≡ get_or folders (i - 1) a → b ≡ get_or folders i b → are_rising (map folder_of (drop (i - 1) folders)) ≡ (is_lt (text_cmp a.label b.label) && are_rising (map folder_of (drop i folders)))
rising_at folders i a b from below first second =
    let before : i - 1 < length folders = omega arith in
    let next : (i - 1) + 1 ≡ i = omega arith in
    let here : drop i folders ≡ b ∷ drop (i + 1) folders = drop_more folders i b below ∙ ap (λ x. x ∷ drop (i + 1) folders) (sym second) in
    let all : drop (i - 1) folders ≡ a ∷ b ∷ drop (i + 1) folders =
    drop_more folders (i - 1) a before ∙ (ap (λ x. x ∷ drop ((i - 1) + 1) folders) (sym first) ∙ ap (λ l. a ∷ l) (ap (λ k. drop k folders) next ∙ here)) in
    ap (λ l. are_rising (map folder_of l)) all ∙ ap (λ l. is_lt (text_cmp a.label b.label) && are_rising (map folder_of l)) (sym here)

pub rising_end : (folders : List FolderName) (i : ℕ) → 1 ≤ i → length folders ≤ i → are_rising (map folder_of (drop (i - 1) folders)) ≡ true
rising_end folders i from long = go (drop (i - 1) folders) (let all = length-drop (i - 1) folders in omega arith)
  where
    go : (rest : List FolderName) → length rest ≤ 1 → are_rising (map folder_of rest) ≡ true
    go [] few = refl
    go (f ∷ []) few = refl
    go (f ∷ g ∷ rest) few = absurd (omega arith)

-- ---- all lines

pub lines_behind_name : (own : Name) (lines : List (Bor (List ℕ))) (told : LinesParts) (from : ℕ) → AreLines told → map (λ (line : Bor (List ℕ)). line.now) lines ≡ told_lines own told → from ≡ cond (is_some (first_name (map (λ (line : Bor (List ℕ)). line.now) lines))) 1 0 → (first_name (map (λ (line : Bor (List ℕ)). line.now) lines) ≡ told.name) × (map (λ (line : Bor (List ℕ)). line.now) (drop from lines) ≡ map folder_line told.folders ++ (counts_lines own told.marks ++ told.others))
lines_behind_name own lines told from are is place =
    let cut = name_cut lines told.name (map folder_line told.folders ++ (counts_lines own told.marks ++ told.others)) are.name_in (folders_begin own told.folders told.marks told.others are.marks_in are.others_in) is in
    (cut.0, ap (λ k. map (λ (line : Bor (List ℕ)). line.now) (drop k lines)) (place ∙ ap (λ o. cond (is_some o) 1 0) cut.0) ∙ cut.1)

pub same_lines : (name : Option (List ℕ)) (folders : List FolderParts) (marks : List Mark) (others : List (List ℕ)) (told : LinesParts) → name ≡ told.name → folders ≡ told.folders → marks ≡ told.marks → others ≡ told.others → ◌≡◌ {A = LinesParts} (record { name = name; folders = folders; marks = marks; others = others }) told
same_lines name folders marks others told a b c d = λ i. record { name = a i; folders = b i; marks = c i; others = d i }
