-- a path that a layout gives is that of a folder of the Maildir
use Rattle.std.proofs.Common.{Option, ◌≡◌, ℕ, true, false, not, cond, ◌&&◌, List, [], ◌∷◌, length, take, suc, refl, sym, ap, subst, ◌∙◌, arith, ◌+◌}
use Rattle.std.specs.Prelude.{◌==◌, nat_le, slice_index, codes}
use Rattle.std.specs.List.{list_all, onto_first, position_or_len}
use Rattle.std.specs.Cmp.Lexicographic.{bytes_decides}
use Rattle.std.proofs.lemmas.Bool.{and_parts, and_from, false≢true, not-true, eqb-true, both_ways}
use Rattle.std.proofs.lemmas.List.Sums.{AllPass-from_list_all, list_all-from_AllPass}
use Rattle.mr_folder.specs.Inside.{is_part_byte, IsPart, IsFolder, first_part, own_folder}
use Rattle.mr_folder.specs.inner.Parts.{is_part_text, parts_of}
use Rattle.mr_folder.proofs.PartLemmas.{inside_from_test, test_from_part}
use Rattle.mr_mail.specs.Label.{text_eq}
use Rattle.mr_maildir.specs.Layout.{cut_at, folder_path, is_level, is_path_level, name_for, path_of, IsFolderPath}
use Rattle.mr_maildir.specs.Path.{is_path_byte, IsPathPart}
use Rattle.mr_maildir.specs.declared.layout.Layout.{Layout}
use Rattle.mr_maildir.specs.declared.layout.Layout.TheVariants.{Dots, Plain}

-- a byte that a path may have is neither `/` nor NUL
path_byte_in_part : (b : ℕ) → is_path_byte b ≡ true → is_part_byte b ≡ true
path_byte_in_part b is =
    let two = and_parts (nat_le 32 b && not (b == 127)) (not (b == 47)) is in
    let low = and_parts (nat_le 32 b) (not (b == 127)) two.0 in
    and_from (not (b == 47)) (not (b == 0)) two.1
    (elim (b == 0) as (λ t. (b == 0) ≡ t → not t ≡ true) [
      | true ↦ λ zero. absurd (false≢true (ap (λ c. nat_le 32 c) (sym (eqb-true b 0 zero)) ∙ low.0))
      | false ↦ λ _. refl
    ] refl)

bytes_in_part : (text : List ℕ) → list_all is_path_byte text ≡ true → list_all is_part_byte text ≡ true
bytes_in_part [] is = refl
bytes_in_part (b ∷ text) is =
    let two = and_parts (is_path_byte b) (list_all is_path_byte text) is in
    and_from (is_part_byte b) (list_all is_part_byte text) (path_byte_in_part b two.0) (bytes_in_part text two.1)

-- a text that doesn't begin with a dot, of bytes that a path may have, is a part of a path; so is such a text behind a dot
shown_part : (b : ℕ) (text : List ℕ) → not (b == 46) ≡ true → list_all is_path_byte (b ∷ text) ≡ true → IsPart (b ∷ text)
shown_part b text no_dot bytes = record {
  something = omega arith;
  bytes = AllPass-from_list_all is_part_byte (b ∷ text) (bytes_in_part (b ∷ text) bytes);
  not_here = λ e. dotted (ap (λ t. slice_index t 0) e);
  not_above = λ e. dotted (ap (λ t. slice_index t 0) e);
}
  where
    dotted : b ≡ 46 → ⊥
    dotted e = false≢true (ap (λ c. not (c == 46)) (sym e) ∙ no_dot)

dotted_part : (b : ℕ) (text : List ℕ) → (b ≡ 46 → ⊥) → list_all is_path_byte (b ∷ text) ≡ true → IsPart (46 ∷ b ∷ text)
dotted_part b text shown bytes = record {
  something = omega arith;
  bytes = AllPass-from_list_all is_part_byte (46 ∷ b ∷ text) (bytes_in_part (b ∷ text) bytes);
  not_here = λ e. let short : length (46 ∷ b ∷ text) ≡ 1 = ap length e in omega arith;
  not_above = λ e. shown (ap (λ t. slice_index t 1) e);
}

-- a level of a path is a part of it
level_part : (level : List ℕ) → is_path_level level ≡ true → is_part_text level ≡ true
level_part [] is = absurd (false≢true is)
level_part (b ∷ level) is =
    let two = and_parts (is_level (b ∷ level) && not (b == 46)) (list_all is_path_byte (b ∷ level)) is in
    test_from_part (b ∷ level) (shown_part b level (and_parts (is_level (b ∷ level)) (not (b == 46)) two.0).1 two.1)

level_parts : (levels : List (List ℕ)) → list_all is_path_level levels ≡ true → list_all is_part_text levels ≡ true
level_parts [] is = refl
level_parts (level ∷ levels) is =
    let two = and_parts (is_path_level level) (list_all is_path_level levels) is in
    and_from (is_part_text level) (list_all is_part_text levels) (level_part level two.0) (level_parts levels two.1)

taken_more : (b : ℕ) (rest : List ℕ) (n : ℕ) → take (1 + n) (b ∷ rest) ≡ b ∷ take n rest
taken_more b rest n = let e : 1 + n ≡ suc n = omega arith in rw e refl

-- a first part that begins with a dot begins the path
first_dotted : (b : ℕ) (rest : List ℕ) → first_part (b ∷ rest) ≡ own_folder → b ≡ 46
first_dotted b rest own =
    elim (b == 47) as (λ t. take (cond (not t) (1 + position_or_len (λ c. c == 47) rest) 0) (b ∷ rest) ≡ own_folder → b ≡ 46) [
      | true ↦ λ e. absurd (none e)
      | false ↦ λ e. ap (λ t. slice_index t 0) (sym (taken_more b rest (position_or_len (λ c. c == 47) rest)) ∙ e)
    ] own
  where
    none : [] ≡ own_folder → ⊥
    none e = let short : ◌≡◌ {A = ℕ} 0 9 = ap length e in omega arith

-- in a layout of plain folders no path begins with a dot
plain_shown : (b : ℕ) (rest : List ℕ) → list_all is_path_level (cut_at 47 (b ∷ rest)) ≡ true → b ≡ 46 → ⊥
plain_shown b rest is dot =
    let e : list_all is_path_level (cut_at 47 (46 ∷ rest)) ≡ true = ap (λ c. list_all is_path_level (cut_at 47 (c ∷ rest))) (sym dot) ∙ is in
    begun (cut_at 47 rest) e
  where
    begun : (parts : List (List ℕ)) → list_all is_path_level (onto_first 46 parts) ≡ true → ⊥
    begun [] e = absurd (false≢true e)
    begun (part ∷ parts) e =
        let level = and_parts (is_path_level (46 ∷ part)) (list_all is_path_level parts) e in
        let front = and_parts (is_level (46 ∷ part) && not (slice_index (46 ∷ part) 0 == 46)) (list_all is_path_byte (46 ∷ part)) level.0 in
        false≢true (and_parts (is_level (46 ∷ part)) (not (slice_index (46 ∷ part) 0 == 46)) front.0).1

-- what has no `/` is a path's first part
whole_first : (text : List ℕ) → list_all is_path_byte text ≡ true → first_part text ≡ text
whole_first [] is = refl
whole_first (b ∷ text) is =
    let two = and_parts (is_path_byte b) (list_all is_path_byte text) is in
    let slash : (b == 47) ≡ false = not-true (b == 47) (and_parts (nat_le 32 b && not (b == 127)) (not (b == 47)) two.0).1 in
    ap (λ t. take (cond (not t) (1 + position_or_len (λ c. c == 47) text) 0) (b ∷ text)) slash ∙ (taken_more b text (position_or_len (λ c. c == 47) text) ∙ ap (λ rest. b ∷ rest) (whole_first text two.1))

-- a name behind a dot
dotted : (name : List ℕ) → IsPathPart name → text_eq (46 ∷ name) (codes ".mailfold") ≡ false → IsFolder (46 ∷ name)
dotted [] part not_own = let some = part.something in absurd (omega arith)
dotted (b ∷ text) part not_own =
    let bytes = list_all-from_AllPass is_path_byte (b ∷ text) part.bytes in (
      record { first = 46 ∷ b ∷ text; more = []; first_is = dotted_part b text part.shown bytes; more_are = tt; path_is = refl },
      λ own. both_ways (text_eq (46 ∷ b ∷ text) (codes ".mailfold")) not_own ((bytes_decides (46 ∷ b ∷ text) (codes ".mailfold")).1 (sym (whole_first (46 ∷ b ∷ text) bytes) ∙ own)),
    )

-- the path of a folder of the Maildir
pub given_folder : (layout : Layout) (path : List ℕ) → IsFolderPath layout path → text_eq path (codes ".mailfold") ≡ false → IsFolder path
given_folder Dots path (name, path_is, part) not_own = subst IsFolder (sym path_is) (dotted name part (ap (λ p. text_eq p (codes ".mailfold")) (sym path_is) ∙ not_own))
given_folder Plain [] is not_own = tt
given_folder Plain (b ∷ rest) is not_own = (inside_from_test (b ∷ rest) (level_parts (parts_of (b ∷ rest)) is), λ own. plain_shown b rest is (first_dotted b rest own))

-- so is the path that a layout gives a label's folder
pub label_folder : (layout : Layout) (label : List ℕ) (told : Option (List ℕ)) (path : List ℕ) → path ≡ folder_path layout label told → (text_eq label (codes "inbox") ≡ false → IsFolderPath layout path) → text_eq path (codes ".mailfold") ≡ false → IsFolder path
label_folder layout label told path given below not_own =
    elim (text_eq label (codes "inbox")) as (λ b. (b ≡ false → IsFolderPath layout path) → path ≡ cond b [] (path_of layout (name_for layout label told)) → IsFolder path) [
      | true ↦ λ _ none. subst IsFolder (sym none) tt
      | false ↦ λ is _. given_folder layout path (is refl) not_own
    ] below given
