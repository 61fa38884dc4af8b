-- names of folders as paths, and back
use Rattle.std.proofs.Common.{◌≡◌, ℕ, ◌<◌, Bool, true, false, not, cond, ◌&&◌, ◌||◌, List, [], ◌∷◌, ◌++◌, length, map, Option, Some, None, IfSome, refl, sym, ap, ◌∙◌, inl, inr, arith}
use Rattle.mr_maildir.proofs.Names.{Bor, IsFolderPath, admits, and_from, and_parts, behind_key, cases_Bool, codes, cut_at, dotted_name, eq-eqb, eqb-true}
use Rattle.mr_maildir.proofs.Names.{false≢true, folder_path, is_kept_name, is_label, is_label_byte, is_level, is_part_name, is_path_byte, is_path_level}
use Rattle.mr_maildir.proofs.Names.{is_read_level, is_safe_folder, join_by, join_with_byte, label_of, le-leb, leb-true, list_all, name_at, name_for, nat_le}
use Rattle.mr_maildir.proofs.Names.{not-true, onto_first, option_map, path_of, slice_index, slice_split, text_eq, ◌==◌}
use Rattle.std.proofs.lemmas.List.Splits.{join_with_byte-slice_split}
use Rattle.mr_maildir.specs.declared.layout.Layout.{Layout}
use Rattle.mr_maildir.specs.declared.layout.Layout.TheVariants.{Dots, Plain}
use Rattle.mr_maildir.proofs.ToldLemmas.{behind-key}
use Rattle.mr_maildir.proofs.FolderLemmas.{implied, safe_is_part, safe_not_own, label_byte_in_path, label_of-not_own, label_of-not_part, label_of-label}
use Rattle.mr_maildir.proofs.ViewLemmas.{same_text}

-- ---- parts of a text

-- whether each part passes at each byte
abbrev each_part : (ℕ → Bool) → List (List ℕ) → Bool
each_part p parts = list_all (list_all p) parts

onto_pass : (p : ℕ → Bool) (x : ℕ) (parts : List (List ℕ)) → p x ≡ true → each_part p parts ≡ true → each_part p (onto_first x parts) ≡ true
onto_pass p x [] one all = and_from (p x && true) true (and_from (p x) true one refl) refl
onto_pass p x (part ∷ parts) one all =
    let two = and_parts (list_all p part) (each_part p parts) all in
    and_from (list_all p (x ∷ part)) (each_part p parts) (and_from (p x) (list_all p part) one two.0) two.1

-- what each byte of a text passes, each of its parts does
parts_pass : (p q : ℕ → Bool) (xs : List ℕ) → list_all p xs ≡ true → each_part p (slice_split q xs) ≡ true
parts_pass p q [] all = refl
parts_pass p q (x ∷ xs) all =
    let two = and_parts (p x) (list_all p xs) all in
    elim (q x) as (λ t. each_part p (cond t ([] ∷ slice_split q xs) (onto_first x (slice_split q xs))) ≡ true) [
      | true ↦ parts_pass p q xs two.1
      | false ↦ onto_pass p x (slice_split q xs) two.0 (parts_pass p q xs two.1)
    ]

-- no part has the byte at which the text is cut
parts_lack : (q : ℕ → Bool) (xs : List ℕ) → each_part (λ b. not (q b)) (slice_split q xs) ≡ true
parts_lack q [] = refl
parts_lack q (x ∷ xs) =
    elim (q x) as (λ t. q x ≡ t → each_part (λ b. not (q b)) (cond t ([] ∷ slice_split q xs) (onto_first x (slice_split q xs))) ≡ true) [
      | true ↦ λ _. parts_lack q xs
      | false ↦ λ fails. onto_pass (λ b. not (q b)) x (slice_split q xs) (ap not fails) (parts_lack q xs)
    ] refl

pub cut_in_front : (c : ℕ) (part : List ℕ) (rest : List ℕ) → list_all (λ b. not (b == c)) part ≡ true → cut_at c (part ++ c ∷ rest) ≡ part ∷ cut_at c rest
cut_in_front c [] rest lacks = ap (λ t. cond t ([] ∷ cut_at c rest) (onto_first c (cut_at c rest))) (eq-eqb c c refl)
cut_in_front c (x ∷ part) rest lacks =
    let two = and_parts (not (x == c)) (list_all (λ b. not (b == c)) part) lacks in
    ap (λ t. cond t ([] ∷ cut_at c (part ++ c ∷ rest)) (onto_first x (cut_at c (part ++ c ∷ rest)))) (not-true (x == c) two.0)
    ∙ ap (onto_first x) (cut_in_front c part rest two.1)

pub uncut : (c : ℕ) (part : List ℕ) → list_all (λ b. not (b == c)) part ≡ true → cut_at c part ≡ part ∷ []
uncut c [] lacks = refl
uncut c (x ∷ part) lacks =
    let two = and_parts (not (x == c)) (list_all (λ b. not (b == c)) part) lacks in
    ap (λ t. cond t ([] ∷ cut_at c part) (onto_first x (cut_at c part))) (not-true (x == c) two.0)
    ∙ ap (onto_first x) (uncut c part two.1)

-- parts that lack the byte are those of the text that they make with it between them
cut_joined : (c : ℕ) (part : List ℕ) (parts : List (List ℕ)) → each_part (λ b. not (b == c)) (part ∷ parts) ≡ true → cut_at c (join_with_byte c (part ∷ parts)) ≡ part ∷ parts
cut_joined c part [] lack = uncut c part (and_parts (list_all (λ b. not (b == c)) part) true lack).0
cut_joined c part (next ∷ parts) lack =
    let two = and_parts (list_all (λ b. not (b == c)) part) (each_part (λ b. not (b == c)) (next ∷ parts)) lack in
    cut_in_front c part (join_with_byte c (next ∷ parts)) two.0 ∙ ap (λ l. part ∷ l) (cut_joined c next parts two.1)

onto_some : (x : ℕ) (parts : List (List ℕ)) → 0 < length (onto_first x parts)
onto_some x [] = omega arith
onto_some x (part ∷ parts) = omega arith

pub split_some : (q : ℕ → Bool) (xs : List ℕ) → 0 < length (slice_split q xs)
split_some q [] = omega arith
split_some q (x ∷ xs) =
    elim (q x) as (λ t. 0 < length (cond t ([] ∷ slice_split q xs) (onto_first x (slice_split q xs)))) [
      | true ↦ omega arith
      | false ↦ onto_some x (slice_split q xs)
    ]

cut_some_joined : (c : ℕ) (parts : List (List ℕ)) → 0 < length parts → each_part (λ b. not (b == c)) parts ≡ true → cut_at c (join_with_byte c parts) ≡ parts
cut_some_joined c [] some lack = absurd (omega arith)
cut_some_joined c (part ∷ parts) some lack = cut_joined c part parts lack

-- ---- levels

both_tests : (p q r : List ℕ → Bool) → ((l : List ℕ) → p l ≡ true → q l ≡ true → r l ≡ true) → (ls : List (List ℕ)) → list_all p ls ≡ true → list_all q ls ≡ true → list_all r ls ≡ true
both_tests p q r each [] ps qs = refl
both_tests p q r each (l ∷ ls) ps qs =
    let pp = and_parts (p l) (list_all p ls) ps in
    let qq = and_parts (q l) (list_all q ls) qs in
    and_from (r l) (list_all r ls) (each l pp.0 qq.0) (both_tests p q r each ls pp.1 qq.1)

path_no_slash : (b : ℕ) → is_path_byte b ≡ true → not (b == 47) ≡ true
path_no_slash b is = (and_parts (nat_le 32 b && not (b == 127)) (not (b == 47)) is).1

safe_bytes : (name : List ℕ) → is_safe_folder name ≡ true → list_all is_path_byte name ≡ true
safe_bytes name safe =
    let four = (and_parts (nat_le 1 (length name) && nat_le (length name) 200 && not (slice_index name 0 == 46) && list_all is_path_byte name) (not (text_eq name (codes "mailfold"))) safe).0 in
    (and_parts (nat_le 1 (length name) && nat_le (length name) 200 && not (slice_index name 0 == 46)) (list_all is_path_byte name) four).1

-- the levels of a name that the layout can have are those of its path
levels_of_path : (name : List ℕ) → is_safe_folder name ≡ true → cut_at 47 (path_of Plain name) ≡ cut_at 46 name
levels_of_path name safe =
    cut_some_joined 47 (cut_at 46 name) (split_some (λ b. b == 46) name)
    (parts_pass (λ b. not (b == 47)) (λ b. b == 46) name (implied is_path_byte (λ b. not (b == 47)) path_no_slash name (safe_bytes name safe)))

no_dot_first : (level : List ℕ) → list_all (λ b. not (b == 46)) level ≡ true → not (slice_index level 0 == 46) ≡ true
no_dot_first [] lacks = refl
no_dot_first (b ∷ level) lacks = (and_parts (not (b == 46)) (list_all (λ b. not (b == 46)) level) lacks).0

-- a folder's path stays below the Maildir
pub path_below : (layout : Layout) (name : List ℕ) → admits layout name ≡ true → IsFolderPath layout (path_of layout name)
path_below Dots name safe = (name, refl, safe_is_part name safe)
path_below Plain name is =
    let two = and_parts (is_safe_folder name) (list_all is_level (cut_at 46 name)) is in
    let bytes = parts_pass is_path_byte (λ b. b == 46) name (safe_bytes name two.0) in
    let lack = parts_lack (λ b. b == 46) name in
    let shown : list_all (λ l. not (slice_index l 0 == 46)) (cut_at 46 name) ≡ true =
    both_tests (list_all (λ b. not (b == 46))) (list_all (λ b. not (b == 46))) (λ l. not (slice_index l 0 == 46)) (λ l one _. no_dot_first l one) (cut_at 46 name) lack lack in
    let front : list_all (λ l. is_level l && not (slice_index l 0 == 46)) (cut_at 46 name) ≡ true =
    both_tests is_level (λ l. not (slice_index l 0 == 46)) (λ l. is_level l && not (slice_index l 0 == 46)) (λ l one two. and_from (is_level l) (not (slice_index l 0 == 46)) one two) (cut_at 46 name) two.1 shown in
    ap (list_all is_path_level) (levels_of_path name two.0)
    ∙ both_tests (λ l. is_level l && not (slice_index l 0 == 46)) (list_all is_path_byte) is_path_level (λ l one two. and_from (is_level l && not (slice_index l 0 == 46)) (list_all is_path_byte l) one two) (cut_at 46 name) front bytes

-- it is not the program's own
pub path_not_own : (layout : Layout) (name : List ℕ) → admits layout name ≡ true → text_eq (path_of layout name) (codes ".mailfold") ≡ false
path_not_own Dots name safe = safe_not_own name safe
path_not_own Plain name is =
    elim (cases_Bool (text_eq (path_of Plain name) (codes ".mailfold"))) [
      | inl holds ↦
          let same : path_of Plain name ≡ codes ".mailfold" = same_text (path_of Plain name) (codes ".mailfold") holds in
          let below : list_all is_path_level (cut_at 47 (path_of Plain name)) ≡ true = path_below Plain name is in
          let wrong : list_all is_path_level (cut_at 47 (codes ".mailfold")) ≡ true = ap (λ path. list_all is_path_level (cut_at 47 path)) (sym same) ∙ below in
          absurd (false≢true wrong)
      | inr fails ↦ fails
    ]

-- the path of a folder, read back, is its name
pub name_back : (layout : Layout) (name : List ℕ) → admits layout name ≡ true → name_at layout (path_of layout name) ≡ Some name
name_back Dots name safe =
    let part = safe_is_part name safe in
    let some : nat_le 1 (length name) ≡ true = le-leb 1 (length name) (let long = part.something in omega arith) in
    let slashes = implied is_path_byte (λ b. not (b == 47)) path_no_slash name (safe_bytes name safe) in
    ap (λ t. cond t (Some name) None) (and_from (nat_le 1 (length name)) (list_all (λ b. not (b == 47)) name) some slashes)
name_back Plain name is =
    let two = and_parts (is_safe_folder name) (list_all is_level (cut_at 46 name)) is in
    let same = levels_of_path name two.0 in
    let read : list_all is_read_level (cut_at 46 name) ≡ true =
    both_tests is_level (list_all (λ b. not (b == 46))) is_read_level (λ l one two. and_from (is_level l) (list_all (λ b. not (b == 46)) l) one two) (cut_at 46 name) two.1 (parts_lack (λ b. b == 46) name) in
    ap (λ ls. cond (list_all is_read_level ls) (Some (join_with_byte 46 ls)) None) same
    ∙ (ap (λ t. cond t (Some (join_with_byte 46 (cut_at 46 name))) None) read ∙ ap Some (join_with_byte-slice_split 46 name))

-- ---- the name of a label's folder

-- a label that folders can have may be a folder's name
label_admitted : (layout : Layout) (label : List ℕ) → is_label label ≡ true → text_eq label (codes "mailfold") ≡ false → is_part_name label ≡ false → admits layout label ≡ true
label_admitted layout label is not_own not_part = go layout
  where
    size : (nat_le 1 (length label) && nat_le (length label) 32) ≡ true
    size = (and_parts (nat_le 1 (length label) && nat_le (length label) 32) (list_all is_label_byte label) is).0

    bytes : list_all is_label_byte label ≡ true
    bytes = (and_parts (nat_le 1 (length label) && nat_le (length label) 32) (list_all is_label_byte label) is).1

    some : nat_le 1 (length label) ≡ true
    some = (and_parts (nat_le 1 (length label)) (nat_le (length label) 32) size).0

    few : nat_le (length label) 200 ≡ true
    few = let short = leb-true (length label) 32 (and_parts (nat_le 1 (length label)) (nat_le (length label) 32) size).1 in le-leb (length label) 200 (omega arith)

    undotted : (b : ℕ) → is_label_byte b ≡ true → not (b == 46) ≡ true
    undotted b one =
        elim (cases_Bool (b == 46)) [
          | inl holds ↦ let dot : is_label_byte 46 ≡ true = ap is_label_byte (sym (eqb-true b 46 holds)) ∙ one in absurd (false≢true dot)
          | inr fails ↦ ap not fails
        ]

    lacks : list_all (λ b. not (b == 46)) label ≡ true
    lacks = implied is_label_byte (λ b. not (b == 46)) undotted label bytes

    safe : is_safe_folder label ≡ true
    safe =
        and_from (nat_le 1 (length label) && nat_le (length label) 200 && not (slice_index label 0 == 46) && list_all is_path_byte label) (not (text_eq label (codes "mailfold")))
        (and_from (nat_le 1 (length label) && nat_le (length label) 200 && not (slice_index label 0 == 46)) (list_all is_path_byte label)
        (and_from (nat_le 1 (length label) && nat_le (length label) 200) (not (slice_index label 0 == 46)) (and_from (nat_le 1 (length label)) (nat_le (length label) 200) some few) (no_dot_first label lacks))
        (implied is_label_byte is_path_byte label_byte_in_path label bytes)) (ap not not_own)

    go : (l : Layout) → admits l label ≡ true
    go Dots = safe
    go Plain =
        and_from (is_safe_folder label) (list_all is_level (cut_at 46 label)) safe
        (ap (list_all is_level) (uncut 46 label lacks) ∙ and_from (is_level label) true (and_from (nat_le 1 (length label)) (not (is_part_name label)) some (ap not not_part)) refl)

-- so is the label of any name
pub label_of-admitted : (layout : Layout) (name : List ℕ) → is_label (label_of name) ≡ true → admits layout (label_of name) ≡ true
label_of-admitted layout name is = label_admitted layout (label_of name) is (label_of-not_own name) (label_of-not_part name)

pub name_for-admitted : (layout : Layout) (label : List ℕ) (told : Option (List ℕ)) → is_label (label_of label) ≡ true → admits layout (name_for layout label told) ≡ true
name_for-admitted layout label None is = label_of-admitted layout label is
name_for-admitted layout label (Some told) is =
    elim (cases_Bool (admits layout told && text_eq (label_of told) label)) [
      | inl holds ↦ ap (λ t. admits layout (cond t told (label_of label))) holds ∙ (and_parts (admits layout told) (text_eq (label_of told) label) holds).0
      | inr fails ↦ ap (λ t. admits layout (cond t told (label_of label))) fails ∙ label_of-admitted layout label is
    ]

name_for-label : (layout : Layout) (label : List ℕ) (told : Option (List ℕ)) → label_of label ≡ label → label_of (name_for layout label told) ≡ label
name_for-label layout label None same = ap label_of same ∙ same
name_for-label layout label (Some told) same =
    elim (cases_Bool (admits layout told && text_eq (label_of told) label)) [
      | inl holds ↦ ap (λ t. label_of (cond t told (label_of label))) holds ∙ same_text (label_of told) label (and_parts (admits layout told) (text_eq (label_of told) label) holds).1
      | inr fails ↦ ap (λ t. label_of (cond t told (label_of label))) fails ∙ (ap label_of same ∙ same)
    ]

or_first : (a b c : Bool) → (a || b || c) ≡ false → a ≡ false
or_first true b c h = absurd (false≢true (sym h))
or_first false b c h = refl

-- the path of a label's folder, read back, is the name of a folder with this label
pub label_back : (layout : Layout) (label : List ℕ) (told : Option (List ℕ)) → is_label label ≡ true → is_kept_name label ≡ false → option_map label_of (name_at layout (folder_path layout label told)) ≡ Some label
label_back layout label told is free =
    let same = label_of-label label is free in
    let is_also : is_label (label_of label) ≡ true = ap is_label same ∙ is in
    ap (λ t. option_map label_of (name_at layout (cond t [] (path_of layout (name_for layout label told))))) (or_first (text_eq label (codes "inbox")) (text_eq label (codes "mailfold")) (is_part_name label) free)
    ∙ (ap (option_map label_of) (name_back layout (name_for layout label told) (name_for-admitted layout label told is_also))
    ∙ ap Some (name_for-label layout label told same))

-- ---- a path that is read

pub written_back : (layout : Layout) (path name : List ℕ) → name_at layout path ≡ Some name → path_of layout name ≡ path
written_back Dots [] name is = cc
written_back Dots (b ∷ rest) name is =
    elim ((b == 46) && nat_le 1 (length rest) && list_all (λ b. not (b == 47)) rest) as (λ t. ((b == 46) && nat_le 1 (length rest) && list_all (λ b. not (b == 47)) rest) ≡ t → cond t (Some rest) None ≡ Some name → 46 ∷ name ≡ b ∷ rest) [
      | true ↦ λ holds e.
          let dot : b ≡ 46 = eqb-true b 46 (and_parts (b == 46) (nat_le 1 (length rest)) (and_parts ((b == 46) && nat_le 1 (length rest)) (list_all (λ b. not (b == 47)) rest) holds).0).0 in
          let same : rest ≡ name = cc in
          cc
      | false ↦ λ _ e. cc
    ] refl is
written_back Plain path name is =
    elim (list_all is_read_level (cut_at 47 path)) as (λ t. list_all is_read_level (cut_at 47 path) ≡ t → cond t (Some (join_with_byte 46 (cut_at 47 path))) None ≡ Some name → path_of Plain name ≡ path) [
      | true ↦ λ holds e.
          let same : join_with_byte 46 (cut_at 47 path) ≡ name = cc in
          let lack : each_part (λ b. not (b == 46)) (cut_at 47 path) ≡ true = both_tests is_read_level is_read_level (list_all (λ b. not (b == 46))) (λ l one _. (and_parts (is_level l) (list_all (λ b. not (b == 46)) l) one).1) (cut_at 47 path) holds holds in
          ap (path_of Plain) (sym same)
          ∙ (ap (join_with_byte 47) (cut_some_joined 46 (cut_at 47 path) (split_some (λ b. b == 47) path) lack)
          ∙ join_with_byte-slice_split 47 path)
      | false ↦ λ _ e. cc
    ] refl is

pub written_at : (layout : Layout) (path : List ℕ) → IfSome (name_at layout path) (λ name. path_of layout name ≡ path)
written_at layout path = go (name_at layout path) refl
  where
    go : (o : Option (List ℕ)) → name_at layout path ≡ o → IfSome o (λ name. path_of layout name ≡ path)
    go None is = tt
    go (Some name) is = written_back layout path name is

-- a path without a dot in front
pub not_dotted : (path : List ℕ) → behind_key (codes ".") path ≡ None → dotted_name path ≡ None
not_dotted [] is = refl
not_dotted (b ∷ rest) is =
    elim (cases_Bool (b == 46)) [
      | inl dot ↦
          let wrong : Some rest ≡ None = sym (behind-key (codes ".") rest) ∙ (ap (λ x. behind_key (codes ".") (x ∷ rest)) (sym (eqb-true b 46 dot)) ∙ is) in
          cc
      | inr other ↦ ap (λ t. cond (t && nat_le 1 (length rest) && list_all (λ b. not (b == 47)) rest) (Some rest) None) other
    ]

-- levels with a text between them
pub joined : (c : ℕ) (parts : List (Bor (List ℕ))) → join_by (λ p. p.now) (c ∷ []) parts ≡ join_with_byte c (map (λ p. p.now) parts)
joined c [] = refl
joined c (x ∷ []) = append_nothing x.now
  where
    append_nothing : (xs : List ℕ) → xs ++ [] ≡ xs
    append_nothing [] = refl
    append_nothing (y ∷ ys) = ap (λ l. y ∷ l) (append_nothing ys)
joined c (x ∷ y ∷ parts) = ap (λ l. x.now ++ c ∷ l) (joined c (y ∷ parts))
