-- folders, one after the other
use Rattle.std.proofs.Common.{◌≡◌, ℕ, zero, suc, ◌<◌, length, get_or, arith, Bool, true, false, not, cond, ◌||◌, List, [], ◌∷◌, ◌++◌, map, filter, Option, Some, None, refl, sym, ap, ◌∙◌}
use Rattle.std.specs.Prelude.{Contains, find, option_map}
use Rattle.std.specs.Cmp.Lexicographic.{nat_list_eq_equiv}
use Rattle.std.specs.List.{cons_option, filter_map, list_any}
use Rattle.std.proofs.lemmas.Bool.{and_parts, and_from, not-true, false≢true}
use Rattle.std.proofs.lemmas.List.{append-nil, map-append}
use Rattle.std.proofs.lemmas.List.Elements.{filter_map-append, filter-append}
use Rattle.mr_mail.specs.Label.{text_eq}
use Rattle.mr_maildir.proofs.ViewLemmas.{same_text}
use Rattle.mr_maildir.specs.declared.layout.Layout.{Layout}
use Rattle.mr_scan.specs.Folders.{FolderParts, are_apart, folder_there, folder_parts, folder_of, first_of_each, folders_there, has_folder, is_path_of}
use Rattle.mr_scan.specs.inner.Folders.{with_folder}
use Rattle.mr_scan.specs.declared.folders.MailFolder.{MailFolder}

-- those that have another label than this one
abbrev others : FolderParts → List FolderParts → List FolderParts
others folder folders = filter (λ other. not (text_eq other.label folder.label)) folders

-- a label is there as before where folders of another one went
has_folder-others : (x : FolderParts) (label : List ℕ) → text_eq x.label label ≡ false → (folders : List FolderParts) → has_folder (others x folders) label ≡ has_folder folders label
has_folder-others x label apart [] = refl
has_folder-others x label apart (f ∷ folders) =
    elim (text_eq f.label x.label) as (λ b. text_eq f.label x.label ≡ b → has_folder (cond (not b) (f ∷ others x folders) (others x folders)) label ≡ (text_eq f.label label || has_folder folders label)) [
      | true ↦ λ same. has_folder-others x label apart folders ∙ ap (λ b. b || has_folder folders label) (sym apart ∙ ap (λ own. text_eq own label) (sym (same_text f.label x.label same)))
      | false ↦ λ _. ap (λ b. text_eq f.label label || b) (has_folder-others x label apart folders)
    ] refl

-- the first of each label, with one more behind
first_of_each-push : (folders : List FolderParts) (folder : FolderParts) → first_of_each (folders ++ folder ∷ []) ≡ with_folder (first_of_each folders) (Some folder)
first_of_each-push [] folder = refl
first_of_each-push (x ∷ folders) folder = ap (λ rest. x ∷ others x rest) (first_of_each-push folders folder) ∙ here (text_eq x.label folder.label) refl
  where
    F : List FolderParts
    F = first_of_each folders

    there : Bool
    there = has_folder F folder.label

    behind : others x (F ++ folder ∷ []) ≡ others x F ++ cond (not (text_eq folder.label x.label)) (folder ∷ []) []
    behind = filter-append (λ other. not (text_eq other.label x.label)) F (folder ∷ [])

    turned : text_eq folder.label x.label ≡ text_eq x.label folder.label
    turned = nat_list_eq_equiv.symm folder.label x.label

    here : (b : Bool) → text_eq x.label folder.label ≡ b → x ∷ others x (cond there F (F ++ folder ∷ [])) ≡ cond (b || has_folder (others x F) folder.label) (x ∷ others x F) (x ∷ (others x F ++ folder ∷ []))
    here true same =
        elim there as (λ t. x ∷ others x (cond t F (F ++ folder ∷ [])) ≡ x ∷ others x F) [
          | true ↦ refl
          | false ↦ ap (λ rest. x ∷ rest) (behind ∙ (ap (λ b. others x F ++ cond (not b) (folder ∷ []) []) (turned ∙ same) ∙ append-nil (others x F)))
        ]
    here false apart =
        ap (λ b. x ∷ others x (cond b F (F ++ folder ∷ []))) (sym (has_folder-others x folder.label apart F))
        ∙ elim (has_folder (others x F) folder.label) as (λ t. x ∷ others x (cond t F (F ++ folder ∷ [])) ≡ cond t (x ∷ others x F) (x ∷ (others x F ++ folder ∷ []))) [
          | true ↦ refl
          | false ↦ ap (λ rest. x ∷ rest) (behind ∙ ap (λ b. others x F ++ cond (not b) (folder ∷ []) []) (turned ∙ apart))
        ]

-- ---- labels of their own

-- a folder's label isn't there where the folders with it went
gone-others : (x : FolderParts) (folders : List FolderParts) → has_folder (others x folders) x.label ≡ false
gone-others x [] = refl
gone-others x (f ∷ folders) =
    elim (text_eq f.label x.label) as (λ b. text_eq f.label x.label ≡ b → has_folder (cond (not b) (f ∷ others x folders) (others x folders)) x.label ≡ false) [
      | true ↦ λ _. gone-others x folders
      | false ↦ λ apart. ap (λ b. b || has_folder (others x folders) x.label) apart ∙ gone-others x folders
    ] refl

or_none : (a b : Bool) → (a || b) ≡ false → (a ≡ false) × (b ≡ false)
or_none true b none = absurd (false≢true (sym none))
or_none false b none = (refl, none)

-- a label that isn't there isn't there where some folders went
lacking-filter : (p : FolderParts → Bool) (label : List ℕ) (folders : List FolderParts) → has_folder folders label ≡ false → has_folder (filter p folders) label ≡ false
lacking-filter p label [] none = refl
lacking-filter p label (f ∷ folders) none =
    let two = or_none (text_eq f.label label) (has_folder folders label) none in
    elim (p f) as (λ b. has_folder (cond b (f ∷ filter p folders) (filter p folders)) label ≡ false) [
      | true ↦ ap (λ b. b || has_folder (filter p folders) label) two.0 ∙ lacking-filter p label folders two.1
      | false ↦ lacking-filter p label folders two.1
    ]

apart-filter : (p : FolderParts → Bool) (folders : List FolderParts) → are_apart folders ≡ true → are_apart (filter p folders) ≡ true
apart-filter p [] apart = refl
apart-filter p (f ∷ folders) apart =
    let two = and_parts (not (has_folder folders f.label)) (are_apart folders) apart in
    elim (p f) as (λ b. are_apart (cond b (f ∷ filter p folders) (filter p folders)) ≡ true) [
      | true ↦
          and_from (not (has_folder (filter p folders) f.label)) (are_apart (filter p folders))
          (ap not (lacking-filter p f.label folders (not-true (has_folder folders f.label) two.0))) (apart-filter p folders two.1)
      | false ↦ apart-filter p folders two.1
    ]

pub apart-first_of_each : (folders : List FolderParts) → are_apart (first_of_each folders) ≡ true
apart-first_of_each [] = refl
apart-first_of_each (x ∷ folders) =
    and_from (not (has_folder (others x (first_of_each folders)) x.label)) (are_apart (others x (first_of_each folders)))
    (ap not (gone-others x (first_of_each folders))) (apart-filter (λ other. not (text_eq other.label x.label)) (first_of_each folders) (apart-first_of_each folders))

same-self : (label : List ℕ) → text_eq label label ≡ true
same-self label = nat_list_eq_equiv.refl label

has-at : (folders : List FolderParts) (k : ℕ) (folder : FolderParts) → k < length folders → get_or folders k folder ≡ folder → has_folder folders folder.label ≡ true
has-at [] k folder below is = absurd (omega arith)
has-at (f ∷ folders) zero folder below is = ap (λ b. b || has_folder folders folder.label) (ap (λ own. text_eq own.label folder.label) is ∙ same-self folder.label)
has-at (f ∷ folders) (suc k) folder below is =
    let rest : has_folder folders folder.label ≡ true = has-at folders k folder (omega arith) is in
    elim (text_eq f.label folder.label) as (λ b. (b || has_folder folders folder.label) ≡ true) [ true ↦ refl | false ↦ rest ]

-- each folder is the one that its label tells
pub found_apart : (folders : List FolderParts) (folder : FolderParts) → are_apart folders ≡ true → Contains folders folder → folder_of folders folder.label ≡ Some folder
found_apart folders folder apart (k, below, is) = at folders k apart below is
  where
    at : (own : List FolderParts) (k : ℕ) → are_apart own ≡ true → k < length own → get_or own k folder ≡ folder → folder_of own folder.label ≡ Some folder
    at [] k apart below is = absurd (omega arith)
    at (f ∷ own) zero apart below is =
        ap (λ b. cond b (Some f) (folder_of own folder.label)) (ap (λ g. text_eq g.label folder.label) is ∙ same-self folder.label) ∙ ap Some is
    at (f ∷ own) (suc k) apart below is =
        let two = and_parts (not (has_folder own f.label)) (are_apart own) apart in
        let there : has_folder own folder.label ≡ true = has-at own k folder (omega arith) is in
        elim (text_eq f.label folder.label) as (λ b. text_eq f.label folder.label ≡ b → cond b (Some f) (folder_of own folder.label) ≡ Some folder) [
          | true ↦
              λ same.
              absurd
              (false≢true (sym (not-true (has_folder own f.label) two.0) ∙ (ap (λ label. has_folder own label) (same_text f.label folder.label same) ∙ there)))
          | false ↦ λ _. at own k two.1 (omega arith) is
        ] refl

-- the folders of one path more
pub folders_more : (layout : Layout) (paths : List (List ℕ)) (path : List ℕ) → folders_there layout (paths ++ path ∷ []) ≡ with_folder (folders_there layout paths) (folder_there layout path)
folders_more layout paths path =
    ap first_of_each (filter_map-append (folder_there layout) paths (path ∷ [])) ∙ one (folder_there layout path)
  where
    front : List FolderParts
    front = filter_map (folder_there layout) paths

    one : (folder : Option FolderParts) → first_of_each (front ++ cons_option folder []) ≡ with_folder (first_of_each front) folder
    one None = ap first_of_each (append-nil front)
    one (Some folder) = first_of_each-push front folder

-- a search through folders, told by their parts
pub find-parts : (label : List ℕ) (folders : List MailFolder) → option_map folder_parts (find (λ folder. text_eq folder.label label) folders) ≡ folder_of (map folder_parts folders) label
find-parts label [] = refl
find-parts label (f ∷ folders) =
    elim (text_eq f.label label) as (λ b. option_map folder_parts (cond b (Some f) (find (λ folder. text_eq folder.label label) folders)) ≡ cond b (Some (folder_parts f)) (folder_of (map folder_parts folders) label)) [
      | true ↦ refl
      | false ↦ find-parts label folders
    ]

pub any-parts : (label : List ℕ) (folders : List MailFolder) → list_any (λ folder. text_eq folder.label label) folders ≡ has_folder (map folder_parts folders) label
any-parts label [] = refl
any-parts label (f ∷ folders) = ap (λ b. text_eq f.label label || b) (any-parts label folders)

-- a table of some paths' folders is one of one path more, once the folder there was put behind
pub pushed_more : (layout : Layout) (paths : List (List ℕ)) (path : List ℕ) (folder : Option MailFolder) (old new : List MailFolder) → map folder_parts old ≡ folders_there layout paths → option_map folder_parts folder ≡ folder_there layout path → map folder_parts new ≡ with_folder (map folder_parts old) (option_map folder_parts folder) → map folder_parts new ≡ folders_there layout (paths ++ path ∷ [])
pushed_more layout paths path folder old new were is pushed =
    pushed ∙ (ap (λ folders. with_folder folders (option_map folder_parts folder)) were ∙ (ap (with_folder (folders_there layout paths)) is ∙ sym (folders_more layout paths path)))

-- what `push_first` does
pub pushed_first : (folders : List MailFolder) (folder : MailFolder) → list_any (λ own. text_eq own.label folder.label) folders ≡ false → map folder_parts (folders ++ folder ∷ []) ≡ with_folder (map folder_parts folders) (Some (folder_parts folder))
pushed_first folders folder new =
    map-append folder_parts folders (folder ∷ []) ∙ ap (λ b. cond b (map folder_parts folders) (map folder_parts folders ++ folder_parts folder ∷ [])) (sym (sym (any-parts folder.label folders) ∙ new))

pub kept_first : (folders : List MailFolder) (folder : MailFolder) → list_any (λ own. text_eq own.label folder.label) folders ≡ true → map folder_parts folders ≡ with_folder (map folder_parts folders) (Some (folder_parts folder))
kept_first folders folder old =
    ap (λ b. cond b (map folder_parts folders) (map folder_parts folders ++ folder_parts folder ∷ [])) (sym (sym (any-parts folder.label folders) ∙ old))

any-paths : (path : List ℕ) (folders : List MailFolder) → list_any (λ folder. text_eq folder.path path) folders ≡ is_path_of (map folder_parts folders) path
any-paths path [] = refl
any-paths path (f ∷ folders) = ap (λ b. text_eq f.path path || b) (any-paths path folders)

-- the paths at which no folder lies, told by the folders' parts
pub without-parts : (folders : List MailFolder) (paths : List (List ℕ)) → filter (λ path. not (list_any (λ folder. text_eq folder.path path) folders)) paths ≡ filter (λ path. not (is_path_of (map folder_parts folders) path)) paths
without-parts folders [] = refl
without-parts folders (path ∷ paths) =
    ap (λ b. cond (not b) (path ∷ filter (λ own. not (list_any (λ folder. text_eq folder.path own) folders)) paths) (filter (λ own. not (list_any (λ folder. text_eq folder.path own) folders)) paths)) (any-paths path folders)
    ∙ ap (λ rest. cond (not (is_path_of (map folder_parts folders) path)) (path ∷ rest) rest) (without-parts folders paths)
