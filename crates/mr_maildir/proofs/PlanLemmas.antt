-- the files that acts leave
use Rattle.std.proofs.Common.{◌≡◌, ℕ, ◌+◌, ◌<◌, ◌≤◌, Bool, true, false, not, cond, ◌&&◌, ◌||◌, List, [], ◌∷◌, ◌++◌, length, take, get_or, map, Option, Some, None, refl, sym, ap, ◌∙◌, inl, inr, append_assoc, arith}
use Rattle.mr_maildir.proofs.Names.{FileAct, FileParts, Link, Mail, Move, Remove, acts_for, after, and_from, and_parts, any-filter_same, cases_Bool, done}
use Rattle.mr_maildir.proofs.Names.{eq-eqb, eqb-true, false≢true, file_eq, file_eq_decides, find, first_in, first_seen, flags_told, flat_map, has_file}
use Rattle.mr_maildir.proofs.Names.{has_label, is_from_new, is_kept, is_one, kept_in, letters_from, letters_on, letters_with, link_in, link_where, list_all}
use Rattle.mr_maildir.proofs.Names.{list_any, list_any-append, makes, move_in, move_where, name_in, not-true, or_cases, or_else, or_left, or_parts, or_right}
use Rattle.mr_maildir.proofs.Names.{placed, put_in, remove_of, standing_files, standing_from, standing_in, take_more, takes, telling_in, tells, text_eq}
use Rattle.mr_maildir.proofs.Names.{touches, without, ◌==◌}
use Rattle.std.proofs.lemmas.List.Concat.{flat_map-append}
use Rattle.mr_maildir.proofs.ViewLemmas.{same_text, text_eq-itself}
use Rattle.mr_maildir.proofs.LettersLemmas.{flags_told-letters_with}

-- ---- tests of lists

or_nothing : (b : Bool) → (b || false) ≡ b
or_nothing true = refl
or_nothing false = refl

or_assoc : (a b c : Bool) → (a || (b || c)) ≡ ((a || b) || c)
or_assoc true b c = refl
or_assoc false b c = refl

same_file : (a b : FileParts) → file_eq a b ≡ true → a ≡ b
same_file a b = (file_eq_decides a b).0

pub is_itself : (a : FileParts) → file_eq a a ≡ true
is_itself a = (file_eq_decides a a).1 refl

has_one_more : (files : List FileParts) (to g : FileParts) → has_file (files ++ to ∷ []) g ≡ (has_file files g || file_eq g to)
has_one_more files to g =
    list_any-append (file_eq g) files (to ∷ []) ∙ ap (λ b. has_file files g || b) (or_nothing (file_eq g to))

has_without : (file : FileParts) (files : List FileParts) (g : FileParts) → has_file (without file files) g ≡ (not (file_eq file g) && has_file files g)
has_without file files g =
    any-filter_same (file_eq g) (λ f. not (file_eq file f)) (not (file_eq file g)) (λ k same. ap (λ f. not (file_eq file f)) (sym (same_file g k same))) files

any_alike : {X : Type 0} (p q : X → Bool) → ((x : X) → p x ≡ q x) → (xs : List X) → list_any p xs ≡ list_any q xs
any_alike p q alike [] = refl
any_alike p q alike (x ∷ xs) = ap (λ b. b || list_any p xs) (alike x) ∙ ap (λ b. q x || b) (any_alike p q alike xs)

-- one more element of a list of which others are made
pub one_more : {X A : Type 0} (f : X → List A) (begun now next : List A) (xs : List X) (i : ℕ) (x : X) → i < length xs → x ≡ get_or xs i x → now ≡ begun ++ flat_map f (take i xs) → next ≡ now ++ f x → next ≡ begun ++ flat_map f (take (i + 1) xs)
one_more {X} {A} f begun now next xs i x below is was grows =
    grows ∙ (ap (λ ls. ls ++ f x) was
    ∙ (append_assoc begun (flat_map f (take i xs)) (f x)
    ∙ ap (λ ls. begun ++ ls) (last ∙ ap (flat_map f) (ap (λ y. take i xs ++ y ∷ []) is ∙ sym (take_more xs i x below)))))
  where
    append_nothing : (ls : List A) → ls ++ [] ≡ ls
    append_nothing [] = refl
    append_nothing (l ∷ ls) = ap (λ rest. l ∷ rest) (append_nothing ls)

    last : flat_map f (take i xs) ++ f x ≡ flat_map f (take i xs ++ x ∷ [])
    last = sym (flat_map-append f (take i xs) (x ∷ []) ∙ ap (λ ls. flat_map f (take i xs) ++ ls) (append_nothing (f x)))

-- ---- one act, and several

-- what an act makes is there, and else what was there and isn't taken away
has_done : (files : List FileParts) (act : FileAct) (g : FileParts) → has_file (done files act) g ≡ (makes g act || (not (takes g act) && has_file files g))
has_done files (Link from to) g = has_one_more files to g ∙ swapped (has_file files g) (file_eq g to)
  where
    swapped : (a b : Bool) → (a || b) ≡ (b || a)
    swapped true true = refl
    swapped true false = refl
    swapped false true = refl
    swapped false false = refl
has_done files (Move from to) g =
    has_one_more (without from files) to g
    ∙ (ap (λ b. b || file_eq g to) (has_without from files g) ∙ swapped (not (file_eq from g) && has_file files g) (file_eq g to))
  where
    swapped : (a b : Bool) → (a || b) ≡ (b || a)
    swapped true true = refl
    swapped true false = refl
    swapped false true = refl
    swapped false false = refl
has_done files (Remove gone) g = has_without gone files g

-- what no act takes away is there in the end, if it was there or is made
pub has_untaken : (acts : List FileAct) (files : List FileParts) (g : FileParts) → list_any (takes g) acts ≡ false → has_file (after acts files) g ≡ (has_file files g || list_any (makes g) acts)
has_untaken [] files g none = sym (or_nothing (has_file files g))
has_untaken (act ∷ acts) files g none =
    let parts = or_parts (takes g act) (list_any (takes g) acts) none in
    has_untaken acts (done files act) g parts.1
    ∙ (ap (λ b. b || list_any (makes g) acts) (has_done files act g)
    ∙ step (makes g act) (takes g act) (has_file files g) (list_any (makes g) acts) parts.0)
  where
    step : (m t h r : Bool) → t ≡ false → ((m || (not t && h)) || r) ≡ (h || (m || r))
    step true true h r fails = absurd (false≢true (sym fails))
    step false true h r fails = absurd (false≢true (sym fails))
    step true false true r fails = refl
    step true false false r fails = refl
    step false false true r fails = refl
    step false false false r fails = refl

-- what no act makes is there in the end, if it was there and isn't taken away
has_unmade : (acts : List FileAct) (files : List FileParts) (g : FileParts) → list_any (makes g) acts ≡ false → has_file (after acts files) g ≡ (has_file files g && not (list_any (takes g) acts))
has_unmade [] files g none = and_true (has_file files g)
  where
    and_true : (b : Bool) → b ≡ (b && true)
    and_true true = refl
    and_true false = refl
has_unmade (act ∷ acts) files g none =
    let parts = or_parts (makes g act) (list_any (makes g) acts) none in
    has_unmade acts (done files act) g parts.1
    ∙ (ap (λ b. b && not (list_any (takes g) acts)) (has_done files act g)
    ∙ step (makes g act) (takes g act) (has_file files g) (list_any (takes g) acts) parts.0)
  where
    step : (m t h r : Bool) → m ≡ false → ((m || (not t && h)) && not r) ≡ (h && not (t || r))
    step true t h r fails = absurd (false≢true (sym fails))
    step false true true r fails = refl
    step false true false r fails = refl
    step false false true r fails = refl
    step false false false r fails = refl

-- ---- lists made for each label

-- what can be for one label alone is for that one, if it is a label
for_label : {X : Type 0} (p : X → Bool) (make : List ℕ → List X) (q : List ℕ) → ((label : List ℕ) → list_any p (make label) ≡ true → label ≡ q) → (labels : List (List ℕ)) → list_any p (flat_map make labels) ≡ (has_label labels q && list_any p (make q))
for_label p make q alone [] = refl
for_label p make q alone (label ∷ labels) =
    list_any-append p (make label) (flat_map make labels)
    ∙ (ap (λ b. list_any p (make label) || b) (for_label p make q alone labels)
    ∙ elim (text_eq q label) as (λ t. text_eq q label ≡ t → (list_any p (make label) || (has_label labels q && list_any p (make q))) ≡ ((t || has_label labels q) && list_any p (make q))) [
      | true ↦ λ is. ap (λ l. list_any p (make l) || (has_label labels q && list_any p (make q))) (sym (same_text q label is)) ∙ absorbed (list_any p (make q)) (has_label labels q)
      | false ↦ λ isnt. ap (λ b. b || (has_label labels q && list_any p (make q))) (other isnt)
    ] refl)
  where
    absorbed : (a b : Bool) → (a || (b && a)) ≡ a
    absorbed true b = refl
    absorbed false true = refl
    absorbed false false = refl

    other : text_eq q label ≡ false → list_any p (make label) ≡ false
    other isnt =
        elim (cases_Bool (list_any p (make label))) [
          | inl holds ↦ absurd (false≢true (sym isnt ∙ (ap (text_eq q) (alone label holds) ∙ text_eq-itself q)))
          | inr fails ↦ fails
        ]

one_for_label : {X : Type 0} (p : X → Bool) (make : List ℕ → X) (q : List ℕ) → ((label : List ℕ) → p (make label) ≡ true → label ≡ q) → (labels : List (List ℕ)) → list_any p (map make labels) ≡ (has_label labels q && p (make q))
one_for_label p make q alone [] = refl
one_for_label p make q alone (label ∷ labels) =
    ap (λ b. p (make label) || b) (one_for_label p make q alone labels)
    ∙ elim (text_eq q label) as (λ t. text_eq q label ≡ t → (p (make label) || (has_label labels q && p (make q))) ≡ ((t || has_label labels q) && p (make q))) [
      | true ↦ λ is. ap (λ l. p (make l) || (has_label labels q && p (make q))) (sym (same_text q label is)) ∙ absorbed (p (make q)) (has_label labels q)
      | false ↦ λ isnt. ap (λ b. b || (has_label labels q && p (make q))) (other isnt)
    ] refl
  where
    absorbed : (a b : Bool) → (a || (b && a)) ≡ a
    absorbed true b = refl
    absorbed false true = refl
    absorbed false false = refl

    other : text_eq q label ≡ false → p (make label) ≡ false
    other isnt =
        elim (cases_Bool (p (make label))) [
          | inl holds ↦ absurd (false≢true (sym isnt ∙ (ap (text_eq q) (alone label holds) ∙ text_eq-itself q)))
          | inr fails ↦ fails
        ]

-- ---- the file that is kept

-- what is found passes, and is among the files
found : (p : FileParts → Bool) (files : List FileParts) (x : FileParts) → find p files ≡ Some x → (p x ≡ true) × (has_file files x ≡ true)
found p [] x is = cc
found p (f ∷ files) x is =
    elim (p f) as (λ t. p f ≡ t → cond t (Some f) (find p files) ≡ Some x → (p x ≡ true) × ((file_eq x f || has_file files x) ≡ true)) [
      | true ↦ λ holds e. let same : f ≡ x = cc in (ap p (sym same) ∙ holds, or_left (file_eq x f) (has_file files x) ((file_eq_decides x f).1 (sym same)))
      | false ↦ λ fails e. let rest = found p files x e in (rest.0, or_right (file_eq x f) (has_file files x) rest.1)
    ] refl is

-- where nothing is found, none of the files passes
unfound : (p : FileParts → Bool) (files : List FileParts) (x : FileParts) → find p files ≡ None → has_file files x ≡ true → p x ≡ false
unfound p [] x is has = absurd (false≢true has)
unfound p (f ∷ files) x is has =
    elim (p f) as (λ t. p f ≡ t → cond t (Some f) (find p files) ≡ None → p x ≡ false) [
      | true ↦ λ holds e. cc
      | false ↦ λ fails e.
          elim (or_cases (file_eq x f) (has_file files x) has) [
            | inl same ↦ ap p (same_file x f same) ∙ fails
            | inr more ↦ unfound p files x e more
          ]
    ] refl is

-- the file that is kept in a folder is seen in it
kept : (mail : Mail) (label : List ℕ) (f : FileParts) → kept_in mail label ≡ Some f → (f.label ≡ label) × (has_file mail.seen f ≡ true)
kept mail label f is =
    elim (telling_in mail label) as (λ t. telling_in mail label ≡ t → or_else t (first_in mail label) ≡ Some f → (f.label ≡ label) × (has_file mail.seen f ≡ true)) [
      | None ↦ λ _ e. let one = found (λ x. text_eq x.label label) mail.seen f e in (same_text f.label label one.0, one.1)
      | Some g ↦ λ was e.
          let same : g ≡ f = cc in
          let one = found (λ x. text_eq x.label label && tells mail.flags x) mail.seen f (was ∙ e) in
          (same_text f.label label (and_parts (text_eq f.label label) (tells mail.flags f) one.0).0, one.1)
    ] refl is

-- where none is kept, no file is seen in the folder
none_kept : (mail : Mail) (label : List ℕ) (g : FileParts) → kept_in mail label ≡ None → has_file mail.seen g ≡ true → text_eq g.label label ≡ false
none_kept mail label g is has =
    elim (telling_in mail label) as (λ t. telling_in mail label ≡ t → or_else t (first_in mail label) ≡ None → text_eq g.label label ≡ false) [
      | None ↦ λ _ e. unfound (λ x. text_eq x.label label) mail.seen g e has
      | Some f ↦ λ _ e. cc
    ] refl is

-- where the file that is kept tells other flags, none in the folder tells these
none_tells : (mail : Mail) (label : List ℕ) (f g : FileParts) → kept_in mail label ≡ Some f → tells mail.flags f ≡ false → has_file mail.seen g ≡ true → text_eq g.label label ≡ true → tells mail.flags g ≡ false
none_tells mail label f g is other has here =
    elim (telling_in mail label) as (λ t. telling_in mail label ≡ t → or_else t (first_in mail label) ≡ Some f → tells mail.flags g ≡ false) [
      | None ↦ λ was _.
          let none = unfound (λ x. text_eq x.label label && tells mail.flags x) mail.seen g was has in
          ap (λ b. b && tells mail.flags g) (sym here) ∙ none
      | Some h ↦ λ was e.
          let same : h ≡ f = cc in
          let one = found (λ x. text_eq x.label label && tells mail.flags x) mail.seen f (was ∙ e) in
          absurd (false≢true (sym other ∙ (and_parts (text_eq f.label label) (tells mail.flags f) one.0).1))
    ] refl is

-- ---- the file that is made

placed-label : (label unique letters : List ℕ) (new : Bool) → (placed label unique letters new).label ≡ label
placed-label label unique letters new =
    elim ((length letters == 0) && new) as (λ t. (let f : FileParts = cond t (record { label = label; is_new = true; unique = unique; info = [] }) (record { label = label; is_new = false; unique = unique; info = 58 ∷ 50 ∷ 44 ∷ letters }) in f.label ≡ label)) [ true ↦ refl | false ↦ refl ]

pub placed-unique : (label unique letters : List ℕ) (new : Bool) → (placed label unique letters new).unique ≡ unique
placed-unique label unique letters new =
    elim ((length letters == 0) && new) as (λ t. (let f : FileParts = cond t (record { label = label; is_new = true; unique = unique; info = [] }) (record { label = label; is_new = false; unique = unique; info = 58 ∷ 50 ∷ 44 ∷ letters }) in f.unique ≡ unique)) [ true ↦ refl | false ↦ refl ]

no_letters : (letters : List ℕ) → (length letters == 0) ≡ true → letters ≡ []
no_letters [] is = refl
no_letters (x ∷ xs) is = let long : length (x ∷ xs) ≡ 0 = eqb-true (length (x ∷ xs)) 0 is in absurd (omega arith)

placed-letters : (label unique letters : List ℕ) (new : Bool) → letters_on (placed label unique letters new) ≡ letters
placed-letters label unique letters new =
    elim (cases_Bool ((length letters == 0) && new)) [
      | inl holds ↦
          let none = no_letters letters (and_parts (length letters == 0) new holds).0 in
          ap (λ t. letters_on (cond t (record { label = label; is_new = true; unique = unique; info = [] }) (record { label = label; is_new = false; unique = unique; info = 58 ∷ 50 ∷ 44 ∷ letters }))) holds ∙ sym none
      | inr fails ↦
          ap (λ t. letters_on (cond t (record { label = label; is_new = true; unique = unique; info = [] }) (record { label = label; is_new = false; unique = unique; info = 58 ∷ 50 ∷ 44 ∷ letters }))) fails
    ]

pub put-label : (mail : Mail) (label : List ℕ) (source : Option FileParts) → (put_in mail label source).label ≡ label
put-label mail label source = placed-label label (name_in mail label source) (letters_with (letters_from source) mail.flags) (is_from_new source)

-- it tells the flags
put-tells : (mail : Mail) (label : List ℕ) (source : Option FileParts) → mail.flags ≤ 31 → tells mail.flags (put_in mail label source) ≡ true
put-tells mail label source within =
    eq-eqb _ _ (ap flags_told (placed-letters label (name_in mail label source) (letters_with (letters_from source) mail.flags) (is_from_new source)) ∙ flags_told-letters_with (letters_from source) mail.flags within)

-- a made file is not one that is seen
pub put-unseen_first : (mail : Mail) (label : List ℕ) → kept_in mail label ≡ None → has_file mail.seen (put_in mail label (first_seen mail)) ≡ false
put-unseen_first mail label none =
    elim (cases_Bool (has_file mail.seen (put_in mail label (first_seen mail)))) [
      | inl has ↦
          let here : text_eq (put_in mail label (first_seen mail)).label label ≡ true = ap (λ l. text_eq l label) (put-label mail label (first_seen mail)) ∙ text_eq-itself label in
          absurd (false≢true (sym (none_kept mail label (put_in mail label (first_seen mail)) none has) ∙ here))
      | inr fails ↦ fails
    ]

pub put-unseen : (mail : Mail) (label : List ℕ) (f : FileParts) → mail.flags ≤ 31 → kept_in mail label ≡ Some f → tells mail.flags f ≡ false → has_file mail.seen (put_in mail label (Some f)) ≡ false
put-unseen mail label f within is other =
    elim (cases_Bool (has_file mail.seen (put_in mail label (Some f)))) [
      | inl has ↦
          let here : text_eq (put_in mail label (Some f)).label label ≡ true = ap (λ l. text_eq l label) (put-label mail label (Some f)) ∙ text_eq-itself label in
          absurd (false≢true (sym (none_tells mail label f (put_in mail label (Some f)) is other has here) ∙ put-tells mail label (Some f) within))
      | inr fails ↦ fails
    ]

-- ---- the files that are to stand

standing_from-label : (mail : Mail) (label : List ℕ) (o : Option FileParts) → kept_in mail label ≡ o → (standing_from mail label o).label ≡ label
standing_from-label mail label None is = put-label mail label (first_seen mail)
standing_from-label mail label (Some f) is =
    elim (tells mail.flags f) as (λ t. (let g : FileParts = cond t f (put_in mail label (Some f)) in g.label ≡ label)) [
      | true ↦ (kept mail label f is).0
      | false ↦ put-label mail label (Some f)
    ]

standing-label : (mail : Mail) (label : List ℕ) → (standing_in mail label).label ≡ label
standing-label mail label = standing_from-label mail label (kept_in mail label) refl

standing_from-tells : (mail : Mail) (label : List ℕ) (o : Option FileParts) → mail.flags ≤ 31 → tells mail.flags (standing_from mail label o) ≡ true
standing_from-tells mail label None within = put-tells mail label (first_seen mail) within
standing_from-tells mail label (Some f) within =
    elim (tells mail.flags f) as (λ t. tells mail.flags f ≡ t → tells mail.flags (cond t f (put_in mail label (Some f))) ≡ true) [
      | true ↦ λ holds. holds
      | false ↦ λ _. put-tells mail label (Some f) within
    ] refl

pub standing-tell : (mail : Mail) (labels : List (List ℕ)) → mail.flags ≤ 31 → list_all (tells mail.flags) (standing_files mail labels) ≡ true
standing-tell mail [] within = refl
standing-tell mail (label ∷ labels) within =
    and_from (tells mail.flags (standing_in mail label)) (list_all (tells mail.flags) (standing_files mail labels)) (standing_from-tells mail label (kept_in mail label) within) (standing-tell mail labels within)

-- which files are to stand
has-standing : (mail : Mail) (labels : List (List ℕ)) (g : FileParts) → has_file (standing_files mail labels) g ≡ (has_label labels g.label && file_eq g (standing_in mail g.label))
has-standing mail labels g =
    one_for_label (file_eq g) (standing_in mail) g.label (λ label same. sym (standing-label mail label) ∙ ap (λ f. f.label) (sym (same_file g (standing_in mail label) same))) labels

-- ---- what the acts make and take

link_makes : (mail : Mail) (g : FileParts) (label : List ℕ) (o : Option FileParts) → list_any (makes g) (link_where mail label o) ≡ true → label ≡ g.label
link_makes mail g label None is =
    let same : file_eq g (put_in mail label (first_seen mail)) ≡ true = sym (or_nothing (file_eq g (put_in mail label (first_seen mail)))) ∙ is in
    sym (put-label mail label (first_seen mail)) ∙ ap (λ f. f.label) (sym (same_file g (put_in mail label (first_seen mail)) same))
link_makes mail g label (Some f) is = absurd (false≢true is)

move_makes : (mail : Mail) (g : FileParts) (label : List ℕ) (o : Option FileParts) → list_any (makes g) (move_where mail label o) ≡ true → label ≡ g.label
move_makes mail g label None is = absurd (false≢true is)
move_makes mail g label (Some f) is =
    elim (tells mail.flags f) as (λ t. list_any (makes g) (cond t [] (Move f (put_in mail label (Some f)) ∷ [])) ≡ true → label ≡ g.label) [
      | true ↦ λ e. absurd (false≢true e)
      | false ↦ λ e.
          let same : file_eq g (put_in mail label (Some f)) ≡ true = sym (or_nothing (file_eq g (put_in mail label (Some f)))) ∙ e in
          sym (put-label mail label (Some f)) ∙ ap (λ x. x.label) (sym (same_file g (put_in mail label (Some f)) same))
    ] is

move_takes : (mail : Mail) (g : FileParts) (label : List ℕ) (o : Option FileParts) → kept_in mail label ≡ o → list_any (takes g) (move_where mail label o) ≡ true → label ≡ g.label
move_takes mail g label None was is = absurd (false≢true is)
move_takes mail g label (Some f) was is =
    elim (tells mail.flags f) as (λ t. list_any (takes g) (cond t [] (Move f (put_in mail label (Some f)) ∷ [])) ≡ true → label ≡ g.label) [
      | true ↦ λ e. absurd (false≢true e)
      | false ↦ λ e.
          let same : file_eq f g ≡ true = sym (or_nothing (file_eq f g)) ∙ e in
          sym (kept mail label f was).0 ∙ ap (λ x. x.label) (same_file f g same)
    ] is

no_link_takes : (mail : Mail) (g : FileParts) (labels : List (List ℕ)) → list_any (takes g) (flat_map (link_in mail) labels) ≡ false
no_link_takes mail g [] = refl
no_link_takes mail g (label ∷ labels) =
    list_any-append (takes g) (link_in mail label) (flat_map (link_in mail) labels)
    ∙ (ap (λ b. list_any (takes g) (link_in mail label) || b) (no_link_takes mail g labels) ∙ (or_nothing (list_any (takes g) (link_in mail label)) ∙ here (kept_in mail label)))
  where
    here : (o : Option FileParts) → list_any (takes g) (link_where mail label o) ≡ false
    here None = refl
    here (Some f) = refl

pub no_remove_makes : (mail : Mail) (labels : List (List ℕ)) (g : FileParts) (files : List FileParts) → list_any (makes g) (flat_map (remove_of mail labels) files) ≡ false
no_remove_makes mail labels g [] = refl
no_remove_makes mail labels g (f ∷ files) =
    list_any-append (makes g) (remove_of mail labels f) (flat_map (remove_of mail labels) files)
    ∙ (ap (λ b. list_any (makes g) (remove_of mail labels f) || b) (no_remove_makes mail labels g files) ∙ (or_nothing (list_any (makes g) (remove_of mail labels f)) ∙ here (is_kept mail labels f)))
  where
    here : (t : Bool) → list_any (makes g) (cond t [] (Remove f ∷ [])) ≡ false
    here true = refl
    here false = refl

-- what is removed is seen and not kept
removes_take : (mail : Mail) (labels : List (List ℕ)) (g : FileParts) (files : List FileParts) → list_any (takes g) (flat_map (remove_of mail labels) files) ≡ (has_file files g && not (is_kept mail labels g))
removes_take mail labels g [] = refl
removes_take mail labels g (f ∷ files) =
    list_any-append (takes g) (remove_of mail labels f) (flat_map (remove_of mail labels) files)
    ∙ (ap (λ b. list_any (takes g) (remove_of mail labels f) || b) (removes_take mail labels g files)
    ∙ (elim (file_eq g f) as (λ t. file_eq g f ≡ t → (list_any (takes g) (remove_of mail labels f) || (has_file files g && not (is_kept mail labels g))) ≡ ((t || has_file files g) && not (is_kept mail labels g))) [
      | true ↦ λ is. let same : g ≡ f = same_file g f is in ap (λ x. list_any (takes g) (remove_of mail labels x) || (has_file files g && not (is_kept mail labels g))) (sym same) ∙ itself (is_kept mail labels g) (has_file files g)
      | false ↦ λ isnt. ap (λ b. b || (has_file files g && not (is_kept mail labels g))) (other isnt (is_kept mail labels f))
    ] refl))
  where
    itself : (t b : Bool) → (list_any (takes g) (cond t [] (Remove g ∷ [])) || (b && not t)) ≡ not t
    itself true true = refl
    itself true false = refl
    itself false b = ap (λ x. (x || false) || (b && true)) (is_itself g)

    other : file_eq g f ≡ false → (t : Bool) → list_any (takes g) (cond t [] (Remove f ∷ [])) ≡ false
    other isnt true = refl
    other isnt false =
        or_nothing (file_eq f g) ∙ elim (cases_Bool (file_eq f g)) [
          | inl holds ↦ absurd (false≢true (sym isnt ∙ (file_eq_decides g f).1 (sym (same_file f g holds))))
          | inr fails ↦ fails
        ]

any_of_acts : (p : FileAct → Bool) (mail : Mail) (labels : List (List ℕ)) → list_any p (acts_for mail labels) ≡ ((list_any p (flat_map (link_in mail) labels) || list_any p (flat_map (move_in mail) labels)) || list_any p (flat_map (remove_of mail labels) mail.seen))
any_of_acts p mail labels =
    list_any-append p (flat_map (link_in mail) labels ++ flat_map (move_in mail) labels) (flat_map (remove_of mail labels) mail.seen)
    ∙ ap (λ b. b || list_any p (flat_map (remove_of mail labels) mail.seen)) (list_any-append p (flat_map (link_in mail) labels) (flat_map (move_in mail) labels))

-- what the acts make, folder by folder
acts_make : (mail : Mail) (labels : List (List ℕ)) (g : FileParts) → list_any (makes g) (acts_for mail labels) ≡ (has_label labels g.label && (list_any (makes g) (link_in mail g.label) || list_any (makes g) (move_in mail g.label)))
acts_make mail labels g =
    let links = for_label (makes g) (link_in mail) g.label (λ label is. link_makes mail g label (kept_in mail label) is) labels in
    let moves = for_label (makes g) (move_in mail) g.label (λ label is. move_makes mail g label (kept_in mail label) is) labels in
    any_of_acts (makes g) mail labels
    ∙ (ap (λ b. (list_any (makes g) (flat_map (link_in mail) labels) || list_any (makes g) (flat_map (move_in mail) labels)) || b) (no_remove_makes mail labels g mail.seen)
    ∙ (or_nothing (list_any (makes g) (flat_map (link_in mail) labels) || list_any (makes g) (flat_map (move_in mail) labels))
    ∙ (ap (λ b. b || list_any (makes g) (flat_map (move_in mail) labels)) links
    ∙ (ap (λ b. (has_label labels g.label && list_any (makes g) (link_in mail g.label)) || b) moves
    ∙ together (has_label labels g.label) (list_any (makes g) (link_in mail g.label)) (list_any (makes g) (move_in mail g.label))))))
  where
    together : (h a b : Bool) → ((h && a) || (h && b)) ≡ (h && (a || b))
    together true a b = refl
    together false a b = refl

-- what they take
acts_take : (mail : Mail) (labels : List (List ℕ)) (g : FileParts) → list_any (takes g) (acts_for mail labels) ≡ ((has_label labels g.label && list_any (takes g) (move_in mail g.label)) || (has_file mail.seen g && not (is_kept mail labels g)))
acts_take mail labels g =
    let moves = for_label (takes g) (move_in mail) g.label (λ label is. move_takes mail g label (kept_in mail label) refl is) labels in
    any_of_acts (takes g) mail labels
    ∙ (ap (λ b. (b || list_any (takes g) (flat_map (move_in mail) labels)) || list_any (takes g) (flat_map (remove_of mail labels) mail.seen)) (no_link_takes mail g labels)
    ∙ (ap (λ b. b || list_any (takes g) (flat_map (remove_of mail labels) mail.seen)) moves
    ∙ ap (λ b. (has_label labels g.label && list_any (takes g) (move_in mail g.label)) || b) (removes_take mail labels g mail.seen)))

-- ---- a file that is seen

-- no act makes a file that is seen
seen_unmade : (mail : Mail) (labels : List (List ℕ)) (g : FileParts) → mail.flags ≤ 31 → has_file mail.seen g ≡ true → list_any (makes g) (acts_for mail labels) ≡ false
seen_unmade mail labels g within has =
    acts_make mail labels g ∙ (ap (λ b. has_label labels g.label && b) (neither (kept_in mail g.label) refl) ∙ none (has_label labels g.label))
  where
    none : (b : Bool) → (b && false) ≡ false
    none true = refl
    none false = refl

    apart : (to : FileParts) → has_file mail.seen to ≡ false → (file_eq g to || false) ≡ false
    apart to unseen =
        or_nothing (file_eq g to) ∙ elim (cases_Bool (file_eq g to)) [
          | inl holds ↦ absurd (false≢true (sym unseen ∙ (ap (has_file mail.seen) (sym (same_file g to holds)) ∙ has)))
          | inr fails ↦ fails
        ]

    moved : (f : FileParts) → kept_in mail g.label ≡ Some f → (t : Bool) → tells mail.flags f ≡ t → list_any (makes g) (cond t [] (Move f (put_in mail g.label (Some f)) ∷ [])) ≡ false
    moved f is true _ = refl
    moved f is false other = apart (put_in mail g.label (Some f)) (put-unseen mail g.label f within is other)

    neither : (o : Option FileParts) → kept_in mail g.label ≡ o → (list_any (makes g) (link_where mail g.label o) || list_any (makes g) (move_where mail g.label o)) ≡ false
    neither None is = or_nothing _ ∙ apart (put_in mail g.label (first_seen mail)) (put-unseen_first mail g.label is)
    neither (Some f) is = moved f is (tells mail.flags f) refl

-- it stays exactly if it is to stand
pub seen_taken : (mail : Mail) (labels : List (List ℕ)) (g : FileParts) → mail.flags ≤ 31 → has_file mail.seen g ≡ true → not (list_any (takes g) (acts_for mail labels)) ≡ has_file (standing_files mail labels) g
seen_taken mail labels g within has =
    ap not (acts_take mail labels g) ∙ (ap (λ b. not ((has_label labels g.label && list_any (takes g) (move_in mail g.label)) || (b && not (is_kept mail labels g)))) has
    ∙ (cases (has_label labels g.label) (kept_in mail g.label) refl ∙ sym (has-standing mail labels g)))
  where
    apart : (to : FileParts) → has_file mail.seen to ≡ false → file_eq g to ≡ false
    apart to unseen =
        elim (cases_Bool (file_eq g to)) [
          | inl holds ↦ absurd (false≢true (sym unseen ∙ (ap (has_file mail.seen) (sym (same_file g to holds)) ∙ has)))
          | inr fails ↦ fails
        ]

    turned : (f : FileParts) → file_eq f g ≡ file_eq g f
    turned f =
        elim (cases_Bool (file_eq f g)) [
          | inl holds ↦ holds ∙ sym ((file_eq_decides g f).1 (sym (same_file f g holds)))
          | inr fails ↦ fails ∙ sym (elim (cases_Bool (file_eq g f)) [
            | inl holds ↦ absurd (false≢true (sym fails ∙ (file_eq_decides f g).1 (sym (same_file g f holds))))
            | inr also ↦ also
          ])
        ]

    staying : (b : Bool) → not (false || not b) ≡ b
    staying true = refl
    staying false = refl

    going : (b : Bool) → not ((b || false) || not b) ≡ false
    going true = refl
    going false = refl

    at : (f : FileParts) → kept_in mail g.label ≡ Some f → (t : Bool) → tells mail.flags f ≡ t → not (list_any (takes g) (cond t [] (Move f (put_in mail g.label (Some f)) ∷ [])) || not (file_eq f g)) ≡ file_eq g (cond t f (put_in mail g.label (Some f)))
    at f is true tell = staying (file_eq f g) ∙ turned f
    at f is false other = going (file_eq f g) ∙ sym (apart (put_in mail g.label (Some f)) (put-unseen mail g.label f within is other))

    cases : (h : Bool) (o : Option FileParts) → kept_in mail g.label ≡ o → not ((h && list_any (takes g) (move_where mail g.label o)) || (true && not (h && is_one o g))) ≡ (h && file_eq g (standing_from mail g.label o))
    cases false o is = refl
    cases true None is = absurd (false≢true (sym (none_kept mail g.label g is has) ∙ text_eq-itself g.label))
    cases true (Some f) is = at f is (tells mail.flags f) refl

-- ---- a file that isn't seen

pub unseen_taken : (mail : Mail) (labels : List (List ℕ)) (g : FileParts) → has_file mail.seen g ≡ false → list_any (takes g) (acts_for mail labels) ≡ false
unseen_taken mail labels g lacking =
    acts_take mail labels g ∙ (ap (λ b. (has_label labels g.label && list_any (takes g) (move_in mail g.label)) || (b && not (is_kept mail labels g))) lacking
    ∙ (or_nothing (has_label labels g.label && list_any (takes g) (move_in mail g.label)) ∙ (ap (λ b. has_label labels g.label && b) (moved (kept_in mail g.label) refl) ∙ none (has_label labels g.label))))
  where
    none : (b : Bool) → (b && false) ≡ false
    none true = refl
    none false = refl

    at : (f : FileParts) → has_file mail.seen f ≡ true → (t : Bool) → list_any (takes g) (cond t [] (Move f (put_in mail g.label (Some f)) ∷ [])) ≡ false
    at f has true = refl
    at f has false =
        or_nothing (file_eq f g) ∙ elim (cases_Bool (file_eq f g)) [
          | inl holds ↦ absurd (false≢true (sym lacking ∙ (ap (has_file mail.seen) (sym (same_file f g holds)) ∙ has)))
          | inr fails ↦ fails
        ]

    moved : (o : Option FileParts) → kept_in mail g.label ≡ o → list_any (takes g) (move_where mail g.label o) ≡ false
    moved None is = refl
    moved (Some f) is = at f (kept mail g.label f is).1 (tells mail.flags f)

-- it is made exactly if it is to stand
pub unseen_made : (mail : Mail) (labels : List (List ℕ)) (g : FileParts) → has_file mail.seen g ≡ false → list_any (makes g) (acts_for mail labels) ≡ has_file (standing_files mail labels) g
unseen_made mail labels g lacking =
    acts_make mail labels g ∙ (ap (λ b. has_label labels g.label && b) (cases (kept_in mail g.label) refl) ∙ sym (has-standing mail labels g))
  where
    apart : (f : FileParts) → has_file mail.seen f ≡ true → file_eq g f ≡ false
    apart f has =
        elim (cases_Bool (file_eq g f)) [
          | inl holds ↦ absurd (false≢true (sym lacking ∙ (ap (has_file mail.seen) (same_file g f holds) ∙ has)))
          | inr fails ↦ fails
        ]

    at : (f : FileParts) → has_file mail.seen f ≡ true → (t : Bool) → list_any (makes g) (cond t [] (Move f (put_in mail g.label (Some f)) ∷ [])) ≡ file_eq g (cond t f (put_in mail g.label (Some f)))
    at f has true = sym (apart f has)
    at f has false = or_nothing (file_eq g (put_in mail g.label (Some f)))

    cases : (o : Option FileParts) → kept_in mail g.label ≡ o → (list_any (makes g) (link_where mail g.label o) || list_any (makes g) (move_where mail g.label o)) ≡ file_eq g (standing_from mail g.label o)
    cases None is = or_nothing _ ∙ or_nothing (file_eq g (put_in mail g.label (first_seen mail)))
    cases (Some f) is = at f (kept mail g.label f is).1 (tells mail.flags f)

-- ---- the laws

-- the acts leave just the files that are to stand
pub acts_leave : (mail : Mail) (labels : List (List ℕ)) → mail.flags ≤ 31 → (g : FileParts) → has_file (after (acts_for mail labels) mail.seen) g ≡ has_file (standing_files mail labels) g
acts_leave mail labels within g =
    elim (cases_Bool (has_file mail.seen g)) [
      | inl has ↦
          has_unmade (acts_for mail labels) mail.seen g (seen_unmade mail labels g within has)
          ∙ (ap (λ b. b && not (list_any (takes g) (acts_for mail labels))) has ∙ seen_taken mail labels g within has)
      | inr lacking ↦
          has_untaken (acts_for mail labels) mail.seen g (unseen_taken mail labels g lacking)
          ∙ (ap (λ b. b || list_any (makes g) (acts_for mail labels)) lacking ∙ unseen_made mail labels g lacking)
    ]

any_either : (p q : FileAct → Bool) (acts : List FileAct) → list_any p acts ≡ false → list_any q acts ≡ false → list_any (λ a. p a || q a) acts ≡ false
any_either p q [] one two = refl
any_either p q (a ∷ acts) one two =
    let ps = or_parts (p a) (list_any p acts) one in
    let qs = or_parts (q a) (list_any q acts) two in
    ap (λ b. (b || q a) || list_any (λ a. p a || q a) acts) ps.0 ∙ (ap (λ b. b || list_any (λ a. p a || q a) acts) qs.0 ∙ any_either p q acts ps.1 qs.1)

-- what is seen and is to stand is not touched
pub stays_untouched : (mail : Mail) (labels : List (List ℕ)) → mail.flags ≤ 31 → (g : FileParts) → has_file mail.seen g ≡ true → has_file (standing_files mail labels) g ≡ true → list_any (touches g) (acts_for mail labels) ≡ false
stays_untouched mail labels within g has stands =
    any_either (makes g) (takes g) (acts_for mail labels) (seen_unmade mail labels g within has)
    (not-true (list_any (takes g) (acts_for mail labels)) (seen_taken mail labels g within has ∙ stands))
