-- lines that tell of a mail's file
use Rattle.std.proofs.Common.{◌≡◌, ◌≢◌, ℕ, ◌+◌, ◌<◌, Bool, true, false, not, cond, ◌&&◌, List, [], ◌∷◌, ◌++◌, length, get_or, take, drop, Option, Some, None, IfSome, IfNone, refl, sym, ap, ◌∙◌, append_assoc, lit<}
use Rattle.mr_maildir.proofs.Names.{Bor, IsSplitOnceResult, MatchOption, and_from, and_parts, behind_key, bytes_decides, codes, drop_at, eqb-true, false≢true}
use Rattle.mr_maildir.proofs.Names.{first_told, folder_key, is_label, is_label_byte, is_one_line, is_path_byte, is_safe_byte, is_safe_folder, is_safe_name}
use Rattle.mr_maildir.proofs.Names.{lines_behind, list_all, name_key, nat_eq, nat_le, option_copied, pointwise, slice_index, split_parts, starts_text}
use Rattle.mr_maildir.proofs.Names.{starts_with, take_at, text_eq, told_by, with_folder, with_line, with_name, ◌==◌}
use Rattle.std.specs.Str.Pattern.{FindsTextPrefix}
use Rattle.mr_maildir.proofs.ByteLemmas.{lacks-from, not_first}
use Rattle.mr_maildir.proofs.FolderLemmas.{implied}

append_nothing : {X : Type 0} (xs : List X) → xs ++ [] ≡ xs
append_nothing [] = refl
append_nothing (x ∷ xs) = ap (λ rest. x ∷ rest) (append_nothing xs)

-- a line without newline, and what follows its newline
behind_newline : (begun line rest : List ℕ) → is_one_line line ≡ true → lines_behind begun (line ++ 10 ∷ rest) ≡ (begun ++ line) ∷ lines_behind [] rest
behind_newline begun [] rest one = ap (λ l. l ∷ lines_behind [] rest) (sym (append_nothing begun))
behind_newline begun (b ∷ line) rest one =
    elim (b == 10) as (λ t. (b == 10) ≡ t → cond t (begun ∷ lines_behind [] (line ++ 10 ∷ rest)) (lines_behind (begun ++ b ∷ []) (line ++ 10 ∷ rest)) ≡ (begun ++ b ∷ line) ∷ lines_behind [] rest) [
      | true ↦ λ is. absurd (not_first 10 b line one (eqb-true b 10 is))
      | false ↦ λ _.
          behind_newline (begun ++ b ∷ []) line rest (and_parts (not (b == 10)) (is_one_line line) one).1
          ∙ ap (λ l. l ∷ lines_behind [] rest) (append_assoc begun (b ∷ []) line)
    ] refl

no_newline : (begun text : List ℕ) → is_one_line text ≡ true → lines_behind begun text ≡ []
no_newline begun [] one = refl
no_newline begun (b ∷ text) one =
    elim (b == 10) as (λ t. (b == 10) ≡ t → cond t (begun ∷ lines_behind [] text) (lines_behind (begun ++ b ∷ []) text) ≡ []) [
      | true ↦ λ is. absurd (not_first 10 b text one (eqb-true b 10 is))
      | false ↦ λ _. no_newline (begun ++ b ∷ []) text (and_parts (not (b == 10)) (is_one_line text) one).1
    ] refl

-- a text without newline tells nothing
pub untold : (key text : List ℕ) → is_one_line text ≡ true → told_by key text ≡ None
untold key text one = ap (first_told key) (no_newline [] text one)

-- the first line tells, or else what follows
told-line : (key line more : List ℕ) → is_one_line line ≡ true → told_by key (line ++ 10 ∷ more) ≡ cond (starts_with nat_eq line key) (Some (drop (length key) line)) (told_by key more)
told-line key line more one = ap (first_told key) (behind_newline [] line more one)

pub told_here : (key line more value : List ℕ) → is_one_line line ≡ true → behind_key key line ≡ Some value → told_by key (line ++ 10 ∷ more) ≡ Some value
told_here key line more value one is =
    told-line key line more one
    ∙ elim (starts_with nat_eq line key) as (λ t. cond t (Some (drop (length key) line)) None ≡ Some value → cond t (Some (drop (length key) line)) (told_by key more) ≡ Some value) [
      | true ↦ λ e. e
      | false ↦ λ e. cc
    ] is

pub told_later : (key line more : List ℕ) → is_one_line line ≡ true → behind_key key line ≡ None → told_by key (line ++ 10 ∷ more) ≡ told_by key more
told_later key line more one is =
    told-line key line more one
    ∙ elim (starts_with nat_eq line key) as (λ t. cond t (Some (drop (length key) line)) None ≡ None → cond t (Some (drop (length key) line)) (told_by key more) ≡ told_by key more) [
      | true ↦ λ e. cc
      | false ↦ λ e. refl
    ] is

-- what `strip_prefix` gives
pub behind-strip_prefix : (key line : List ℕ) (r : Option (Bor (List ℕ))) → MatchOption r (FindsTextPrefix key line None) (λ x. (n : ℕ) × FindsTextPrefix key line (Some n) × (x.now ≡ drop n line) × (length x.now + n ≡ length line)) → option_copied r ≡ behind_key key line
behind-strip_prefix key line None h =
    ap (λ t. cond t (Some (drop (length key) line)) None) (starts_text false key line h)
behind-strip_prefix key line (Some x) h =
    let starts : true ≡ starts_with nat_eq line key = starts_text true key line (length key, (refl, h.1.1 ∙ ap (λ n. key ++ drop n line) h.1.0, h.1.2), h.1.2) in
    ap Some (h.2 ∙ ap (λ n. drop n line) h.1.0) ∙ ap (λ t. cond t (Some (drop (length key) line)) None) starts

-- where the first line ends
pub cut-none : (text : List ℕ) (r : Option (Bor (List ℕ) × Bor (List ℕ))) → IsSplitOnceResult 10 text r → IfNone r (is_one_line text ≡ true)
cut-none text r cases = go r (split_parts 10 text r cases (lit< tt))
  where
    go : (r : Option (Bor (List ℕ) × Bor (List ℕ))) → MatchOption r ((i : ℕ) → i < length text → get_or text i 0 ≢ 10) (λ x. (text ≡ x.0.now ++ (10 ∷ x.1.now)) × ((i : ℕ) → i < length x.0.now → get_or x.0.now i 0 ≢ 10)) → IfNone r (is_one_line text ≡ true)
    go None h = lacks-from 10 text h
    go (Some x) h = tt

pub cut-some : (text : List ℕ) (r : Option (Bor (List ℕ) × Bor (List ℕ))) → IsSplitOnceResult 10 text r → IfSome r (λ x. (text ≡ x.0.now ++ 10 ∷ x.1.now) × (is_one_line x.0.now ≡ true))
cut-some text r cases = go r (split_parts 10 text r cases (lit< tt))
  where
    go : (r : Option (Bor (List ℕ) × Bor (List ℕ))) → MatchOption r ((i : ℕ) → i < length text → get_or text i 0 ≢ 10) (λ x. (text ≡ x.0.now ++ (10 ∷ x.1.now)) × ((i : ℕ) → i < length x.0.now → get_or x.0.now i 0 ≢ 10)) → IfSome r (λ x. (text ≡ x.0.now ++ 10 ∷ x.1.now) × (is_one_line x.0.now ≡ true))
    go None h = tt
    go (Some x) h = (h.0, lacks-from 10 x.0.now h.1)

-- ---- a line in front

pub one_line-append : (a b : List ℕ) → is_one_line a ≡ true → is_one_line b ≡ true → is_one_line (a ++ b) ≡ true
one_line-append [] b one two = two
one_line-append (x ∷ a) b one two =
    let parts = and_parts (not (x == 10)) (is_one_line a) one in
    and_from (not (x == 10)) (is_one_line (a ++ b)) parts.0 (one_line-append a b parts.1 two)

-- a line that begins with the key tells what stands behind it
pub behind-key : (key value : List ℕ) → behind_key key (key ++ value) ≡ Some value
behind-key key value =
    let front : take (length key) (key ++ value) ≡ key = take_at key value (length key) refl in
    let starts : starts_with nat_eq (key ++ value) key ≡ true = ap (λ l. pointwise nat_eq key l) front ∙ (bytes_decides key key).1 refl in
    ap (λ t. cond t (Some (drop (length key) (key ++ value))) None) starts ∙ ap Some (drop_at key value (length key) refl)

-- a line in front is the first
pub told-with_line : (key value lines : List ℕ) → is_one_line key ≡ true → is_one_line value ≡ true → told_by key (with_line key value lines) ≡ Some value
told-with_line key value lines one two =
    ap (told_by key) (sym (append_assoc key value (10 ∷ lines)))
    ∙ told_here key (key ++ value) lines value (one_line-append key value one two) (behind-key key value)

-- a line in front with another key changes nothing
pub told-other_line : (key other value lines : List ℕ) → is_one_line other ≡ true → is_one_line value ≡ true → behind_key key (other ++ value) ≡ None → told_by key (with_line other value lines) ≡ told_by key lines
told-other_line key other value lines one two lacking =
    ap (told_by key) (sym (append_assoc other value (10 ∷ lines)))
    ∙ told_later key (other ++ value) lines (one_line-append other value one two) lacking

-- ---- names in front

one_line_from : (p : ℕ → Bool) → p 10 ≡ false → (text : List ℕ) → list_all p text ≡ true → is_one_line text ≡ true
one_line_from p without text all = implied p (λ b. not (b == 10)) other text all
  where
    other : (b : ℕ) → p b ≡ true → not (b == 10) ≡ true
    other b is =
        elim (b == 10) as (λ t. (b == 10) ≡ t → not t ≡ true) [
          | true ↦ λ same. absurd (false≢true (sym without ∙ (ap p (sym (eqb-true b 10 same)) ∙ is)))
          | false ↦ λ _. refl
        ] refl

-- a safe name, a safe folder's name and a label are one line
pub name-one_line : (name : List ℕ) → is_safe_name name ≡ true → is_one_line name ≡ true
name-one_line name safe = one_line_from is_safe_byte refl name (and_parts (nat_le 1 (length name) && nat_le (length name) 200 && not (slice_index name 0 == 46)) (list_all is_safe_byte name) safe).1

pub folder-one_line : (name : List ℕ) → is_safe_folder name ≡ true → is_one_line name ≡ true
folder-one_line name safe =
    let bytes = (and_parts (nat_le 1 (length name) && nat_le (length name) 200 && not (slice_index name 0 == 46) && list_all is_path_byte name) (not (text_eq name (codes "mailfold"))) safe).0 in
    one_line_from is_path_byte refl name (and_parts (nat_le 1 (length name) && nat_le (length name) 200 && not (slice_index name 0 == 46)) (list_all is_path_byte name) bytes).1

pub key-one_line : (label : List ℕ) → is_label label ≡ true → is_one_line (folder_key label) ≡ true
key-one_line label is =
    let one = one_line_from is_label_byte refl label (and_parts (nat_le 1 (length label) && nat_le (length label) 32) (list_all is_label_byte label) is).1 in
    one_line-append (codes "folder ") (label ++ 32 ∷ []) refl (one_line-append label (32 ∷ []) one refl)

-- a file's name in front
pub told-with_name : (name lines : List ℕ) → is_safe_name name ≡ true → told_by name_key (with_name name lines) ≡ Some name
told-with_name name lines safe =
    ap (λ t. told_by name_key (cond t (with_line name_key name lines) lines)) safe ∙ told-with_line name_key name lines refl (name-one_line name safe)

pub folders-with_name : (label name lines : List ℕ) → told_by (folder_key label) (with_name name lines) ≡ told_by (folder_key label) lines
folders-with_name label name lines =
    elim (is_safe_name name) as (λ t. is_safe_name name ≡ t → told_by (folder_key label) (cond t (with_line name_key name lines) lines) ≡ told_by (folder_key label) lines) [
      | true ↦ λ safe. told-other_line (folder_key label) name_key name lines refl (name-one_line name safe) refl
      | false ↦ λ _. refl
    ] refl

-- a folder's name in front
pub told-with_folder : (label name lines : List ℕ) → is_label label ≡ true → is_safe_folder name ≡ true → told_by (folder_key label) (with_folder label name lines) ≡ Some name
told-with_folder label name lines is safe =
    ap (λ t. told_by (folder_key label) (cond t (with_line (folder_key label) name lines) lines)) safe ∙ told-with_line (folder_key label) name lines (key-one_line label is) (folder-one_line name safe)

pub name-with_folder : (label name lines : List ℕ) → is_label label ≡ true → told_by name_key (with_folder label name lines) ≡ told_by name_key lines
name-with_folder label name lines is =
    elim (is_safe_folder name) as (λ t. is_safe_folder name ≡ t → told_by name_key (cond t (with_line (folder_key label) name lines) lines) ≡ told_by name_key lines) [
      | true ↦ λ safe. told-other_line name_key (folder_key label) name lines (key-one_line label is) (folder-one_line name safe) refl
      | false ↦ λ _. refl
    ] refl
