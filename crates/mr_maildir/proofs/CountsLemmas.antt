-- how lines of counts are read and written
use Rattle.std.proofs.Common.{◌≡◌, ◌≢◌, ℕ, zero, suc, ◌+◌, ◌<◌, ◌≤◌, ◌^◌, Bool, true, false, not, cond, ◌&&◌, List, [], ◌∷◌, ◌++◌, length, drop, get_or, map, Option, Some, None, Result, Ok, Err, IfOk, refl, sym, ap, subst, ◌∙◌, append_assoc, arith, lit<}
use Rattle.std.specs.Str.Parse.{AllDigits, digits_value}
use Rattle.std.proofs.lemmas.Fmt.{digits_decimal}
use Rattle.std.proofs.lemmas.Str.Parse.{IsNumeralModel, numerals_by_value, tells_digits, not_in_digits}
use Rattle.std.specs.declared.cmp.Ordering.{Ordering}
use Rattle.std.specs.declared.cmp.Ordering.TheVariants.{Less, Equal, Greater}
use Rattle.std.specs.Ordering.{is_eq, nat_cmp, ordering_then}
use Rattle.std.proofs.lemmas.Str.Pattern.{split_after}
use Rattle.mr_version.specs.Name.{Name, name_cmp, name_eq, name_text}
use Rattle.mr_version.specs.Order.{exact_names}
use Rattle.mr_mail.specs.declared.flags.Flag.{Flag}
use Rattle.mr_mail.specs.declared.flags.Flag.TheVariants.{Answered, Deleted, Draft, Flagged, Seen}
use Rattle.mr_mail.specs.Label.{is_label, is_label_byte}
use Rattle.mr_joins.specs.Word.{is_flag_letter, is_graphic, is_word}
use Rattle.mr_maildir.specs.Letters.{letter_of}
use Rattle.mr_joins.specs.declared.count.Count.{Count}
use Rattle.mr_joins.specs.declared.element.Element.{Element}
use Rattle.mr_joins.specs.declared.element.Element.TheVariants as element
use Rattle.mr_joins.specs.declared.mark.Mark.{Mark}
use Rattle.mr_maildir.proofs.Names.{Bor, IsSplitOnceResult, MatchOption, and_from, and_parts, codes, cut_at, decimal, eq-eqb, eqb-true, false≢true, flat_map, leb-true, list_all, nat_le, split_parts, text_eq, ◌==◌}
use Rattle.mr_joins.proofs.LabelLemmas.{same_text}
use Rattle.std.specs.Prelude.{nat_lt}
use Rattle.std.specs.Result.{result_ok}
use Rattle.std.proofs.lemmas.Bool.{ltb-true}
use Rattle.std.proofs.lemmas.List.{drop_more, length-map}
use Rattle.mr_maildir.proofs.ByteLemmas.{lacks, lacks-from, not_first}
use Rattle.mr_maildir.proofs.LayoutLemmas.{cut_in_front, split_some, uncut}
use Rattle.mr_maildir.specs.Counts.{count_text, counts_lines, element_text, ended, is_count, is_element, is_item, is_mark, item_key, lines_from, mark_text}
use Rattle.mr_maildir.specs.inner.Counts.{between, gone_text, is_run, item_words, line_of, marks_behind, pair_words}

-- ---- which bytes stand in a word

pub lacks_at : (c : ℕ) (text : List ℕ) → lacks c text ≡ true → (i : ℕ) → i < length text → get_or text i 0 ≢ c
lacks_at c [] la i below = absurd (omega arith)
lacks_at c (x ∷ text) la zero below = not_first c x text la
lacks_at c (x ∷ text) la (suc i) below = lacks_at c text (and_parts (not (x == c)) (lacks c text) la).1 i (omega arith)

pub lacks-append : (c : ℕ) (a b : List ℕ) → lacks c a ≡ true → lacks c b ≡ true → lacks c (a ++ b) ≡ true
lacks-append c [] b la lb = lb
lacks-append c (x ∷ a) b la lb =
    let two = and_parts (not (x == c)) (lacks c a) la in
    and_from (not (x == c)) (lacks c (a ++ b)) two.0 (lacks-append c a b two.1 lb)

numerals : IsNumeralModel (AllDigits 10) (digits_value 10)
numerals = numerals_by_value (AllDigits 10) tells_digits

-- a number has no space, no dot and no slash
pub no_space_in : (n : ℕ) → n < 2 ^ 64 → lacks 32 (decimal n) ≡ true
no_space_in n small = lacks-from 32 (decimal n) (not_in_digits numerals (decimal n) 32 (digits_decimal numerals n small) (λ digit. omega arith))

pub no_dot_in : (n : ℕ) → n < 2 ^ 64 → lacks 46 (decimal n) ≡ true
no_dot_in n small = lacks-from 46 (decimal n) (not_in_digits numerals (decimal n) 46 (digits_decimal numerals n small) (λ digit. omega arith))

pub no_slash_in : (n : ℕ) → n < 2 ^ 64 → lacks 47 (decimal n) ≡ true
no_slash_in n small = lacks-from 47 (decimal n) (not_in_digits numerals (decimal n) 47 (digits_decimal numerals n small) (λ digit. omega arith))

pub no_newline_in : (n : ℕ) → n < 2 ^ 64 → lacks 10 (decimal n) ≡ true
no_newline_in n small = lacks-from 10 (decimal n) (not_in_digits numerals (decimal n) 10 (digits_decimal numerals n small) (λ digit. omega arith))

-- ---- counts

pub record CountIn (count : Count) : Type 0 where
  pub once : 1 ≤ count.raised
  pub small : count.raised < 2 ^ 32
  pub within : count.gone ≤ count.raised

pub count_in : (count : Count) → is_count count ≡ true → CountIn count
count_in count is =
    let two = and_parts (nat_le 1 count.raised && nat_lt count.raised (2 ^ 32)) (nat_le count.gone count.raised) is in
    let one = and_parts (nat_le 1 count.raised) (nat_lt count.raised (2 ^ 32)) two.0 in
    record { once = leb-true 1 count.raised one.0; small = ltb-true count.raised (2 ^ 32) one.1; within = leb-true count.gone count.raised two.1 }

pub same_count : (raised gone : ℕ) (count : Count) → raised ≡ count.raised → gone ≡ count.gone → ◌≡◌ {A = Count} (record { raised = raised; gone = gone }) count
same_count raised gone count first second = λ i. record { raised = first i; gone = second i }

-- what lacks a byte that no number has, a count lacks
count_lacks : (c : ℕ) → not (47 == c) ≡ true → ((n : ℕ) → n < 2 ^ 64 → lacks c (decimal n) ≡ true) → (count : Count) → is_count count ≡ true → lacks c (count_text count) ≡ true
count_lacks c other each count is =
    let in_range = count_in count is in
    let front = each count.raised (omega arith) in
    elim (count.gone == 0) as (λ t. lacks c (cond t (decimal count.raised) (decimal count.raised ++ 47 ∷ decimal count.gone)) ≡ true) [
      | true ↦ front
      | false ↦ lacks-append c (decimal count.raised) (47 ∷ decimal count.gone) front (and_from (not (47 == c)) (lacks c (decimal count.gone)) other (each count.gone (omega arith)))
    ]

pub count_no_space : (count : Count) → is_count count ≡ true → lacks 32 (count_text count) ≡ true
count_no_space = count_lacks 32 refl no_space_in

pub count_no_dot : (count : Count) → is_count count ≡ true → lacks 46 (count_text count) ≡ true
count_no_dot = count_lacks 46 refl no_dot_in

pub count_no_newline : (count : Count) → is_count count ≡ true → lacks 10 (count_text count) ≡ true
count_no_newline = count_lacks 10 refl no_newline_in

-- ---- names of items

pub record ItemIn (item : Name) : Type 0 where
  pub author_in : item.author < 64
  pub counter_from : 1 ≤ item.counter
  pub counter_to : item.counter ≤ 1000000

pub item_in : (item : Name) → is_item item ≡ true → ItemIn item
item_in item is =
    let two = and_parts (nat_lt item.author 64 && nat_le 1 item.counter) (nat_le item.counter 1000000) is in
    let one = and_parts (nat_lt item.author 64) (nat_le 1 item.counter) two.0 in
    record { author_in = ltb-true item.author 64 one.0; counter_from = leb-true 1 item.counter one.1; counter_to = leb-true item.counter 1000000 two.1 }

name_lacks : (c : ℕ) → not (46 == c) ≡ true → ((n : ℕ) → n < 2 ^ 64 → lacks c (decimal n) ≡ true) → (item : Name) → is_item item ≡ true → lacks c (name_text item) ≡ true
name_lacks c other each item is =
    let in_range = item_in item is in
    lacks-append c (decimal item.author) (46 ∷ decimal item.counter) (each item.author (omega arith)) (and_from (not (46 == c)) (lacks c (decimal item.counter)) other (each item.counter (omega arith)))

pub name_no_space : (item : Name) → is_item item ≡ true → lacks 32 (name_text item) ≡ true
name_no_space = name_lacks 32 refl no_space_in

pub name_no_newline : (item : Name) → is_item item ≡ true → lacks 10 (name_text item) ≡ true
name_no_newline = name_lacks 10 refl no_newline_in

-- a name has a dot
not_lacking : (c : ℕ) (front back : List ℕ) → lacks c (front ++ c ∷ back) ≡ true → ⊥
not_lacking c [] back la = not_first c c back la refl
not_lacking c (x ∷ front) back la = not_lacking c front back (and_parts (not (x == c)) (lacks c (front ++ c ∷ back)) la).1

pub no_count_is_name : (count : Count) (item : Name) → is_count count ≡ true → count_text count ≡ name_text item → ⊥
no_count_is_name count item is same = not_lacking 46 (decimal item.author) (decimal item.counter) (ap (lacks 46) (sym same) ∙ count_no_dot count is)

-- orderings that say equal are equal
equal_of : (o : Ordering) → is_eq o ≡ true → o ≡ Equal
equal_of Less h = cc
equal_of Equal h = refl
equal_of Greater h = cc

pub same_item : (a b : Name) → name_eq a b ≡ true → a ≡ b
same_item a b is = exact_names a b (equal_of (name_cmp a b) is)

nat_self : (x : ℕ) → nat_cmp x x ≡ Equal
nat_self x =
    elim (nat_lt x x) as (λ t. nat_lt x x ≡ t → cond t Less (cond (x == x) Equal Greater) ≡ Equal) [
      | true ↦ λ less. let below = ltb-true x x less in absurd (omega arith)
      | false ↦ λ _. ap (λ t. cond t Equal Greater) (eq-eqb x x refl)
    ] refl

pub same_self : (a : Name) → name_eq a a ≡ true
same_self a = ap (λ o. is_eq (ordering_then o (nat_cmp a.counter a.counter))) (nat_self a.author) ∙ ap is_eq (nat_self a.counter)

-- ---- a count at its slash

-- where the text of a count is cut
pub count_cut : (count : Count) (text : List ℕ) (r : Option (Bor (List ℕ) × Bor (List ℕ))) → IsSplitOnceResult 47 text r → is_count count ≡ true → text ≡ count_text count → MatchOption r ((text ≡ decimal count.raised) × (None ≡ gone_text count.gone)) (λ x. (x.0.now ≡ decimal count.raised) × (Some x.1.now ≡ gone_text count.gone))
count_cut count text r cases is same =
    let in_range = count_in count is in
    let front = no_slash_in count.raised (omega arith) in
    elim (count.gone == 0) as (λ t. text ≡ cond t (decimal count.raised) (decimal count.raised ++ 47 ∷ decimal count.gone) → MatchOption r ((text ≡ decimal count.raised) × (None ≡ cond t None (Some (decimal count.gone)))) (λ x. (x.0.now ≡ decimal count.raised) × (Some x.1.now ≡ cond t None (Some (decimal count.gone))))) [
      | true ↦ λ whole. uncut_there r whole (split_parts 47 text r cases (lit< tt)) (ap (lacks 47) whole ∙ front)
      | false ↦ λ whole. cut_there r (split_after 47 text (decimal count.raised) (decimal count.gone) r cases (lit< tt) whole (lacks_at 47 (decimal count.raised) front))
    ] same
  where
    uncut_there : (r : Option (Bor (List ℕ) × Bor (List ℕ))) → text ≡ decimal count.raised → MatchOption r ((i : ℕ) → i < length text → get_or text i 0 ≢ 47) (λ x. (text ≡ x.0.now ++ (47 ∷ x.1.now)) × ((i : ℕ) → i < length x.0.now → get_or x.0.now i 0 ≢ 47)) → lacks 47 text ≡ true → MatchOption r ((text ≡ decimal count.raised) × (◌≡◌ {A = Option (List ℕ)} None None)) (λ x. (x.0.now ≡ decimal count.raised) × (◌≡◌ {A = Option (List ℕ)} (Some x.1.now) None))
    uncut_there None whole h la = (whole, refl)
    uncut_there (Some x) whole h la = absurd (not_lacking 47 x.0.now x.1.now (ap (lacks 47) (sym h.0) ∙ la))

    cut_there : (r : Option (Bor (List ℕ) × Bor (List ℕ))) → MatchOption r ⊥ (λ x. (x.0.now ≡ decimal count.raised) × (x.1.now ≡ decimal count.gone)) → MatchOption r ((text ≡ decimal count.raised) × (None ≡ Some (decimal count.gone))) (λ x. (x.0.now ≡ decimal count.raised) × (Some x.1.now ≡ Some (decimal count.gone)))
    cut_there None h = absurd h
    cut_there (Some x) h = (h.0, ap Some h.1)

-- ---- marks of one item

pub run_parts : (item : Name) (m : Mark) (marks : List Mark) → is_run item (m ∷ marks) ≡ true → (is_mark m ≡ true) × (item ≡ m.item) × (is_run item marks ≡ true)
run_parts item m marks is =
    let two = and_parts (is_mark m && name_eq item m.item) (is_run item marks) is in
    let one = and_parts (is_mark m) (name_eq item m.item) two.0 in
    (one.0, same_item item m.item one.1, two.1)

pub mark_parts : (m : Mark) → is_mark m ≡ true → (is_item m.item ≡ true) × (is_element m.element ≡ true) × (is_count m.count ≡ true)
mark_parts m is =
    let two = and_parts (is_item m.item && is_element m.element) (is_count m.count) is in
    let one = and_parts (is_item m.item) (is_element m.element) two.0 in
    (one.0, one.1, two.1)

-- words that name an item begin no pairs
pub item_read : (own item named : Name) (run : List Mark) (words rest : List (List ℕ)) → is_item item ≡ true → is_run item run ≡ true → words ≡ item_words own item ++ pair_words run → words ≡ codes "of" ∷ name_text named ∷ rest → ((other : Name) (back : List (List ℕ)) → is_item other ≡ true → words ≡ codes "of" ∷ name_text other ∷ back → Some named ≡ Some other) → (named ≡ item) × (rest ≡ pair_words run)
item_read own item named run words rest is runs same named_so whole =
    elim (name_eq own item) as (λ t. words ≡ cond t [] (codes "of" ∷ name_text item ∷ []) ++ pair_words run → (named ≡ item) × (rest ≡ pair_words run)) [
      | true ↦ λ here. absurd (no_pair run runs (sym here ∙ named_so))
      | false ↦ λ here. let found = whole item (pair_words run) is here in let both : codes "of" ∷ name_text named ∷ rest ≡ codes "of" ∷ name_text item ∷ pair_words run = sym named_so ∙ here in (cc, cc)
    ] same
  where
    no_pair : (run : List Mark) → is_run item run ≡ true → pair_words run ≡ codes "of" ∷ name_text named ∷ rest → ⊥
    no_pair [] runs here = cc
    no_pair (m ∷ marks) runs here =
        let parts = run_parts item m marks runs in
        let count : count_text m.count ≡ name_text named = cc in
        no_count_is_name m.count named (mark_parts m parts.0).2 count

-- ---- the words of a line

append_nothing : {X : Type 0} (xs : List X) → xs ++ [] ≡ xs
append_nothing [] = refl
append_nothing (x ∷ xs) = ap (λ rest. x ∷ rest) (append_nothing xs)

-- what passes a test that a byte fails lacks it
pub lacks_by : (c : ℕ) (p : ℕ → Bool) → p c ≡ false → (text : List ℕ) → list_all p text ≡ true → lacks c text ≡ true
lacks_by c p without [] all = refl
lacks_by c p without (x ∷ text) all =
    let two = and_parts (p x) (list_all p text) all in
    and_from (not (x == c)) (lacks c text) (elim (x == c) as (λ t. (x == c) ≡ t → not t ≡ true) [
      | true ↦ λ same. absurd (false≢true (sym without ∙ (ap p (sym (eqb-true x c same)) ∙ two.0)))
      | false ↦ λ _. refl
    ] refl) (lacks_by c p without text two.1)

letter_lacks : (c : ℕ) → not (68 == c) ≡ true → not (70 == c) ≡ true → not (82 == c) ≡ true → not (83 == c) ≡ true → not (84 == c) ≡ true → (flag : Flag) → lacks c (letter_of flag ∷ []) ≡ true
letter_lacks c d f r s t Draft = and_from (not (68 == c)) true d refl
letter_lacks c d f r s t Flagged = and_from (not (70 == c)) true f refl
letter_lacks c d f r s t Answered = and_from (not (82 == c)) true r refl
letter_lacks c d f r s t Seen = and_from (not (83 == c)) true s refl
letter_lacks c d f r s t Deleted = and_from (not (84 == c)) true t refl

word_bytes : (text : List ℕ) → is_word text ≡ true → list_all is_graphic text ≡ true
word_bytes text is =
    let four = and_parts (nat_le 1 (length text) && nat_le (length text) 200 && list_all is_graphic text && not (is_flag_letter text)) (not (is_label text)) is in
    let three = and_parts (nat_le 1 (length text) && nat_le (length text) 200 && list_all is_graphic text) (not (is_flag_letter text)) four.0 in
    (and_parts (nat_le 1 (length text) && nat_le (length text) 200) (list_all is_graphic text) three.0).1

pub label_bytes : (text : List ℕ) → is_label text ≡ true → list_all is_label_byte text ≡ true
label_bytes text is = (and_parts (nat_le 1 (length text) && nat_le (length text) 32) (list_all is_label_byte text) is).1

pub element_no_space : (e : Element) → is_element e ≡ true → lacks 32 (element_text e) ≡ true
element_no_space (element.Flag flag) is = letter_lacks 32 refl refl refl refl refl flag
element_no_space (element.Other word) is = lacks_by 32 is_graphic refl word (word_bytes word is)
element_no_space (element.Folder label) is = lacks_by 32 is_label_byte refl label (label_bytes label is)

pub element_no_newline : (e : Element) → is_element e ≡ true → lacks 10 (element_text e) ≡ true
element_no_newline (element.Flag flag) is = letter_lacks 10 refl refl refl refl refl flag
element_no_newline (element.Other word) is = lacks_by 10 is_graphic refl word (word_bytes word is)
element_no_newline (element.Folder label) is = lacks_by 10 is_label_byte refl label (label_bytes label is)

-- a word, and the marks behind it
behind_word : (word : List ℕ) (item : Name) (run : List Mark) → lacks 32 word ≡ true → is_run item run ≡ true → cut_at 32 (word ++ flat_map mark_text run) ≡ word ∷ pair_words run
behind_word word item [] la runs = ap (cut_at 32) (append_nothing word) ∙ uncut 32 word la
behind_word word item (m ∷ marks) la runs =
    let parts = run_parts item m marks runs in
    let two = mark_parts m parts.0 in
    cut_in_front 32 word ((element_text m.element ++ 32 ∷ count_text m.count) ++ flat_map mark_text marks) la
    ∙ ap (λ l. word ∷ l) (
    ap (cut_at 32) (append_assoc (element_text m.element) (32 ∷ count_text m.count) (flat_map mark_text marks))
    ∙ (cut_in_front 32 (element_text m.element) (count_text m.count ++ flat_map mark_text marks) (element_no_space m.element two.1)
    ∙ ap (λ l. element_text m.element ∷ l) (behind_word (count_text m.count) item marks (count_no_space m.count two.2) parts.2)))

pub words_of_line : (own item : Name) (run : List Mark) → is_item item ≡ true → is_run item run ≡ true → cut_at 32 (line_of own item run) ≡ codes "counts" ∷ (item_words own item ++ pair_words run)
words_of_line own item run is runs =
    elim (name_eq own item) as (λ t. cut_at 32 (cond t (codes "counts") (codes "counts of " ++ name_text item) ++ flat_map mark_text run) ≡ codes "counts" ∷ (cond t [] (codes "of" ∷ name_text item ∷ []) ++ pair_words run)) [
      | true ↦ behind_word (codes "counts") item run refl runs
      | false ↦
          cut_in_front 32 (codes "counts") (codes "of" ++ 32 ∷ (name_text item ++ flat_map mark_text run)) refl
          ∙ ap (λ l. codes "counts" ∷ l) (cut_in_front 32 (codes "of") (name_text item ++ flat_map mark_text run) refl
          ∙ ap (λ l. codes "of" ∷ l) (behind_word (name_text item) item run (name_no_space item is) runs))
    ]

-- ---- lines of marks, written

pub lines_written : (own : Name) (line : List ℕ) (item : Name) (marks : List Mark) → flat_map ended (lines_from own line item marks) ≡ line ++ (marks_behind own item marks ++ 10 ∷ [])
lines_written own line item [] = append_nothing (line ++ 10 ∷ [])
lines_written own line item (m ∷ marks) =
    elim (name_eq item m.item) as (λ t. name_eq item m.item ≡ t → flat_map ended (cond t (lines_from own (line ++ mark_text m) item marks) (line ∷ lines_from own (item_key own m.item ++ mark_text m) m.item marks)) ≡ line ++ ((cond t [] (10 ∷ item_key own m.item) ++ mark_text m ++ marks_behind own m.item marks) ++ 10 ∷ [])) [
      | true ↦ λ same.
          lines_written own (line ++ mark_text m) item marks
          ∙ (ap (λ i. (line ++ mark_text m) ++ (marks_behind own i marks ++ 10 ∷ [])) (same_item item m.item same)
          ∙ simp append_assoc)
      | false ↦ λ _. ap (λ l. ended line ++ l) (lines_written own (item_key own m.item ++ mark_text m) m.item marks) ∙ simp append_assoc
    ] refl

-- ---- reading marks in pairs of words

-- some marks are left in the words, and with them those that were read are all
pub record LeftOf (item : Name) (words : List (Bor (List ℕ))) (before run read : List Mark) : Type 0 where
  pub left : List Mark
  pub runs : is_run item left ≡ true
  pub words_left : map (λ (word : Bor (List ℕ)). word.now) words ≡ pair_words left
  pub all : read ++ left ≡ before ++ run

-- at first all are left
pub left_first : (item : Name) (words : List (Bor (List ℕ))) (before run : List Mark) → is_run item run ≡ true → map (λ (word : Bor (List ℕ)). word.now) words ≡ pair_words run → LeftOf item words before run before
left_first item words before run runs is = record { left = run; runs = runs; words_left = is; all = refl }

-- where no two words are left no mark is
pub left_last : (item : Name) (words : List (Bor (List ℕ))) (before run read : List Mark) → length words ≤ 1 → LeftOf item words before run read → (length words ≡ 0) × (read ≡ before ++ run)
left_last item words before run read few l = go words l.left few l.words_left l.all
  where
    go : (words : List (Bor (List ℕ))) (left : List Mark) → length words ≤ 1 → map (λ (word : Bor (List ℕ)). word.now) words ≡ pair_words left → read ++ left ≡ before ++ run → (length words ≡ 0) × (read ≡ before ++ run)
    go [] [] few is all = (refl, sym (append_nothing read) ∙ all)
    go [] (m ∷ left) few is all = cc
    go (w ∷ []) [] few is all = cc
    go (w ∷ []) (m ∷ left) few is all = cc
    go (w ∷ v ∷ words) left few is all = absurd (omega arith)

-- the first two words are those of the first mark that is left
pub record NextMark (item : Name) (element count : List ℕ) (words : List (Bor (List ℕ))) (before run read : List Mark) : Type 0 where
  pub mark : Mark
  pub is : is_mark mark ≡ true
  pub of_item : mark.item ≡ item
  pub named : element ≡ element_text mark.element
  pub counted : count ≡ count_text mark.count
  pub left : LeftOf item words before run (read ++ mark ∷ [])

pub left_mark : (item : Name) (element count : Bor (List ℕ)) (words : List (Bor (List ℕ))) (before run read : List Mark) → LeftOf item (element ∷ count ∷ words) before run read → NextMark item element.now count.now words before run read
left_mark item element count words before run read l = go l.left l.runs l.words_left l.all
  where
    go : (left : List Mark) → is_run item left ≡ true → element.now ∷ count.now ∷ map (λ (word : Bor (List ℕ)). word.now) words ≡ pair_words left → read ++ left ≡ before ++ run → NextMark item element.now count.now words before run read
    go [] runs is all = cc
    go (m ∷ left) runs is all =
        let parts = run_parts item m left runs in
        let first : element.now ≡ element_text m.element = cc in
        let second : count.now ≡ count_text m.count = cc in
        let rest : map (λ (word : Bor (List ℕ)). word.now) words ≡ pair_words left = cc in
        record {
          mark = m;
          is = parts.0;
          of_item = sym parts.1;
          named = first;
          counted = second;
          left = record { left = left; runs = parts.2; words_left = rest; all = append_assoc read (m ∷ []) left ∙ all };
        }

-- the words from a place on begin with the two there
pub two_first : (words : List (Bor (List ℕ))) (i : ℕ) (d e : Bor (List ℕ)) → i + 1 < length words → drop i words ≡ get_or words i d ∷ get_or words (i + 1) e ∷ drop (i + 2) words
two_first words i d e below =
    let here : i < length words = omega arith in
    let twice : (i + 1) + 1 ≡ i + 2 = omega arith in
    drop_more words i d here ∙ ap (λ l. get_or words i d ∷ l) (drop_more words (i + 1) e below ∙ ap (λ k. get_or words (i + 1) e ∷ drop k words) twice)

-- a place with no word
abbrev pub no_word : Bor (List ℕ)
no_word = record { ref_ptr = (0, 0); now = [] }

pub next_at : (item : Name) (words : List (Bor (List ℕ))) (i : ℕ) (before run read : List Mark) → i + 1 < length words → LeftOf item (drop i words) before run read → NextMark item (get_or words i no_word).now (get_or words (i + 1) no_word).now (drop (i + 2) words) before run read
next_at item words i before run read below left =
    let P : List (Bor (List ℕ)) → Type 0 = λ ws. LeftOf item ws before run read in
    left_mark item (get_or words i no_word) (get_or words (i + 1) no_word) (drop (i + 2) words) before run read (subst P (two_first words i no_word no_word below) left)

pub all_pushed : (marks : List Mark) (m : Mark) → list_all is_mark marks ≡ true → is_mark m ≡ true → list_all is_mark (marks ++ m ∷ []) ≡ true
all_pushed [] m all is = and_from (is_mark m) true is refl
all_pushed (n ∷ marks) m all is =
    let two = and_parts (is_mark n) (list_all is_mark marks) all in
    and_from (is_mark n) (list_all is_mark (marks ++ m ∷ [])) two.0 (all_pushed marks m two.1 is)

-- the words of a line of the own item
pub own_read : (own item : Name) (run : List Mark) (words : List (List ℕ)) → is_item item ≡ true → words ≡ item_words own item ++ pair_words run → ((other : Name) (back : List (List ℕ)) → is_item other ≡ true → words ≡ codes "of" ∷ name_text other ∷ back → ⊥) → (own ≡ item) × (words ≡ pair_words run)
own_read own item run words is same none =
    elim (name_eq own item) as (λ t. name_eq own item ≡ t → words ≡ cond t [] (codes "of" ∷ name_text item ∷ []) ++ pair_words run → (own ≡ item) × (words ≡ pair_words run)) [
      | true ↦ λ own_item here. (same_item own item own_item, here)
      | false ↦ λ _ here. absurd (none item (pair_words run) is here)
    ] refl same

-- the parts of a text with lines of marks at its end
pub counts_pushed : (own : Name) (first : Mark) (others marks : List Mark) (old keyed begun behind new : List ℕ) → keyed ≡ old ++ item_key own first.item → begun ≡ keyed ++ mark_text first → behind ≡ begun ++ marks_behind own first.item others → new ≡ behind ++ 10 ∷ [] → marks ≡ first ∷ others → new ≡ old ++ flat_map ended (counts_lines own marks)
counts_pushed own first others marks old keyed begun behind new a b c d e =
    let key = item_key own first.item in
    let rest = marks_behind own first.item others in
    let joined : new ≡ (((old ++ key) ++ mark_text first) ++ rest) ++ 10 ∷ [] = d ∙ ap (λ t. t ++ 10 ∷ []) (c ∙ ap (λ t. t ++ rest) (b ∙ ap (λ t. t ++ mark_text first) a)) in
    let regrouped : (((old ++ key) ++ mark_text first) ++ rest) ++ 10 ∷ [] ≡ old ++ ((key ++ mark_text first) ++ (rest ++ 10 ∷ [])) = simp append_assoc in
    let lines : flat_map ended (counts_lines own marks) ≡ (key ++ mark_text first) ++ (rest ++ 10 ∷ []) = ap (λ l. flat_map ended (counts_lines own l)) e ∙ lines_written own (key ++ mark_text first) first.item others in
    joined ∙ (regrouped ∙ ap (λ l. old ++ l) (sym lines))

-- the words of a line behind the first
pub told_words : (own item : Name) (run : List Mark) (line : List ℕ) (words : List (Bor (List ℕ))) → is_item item ≡ true → is_run item run ≡ true → map (λ (word : Bor (List ℕ)). word.now) words ≡ cut_at 32 line → line ≡ line_of own item run → map (λ (word : Bor (List ℕ)). word.now) (drop 1 words) ≡ item_words own item ++ pair_words run
told_words own item run line words is runs lines whole = go words (lines ∙ (ap (cut_at 32) whole ∙ words_of_line own item run is runs))
  where
    go : (words : List (Bor (List ℕ))) → map (λ (word : Bor (List ℕ)). word.now) words ≡ codes "counts" ∷ (item_words own item ++ pair_words run) → map (λ (word : Bor (List ℕ)). word.now) (drop 1 words) ≡ item_words own item ++ pair_words run
    go [] all = cc
    go (first ∷ told) all = cc

-- a text has a part at least
pub some_words : (line : List ℕ) (words : List (Bor (List ℕ))) → map (λ (word : Bor (List ℕ)). word.now) words ≡ cut_at 32 line → 1 ≤ length words
some_words line words is =
    let some = split_some (λ b. b == 32) line in
    let same : length words ≡ length (cut_at 32 line) = sym (length-map words (λ (word : Bor (List ℕ)). word.now)) ∙ ap length is in
    omega arith

-- what an Ok that was taken promises
pub taken : {A E : Type 0} (P : A → Type 0) (r : Result A E) (x : A) → result_ok r ≡ Some x → IfOk r P → P x
taken P (Ok y) x some h = let same : y ≡ x = cc in subst P same h
taken P (Err e) x some h = let no : None ≡ Some x = some in cc

pub spelled_from : (words : List (Bor (List ℕ))) (item : Name) → 3 ≤ length words → (get_or words 1 no_word).now ≡ codes "of" → (get_or words 2 no_word).now ≡ name_text item → map (λ (word : Bor (List ℕ)). word.now) (drop 1 words) ≡ codes "of" ∷ name_text item ∷ map (λ (word : Bor (List ℕ)). word.now) (drop 3 words)
spelled_from [] item long first second = absurd (omega arith)
spelled_from (a ∷ []) item long first second = absurd (omega arith)
spelled_from (a ∷ b ∷ []) item long first second = absurd (omega arith)
spelled_from (a ∷ b ∷ c ∷ words) item long first second = cc

pub not_other : (a b : List ℕ) → not (text_eq a b) ≡ false → a ≡ b
not_other a b is =
    elim (text_eq a b) as (λ t. text_eq a b ≡ t → not t ≡ false → a ≡ b) [
      | true ↦ λ same _. same_text a b same
      | false ↦ λ _ no. absurd (false≢true (sym no))
    ] refl is
