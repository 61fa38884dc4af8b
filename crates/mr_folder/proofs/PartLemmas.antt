-- what the tests of paths tell
use Rattle.std.proofs.Common.{◌≡◌, ◌≢◌, ℕ, suc, ◌+◌, ◌<◌, true, false, not, cond, ◌&&◌, List, [], ◌∷◌, ◌++◌, length, get_or, take, All, append_assoc, refl, sym, ap, ◌∙◌, arith}
use Rattle.mr_folder.proofs.Names.{AllByRecursion, AllPass-from_list_all, IsFolder, IsInside, IsPart, and_from, and_parts, both_ways, bytes_decides, bytes_eq}
use Rattle.mr_folder.proofs.Names.{codes, false_from_ne_true, first_part, is_folder_text, is_part_byte, is_part_text, join_with_byte, list_all}
use Rattle.mr_folder.proofs.Names.{list_all-from_AllPass, mail_path, not-true, not_from_false, onto_first, own_folder, part_name, parts_of, position_or_len}
use Rattle.mr_folder.proofs.Names.{◌==◌}
use Rattle.std.proofs.lemmas.List.Splits.{join_with_byte-slice_split, slice_split_at, slice_split_none}
use Rattle.mr_folder.specs.Inside.{joined}
use Rattle.mr_folder.specs.declared.path.Part.{Part}
use Rattle.mr_folder.specs.declared.path.Part.TheVariants.{Cur, New}

-- a test that texts differ, and what it tells
differ : (a b : List ℕ) → not (bytes_eq a b) ≡ true → a ≢ b
differ a b is same = both_ways (bytes_eq a b) (not-true (bytes_eq a b) is) ((bytes_decides a b).1 same)

differs : (a b : List ℕ) → a ≢ b → not (bytes_eq a b) ≡ true
differs a b isnt = not_from_false (bytes_eq a b) (false_from_ne_true (bytes_eq a b) (λ is. isnt ((bytes_decides a b).0 is)))

-- an empty text, and another
some : (text : List ℕ) → text ≢ [] → 0 < length text
some [] isnt = absurd (isnt refl)
some (b ∷ rest) isnt = omega arith

pub part_from_test : (text : List ℕ) → is_part_text text ≡ true → IsPart text
part_from_test text is =
    let a = and_parts (not (bytes_eq text [])) (not (bytes_eq text (codes ".")) && (not (bytes_eq text (codes "..")) && list_all is_part_byte text)) is in
    let b = and_parts (not (bytes_eq text (codes "."))) (not (bytes_eq text (codes "..")) && list_all is_part_byte text) a.1 in
    let c = and_parts (not (bytes_eq text (codes ".."))) (list_all is_part_byte text) b.1 in
    record {
      something = some text (differ text [] a.0);
      bytes = AllPass-from_list_all is_part_byte text c.1;
      not_here = differ text (codes ".") b.0;
      not_above = differ text (codes "..") c.0;
    }

pub test_from_part : (text : List ℕ) → IsPart text → is_part_text text ≡ true
test_from_part text part =
    and_from (not (bytes_eq text [])) (not (bytes_eq text (codes ".")) && (not (bytes_eq text (codes "..")) && list_all is_part_byte text)) (differs text [] (λ none. empty none))
    (and_from (not (bytes_eq text (codes "."))) (not (bytes_eq text (codes "..")) && list_all is_part_byte text) (differs text (codes ".") part.not_here)
    (and_from (not (bytes_eq text (codes ".."))) (list_all is_part_byte text) (differs text (codes "..") part.not_above) (list_all-from_AllPass is_part_byte text part.bytes)))
  where
    empty : text ≡ [] → ⊥
    empty none = let short : length text ≡ 0 = ap length none in let long = part.something in omega arith

-- no part has a `/`
slashless : (part : List ℕ) → IsPart part → All (λ b. (b == 47) ≡ false) part
slashless part is = λ k d lt. byte (get_or part k d) (is.bytes k d lt)
  where
    byte : (b : ℕ) → is_part_byte b ≡ true → (b == 47) ≡ false
    byte b passes = not-true (b == 47) ((and_parts (not (b == 47)) (not (b == 0)) passes).0)

-- the parts, with `/` between them again
joined-join : (first : List ℕ) (more : List (List ℕ)) → joined first more ≡ join_with_byte 47 (first ∷ more)
joined-join first [] = refl
joined-join first (next ∷ more) = ap (λ rest. first ++ 47 ∷ rest) (joined-join next more)

all_parts : (parts : List (List ℕ)) → list_all is_part_text parts ≡ true → AllByRecursion IsPart parts
all_parts [] is = tt
all_parts (part ∷ parts) is =
    let a = and_parts (is_part_text part) (list_all is_part_text parts) is in
    (part_from_test part a.0, all_parts parts a.1)

pub inside_from_test : (path : List ℕ) → list_all is_part_text (parts_of path) ≡ true → IsInside path
inside_from_test path is = go (parts_of path) refl is
  where
    go : (parts : List (List ℕ)) → parts_of path ≡ parts → list_all is_part_text parts ≡ true → IsInside path
    go [] none each = absurd (never path none)
      where
        onto : (x : ℕ) (rest : List (List ℕ)) → onto_first x rest ≡ [] → ⊥
        onto x [] e = cc
        onto x (r ∷ rs) e = cc

        never : (xs : List ℕ) → parts_of xs ≡ [] → ⊥
        never [] e = cc
        never (x ∷ xs) e = elim (x == 47) as (λ b. cond b ([] ∷ parts_of xs) (onto_first x (parts_of xs)) ≡ [] → ⊥) [ true ↦ λ f. (cc) | false ↦ λ f. onto x (parts_of xs) f ] e
    go (first ∷ more) parts each =
        let all = all_parts (first ∷ more) each in
        record {
          first = first;
          more = more;
          first_is = all.0;
          more_are = all.1;
          path_is = sym (joined-join first more ∙ (ap (join_with_byte 47) (sym parts) ∙ join_with_byte-slice_split 47 path));
        }

-- the other way round
pub test_from_inside : (path : List ℕ) → IsInside path → list_all is_part_text (parts_of path) ≡ true
test_from_inside path inside =
    ap (list_all is_part_text) (ap parts_of inside.path_is ∙ split_joined inside.first inside.more inside.first_is inside.more_are)
    ∙ and_from (is_part_text inside.first) (list_all is_part_text inside.more) (test_from_part inside.first inside.first_is) (each inside.more inside.more_are)
  where
    each : (parts : List (List ℕ)) → AllByRecursion IsPart parts → list_all is_part_text parts ≡ true
    each [] all = refl
    each (part ∷ parts) all = and_from (is_part_text part) (list_all is_part_text parts) (test_from_part part all.0) (each parts all.1)

    split_joined : (first : List ℕ) (more : List (List ℕ)) → IsPart first → AllByRecursion IsPart more → parts_of (joined first more) ≡ first ∷ more
    split_joined first [] first_is more_are = slice_split_none (λ b. b == 47) first (slashless first first_is)
    split_joined first (next ∷ more) first_is more_are =
        slice_split_at (λ b. b == 47) first 47 (joined next more) (slashless first first_is) refl
        ∙ ap (λ rest. first ∷ rest) (split_joined next more more_are.0 more_are.1)

-- a path is a folder's exactly where it passes
pub folder_from_test : (path : List ℕ) → is_folder_text path ≡ true → IsFolder path
folder_from_test [] is = tt
folder_from_test (b ∷ rest) is =
    let a = and_parts (list_all is_part_text (parts_of (b ∷ rest))) (not (bytes_eq (first_part (b ∷ rest)) own_folder)) is in
    (inside_from_test (b ∷ rest) a.0, differ (first_part (b ∷ rest)) own_folder a.1)

pub test_from_folder : (path : List ℕ) → IsFolder path → is_folder_text path ≡ true
test_from_folder [] is = refl
test_from_folder (b ∷ rest) is =
    and_from (list_all is_part_text (parts_of (b ∷ rest))) (not (bytes_eq (first_part (b ∷ rest)) own_folder)) (test_from_inside (b ∷ rest) is.0) (differs (first_part (b ∷ rest)) own_folder is.1)

-- what follows a `/` doesn't count for the first part
first_part-append : (xs ys : List ℕ) → first_part (xs ++ 47 ∷ ys) ≡ first_part xs
first_part-append [] ys = refl
first_part-append (x ∷ xs) ys =
    elim (x == 47) as (λ b. take (cond (not b) (1 + position_or_len (λ c. c == 47) (xs ++ 47 ∷ ys)) 0) (x ∷ (xs ++ 47 ∷ ys)) ≡ take (cond (not b) (1 + position_or_len (λ c. c == 47) xs) 0) (x ∷ xs)) [
      | true ↦ refl
      | false ↦ one (position_or_len (λ c. c == 47) (xs ++ 47 ∷ ys)) (position_or_len (λ c. c == 47) xs) (first_part-append xs ys)
    ]
  where
    one : (m n : ℕ) → take m (xs ++ 47 ∷ ys) ≡ take n xs → take (1 + m) (x ∷ (xs ++ 47 ∷ ys)) ≡ take (1 + n) (x ∷ xs)
    one m n same =
        let a : 1 + m ≡ suc m = omega arith in
        let b : 1 + n ≡ suc n = omega arith in
        rw (a, b) (ap (λ l. x ∷ l) same)

three : (part : Part) (name : List ℕ) → IsPart name → IsInside (part_name part ++ 47 ∷ name)
three part name is = record { first = part_name part; more = name ∷ []; first_is = of part; more_are = (is, tt); path_is = refl }
  where
    of : (p : Part) → IsPart (part_name p)
    of Cur = part_from_test (codes "cur") refl
    of New = part_from_test (codes "new") refl

-- a path inside a path
below : (first : List ℕ) (more : List (List ℕ)) (next : List ℕ) (rest : List (List ℕ)) → joined first more ++ 47 ∷ joined next rest ≡ joined first (more ++ next ∷ rest)
below first [] next rest = refl
below first (m ∷ more) next rest = append_assoc first (47 ∷ joined m more) (47 ∷ joined next rest) ∙ ap (λ l. first ++ 47 ∷ l) (below m more next rest)

under : (a b : List ℕ) → IsInside a → IsInside b → IsInside (a ++ 47 ∷ b)
under a b in_a in_b = record {
  first = in_a.first;
  more = in_a.more ++ in_b.first ∷ in_b.more;
  first_is = in_a.first_is;
  more_are = both in_a.more in_a.more_are;
  path_is = ap (λ x. x ++ 47 ∷ b) in_a.path_is ∙ (ap (λ y. joined in_a.first in_a.more ++ 47 ∷ y) in_b.path_is ∙ below in_a.first in_a.more in_b.first in_b.more);
}
  where
    both : (xs : List (List ℕ)) → AllByRecursion IsPart xs → AllByRecursion IsPart (xs ++ in_b.first ∷ in_b.more)
    both [] all = (in_b.first_is, in_b.more_are)
    both (x ∷ xs) all = (all.0, both xs all.1)

-- a mail's path stays inside, and isn't the program's own
pub mail_inside : (folder : List ℕ) (part : Part) (name : List ℕ) → IsFolder folder → IsPart name → IsInside (mail_path folder part name)
mail_inside [] part name folder is = three part name is
mail_inside (b ∷ rest) part name folder is = under (b ∷ rest) (part_name part ++ 47 ∷ name) folder.0 (three part name is)

pub mail_not_own : (folder : List ℕ) (part : Part) (name : List ℕ) → IsFolder folder → first_part (mail_path folder part name) ≢ own_folder
mail_not_own [] Cur name folder same = let long : ◌≡◌ {A = ℕ} 3 9 = ap length same in omega arith
mail_not_own [] New name folder same = let long : ◌≡◌ {A = ℕ} 3 9 = ap length same in omega arith
mail_not_own (b ∷ rest) part name folder same = folder.1 (sym (first_part-append (b ∷ rest) (part_name part ++ 47 ∷ name)) ∙ same)
