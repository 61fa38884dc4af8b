-- An issue list without the issues that were lost: it says the same of what is left.
use Rattle.std.proofs.Common.{◌≡◌, ◌≢◌, refl, sym, ap, subst, ◌∙◌, ℕ, ◌+◌, ◌==◌, Bool, ◌||◌, ◌&&◌, List, [], ◌∷◌, ◌++◌, filter, inl, inr, IsTrue, IsFalse, eqb-true, arith}
use Rattle.std.specs.List.{list_any}
use Rattle.std.proofs.lemmas.Bool.{and_parts}
use Rattle.mr_version.specs.Name.{Name}
use Rattle.mr_model.specs.Versions.{is, is_before, Issue, is_issued, item_of, last_own, replacements, made_with, insert_in_order, in_version_order, issue_count}
use Rattle.mr_model.specs.History.{Setting}
use Rattle.mr_model.specs.Moment.{selection}
use Rattle.mr_model.specs.Headline.{EachPair}
use Rattle.mr_model.proofs.Basics.{In, cases, or_parts, or_left, or_right, is_path, false_from}
use Rattle.mr_model.proofs.Issues.{IsIssueList, IsIssuable, fresh, made_new, made_old, last_own-here, last_own-back, replaced_issued, item_here, item_back, count_here, count_back}
use Rattle.mr_model.proofs.Lists.{each_at, in_filter}
use Rattle.mr_model.proofs.Telling.{Rises, before_trans, ordered_rising}

-- `left` is `all` without issues of r, that all came after e; and what came after e in `left` is not of r
pub data Lost {M : Type 0} (r : ℕ) (e : List (Issue M)) : List (Issue M) → List (Issue M) → Type 0 where
  none : Lost r e e e
  gone : {x : Issue M} {all left : List (Issue M)} → x.version.author ≡ r → Lost r e all left → Lost r e (x ∷ all) left
  stays : {x : Issue M} {all left : List (Issue M)} → x.version.author ≢ r → Lost r e all left → Lost r e (x ∷ all) (x ∷ left)

-- v was not lost
abbrev pub IsLeft : {M : Type 0} → ℕ → List (Issue M) → Name → Type 0
IsLeft r e v = v.author ≡ r → IsTrue (is_issued e v)

pub any_same : {A : Type 0} (p q : A → Bool) (xs : List A) → ((x : A) → In x xs → p x ≡ q x) → list_any p xs ≡ list_any q xs
any_same p q [] h = refl
any_same p q (x ∷ xs) h = λ i. h x (inl refl) i || any_same p q xs (λ y j. h y (inr j)) i

module _ {M : Type 0} (r : ℕ) (e : List (Issue M)) where
  pub base_all : {all left : List (Issue M)} → Lost r e all left → (v : Name) → IsTrue (is_issued e v) → IsTrue (is_issued all v)
  base_all none v h = h
  base_all (gone {x = x} {all = all} a l) v h = or_right (is x.version v) (is_issued all v) (base_all l v h)
  base_all (stays {x = x} {all = all} a l) v h = or_right (is x.version v) (is_issued all v) (base_all l v h)

  pub left_all : {all left : List (Issue M)} → Lost r e all left → (v : Name) → IsTrue (is_issued left v) → IsTrue (is_issued all v)
  left_all none v h = h
  left_all (gone {x = x} {all = all} a l) v h = or_right (is x.version v) (is_issued all v) (left_all l v h)
  left_all (stays {x = x} {all = all} {left = left} a l) v h = grind (arith, left_all l v)

  -- what is issued on the list that is left was not lost
  pub is_left : {all left : List (Issue M)} → Lost r e all left → (v : Name) → IsTrue (is_issued left v) → IsLeft r e v
  is_left none v h own = h
  is_left (gone a l) v h own = is_left l v h own
  is_left (stays {x = x} {left = left} a l) v h own = grind (arith, is_left l v, is_path x.version v)

  -- a lost issue is none that is left
  pub not_gone : {all left : List (Issue M)} (x : Issue M) → Lost r e all left → IsIssuable all x → x.version.author ≡ r → (v : Name) → IsLeft r e v → IsFalse (is x.version v)
  not_gone {all = all} x l ok own v h = grind (arith, cases (is x.version v), is_path x.version v, fresh x all ok, base_all l v)

  pub last_same : {all left : List (Issue M)} → Lost r e all left → (a : ℕ) (i : Name) → a ≢ r → last_own all a i ≡ last_own left a i
  last_same none a i other = refl
  last_same (gone {x = x} {all = all} own l) a i other = last_own-back x all a i (false_from ((x.version.author == a) && is x.item i)
      (λ t. other (sym (eqb-true x.version.author a (and_parts (x.version.author == a) (is x.item i) t).0) ∙ own))) ∙ last_same l a i other
  last_same (stays {x = x} {all = all} {left = left} _ l) a i other = grind (arith, last_same l a i other)

  -- what is left supersedes what it superseded
  pub made_same : {all left : List (Issue M)} → Lost r e all left → IsIssueList all → IsIssueList left → (w v : Name) → IsLeft r e w → made_with all w v ≡ made_with left w v
  made_same none ok okl w v h = refl
  made_same (gone {x = x} {all = all} own l) ok okl w v h = made_old x all w v (not_gone x l ok.0 own w h) ∙ made_same l ok.1 okl w v h
  made_same (stays {x = x} {all = all} {left = left} other l) ok okl w v h = elim (cases (is x.version w)) [
    | inl t ↦ made_new x all w v t
        ∙ (ap (λ (bs : List Name). list_any (λ b. is b v || made_with all b v) (x.bases ++ bs)) (last_same l x.version.author x.item other)
        ∙ (any_same (λ b. is b v || made_with all b v) (λ b. is b v || made_with left b v) (replacements left x)
        (λ b i j. is b v || made_same l ok.1 okl.1 b v (is_left l b (replaced_issued x left okl.0 b i)) j)
        ∙ sym (made_new x left w v t)))
    | inr n ↦ made_old x all w v n ∙ (made_same l ok.1 okl.1 w v h ∙ sym (made_old x left w v n))
  ]

  pub item_same : {all left : List (Issue M)} → Lost r e all left → IsIssueList all → (v : Name) → IsLeft r e v → item_of all v ≡ item_of left v
  item_same none ok v h = refl
  item_same (gone {x = x} {all = all} own l) ok v h = item_back x all v (not_gone x l ok.0 own v h) ∙ item_same l ok.1 v h
  item_same (stays {x = x} {all = all} {left = left} other l) ok v h = grind (arith, item_same l ok.1 v h)

  pub count_same : {all left : List (Issue M)} → Lost r e all left → (a : ℕ) → a ≢ r → issue_count all a ≡ issue_count left a
  count_same none a other = refl
  count_same (gone {x = x} {all = all} own l) a other = count_back x all a (false_from (x.version.author == a) (λ t. other (sym (eqb-true x.version.author a t) ∙ own))) ∙ count_same l a other
  count_same (stays {x = x} {all = all} {left = left} _ l) a other = grind (arith, count_same l a other)

  -- ---- the issues in version order

  pub selection_here : {C : Type 0} (s : Setting M C) (x : Issue M) (xs : List (Issue M)) (q : ℕ) (v : Name) → IsTrue (is x.version v) → selection s (x ∷ xs) q v ≡ s.selects q x.message
  selection_here s x xs q v t = rw t refl

  pub selection_back : {C : Type 0} (s : Setting M C) (x : Issue M) (xs : List (Issue M)) (q : ℕ) (v : Name) → IsFalse (is x.version v) → selection s (x ∷ xs) q v ≡ selection s xs q v
  selection_back s x xs q v n = rw n refl

  pub selection_same : {C : Type 0} (s : Setting M C) {all left : List (Issue M)} → Lost r e all left → IsIssueList all → (q : ℕ) (v : Name) → IsLeft r e v → selection s all q v ≡ selection s left q v
  selection_same s none ok q v h = refl
  selection_same s (gone {x = x} {all = all} own l) ok q v h = selection_back s x all q v (not_gone x l ok.0 own v h) ∙ selection_same s l ok.1 q v h
  selection_same s (stays {x = x} {all = all} {left = left} other l) ok q v h = grind (arith, selection_same s l ok.1 q v h)

-- ---- the issues in version order

-- the issues whose versions pass the test
abbrev pub passing : {M : Type 0} → (Name → Bool) → List (Issue M) → List (Issue M)
passing p xs = filter (λ x. p x.version) xs

pub passing_in : {M : Type 0} (p : Name → Bool) (x : Issue M) (xs : List (Issue M)) → IsTrue (p x.version) → passing p (x ∷ xs) ≡ x ∷ passing p xs
passing_in p x xs t = rw t refl

pub passing_out : {M : Type 0} (p : Name → Bool) (x : Issue M) (xs : List (Issue M)) → IsFalse (p x.version) → passing p (x ∷ xs) ≡ passing p xs
passing_out p x xs n = rw n refl

pub placed_here : {M : Type 0} (x y : Issue M) (ys : List (Issue M)) → IsTrue (is_before x.version y.version) → insert_in_order x (y ∷ ys) ≡ x ∷ y ∷ ys
placed_here x y ys t = rw t refl

-- an issue that fails the test may be put anywhere
pub placed_out : {M : Type 0} (p : Name → Bool) (x : Issue M) (ys : List (Issue M)) → IsFalse (p x.version) → passing p (insert_in_order x ys) ≡ passing p ys
placed_out p x [] n = passing_out p x [] n
placed_out {M} p x (y ∷ ys) n = grind (arith, placed_out p x ys n)

-- x stands before all of the list
pub placed_first : {M : Type 0} (x : Issue M) (ys : List (Issue M)) → ((y : Issue M) → In y ys → IsTrue (is_before x.version y.version)) → insert_in_order x ys ≡ x ∷ ys
placed_first x [] h = refl
placed_first x (y ∷ ys) h = placed_here x y ys (h y (inl refl))

-- of a rising list, one that passes the test comes among those that pass it where it would come among all
pub placed_in_passing : {M : Type 0} (p : Name → Bool) (x : Issue M) (ys : List (Issue M)) → EachPair Rises ys → IsTrue (p x.version) → passing p (insert_in_order x ys) ≡ insert_in_order x (passing p ys)
placed_in_passing p x [] rising h = passing_in p x [] h
placed_in_passing {M} p x (y ∷ ys) rising h = grind (arith, placed_first x (passing p (y ∷ ys)), before_trans x.version y.version, each_at (Rises y) ys rising.0, in_filter (λ z. p z.version) (y ∷ ys), placed_in_passing p x ys rising.1 h)

-- a test that no lost version passes picks the same of both lists, in the same order
pub order_same : {M : Type 0} (r : ℕ) (e : List (Issue M)) {all left : List (Issue M)} (p : Name → Bool) → Lost r e all left → IsIssueList all → IsIssueList left → ((v : Name) → IsTrue (p v) → IsLeft r e v) →
    passing p (in_version_order all) ≡ passing p (in_version_order left)
order_same r e p none ok okl h = refl
order_same r e p (gone {x = x} {all = all} own l) ok okl h = placed_out p x (in_version_order all) (false_from (p x.version) (λ t. fresh x all ok.0 (base_all r e l x.version (h x.version t own)))) ∙ order_same r e p l ok.1 okl h
order_same r e p (stays {x = x} {all = all} {left = left} other l) ok okl h =
    let all_in = placed_in_passing p x (in_version_order all) (ordered_rising all ok.1) in let left_in = placed_in_passing p x (in_version_order left) (ordered_rising left okl.1) in
    grind (arith, cases (p x.version), all_in, left_in, placed_out p x (in_version_order all), placed_out p x (in_version_order left), order_same r e p l ok.1 okl.1 h)
