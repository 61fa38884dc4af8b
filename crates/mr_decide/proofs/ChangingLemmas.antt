-- what a user wants
use Rattle.std.proofs.Common.{◌≡◌, ℕ, ◌<◌, arith, Bool, true, false, cond, ◌==◌, ◌&&◌, ◌||◌, ◌++◌, ◌∙◌, length, List, [], ◌∷◌, filter, Option, refl, sym, ap}
use Rattle.std.proofs.lemmas.Bool.Decides.{nat_tests}
use Rattle.std.specs.Ordering.{match_ordering}
use Rattle.std.specs.declared.cmp.Ordering.TheVariants.{Less, Equal, Greater}
use Rattle.std.specs.Cmp.Lexicographic.{bytes_decides}
use Rattle.std.specs.List.{list_any}
use Rattle.std.proofs.lemmas.Bool.{false≢true}
use Rattle.std.proofs.lemmas.List.Folds.{list_any-append}
use Rattle.std.proofs.lemmas.Map.Views.{any-filter_same}
use Rattle.mr_mail.specs.Label.{text_cmp, text_eq, has_label}
use Rattle.mr_joins.proofs.LabelLemmas.{has-in_order}
use Rattle.mr_joins.specs.Labels.{with_label, in_order}
use Rattle.mr_joins.specs.Shown.{or_inbox}
use Rattle.mr_joins.specs.View.{ViewParts, is_nowhere}
use Rattle.mr_decide.specs.Changing.{over, changed, stays, with_changes, wanted}

not_zero : (n : ℕ) → 0 < n → (n == 0) ≡ false
not_zero n h = grind (arith, nat_tests)

some_label : (label : List ℕ) (labels : List (List ℕ)) → (length (with_label label labels) == 0) ≡ false
some_label label [] = not_zero 1 (omega arith)
some_label label (first ∷ more) =
    elim (text_cmp label first) as (λ o. (length (match_ordering o (label ∷ first ∷ more) (first ∷ more) (first ∷ with_label label more)) == 0) ≡ false) [
      | Less ↦ not_zero (length (label ∷ first ∷ more)) (omega arith)
      | Equal ↦ not_zero (length (first ∷ more)) (omega arith)
      | Greater ↦ not_zero (length (first ∷ with_label label more)) (omega arith)
    ]

some_order : (labels : List (List ℕ)) → (length (in_order (or_inbox labels)) == 0) ≡ false
some_order [] = not_zero 1 (omega arith)
some_order (label ∷ labels) = some_label label (in_order labels)

-- it stands in some folder
pub wanted-somewhere : (shown : ViewParts) (left : Option ViewParts) (seen : ViewParts) → is_nowhere seen ≡ false → is_nowhere (wanted shown left seen) ≡ false
wanted-somewhere shown left seen h = cases (is_nowhere shown)
  where
    cases : (b : Bool) → is_nowhere (cond b seen (with_changes shown (over left) seen)) ≡ false
    cases true = h
    cases false = some_order (filter (stays shown (over left) seen) shown.labels ++ filter (stays shown (over left) seen) seen.labels)

-- ---- folders that the mail is taken out of

same_label : (a b : List ℕ) → text_eq a b ≡ true → b ≡ a
same_label a b h = sym ((bytes_decides a b).0 h)

in_or_inbox : (labels : List (List ℕ)) (label : List ℕ) → has_label labels label ≡ true → has_label (or_inbox labels) label ≡ true
in_or_inbox [] label h = absurd (false≢true h)
in_or_inbox (first ∷ labels) label h = h

-- what stays of what is shown is there
staying_is_there : (shown left seen : ViewParts) (label : List ℕ) → has_label shown.labels label ≡ true → stays shown left seen label ≡ true → has_label (with_changes shown left seen).labels label ≡ true
staying_is_there shown left seen label there stay =
    has-in_order (or_inbox both) label
    ∙ in_or_inbox both label
    (list_any-append (text_eq label) (filter (stays shown left seen) shown.labels) (filter (stays shown left seen) seen.labels)
    ∙ (λ i. (any-filter_same (text_eq label) (stays shown left seen) (stays shown left seen label) (λ k e. ap (stays shown left seen) (same_label label k e)) shown.labels ∙ (λ j. stay j && there j)) i
    || list_any (text_eq label) (filter (stays shown left seen) seen.labels)))
  where
    both : List (List ℕ)
    both = filter (stays shown left seen) shown.labels ++ filter (stays shown left seen) seen.labels

was_left : (l s h : Bool) → h ≡ true → changed l s h ≡ false → (l ≡ true) × (s ≡ false)
was_left true false h there gone = (refl, refl)
was_left true true true there gone = absurd (false≢true (sym gone))
was_left true true false there gone = absurd (false≢true there)
was_left false true true there gone = absurd (false≢true (sym gone))
was_left false true false there gone = absurd (false≢true there)
was_left false false true there gone = absurd (false≢true (sym gone))
was_left false false false there gone = absurd (false≢true there)

-- a mail is taken out of just such folders in which it was left, and is seen no more
pub taken_was_left : (shown : ViewParts) (left : Option ViewParts) (seen : ViewParts) (label : List ℕ) → has_label shown.labels label ≡ true → has_label (wanted shown left seen).labels label ≡ false →
    (has_label (over left).labels label ≡ true) × (has_label seen.labels label ≡ false)
taken_was_left shown left seen label there gone = cases (is_nowhere shown) refl gone
  where
    somewhere : (labels : List (List ℕ)) → has_label labels label ≡ true → (length labels == 0) ≡ true → ⊥
    somewhere [] h e = false≢true h
    somewhere (first ∷ labels) h e = false≢true (sym (not_zero (length (first ∷ labels)) (omega arith)) ∙ e)

    by : (b : Bool) → stays shown (over left) seen label ≡ b → has_label (with_changes shown (over left) seen).labels label ≡ false → (has_label (over left).labels label ≡ true) × (has_label seen.labels label ≡ false)
    by true h g = absurd (false≢true (sym g ∙ staying_is_there shown (over left) seen label there h))
    by false h g = was_left (has_label (over left).labels label) (has_label seen.labels label) (has_label shown.labels label) there h

    cases : (b : Bool) → is_nowhere shown ≡ b → has_label (cond b seen (with_changes shown (over left) seen)).labels label ≡ false → (has_label (over left).labels label ≡ true) × (has_label seen.labels label ≡ false)
    cases true h g = absurd (somewhere shown.labels there h)
    cases false h g = by (stays shown (over left) seen label) refl g
