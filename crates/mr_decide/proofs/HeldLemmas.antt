-- heads that show what is shown
use Rattle.std.proofs.Common.{◌≡◌, Bool, true, false, not, ◌||◌, ◌==◌, ℕ, ◌+◌, ◌<◌, length, get_or, take, List, [], ◌∷◌, ◌++◌, refl, sym, ◌∙◌, ap}
use Rattle.std.specs.Cmp.Lexicographic.{pointwise}
use Rattle.std.specs.List.{AllByRecursion, list_any}
use Rattle.std.proofs.lemmas.Bool.{and_parts, eqb-true, false≢true}
use Rattle.std.proofs.lemmas.Grind.{flat_map-append}
use Rattle.std.proofs.lemmas.List.{append-nil, take_more}
use Rattle.mr_mail.specs.Label.{text_eq}
use Rattle.mr_joins.specs.declared.mark.Mark.{Mark}
use Rattle.mr_joins.proofs.LabelLemmas.{labels_decide}
use Rattle.mr_joins.specs.View.{ViewParts, view_eq, view_eq_equiv}
use Rattle.mr_joins.specs.Shown.{shown_view}
use Rattle.mr_decide.specs.declared.held.Head.{Head}
use Rattle.mr_decide.specs.declared.held.HeldItem.{HeldItem}
use Rattle.mr_decide.specs.Held.{differs, values_in, values_of}

-- none differs where all show it
pub none-differs : (heads : List Head) (view : ViewParts) → AllByRecursion (λ (head : Head). shown_view head.value ≡ view) heads → list_any (differs view) heads ≡ false
none-differs [] view all = refl
none-differs (head ∷ heads) view all =
    let same : view_eq (shown_view head.value) view ≡ true = ap (λ (v : ViewParts). view_eq v view) all.0 ∙ view_eq_equiv.refl view in
    λ i. not (same i) || none-differs heads view all.1 i

same_view : (a b : ViewParts) → view_eq a b ≡ true → a ≡ b
same_view a b h =
    let parts = and_parts (pointwise text_eq a.labels b.labels) (a.flags == b.flags) h in
    let labels : a.labels ≡ b.labels = (labels_decide a.labels b.labels).0 parts.0 in
    let flags : a.flags ≡ b.flags = eqb-true a.flags b.flags parts.1 in
    λ i. record { labels = labels i; flags = flags i }

neither : (a b : Bool) → (not a || b) ≡ false → (a ≡ true) × (b ≡ false)
neither true b h = (refl, h)
neither false b h = absurd (false≢true (sym h))

-- all show it where none differs
pub none-apart : (heads : List Head) (view : ViewParts) → list_any (differs view) heads ≡ false → AllByRecursion (λ (head : Head). shown_view head.value ≡ view) heads
none-apart [] view h = tt
none-apart (head ∷ heads) view h =
    let parts = neither (view_eq (shown_view head.value) view) (list_any (differs view) heads) h in
    (same_view (shown_view head.value) view parts.0, none-apart heads view parts.1)

-- ---- the values of more items

pub values-more : (items : List HeldItem) (i : ℕ) (item : HeldItem) → i < length items → item ≡ get_or items i item → values_of (take i items) ++ values_in item ≡ values_of (take (i + 1) items)
values-more items i item below is =
    sym
    (ap values_of (take_more items i item below ∙ ap (λ (x : HeldItem). take i items ++ x ∷ []) (sym is))
    ∙ flat_map-append values_in (take i items) (item ∷ [])
    ∙ ap (λ (xs : List (List Mark)). values_of (take i items) ++ xs) (append-nil (values_in item)))
