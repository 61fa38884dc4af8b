-- the orders of elements and of keys are orders
use Rattle.std.specs.Prelude.{◌≡◌, Some, refl}
use Rattle.std.specs.Cmp.{IsEquivalence, IsTotalOrder, IsPartialOrder, nat_cmp_total, eq_by_cmp_equiv, partial_order_from_agreeing_total}
use Rattle.std.specs.Cmp.Lexicographic.{nat_list_cmp_total}
use Rattle.std.specs.Ordering.{eq_by_cmp}
use Rattle.std.proofs.lemmas.Cmp.{then_total, on_total}
use Rattle.mr_joins.specs.declared.element.Element.{Element}
use Rattle.mr_joins.specs.Element.{element_place, element_text, element_cmp, element_eq}

-- the order of elements is total
pub elements_total : IsTotalOrder element_cmp
elements_total = then_total (on_total element_place nat_cmp_total) (on_total element_text nat_list_cmp_total)

-- elements that tie are one
pub elements_tied : (a b : Element) → element_eq a b ≡ eq_by_cmp element_cmp a b
elements_tied a b = refl

pub elements_equiv : IsEquivalence element_eq
elements_equiv = eq_by_cmp_equiv elements_total

pub elements_partial : IsPartialOrder element_eq (λ a b. Some (element_cmp a b))
elements_partial = partial_order_from_agreeing_total element_cmp elements_total (λ _ _. refl) elements_tied
