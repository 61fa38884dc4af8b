use Rattle.std.specs.Prelude.{Bool}
use Rattle.std.specs.Ordering.{on, eq_of_both}
use Rattle.std.specs.Cmp.{IsEquivalence, and_equiv, on_equiv, eq_by_cmp_equiv}
use Rattle.std.specs.Cmp.Lexicographic.{pointwise, lists_equiv}
use Rattle.mr_version.specs.Name.{name_eq}
use Rattle.mr_version.specs.Order.{names_total}
use Rattle.mr_concise.specs.Equal.{vector_eq, vectors_equiv}
use Rattle.mr_itemset.specs.declared.knowledge.Listed.{Listed}
use Rattle.mr_itemset.specs.Normal.{Normal}

-- part by part
abbrev pub listed_eq : Listed → Listed → Bool
listed_eq = eq_of_both (on (λ x. x.item) name_eq) (on (λ x. x.vector) vector_eq)

abbrev pub normal_eq : Normal → Normal → Bool
normal_eq = eq_of_both (on (λ k. k.all) vector_eq) (on (λ k. k.listed) (pointwise listed_eq))

-- each of them is an equivalence
pub listed_equiv : IsEquivalence listed_eq
listed_equiv = and_equiv (on_equiv (λ x. x.item) (eq_by_cmp_equiv names_total)) (on_equiv (λ x. x.vector) vectors_equiv)

pub normals_equiv : IsEquivalence normal_eq
normals_equiv = and_equiv (on_equiv (λ k. k.all) vectors_equiv) (on_equiv (λ k. k.listed) (lists_equiv listed_equiv))
