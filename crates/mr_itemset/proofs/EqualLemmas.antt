use Rattle.std.proofs.Common.{ℕ, ◌≡◌, Bool, ap, ◌∙◌, List, arith}
use Rattle.std.specs.Bool.{Decides}
use Rattle.std.specs.Cmp.Lexicographic.{pointwise, pointwise_decides}
use Rattle.std.specs.Cmp.Derive.{both_true}
use Rattle.mr_itemset.proofs.Names.{AreSame, AuthorColumn, IsNormal, IsTrue, Listed, Normal, and_parts, listed_eq, name_eq-itself, normal_eq, normal_known}
use Rattle.mr_itemset.proofs.Names.{same_from_decides, vector_eq, vectors_Decides, ◌↔◌}
use Rattle.mr_itemset.proofs.NormalLemmas.{same_name, normal_unique}

listed_Decides : (a b : Listed) → Decides (listed_eq a b) (a ≡ b)
listed_Decides a b = grind (arith, and_parts, same_name, vectors_Decides, name_eq-itself)

-- the test part by part decides whether the same is known
pub normals_Decide : {limit : ℕ} (a b : Normal) → IsNormal limit a → IsNormal limit b → Decides (normal_eq a b) (AreSame (normal_known a) (normal_known b))
normals_Decide a b na nb = (
  λ t i v.
      let p = and_parts (vector_eq a.all b.all) (pointwise listed_eq a.listed b.listed) t in
      ap (λ (c : List AuthorColumn). normal_known (record { all = c; listed = a.listed }) i v) ((vectors_Decides a.all b.all).0 p.0) ∙ ap (λ (xs : List Listed). normal_known (record { all = b.all; listed = xs }) i v) ((pointwise_decides listed_Decides a.listed b.listed).0 p.1),
  λ same.
      let e = normal_unique a b na nb same in
      both_true ((vectors_Decides a.all b.all).1 (ap (λ (k : Normal). k.all) e)) ((pointwise_decides listed_Decides a.listed b.listed).1 (ap (λ (k : Normal). k.listed) e)),
)

-- WHAT DECIDES that the same is known is the test part by part
pub equal_from_same : {limit : ℕ} (a b : Normal) (result : Bool) → IsNormal limit a → IsNormal limit b → IsTrue result ↔ AreSame (normal_known a) (normal_known b) → result ≡ normal_eq a b
equal_from_same a b result na nb both = same_from_decides result (normal_eq a b) both (normals_Decide a b na nb)
