-- A set that has one version alone.
use Rattle.std.proofs.Common.{◌≡◌, ◌+◌, ℕ, false, arith}
use Rattle.mr_itemset.proofs.Names.{HasNoAuthorFrom, HasNoneFrom, IsNextAuthor, IsNextIn, IsSame, Name, Versions, cases_eq, cases_lt, eq-eqb, name_eq}
use Rattle.mr_itemset.proofs.Names.{name_eq-parts, ne_eqb, of_author}

-- where nothing of its author comes before or behind, and nothing of another author
pub only_same : (set : Versions) (a k : ℕ) → of_author set a 0 ≡ false → IsNextAuthor set 0 a → IsNextIn (of_author set a) 1 k → HasNoneFrom (of_author set a) (k + 1) → HasNoAuthorFrom set (a + 1) → (v : Name) → v.author ≡ a → v.counter ≡ k → IsSame set (name_eq v)
only_same set a k h author first i others v va vk w = grind (arith, cases_eq, cases_lt, name_eq-parts, ne_eqb, eq-eqb)
