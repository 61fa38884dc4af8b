use Rattle.std.specs.Prelude.{◌≡◌, ◌≤◌, ℕ, if◌then◌else◌, List, [], ◌∷◌, All, AllPairs, length, refl}
use Rattle.std.specs.Coded.{Coded, code_by, coded×, coded_list}
use Rattle.std.specs.declared.cmp.Ordering.TheVariants.{Less}
use Rattle.mr_version.specs.Name.{Name, name_code, name_cmp, name_eq}
use Rattle.mr_forms.specs.Sets.{IsSame, Covers}
use Rattle.mr_forms.specs.Known.{Pairs}
use Rattle.mr_concise.specs.declared.vector.AuthorColumn.{AuthorColumn}
use Rattle.mr_concise.specs.Vector.{vector_has, IsVectorFrom, author_column_code}
use Rattle.mr_itemset.specs.declared.knowledge.Listed.{Listed}

-- a knowledge as contracts see it: the vector of all items, and the listed items with theirs
pub record Normal : Type 0 where
  pub all : List AuthorColumn
  pub listed : List Listed

abbrev pub listed_code : Coded Listed
listed_code = code_by (Name × List AuthorColumn) (coded× name_code (coded_list author_column_code)) (λ x. (x.item, x.vector)) (λ p. record { item = p.0; vector = p.1 }) (λ _. refl)

abbrev pub normal_code : Coded Normal
normal_code = code_by (List AuthorColumn × List Listed) (coded× (coded_list author_column_code) (coded_list listed_code)) (λ k. (k.all, k.listed)) (λ p. record { all = p.0; listed = p.1 }) (λ _. refl)

-- the one item is lower than the other
abbrev pub IsBefore : Listed → Listed → Type 0
IsBefore x y = name_cmp x.item y.item ≡ Less

-- the item's vector: its own, or that of all items
abbrev pub vector_in : List AuthorColumn → List Listed → Name → List AuthorColumn
vector_in all [] i = all
vector_in all (x ∷ xs) i = if name_eq x.item i then x.vector else vector_in all xs i

abbrev pub vector_of : Normal → Name → List AuthorColumn
vector_of k i = vector_in k.all k.listed i

-- which versions are known for which items
abbrev pub normal_known : Normal → Pairs
normal_known k i v = vector_has (vector_of k i) v

-- the item's vector has all that is known for all items, and more
pub record HasMore (all : List AuthorColumn) (x : Listed) : Type 0 where
  pub vector_ok : IsVectorFrom 0 x.vector
  pub covers : Covers (vector_has x.vector) (vector_has all)
  pub more : ¬ IsSame (vector_has x.vector) (vector_has all)

-- the normal form: listed items rise, there are no more than so many, and of each more is known
pub record IsNormal (limit : ℕ) (k : Normal) : Type 0 where
  pub all_ok : IsVectorFrom 0 k.all
  pub rising : AllPairs IsBefore k.listed
  pub more : All (HasMore k.all) k.listed
  pub few : length k.listed ≤ limit
