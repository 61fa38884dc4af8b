use Rattle.std.specs.Prelude.{◌≡◌, ℕ, List, [], ◌∷◌, ◌++◌, codes}
use Rattle.std.specs.List.{join_by}
use Rattle.mr_version.specs.Name.{name_text}
use Rattle.mr_forms.specs.declared.fragment.ItemSet.{ItemSet}
use Rattle.mr_forms.specs.declared.fragment.ItemSet.TheVariants.{All, Listed}
use Rattle.mr_forms.specs.declared.fragment.Fragment.{Fragment}
use Rattle.mr_forms.specs.Sets.{Versions}
use Rattle.mr_concise.specs.declared.vector.AuthorColumn.{AuthorColumn}
use Rattle.mr_concise.specs.Vector.{IsVectorOf, HasTooManyHoles}
use Rattle.mr_concise.specs.Text.{vector_text}

-- a fragment whose vector is concise
abbrev pub ConciseFragment : Type 0
ConciseFragment = Fragment (List AuthorColumn)

-- the concise fragment has the items of the other one, and the concise vector of the same set
pub record IsConciseOf {V : Type 0} (has : V → Versions) (fragment : Fragment V) (concise : ConciseFragment) : Type 0 where
  pub items : concise.items ≡ fragment.items
  pub vector : IsVectorOf (has fragment.vector) concise.vector

-- a column of the fragment's set has more than 4,096 holes
abbrev pub IsTooHoley : {V : Type 0} → (V → Versions) → Fragment V → Type 0
IsTooHoley has fragment = HasTooManyHoles (has fragment.vector)

-- all, or the items with commas between them
abbrev pub items_text : ItemSet → List ℕ
items_text All = codes "all"
items_text (Listed items) = join_by name_text (44 ∷ []) items.items

-- the items, a space, and the vector
abbrev pub fragment_text : ConciseFragment → List ℕ
fragment_text fragment = items_text fragment.items ++ 32 ∷ vector_text fragment.vector

-- fragments with a semicolon and a space between them, or -
abbrev pub knowledge_text : List ConciseFragment → List ℕ
knowledge_text [] = 45 ∷ []
knowledge_text (fragment ∷ fragments) = join_by fragment_text (59 ∷ 32 ∷ []) (fragment ∷ fragments)
