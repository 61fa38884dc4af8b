use Rattle.std.specs.Prelude.{refl, Bool, List}
use Rattle.std.specs.declared.cmp.Ordering.{Ordering}
use Rattle.std.specs.Coded.{Coded, code_by, coded×, coded_list}
use Rattle.std.specs.Ordering.{ordering_then, eq_by_cmp}
use Rattle.std.specs.List.{list_any}
use Rattle.mr_version.specs.Name.{Name, name_cmp, name_code}
use Rattle.mr_forms.specs.declared.plain_knowledge.Pair.{Pair}

-- an item with a version
abbrev pub pair : Name → Name → Pair
pair i v = record { item = i; version = v }

-- by item, then by version
abbrev pub pair_cmp : Pair → Pair → Ordering
pair_cmp a b = ordering_then (name_cmp a.item b.item) (name_cmp a.version b.version)

-- whether the list has the pair
abbrev pub has_pair : List Pair → Pair → Bool
has_pair pairs p = list_any (eq_by_cmp pair_cmp p) pairs

-- What is known, one by one: the versions that are known for all items, and other versions, each with its item.
pub record PlainKnown : Type 0 where
  pub for_all : List Name
  pub pairs : List Pair

-- a pair is stored as its two names
abbrev pub pair_code : Coded Pair
pair_code = code_by (Name × Name) (coded× name_code name_code) (λ p. (p.item, p.version)) (λ n. record { item = n.0; version = n.1 }) (λ _. refl)

-- what is known is stored as its two lists
abbrev pub known_code : Coded PlainKnown
known_code = code_by (List Name × List Pair) (coded× (coded_list name_code) (coded_list pair_code)) (λ k. (k.for_all, k.pairs)) (λ p. record { for_all = p.0; pairs = p.1 }) (λ _. refl)
