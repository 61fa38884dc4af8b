use Rattle.std.specs.Prelude.{◌≡◌, ◌≢◌, false, ◌||◌, List, [], All}
use Rattle.std.specs.Ordering.{is_gt, eq_by_cmp}
use Rattle.mr_version.specs.Name.{Name, name_cmp, name_eq}
use Rattle.mr_forms.specs.declared.fragment.ItemSet.{ItemSet}
use Rattle.mr_forms.specs.declared.fragment.ItemSet.TheVariants.{All as AllItems, Listed}
use Rattle.mr_forms.specs.declared.fragment.Fragment.{Fragment}
use Rattle.mr_forms.specs.declared.plain_knowledge.Pair.{Pair}
use Rattle.mr_forms.specs.Sets.{IsSame, is_listed}
use Rattle.mr_forms.specs.Known.{AreSame}
use Rattle.mr_forms.specs.PlainPair.{pair, pair_cmp}
use Rattle.mr_forms.specs.Plain.{IsOneByOne, had_for_all, had_by_item}
use Rattle.mr_forms.specs.inner.Plain.{IsOnly}

-- no item of the set is above i
abbrev pub EndsBy : Name → ItemSet → Type 0
EndsBy i AllItems = Unit {0}
EndsBy i (Listed items) = All (λ j. is_gt (name_cmp j i) ≡ false) items.items

-- the fragments have gained a pair, whose item is none below theirs
pub record GainsPair (old new : List (Fragment (List Name))) (p : Pair) : Type 0 where
  pub for_all : IsSame (had_for_all new) (had_for_all old)
  pub by_item : AreSame (had_by_item new) (λ i v. eq_by_cmp pair_cmp (pair i v) p || had_by_item old i v)
  pub one_by_one : IsOneByOne new
  pub up_to : All (λ f. EndsBy p.item f.items) new

-- the fragment has the pair alone
pub record IsFragmentOf (f : Fragment (List Name)) (p : Pair) : Type 0 where
  pub item : IsOnly p.item f.items
  pub versions : IsSame (is_listed f.vector) (λ v. name_eq p.version v)
  pub filled : f.vector ≢ []

-- the fragment has gained a version, and keeps its items
pub record GainsVersionOf (old new : Fragment (List Name)) (version : Name) : Type 0 where
  pub items : new.items ≡ old.items
  pub versions : IsSame (is_listed new.vector) (λ v. name_eq version v || is_listed old.vector v)
  pub filled : new.vector ≢ []

-- the fragments have what is known for all items, and list no item
pub record AreForAll (known : List Name) (fragments : List (Fragment (List Name))) : Type 0 where
  pub for_all : IsSame (had_for_all fragments) (is_listed known)
  pub by_item : AreSame (had_by_item fragments) (λ _ _. false)
  pub one_by_one : IsOneByOne fragments
  pub up_to : (i : Name) → All (λ f. EndsBy i f.items) fragments
