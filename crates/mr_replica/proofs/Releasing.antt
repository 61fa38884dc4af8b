-- which receipts are admitted
use Rattle.std.proofs.Common.{◌≡◌, Bool, true, false, refl, sym, ◌∙◌, List, [], ◌∷◌, map, filter, Some, None, arith}
use Rattle.mr_replica.proofs.Names.{Dropped, Entry, Name, NotPushedOut, Receipt, Rev, State, Versions, cases_Bool, dropped, list_any, log_full}
use Rattle.mr_replica.proofs.Names.{release_refusal, same_names, supersedes, versions_of, vouched}
use Rattle.mr_replica.specs.Admission.{retired}

-- a version of the item leaves the heads, or the push-outs
abbrev pub gone_of : (item : Name) → Name → Entry
gone_of item version = Dropped item version

-- to look at an item's versions is to look at all, asking for the item
pub any_of_versions : (item : Name) (set : Versions) (rs : List Rev) → list_any set (versions_of item rs) ≡ list_any (supersedes item set) rs
any_of_versions item set [] = refl
any_of_versions item set (r ∷ rs) = grind (arith, any_of_versions item set rs, cases_Bool)

-- and what is told of those that leave is told of their versions
pub gone_of_versions : (item : Name) (set : Versions) (rs : List Rev) → map (gone_of item) (filter set (versions_of item rs)) ≡ map dropped (filter (supersedes item set) rs)
gone_of_versions item set [] = refl
gone_of_versions item set (r ∷ rs) = grind (arith, gone_of_versions item set rs, cases_Bool, same_names)

module _ {K : Type 0} (s : State K) (receipt : Receipt) (any : Bool) (admitted : retired s ≡ None) (is : any ≡ list_any (supersedes receipt.descent.item (vouched receipt.descent)) s.push_outs) where
  pub release_refused : any ≡ false → release_refusal s receipt ≡ Some NotPushedOut
  release_refused none = rw (admitted, sym is ∙ none) refl

  pub release_goes_on : any ≡ true → release_refusal s receipt ≡ log_full s
  release_goes_on some = rw (admitted, sym is ∙ some) refl
