-- what is put behind those that stand before it is at its place
use Rattle.std.proofs.Common.{◌≡◌, ◌+◌, true, false, cond, refl, ap, List, [], ◌∷◌, length, one-add}
use Rattle.std.specs.List.{take_while, prefix_len, insert}
use Rattle.std.proofs.lemmas.List.Folds.{length-prefix_len}
use Rattle.mr_version.specs.Name.{Name}
use Rattle.mr_madewith.specs.Keyed.{inserted, is_before}

module _ {X : Type 0} (name : X → Name) where
  behind_prefix : (r : X) (rs : List X) → insert rs (prefix_len (λ s. is_before (name s) (name r)) rs) r ≡ inserted name r rs
  behind_prefix r [] = refl
  behind_prefix r (s ∷ rs) =
      elim (is_before (name s) (name r)) as (λ b. insert (s ∷ rs) (cond b (1 + prefix_len (λ s. is_before (name s) (name r)) rs) 0) r ≡ cond b (s ∷ inserted name r rs) (r ∷ s ∷ rs)) [
        | true ↦ rw one-add (ap (λ ss. s ∷ ss) (behind_prefix r rs))
        | false ↦ refl
      ]

  pub insert-take_while : (r : X) (rs : List X) → insert rs (length (take_while (λ s. is_before (name s) (name r)) rs)) r ≡ inserted name r rs
  insert-take_while r rs = rw length-prefix_len (behind_prefix r rs)
