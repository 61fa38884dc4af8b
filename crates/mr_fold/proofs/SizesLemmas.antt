-- sizes that are told, revision by revision
use Rattle.std.proofs.Common.{◌≡◌, ℕ, ◌+◌, ◌<◌, List, [], ◌∷◌, ◌++◌, take, length, get_or, Option, None, refl, ap, sym, subst, ◌∙◌}
use Rattle.std.proofs.lemmas.List.{map-append}
use Rattle.std.proofs.lemmas.List.Elements.{All-push, All-nil}
use Rattle.std.proofs.lemmas.List.Sums.{fold_push}
use Rattle.mr_madewith.specs.Revision.{Rev}
use Rattle.mr_maildir.specs.Reference.{ReferenceParts}
use Rattle.mr_compare.proofs.ListLemmas.{take_one}
use Rattle.mr_fold.specs.inner.Sizes.{Refers, newer_size, AreSizes, PutsSize}

abbrev Told : Type 0
Told = Rev × Option ReferenceParts

-- no revision was read
pub sizes_none : AreSizes [] []
sizes_none = record { told = []; of_all = refl; by_bodies = All-nil (λ (p : Told). Refers p.0.message.body p.1); sizes_are = λ digest. refl }

-- one more
sizes_more : (done : List Rev) (r : Rev) (old new : List (List ℕ × ℕ)) → AreSizes done old → PutsSize r.message.body old new → AreSizes (done ++ r ∷ []) new
sizes_more done r old new a one = record {
  told = a.told ++ (r, one.told) ∷ [];
  of_all = map-append (λ p. p.0) a.told ((r, one.told) ∷ []) ∙ ap (λ rs. rs ++ r ∷ []) a.of_all;
  by_bodies = All-push (λ (p : Told). Refers p.0.message.body p.1) a.told (r, one.told) a.by_bodies one.by_body;
  sizes_are = λ digest.
      one.sizes_are digest ∙ ap (λ before. newer_size digest before one.told) (a.sizes_are digest)
      ∙ sym (fold_push (λ (before : Option ℕ) (p : Told). newer_size digest before p.1) None a.told (r, one.told));
}

-- a loop over revisions, one further
pub sizes_further : (start : List (List ℕ × ℕ)) (rs : List Rev) (i : ℕ) (r : Rev) (old new : List (List ℕ × ℕ)) → i < length rs → r ≡ get_or rs i r
    → ((done : List Rev) → AreSizes done start → AreSizes (done ++ take i rs) old) → PutsSize r.message.body old new → (done : List Rev) → AreSizes done start → AreSizes (done ++ take (i + 1) rs) new
sizes_further start rs i r old new h e so_far one done a =
    subst (λ (xs : List Rev). AreSizes xs new) (grouped done (take i rs) ∙ ap (λ xs. done ++ xs) (sym (take_one rs i r h e))) (sizes_more (done ++ take i rs) r old new (so_far done a) one)
  where
    grouped : (xs ys : List Rev) → (xs ++ ys) ++ r ∷ [] ≡ xs ++ (ys ++ r ∷ [])
    grouped [] ys = refl
    grouped (x ∷ xs) ys = ap (λ zs. x ∷ zs) (grouped xs ys)
