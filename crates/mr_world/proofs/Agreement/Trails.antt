-- The trail once a last version is noted.
use Rattle.std.proofs.Common.{◌≡◌, refl, subst, ◌∙◌, List, [], ◌∷◌, IsTrue, IsFalse, arith, Some, None}
use Rattle.mr_world.proofs.Names.Model.{is}
use Rattle.mr_world.proofs.Names.Laws.{is_path}
use Rattle.mr_world.proofs.Names.Mails.{Name, Rev, item_of_last, last_of, named-without, noted}
use Rattle.mr_madewith.specs.Keyed.{named, inserted, without as without_name}

module _ {X : Type 0} (name : X → Name) where
  -- one of another name changes nothing
  inserted_aside : (v : Name) (x : X) (xs : List X) → IsFalse (is (name x) v) → named name v (inserted name x xs) ≡ named name v xs
  inserted_aside v x [] n = grind arith
  inserted_aside v x (y ∷ ys) n = grind (arith, inserted_aside v x ys n)

  -- the one of a name is found where there was none
  inserted_found : (v : Name) (x : X) (xs : List X) → IsTrue (is (name x) v) → named name v xs ≡ None → named name v (inserted name x xs) ≡ Some x
  inserted_found v x [] t none = grind arith
  inserted_found v x (y ∷ ys) t none = grind (arith, inserted_found v x ys t)

  -- those of another name are left out
  without_aside : (u v : Name) (xs : List X) → IsFalse (is u v) → named name v (without_name name u xs) ≡ named name v xs
  without_aside u v [] differ = refl
  without_aside u v (y ∷ ys) differ = let same = is_path (name y) u in grind (arith, without_aside u v ys differ, same)

-- the last version of an item once l is noted
pub noted_here : (l : Rev) (lasts : List Rev) (i : Name) → IsTrue (is l.item i) → last_of (noted l lasts) i ≡ Some l
noted_here l lasts i t = inserted_found item_of_last i l (without_name item_of_last l.item lasts) t
    (subst (λ (z : Name). named item_of_last z (without_name item_of_last l.item lasts) ≡ None) (is_path l.item i t) (named-without item_of_last l.item lasts))

pub noted_back : (l : Rev) (lasts : List Rev) (i : Name) → IsFalse (is l.item i) → last_of (noted l lasts) i ≡ last_of lasts i
noted_back l lasts i n = inserted_aside item_of_last i l (without_name item_of_last l.item lasts) n ∙ without_aside item_of_last l.item i lasts n
