-- a clone of an index lists the same versions
use Rattle.std.proofs.Common.{◌≡◌, Bool, cond, Option, Some, None, List, [], ◌∷◌, Result, MatchResult, IfOk, refl, arith}
use Rattle.mr_store.proofs.Names.{AllZip, BTreeMap, GapParts, IsClone, IsIndexOf, IsRevisionList, Name, Rev, Room, Vec, get, lookup, name_cmp}
use Rattle.mr_store.proofs.IndexLemmas.{no_some}

-- equal revisions, with an index of them that has no room, are a list of a store that has none
pub list_of_copies : {Z : Type 0} (revisions copies : GapParts) (index copy : BTreeMap Name (Vec Name Z)) (room : Option Room) → copies.items ≡ revisions.items → ((rs : List Rev) → IsIndexOf room rs index → IsIndexOf None rs copy) → IsRevisionList revisions index room → IsRevisionList copies copy None
list_of_copies revisions copies index copy room same lists h = grind (arith, no_some)

-- what is read of the item's list in the clone, where it reads the same of the clone of each list
module _ {Z W : Type 0} (C : Name → Name → Type 0) (D : Vec Name Z → Vec Name Z → Type 0) (same_key : (a b : Name) → C a b → b ≡ a) (read : Option (Vec Name Z) → W) (same_read : (v w : Vec Name Z) → D v w → read (Some w) ≡ read (Some v)) where
  by_test : (b : Bool) (v w : Vec Name Z) (old new : Option (Vec Name Z)) → read (Some w) ≡ read (Some v) → read new ≡ read old → read (cond b (Some w) new) ≡ read (cond b (Some v) old)
  by_test b v w old new same others = grind arith

  read_clone : (test : Name → Bool) (es fs : List (Name × Vec Name Z)) → AllZip (λ p q. C p.0 q.0 × D p.1 q.1) es fs → read (lookup test fs) ≡ read (lookup test es)
  read_clone test [] [] h = refl
  read_clone test [] (f ∷ fs) h = absurd h
  read_clone test (e ∷ es) [] h = absurd h
  read_clone test (e ∷ es) (f ∷ fs) h = grind (arith, read_clone test es fs h.1, by_test)

  pub reads_clone : {E : Type 0} (m : BTreeMap Name (Vec Name Z)) (r : Result (BTreeMap Name (Vec Name Z)) E) (Q : E → Type 0) → MatchResult r (λ n. IsClone C D m n) Q → IfOk r (λ copy. (i : Name) → read (get name_cmp copy i) ≡ read (get name_cmp m i))
  reads_clone m r Q h = grind (arith, read_clone)
