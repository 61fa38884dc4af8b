-- how fragments are made pieces, one by one
use Rattle.std.proofs.Common.{◌≡◌, refl, arith, List, [], ◌∷◌, ◌++◌, length, map, length-append, append_assoc}
use Rattle.mr_replica.proofs.Names.{AllZip, Any, AreSame, Fragment, IsPieceOf, IsTooHoley, Piece, Versions, all_covered, claimed, part_of}
use Rattle.std.proofs.Math.Seq.{get_or-append_seam}
use Rattle.mr_replica.proofs.Merging.{lists_same}

module _ {V : Type 0} (has : V → Versions) where
  -- the pieces of these fragments
  abbrev pub AreMade : List (Fragment V) → List Piece → Type 0
  AreMade fs pieces = AllZip IsPieceOf (map (part_of has) fs) pieces

  -- they claim what the fragments cover
  pub made_claim : (fs : List (Fragment V)) (ps : List Piece) → AreMade fs ps → AreSame (all_covered has fs) (claimed ps)
  made_claim [] [] made i v = refl
  made_claim (f ∷ fs) (p ∷ ps) made i v = grind (arith, made_claim fs ps made.1 i v, lists_same)
  made_claim fs ps made i v = absurd made

  made_last : (fs : List (Fragment V)) (ps : List Piece) (f : Fragment V) (p : Piece) → AreMade fs ps → IsPieceOf (part_of has f) p → AreMade (fs ++ f ∷ []) (ps ++ p ∷ [])
  made_last [] [] f p all is = (is, tt)
  made_last (g ∷ fs) (q ∷ ps) f p all is = (all.0, made_last fs ps f p all.1 is)
  made_last fs ps f p all is = absurd all

  -- How far fragments are made pieces: those before the ones that are left.
  pub record PiecesSoFar (all yielded left : List (Fragment V)) (pieces : List Piece) : Type 0 where
    pub whole : all ≡ yielded ++ left
    pub each : AreMade yielded pieces

  pub pieces_more : (all yielded left next : List (Fragment V)) (pieces : List Piece) (f : Fragment V) (p : Piece) → PiecesSoFar all yielded left pieces → left ≡ f ∷ next → IsPieceOf (part_of has f) p → PiecesSoFar all (yielded ++ f ∷ []) next (pieces ++ p ∷ [])
  pieces_more all yielded left next pieces f p w taken is = grind (arith, append_assoc, made_last)

  -- the next one left is at its place among them all
  pub among : (all yielded left next : List (Fragment V)) (pieces : List Piece) (f : Fragment V) → PiecesSoFar all yielded left pieces → left ≡ f ∷ next → IsTooHoley has f → Any (IsTooHoley has) all
  among all yielded left next pieces f w taken h = rw (w.whole, taken) (length yielded, f, let e = length-append yielded (f ∷ next) in omega arith, get_or-append_seam yielded f next f, h)
