-- the ends of a tap as the halves of a port: what passed an end between two states
use Rattle.std.specs.Prelude.{◌≡◌, Bool, List, [], ◌++◌, refl}
use Rattle.std.proofs.Common.{ap, sym, ◌∙◌, append_assoc}
use Rattle.std.proofs.lemmas.List.{append-nil}
use Rattle.mr_lane.specs.Tap.{TapEnd}

module _ {T : Type 0} where
  -- just these items passed
  abbrev pub Passed : TapEnd T → List T → TapEnd T → Type 0
  Passed s xs t = (t.passed ≡ s.passed ++ xs) × (t.id ≡ s.id) × (t.capacity ≡ s.capacity)

  abbrev pub is_closed : TapEnd T → Bool
  is_closed s = s.closed

  -- ---- the laws of both halves

  pub passed_none : (s : TapEnd T) → Passed s [] s
  passed_none s = (sym (append-nil s.passed), refl, refl)

  pub passed_more : (s : TapEnd T) (xs : List T) (t : TapEnd T) (ys : List T) (u : TapEnd T) → Passed s xs t → Passed t ys u → Passed s (xs ++ ys) u
  passed_more s xs t ys u h k = (k.0 ∙ (ap (λ l. l ++ ys) h.0 ∙ append_assoc s.passed xs ys), k.1 ∙ h.1, k.2 ∙ h.2)
