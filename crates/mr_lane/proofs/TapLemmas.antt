-- Each step keeps the rule of the tap.
use Rattle.std.proofs.Common.{◌≡◌, ◌≢◌, ℕ, Bool, true, false, true≢false, List, [], ◌∷◌, ◌++◌, length, set, sym, refl, ap, ◌∙◌, ⊎_elim, append_assoc, arith}
use Rattle.mr_lane.proofs.Names.{Forks, Learns, Merges, Piece, Pops, Pushes, at_set, pieces}
use Rattle.mr_lane.specs.declared.tap_rule.TapSight.{TapSight}
use Rattle.mr_lane.specs.inner.TapRule.{tap_sight, KnowsItsSide, FlowsInOrder}
use Rattle.mr_lane.proofs.PieceLemmas.{begins_of}
use Rattle.mr_lane.proofs.SightLemmas.{AllSights, all_set, only_one, snoc_cases}

module _ {T : Type 0} where
  pub tap_begins : FlowsInOrder {T = T} [] (tap_sight true true [] [] ∷ [])
  tap_begins = (0, 0, [], [], refl, only_one (KnowsItsSide 0 0 [] []) (tap_sight true true [] []) ((λ _. (refl, refl)), λ _. (refl, refl)))

  pub tap_pushes : (n pass : ℕ) (s : TapSight T) (p : Piece T) → s.offers ≡ true → Pushes FlowsInOrder n pass s p (λ t. t ≡ tap_sight s.offers s.takes (s.offered ++ p ∷ []) s.taken)
  tap_pushes n pass s p may waiting sights _ h at = let t : TapSight T = tap_sight s.offers s.takes (s.offered ++ p ∷ []) s.taken in let mine = h.5 pass s at in let offered = h.2 ++ p ∷ [] in (
    t,
    (
      h.0,
      h.1,
      offered,
      h.3,
      ap (λ l. l ++ p ∷ []) h.4 ∙ append_assoc h.3 waiting (p ∷ []),
      all_set (KnowsItsSide h.0 h.1 offered h.3) sights pass t ((λ _. ((mine.0 may).0, ap (λ l. l ++ p ∷ []) (mine.0 may).1)), mine.1)
          (λ j u other e. ((λ q. absurd (other (((h.5 j u e).0 q).0 ∙ sym (mine.0 may).0))), (h.5 j u e).1)),
    ),
    refl,
  )

  pub tap_pops : (pass : ℕ) (s : TapSight T) → s.takes ≡ true → Pops FlowsInOrder pass s (λ p t. t ≡ tap_sight s.offers s.takes s.offered (s.taken ++ p ∷ []))
  tap_pops pass s may p waiting sights h at = let t : TapSight T = tap_sight s.offers s.takes s.offered (s.taken ++ p ∷ []) in let mine = h.5 pass s at in let taken = h.3 ++ p ∷ [] in (
    t,
    (
      h.0,
      h.1,
      h.2,
      taken,
      h.4 ∙ sym (append_assoc h.3 (p ∷ []) waiting),
      all_set (KnowsItsSide h.0 h.1 h.2 taken) sights pass t (mine.0, λ _. ((mine.1 may).0, ap (λ l. l ++ p ∷ []) (mine.1 may).1))
          (λ j u other e. ((h.5 j u e).0, λ q. absurd (other (((h.5 j u e).1 q).0 ∙ sym (mine.1 may).0)))),
    ),
    refl,
  )

  pub tap_forks : (pass : ℕ) (s : TapSight T) → s.offers ≡ true → s.takes ≡ true → Forks FlowsInOrder pass s (tap_sight true false s.offered []) (tap_sight false true [] s.taken)
  tap_forks pass s a b waiting sights h at =
      let left : TapSight T = tap_sight true false s.offered [] in
      let right : TapSight T = tap_sight false true [] s.taken in
      let mine = h.5 pass s at in
      let all : List (TapSight T) = set sights pass left in
      let Old : ℕ → TapSight T → Type 0 = λ j u. (u.offers ≡ true → (j ≡ h.0) × (u.offered ≡ h.2)) × (u.takes ≢ true) in
      let old : AllSights Old all = all_set Old sights pass left ((λ _. mine.0 a), λ q. true≢false (sym q)) (λ j u other e. ((h.5 j u e).0, λ q. other (((h.5 j u e).1 q).0 ∙ sym (mine.1 b).0))) in (
        h.0,
        length all,
        h.2,
        h.3,
        h.4,
        λ j u e. ⊎_elim (λ x. ((old j u x).0, λ q. absurd ((old j u x).1 q)))
            (λ (x : (j ≡ length all) × (right ≡ u)). ((λ q. absurd (true≢false (sym (ap (λ (y : TapSight T). y.offers) x.1 ∙ q)))), λ _. (x.0, ap (λ (y : TapSight T). y.taken) (sym x.1) ∙ (mine.1 b).1)))
            (snoc_cases all right u j e),
      )

  pub tap_merges : (pass : ℕ) (s : TapSight T) (other : ℕ) (u : TapSight T) → s.offers ≡ true → u.takes ≡ true → Merges FlowsInOrder pass s other u (tap_sight true true s.offered u.taken) (tap_sight false false [] [])
  tap_merges pass s other u a b waiting sights h at two at' = grind (arith, set, ⊎_elim, at_set, all_set, true≢false)

  -- the end that offers knows that what waits is the last of what was offered
  pub tap_waiting : (pass : ℕ) (s : TapSight T) → s.offers ≡ true → Learns FlowsInOrder pass s (λ waiting. (gone : List (Piece T)) × (s.offered ≡ gone ++ waiting))
  tap_waiting pass s a waiting sights h at = (h.3, ((h.5 pass s at).0 a).1 ∙ h.4)

  -- what two ends learn of their items, once they are together
  pub tap_settled : (s : TapSight T) (a b : Bool) (offered taken : List (Piece T)) → s ≡ tap_sight true true offered taken → (waiting : List (Piece T)) → s.offered ≡ s.taken ++ waiting → (xs ys : List T) → offered ≡ pieces xs a → taken ≡ pieces ys b
      → ((more : List T) × (xs ≡ ys ++ more)) × (b ≡ true → (xs ≡ ys) × (a ≡ true))
  tap_settled s a b offered taken is waiting all xs ys o t = begins_of xs ys a b waiting (sym o ∙ (sym (ap (λ h. h.offered) is) ∙ (all ∙ (ap (λ l. l ++ waiting) (ap (λ h. h.taken) is ∙ t)))))
