-- What a desk learns of its three posts, once they are together.
use Rattle.std.proofs.Common.{◌≡◌, ◌++◌, ◌∷◌, [], List, Bool, true, ap, ◌∙◌, refl, subst}
use Rattle.mr_lane.proofs.Names.{AccountsForAll, InboxSight, Note, have_all_finished, pieces, pieces_by, taker_sight, with_heard}
use Rattle.mr_lane.proofs.NoteLemmas.{is_all, each_finished}

module _ {T : Type 0} where
  -- with three senders heard out
  three_heard : (v v1 v2 v3 u f s : InboxSight T) → v1 ≡ with_heard v u → v2 ≡ with_heard v1 f → v3 ≡ with_heard v2 s → v.heard_out ≡ [] → v3 ≡ taker_sight v.taken v.made (u.sent ∷ f.sent ∷ s.sent ∷ [])
  three_heard v v1 v2 v3 u f s a b c none = c ∙ ap (λ x. with_heard x s) (b ∙ ap (λ x. with_heard x f) (a ∙ ap (λ k. taker_sight v.taken v.made (k ++ u.sent ∷ [])) none))

  pub all_settled : (v v1 v2 v3 u f s : InboxSight T) → v1 ≡ with_heard v u → v2 ≡ with_heard v1 f → v3 ≡ with_heard v2 s → v.heard_out ≡ []
      → (waiting : List (Note T)) → AccountsForAll v3 waiting → (x y z : List T) (a b c : Bool) → u.sent ≡ pieces x a → f.sent ≡ pieces y b → s.sent ≡ pieces z c → have_all_finished v.taken ≡ true
      → ((a ≡ true) × (pieces_by 0 v.taken ≡ pieces x true)) × ((b ≡ true) × (pieces_by 1 v.taken ≡ pieces y true)) × ((c ≡ true) × (pieces_by 2 v.taken ≡ pieces z true))
  all_settled v v1 v2 v3 u f s h1 h2 h3 none waiting accounts x y z a b c p q r finished =
      let fits = subst (λ (t : InboxSight T). AccountsForAll t waiting) (three_heard v v1 v2 v3 u f s h1 h2 h3 none) accounts in
      let each = each_finished v.taken finished in (
        is_all 0 v.taken waiting x a each.0 (fits 0 u.sent refl ∙ p),
        is_all 1 v.taken waiting y b each.1 (fits 1 f.sent refl ∙ q),
        is_all 2 v.taken waiting z c each.2 (fits 2 s.sent refl ∙ r),
      )
