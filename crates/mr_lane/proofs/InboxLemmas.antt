-- Each step keeps the rule of the inbox.
use Rattle.std.proofs.Common.{◌≡◌, ◌≢◌, ℕ, ◌<◌, ◌≤◌, ◌==◌, Bool, true, true≢false, cond, List, [], ◌∷◌, ◌++◌, length, set, sym, refl, ap, ◌∙◌, subst, ⊎_elim, append_assoc, arith}
use Rattle.mr_lane.proofs.Names.{AccountsForAll, DeliversInOrder, Forks, InboxSight, KnowsItsPart, Learns, Merges, Note, Piece, Pops, Pushes, append-nil}
use Rattle.mr_lane.proofs.Names.{at_set, eqb-true, pieces_by, sender_number, sender_sight, spent_sight, taker_sight, with_heard, with_sender, with_sent}
use Rattle.mr_lane.proofs.Names.{with_taken}
use mathlib.Core.Option.{Option, none, some, some-ne-none, some-injective}
use lib.ListN.{get_elem?}
use Rattle.mr_lane.proofs.NoteLemmas.{pieces_by-append}
use Rattle.mr_lane.proofs.SightLemmas.{AllSights, all_set, only_one, snoc_cases}
use Rattle.mr_lane.proofs.UpdateLemmas.{but, but-here, but-else, but-same}

below : (a b : ℕ) → (b ≤ a → ⊥) → a < b
below a b h = omega arith

module _ {T : Type 0} where
  pub inbox_begins : DeliversInOrder {T = T} [] (taker_sight [] 0 [] ∷ [])
  inbox_begins = (0, (λ _. none), (λ _. []), [], (λ _. refl), only_one (KnowsItsPart 0 (λ _. none) (λ _. []) []) (taker_sight [] 0 []) ((λ p. absurd (true≢false (sym p))), λ _. (refl, refl, (λ p _. (refl, refl)), λ k l e. absurd (some-ne-none l (sym e)))))

  -- one piece more of one sender, as each sender's list sees it
  last_by : (sent : ℕ → List (Piece T)) (x : Piece T) (p from : ℕ) (b : Bool) → (p == from) ≡ b → sent p ++ cond b (x ∷ []) [] ≡ cond b (sent from ++ x ∷ []) (sent p)
  last_by sent x p from b is = grind (arith, eqb-true, append-nil)

  one_last : (got waiting : List (Note T)) (m : Note T) (sent : ℕ → List (Piece T)) (from : ℕ) (put : List (Piece T)) (p : ℕ) → (sender_number m.sender) ≡ from → put ≡ sent from → pieces_by p (got ++ waiting) ≡ sent p
      → pieces_by p (got ++ (waiting ++ m ∷ [])) ≡ but sent from (put ++ m.piece ∷ []) p
  one_last got waiting m sent from put p is puts was = grind (arith, append_assoc, pieces_by-append, last_by)

  pub inbox_pushes : (n pass : ℕ) (v : InboxSight T) (m : Note T) → v.sends ≡ true → (sender_number m.sender) ≡ v.number → Pushes DeliversInOrder n pass v m (λ w. w ≡ with_sent v m.piece)
  inbox_pushes n pass v m may from waiting sights _ h at =
      let w : InboxSight T = with_sent v m.piece in
      let mine = (h.5 pass v at).0 may in
      let put = v.sent ++ m.piece ∷ [] in
      let sent : ℕ → List (Piece T) = but h.2 v.number put in (
        w,
        (
          h.0,
          h.1,
          sent,
          h.3,
          (λ p. one_last h.3 waiting m h.2 v.number v.sent p from mine.1 (h.4 p)),
          all_set (KnowsItsPart h.0 h.1 sent h.3) sights pass w ((λ _. (mine.0, sym (but-here h.2 v.number put))), λ q. absurd (true≢false (sym q)))
              (λ j u other e. let old = h.5 j u e in (
                (λ s. let o = old.0 s in (o.0, o.1 ∙ sym (but-else h.2 v.number put u.number (λ same. other (some-injective j pass (sym o.0 ∙ (ap h.1 same ∙ mine.0))))))),
                λ r. let o = old.1 r in (
                  o.0,
                  o.1,
                  (λ p later. let q = o.2 p later in (q.0, but-else h.2 v.number put p (λ same. some-ne-none pass (sym mine.0 ∙ (ap h.1 (sym same) ∙ q.0))) ∙ q.1)),
                  λ k l known. let q = o.3 k l known in (q.0, q.1, q.2 ∙ sym (but-else h.2 v.number put k (λ same. some-ne-none pass (sym mine.0 ∙ (ap h.1 (sym same) ∙ q.1))))),
                ),
              )),
        ),
        refl,
      )

  pub inbox_pops : (pass : ℕ) (v : InboxSight T) → v.takes ≡ true → Pops DeliversInOrder pass v (λ m w. w ≡ with_taken v m)
  inbox_pops pass v may m waiting sights h at =
      let w : InboxSight T = with_taken v m in
      let mine = (h.5 pass v at).1 may in
      let got = h.3 ++ m ∷ [] in (
        w,
        (
          h.0,
          h.1,
          h.2,
          got,
          (λ p. ap (pieces_by p) (append_assoc h.3 (m ∷ []) waiting) ∙ h.4 p),
          all_set (KnowsItsPart h.0 h.1 h.2 got) sights pass w ((λ q. absurd (true≢false (sym q))), λ _. (mine.0, ap (λ l. l ++ m ∷ []) mine.1, mine.2, mine.3))
              (λ j u other e. ((h.5 j u e).0, λ r. absurd (other (((h.5 j u e).1 r).0 ∙ sym mine.0)))),
        ),
        refl,
      )

  pub inbox_forks : (pass : ℕ) (v : InboxSight T) → v.takes ≡ true → Forks DeliversInOrder pass v (with_sender v) (sender_sight v.made [])
  inbox_forks pass v may waiting sights h at =
      let left : InboxSight T = with_sender v in
      let right : InboxSight T = sender_sight v.made [] in
      let mine = (h.5 pass v at).1 may in
      let vs : List (InboxSight T) = set sights pass left in
      let seat : ℕ → Option ℕ = but h.1 v.made (some (length vs)) in
      let F : ℕ → InboxSight T → Type 0 = KnowsItsPart h.0 seat h.2 h.3 in
      let free = mine.2 v.made (omega arith) in
      let old : AllSights F vs = all_set F sights pass left (
        (λ q. absurd (true≢false (sym q))),
        λ _. (
          mine.0,
          mine.1,
          (λ p later. let q = mine.2 p (omega arith) in (but-else h.1 v.made (some (length vs)) p (λ same. absurd (omega arith)) ∙ q.0, q.1)),
          λ k l known. let q = mine.3 k l known in (omega arith, but-else h.1 v.made (some (length vs)) k (λ same. absurd (omega arith)) ∙ q.1, q.2),
        ),
      )
      (λ j u other e. (
        (λ s. let o = (h.5 j u e).0 s in (but-else h.1 v.made (some (length vs)) u.number (λ same. some-ne-none j (sym o.0 ∙ (ap h.1 same ∙ free.0))) ∙ o.0, o.1)),
        λ r. absurd (other (((h.5 j u e).1 r).0 ∙ sym mine.0)),
      )) in (
        h.0,
        seat,
        h.2,
        h.3,
        h.4,
        λ j u e. ⊎_elim (λ x. old j u x)
            (λ (x : (j ≡ length vs) × (right ≡ u)). subst (λ (y : ℕ × InboxSight T). F y.0 y.1) (λ i. (sym x.0 i, x.1 i)) ((λ _. (but-here h.1 v.made (some (length vs)), sym free.1)), λ q. absurd (true≢false (sym q))))
            (snoc_cases vs right u j e),
      )

  pub inbox_merges : (pass : ℕ) (v : InboxSight T) (other : ℕ) (u : InboxSight T) → v.takes ≡ true → u.sends ≡ true → u.number ≡ length v.heard_out → Merges DeliversInOrder pass v other u (with_heard v u) spent_sight
  inbox_merges pass v other u a b number waiting sights h at two at' =
      let both : InboxSight T = with_heard v u in
      let mine = (h.5 pass v at).1 a in
      let vs : List (InboxSight T) = set sights pass both in
      let was : get_elem? sights other ≡ some u = ⊎_elim (λ x. absurd (two x.0)) (λ x. x.1) (at_set sights pass other both u at') in
      let theirs = (h.5 other u was).0 b in
      let bound : u.number < v.made = below u.number v.made (λ le. some-ne-none other (sym theirs.0 ∙ (mine.2 u.number le).0)) in
      let seat : ℕ → Option ℕ = but h.1 u.number none in
      let F : ℕ → InboxSight T → Type 0 = KnowsItsPart h.0 seat h.2 h.3 in
      let Now : ℕ → InboxSight T → Type 0 = λ j y. j ≢ other → F j y in
      let now : AllSights Now vs = all_set Now sights pass both
      (λ _. (
        (λ q. absurd (true≢false (sym q))),
        λ _. (
          mine.0,
          mine.1,
          (λ p later. let q = mine.2 p later in (but-same h.1 u.number none p q.0, q.1)),
          λ k l known. ⊎_elim (λ old. let q = mine.3 k l old in (q.0, but-same h.1 u.number none k q.1, q.2))
              (λ (new : (k ≡ length v.heard_out) × (u.sent ≡ l)). let here : k ≡ u.number = new.0 ∙ sym number in (subst (λ (n : ℕ). n < v.made) (sym here) bound, ap seat here ∙ but-here h.1 u.number none, sym new.1 ∙ (theirs.1 ∙ ap h.2 (sym here))))
              (snoc_cases v.heard_out u.sent l k known),
        ),
      ))
      (λ j y there e apart. (
        (λ s. let o = (h.5 j y e).0 s in (but-else h.1 u.number none y.number (λ same. apart (some-injective j other (sym o.0 ∙ (ap h.1 same ∙ theirs.0)))) ∙ o.0, o.1)),
        λ r. absurd (there (((h.5 j y e).1 r).0 ∙ sym mine.0)),
      )) in
      (h.0, seat, h.2, h.3, h.4, all_set F vs other spent_sight ((λ q. absurd (true≢false (sym q))), λ q. absurd (true≢false (sym q))) (λ j y apart e. now j y e apart))

  -- the pass that takes accounts for each sender that it heard out
  pub inbox_accounts : (pass : ℕ) (v : InboxSight T) → v.takes ≡ true → Learns DeliversInOrder pass v (AccountsForAll v)
  inbox_accounts pass v may waiting sights h at = let mine = (h.5 pass v at).1 may in λ k l known. ap (λ g. pieces_by k (g ++ waiting)) mine.1 ∙ (h.4 k ∙ sym (mine.3 k l known).2)
