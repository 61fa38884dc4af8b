-- Each answer says of versions what the sets of its moment say.
use Rattle.std.proofs.Common.{◌≡◌, refl, sym, subst, ◌∙◌, ℕ, List, [], ◌∷◌, ◌++◌, ◌⊎◌, inl, inr, Option, Some, arith}
use Rattle.mr_world.proofs.Names.Lists.{Ok}
use Rattle.mr_world.proofs.Names.Wire.{Question}
use Rattle.mr_world.proofs.Names.Replica.{Asked, IsAskOf, State}
use Rattle.mr_world.proofs.Names.Model.{Act, now, ◌does◌}
use Rattle.mr_world.proofs.Names.Mails.{ClauseParts, Form, Mail}
use Rattle.mr_world.proofs.Names.World.{Agrees, Answer, AreBySets, AskedTooLong, ClaimsKnown, IsBySets, IsTooLong, MailMoment, Stepped, World}
use Rattle.mr_world.proofs.Names.World.{history, setting_of}
use Rattle.mr_world.specs.declared.answered.Answered.{Answered}
use Rattle.mr_world.proofs.Moving.ByParts.{MovesAt}
use Rattle.mr_model.specs.declared.event.Act.TheVariants as act
use Rattle.mr_world.proofs.Histories.GoingOn.{GoesOn, asked_later}
use Rattle.mr_world.proofs.Histories.Replies.{claims_known, tells_known}
use Rattle.mr_world.proofs.Moving.Asking.{delivers_one, receives_one}

-- ---- one answer

module _ {K : Type 0} (form : Form K) (filters : ℕ → List ClauseParts) (w w' : World K) (m : MailMoment) (a : Agrees form filters w m) where
  -- what shows that the replica made a request that was too long
  abbrev pub ShowsTooLong : (ends : ℕ → Option (State K)) → ℕ → Type 0
  ShowsTooLong ends r = (q : Question) → MovesAt form w (r does act.Pull) (Stepped (Ok (Asked q))) w' → IsAskOf form (w.replicas r) q → IsTooLong form (w.replicas r).knowledge
      → (end : State K) × (ends r ≡ Some end) × AskedTooLong form m r end q

  pub is_by_sets : (ends : ℕ → Option (State K)) (r : ℕ) (x : Act Mail) (reply : Answer) → ShowsTooLong ends r → MovesAt form w (r does x) reply w' → IsBySets form ends m r x reply
  is_by_sets ends r act.Pull (Stepped (Ok (Asked ask))) too_long move = claims_known form filters w w' m a r ends ask move (too_long ask move)
  is_by_sets ends r (act.Receive n) (Stepped (Ok reply)) too_long move = let x = receives_one form w r n (Stepped (Ok reply)) w' move in tells_known form filters w w' m a r n x.0 x.1 reply x.2
  is_by_sets ends r (act.DeliverPart n bytes) (Stepped (Ok reply)) too_long move = let x = delivers_one form w r n bytes (Ok reply) w' move in tells_known form filters w w' m a r n x.0 x.1 reply x.2
  is_by_sets ends r x reply too_long move = grind (arith, claims_known, receives_one, tells_known, delivers_one)

-- ---- all answers

-- one of a list with y behind it is y, or one of the others
last_or_other : {A : Type 0} (xs : List A) (y : A) (before later : List A) (x : A) → xs ++ y ∷ [] ≡ before ++ x ∷ later → ((xs ≡ before) × (y ≡ x)) ⊎ ((rest : List A) × (xs ≡ before ++ x ∷ rest))
last_or_other [] y [] later x e = inl (refl, cc)
last_or_other [] y (b ∷ []) later x e = absurd (cc)
last_or_other [] y (b ∷ (c ∷ bs)) later x e = absurd (cc)
last_or_other (z ∷ zs) y [] later x e = inr (zs, cc)
last_or_other (z ∷ zs) y (b ∷ bs) later x e = grind (arith, last_or_other zs y bs later x)

module _ {K : Type 0} (form : Form K) (filters : ℕ → List ClauseParts) where
  pub none_by_sets : (ends : ℕ → Option (State K)) (xs : List Answered) → xs ≡ [] → AreBySets form ends filters xs
  none_by_sets ends xs none [] later x e = let c : (◌≡◌ {A = List Answered} [] (x ∷ later)) = sym none ∙ e in absurd (cc)
  none_by_sets ends xs none (b ∷ before) later x e = let c : (◌≡◌ {A = List Answered} [] (b ∷ (before ++ x ∷ later))) = sym none ∙ e in absurd (cc)

  pub more_by_sets : (ends : ℕ → Option (State K)) (xs : List Answered) (y : Answered) → AreBySets form ends filters xs → IsBySets form ends (now (setting_of filters) (history filters xs)) y.event.replica y.event.act y.answer → AreBySets form ends filters (xs ++ y ∷ [])
  more_by_sets ends xs y others new before later x e = grind (arith, last_or_other, now, setting_of, history)

  -- ---- as the replicas go on

  module _ (ends later : ℕ → Option (State K)) (go_on : (r : ℕ) (end : State K) → ends r ≡ Some end → (t : State K) × (later r ≡ Some t) × GoesOn form end t) where
    claims_later : (m : MailMoment) (r : ℕ) (q : Question) → ClaimsKnown form ends m r q → ClaimsKnown form later m r q
    claims_later m r q claims = record {
      no_more = claims.no_more;
      all = elim claims.all [
        | inl same ↦ inl same
        | inr long ↦ (let t = go_on r long.0 long.1 in inr (t.0, t.1, asked_later form m r long.0 t.0 q t.2 long.2))
      ];
    }

    is_by_sets_later : (m : MailMoment) (r : ℕ) (x : Act Mail) (reply : Answer) → IsBySets form ends m r x reply → IsBySets form later m r x reply
    is_by_sets_later m r act.Pull (Stepped (Ok (Asked ask))) h = claims_later m r ask h
    is_by_sets_later m r (act.Receive n) (Stepped (Ok reply)) h = h
    is_by_sets_later m r (act.DeliverPart n bytes) (Stepped (Ok reply)) h = h
    is_by_sets_later m r x reply h = grind (arith, claims_later)

    pub by_sets_later : (xs : List Answered) → AreBySets form ends filters xs → AreBySets form later filters xs
    by_sets_later xs h before behind x e = is_by_sets_later (now (setting_of filters) (history filters before)) x.event.replica x.event.act x.answer (h before behind x e)
