-- A world keeps the rules from its first event on, and what holds of it then.
use Rattle.std.proofs.Common.{◌≡◌, ◌≢◌, refl, sym, ap, subst, ◌∙◌, ℕ, ◌==◌, false, List, [], ◌∷◌, ◌++◌, inl, inr, eqb-true, Option, Some, None, arith}
use Rattle.mr_world.proofs.Names.Lists.{AllZip, Err, Ok, Result, option_map, option_map_or}
use Rattle.mr_world.proofs.Names.Replica.{IsFresh, State, new_state, some_same}
use Rattle.mr_world.proofs.Names.Model.{Event, History, In, IsRun, after, happens, now, start}
use Rattle.mr_world.proofs.Names.Laws.{Inv, cases, headline_holds, in_append, is_sound, knows_downward, loses_nothing, run_inv}
use Rattle.mr_world.proofs.Names.Mails.{AreSame, ClauseParts, Form, ListsMore, Mail, MailCard}
use Rattle.mr_world.proofs.Names.World.{Agrees, Answer, AreBySets, AskedTooLong, Happens, HoldingsAgree, IsBySets, IsFreshWorld, IsGenuine, IsMadeOf}
use Rattle.mr_world.proofs.Names.World.{IsMadeWorld, Leads, MailMoment, Meets, MemberView, Spec, Stepped, WorldFault, WorldView, answered, found_or}
use Rattle.mr_world.proofs.Names.World.{history, history_from, member_at, new_port, port_numbered, replica_at, seen_step, setting_of}
use Rattle.mr_model.specs.Changes.{change}
use Rattle.mr_replica.specs.declared.refusal.Refusal.TheVariants as refusal
use Rattle.mr_world.specs.Promise.{FindsNoneForged, HoldsAsSeen, KeepsRules, Promises, filters_of, history_of, moment_of, setting_in, unused_member, whole_world}
use Rattle.mr_world.specs.declared.answered.Answered.{Answered}
use Rattle.mr_world.proofs.Moving.ByParts.{MovesAt, by_parts}
use Rattle.mr_world.proofs.Histories.BySets.{ShowsTooLong, by_sets_later, is_by_sets, more_by_sets, none_by_sets}
use Rattle.mr_world.proofs.Histories.GoingOn.{GoesOn, all_go_on, found_is, fresh_log, has_asked, is_there, still_there}
use Rattle.mr_world.proofs.Histories.Genuine.{fresh_genuine, one_more_genuine}
use Rattle.mr_world.proofs.Groundwork.Tools.{find_in}
use Rattle.mr_world.proofs.Running.Moved.{moves}
use Rattle.mr_world.proofs.Histories.WholeRuns.{fresh_agrees, one_more}

-- ---- histories

-- one more answer is one more step
history_more : (filters : ℕ → List ClauseParts) (m : MailMoment) (xs : List Answered) (x : Answered) →
    history_from filters m (xs ++ x ∷ []) ≡ history_from filters m xs ++ seen_step (after (setting_of filters) m (history_from filters m xs)) x ∷ []
history_more filters m [] x = refl
history_more filters m (y ∷ ys) x = ap (λ (h : History Mail MailCard). seen_step m y ∷ h) (history_more filters (happens (setting_of filters) m (change m (seen_step m y))) ys x)

module _ {K : Type 0} (form : Form K) where
  -- ---- filters stay

  -- a world's filters are those of its replicas over all ids
  filter_there : (nothing : K) (w : WorldView K) (r : ℕ) → ((whole_world form nothing w).replicas r).filter ≡ filters_of w r
  filter_there nothing w r = grind (arith, member_at, found_or, option_map_or)

  -- ---- a world as it is made

  module _ (nothing : K) (knows : AreSame (form.known nothing) (λ i v. false)) (specs : List Spec) (w : WorldView K) (made : IsMadeWorld form specs w) where
    -- a member was made of some specification
    made_member : (ss : List Spec) (ms : List (MemberView K)) → AllZip (IsMadeOf form) ss ms → (m : MemberView K) → In m ms → (spec : Spec) × IsMadeOf form spec m
    made_member [] [] all m i = elim i [ ]
    made_member (s ∷ ss) [] all m i = elim i [ ]
    made_member [] (n ∷ ms) all m i = absurd all
    made_member (s ∷ ss) (n ∷ ms) all m i = elim i [ inl e ↦ (s, subst (IsMadeOf form s) e all.0) | inr j ↦ made_member ss ms all.1 m j ]

    fresh_member : (r : ℕ) (m : MemberView K) (spec : Spec) → IsMadeOf form spec m → m.replica.id ≡ r → m.replica.filter ≡ filters_of w r → IsFresh form r (filters_of w r) spec.event_limit m.replica
    fresh_member r m spec of here same = grind (arith, new_state)

    fresh_there : (r : ℕ) → (event_limit : ℕ) × IsFresh form r (filters_of w r) event_limit ((whole_world form nothing w).replicas r)
    fresh_there r = go (member_at w.members r) refl
      where
        go : (o : Option (MemberView K)) → member_at w.members r ≡ o → (event_limit : ℕ) × IsFresh form r (filters_of w r) event_limit (found_or (unused_member form nothing r) o).replica
        go None e = (
          1,
          record {
            is_empty = ap (λ (f : List ClauseParts). new_state r f 1 nothing) (sym (ap (λ (o : Option (MemberView K)). option_map_or (λ m. m.replica.filter) o []) e));
            knows_nothing = knows;
          },
        )
        go (Some m) e = let f = find_in (λ (n : MemberView K). n.replica.id == r) w.members m e in let of = made_member specs w.members made.members m f.0 in
            (of.0.event_limit, fresh_member r m of.0 of.1 (eqb-true m.replica.id r f.1) (sym (ap (λ (o : Option (MemberView K)). option_map_or (λ m. m.replica.filter) o []) e)))

    fresh_port : (r u : ℕ) → (capacity : ℕ) × ((whole_world form nothing w).ports r u ≡ new_port capacity)
    fresh_port r u = go (member_at w.members r) refl
      where
        numbered_port : (m : MemberView K) (capacity : ℕ) → m.indexer ≡ new_port capacity → m.notifier ≡ new_port capacity → (places : ℕ) × (port_numbered m (new_port 1) u ≡ new_port places)
        numbered_port m capacity indexer notifier = elim (cases (u == 0)) [
          | inl first ↦ (capacity, rw first indexer)
          | inr other ↦ elim (cases (u == 1)) [ inl second ↦ (capacity, rw (other, second) notifier) | inr none ↦ (1, rw (other, none) refl) ]
        ]

        go : (o : Option (MemberView K)) → member_at w.members r ≡ o → (capacity : ℕ) × (port_numbered (found_or (unused_member form nothing r) o) (new_port 1) u ≡ new_port capacity)
        go None e = numbered_port (unused_member form nothing r) 1 refl refl
        go (Some m) e = let f = find_in (λ (n : MemberView K). n.replica.id == r) w.members m e in let of = made_member specs w.members made.members m f.0 in
            numbered_port m of.0.port_capacity of.1.indexer of.1.notifier

    fresh_world : IsFreshWorld form (filters_of w) (whole_world form nothing w)
    fresh_world = record { replicas = fresh_there; asks = made.asks; records = made.records; receipts = made.receipts; ports = fresh_port }

    pub made_keeps : KeepsRules form w
    made_keeps = record {
      run = subst (λ (xs : List Answered). IsRun (setting_in w) start (history (filters_of w) xs)) (sym made.answers) tt;
      nothing = nothing;
      knows_nothing = knows;
      agrees = subst (λ (xs : List Answered). Agrees form (filters_of w) (whole_world form nothing w) (now (setting_in w) (history (filters_of w) xs))) (sym made.answers) (fresh_agrees form (filters_of w) (whole_world form nothing w) fresh_world);
      its_logs = λ r. fresh_log form (filters_of w r) (fresh_there r).0 r ((whole_world form nothing w).replicas r) (fresh_there r).1;
      by_sets = none_by_sets form (filters_of w) (replica_at w.members) w.answers made.answers;
      genuine = subst (λ (xs : List Answered). IsGenuine form (now (setting_in w) (history (filters_of w) xs)).issues (whole_world form nothing w)) (sym made.answers) (fresh_genuine form (filters_of w) (whole_world form nothing w) fresh_world);
      none_forged = λ x i. elim (subst (In x) made.answers i) [ ];
    }

  -- ---- an event happens

  module _ (form_lists : ListsMore form) (w w' : WorldView K) (e : Event Mail) (answer : Answer) (k : KeepsRules form w) (happens : Happens form w e answer w') where
    abbrev x : Answered
    x = answered e answer

    move : MovesAt form (whole_world form k.nothing w) e answer (whole_world form k.nothing w')
    move = by_parts form (whole_world form k.nothing w) e answer (whole_world form k.nothing w') (moves form w e answer w' happens (unused_member form k.nothing) (new_port 1))

    step : IsRun (setting_in w) start (history_of w ++ seen_step (moment_of w) x ∷ []) × Agrees form (filters_of w) (whole_world form k.nothing w') (now (setting_in w) (history_of w ++ seen_step (moment_of w) x ∷ []))
    step = one_more form (filters_of w) (whole_world form k.nothing w) (whole_world form k.nothing w') (history_of w) x k.run k.agrees move

    goes_on : (r : ℕ) → GoesOn form ((whole_world form k.nothing w).replicas r) ((whole_world form k.nothing w').replicas r)
    goes_on r = all_go_on form (whole_world form k.nothing w) (whole_world form k.nothing w') e answer move r

    -- who was there is there, and went on
    members_go_on : (r : ℕ) (s : State K) → replica_at w.members r ≡ Some s → (t : State K) × (replica_at w'.members r ≡ Some t) × GoesOn form s t
    members_go_on r s here =
        let there = still_there w.members w'.members r s happens.becomes.ids here in
        let old = found_is (unused_member form k.nothing r) w.members r s here in
        let new = found_is (unused_member form k.nothing r) w'.members r there.0 there.1 in
        (there.0, there.1, subst (λ (z : State K). GoesOn form z there.0) old (subst (λ (z : State K). GoesOn form ((whole_world form k.nothing w).replicas r) z) new (goes_on r)))

    shows_too_long : ShowsTooLong form (filters_of w) (whole_world form k.nothing w) (whole_world form k.nothing w') (moment_of w) k.agrees (replica_at w'.members) e.replica
    shows_too_long q asked ask long =
        let here = is_there form w w' e answer happens in
        let there = still_there w.members w'.members e.replica here.0 happens.becomes.ids here.1 in
        let new = found_is (unused_member form k.nothing e.replica) w'.members e.replica there.0 there.1 in (
          there.0,
          there.1,
          subst (λ (z : State K). AskedTooLong form (moment_of w) e.replica z q) new
              (has_asked form (whole_world form k.nothing w) (whole_world form k.nothing w') (moment_of w) e.replica q asked (k.its_logs e.replica) ask (k.agrees.holdings e.replica).knows long),
        )

    by_sets : IsBySets form (replica_at w'.members) (moment_of w) e.replica e.act answer
    by_sets = is_by_sets form (filters_of w) (whole_world form k.nothing w) (whole_world form k.nothing w') (moment_of w) k.agrees (replica_at w'.members) e.replica e.act answer shows_too_long move

    all_by_sets : AreBySets form (replica_at w'.members) (filters_of w) (w.answers ++ x ∷ [])
    all_by_sets = more_by_sets form (filters_of w) (replica_at w'.members) w.answers x (by_sets_later form (filters_of w) (replica_at w.members) (replica_at w'.members) members_go_on w.answers k.by_sets) by_sets

    genuine : IsGenuine form (now (setting_in w) (history_of w ++ seen_step (moment_of w) x ∷ [])).issues (whole_world form k.nothing w') × (answer ≢ Stepped (Err refusal.Forged))
    genuine = one_more_genuine form (filters_of w) form_lists (whole_world form k.nothing w) (whole_world form k.nothing w') (history_of w) x k.run k.agrees k.genuine move

    none_forged : FindsNoneForged w'
    none_forged z i = elim (in_append w.answers (x ∷ []) z (subst (In z) happens.notes i)) [
      | inl old ↦ k.none_forged z old
      | inr new ↦ elim new [ inl same ↦ subst (λ (y : Answered). y.answer ≢ Stepped (Err refusal.Forged)) same genuine.1 | inr none ↦ elim none [ ] ]
    ]

    -- a replica's filter never changes
    same_filters : filters_of w ≡ filters_of w'
    same_filters = λ i r. (sym (step.1.holdings r).filter ∙ filter_there k.nothing w' r) i

    -- the history has one step more
    same_history : history_of w ++ seen_step (moment_of w) x ∷ [] ≡ history (filters_of w) w'.answers
    same_history = sym (ap (history (filters_of w)) happens.notes ∙ history_more (filters_of w) start w.answers x)

    pub happens_keeps : KeepsRules form w'
    happens_keeps = record {
      run = subst (λ (f : ℕ → List ClauseParts). IsRun (setting_of f) start (history f w'.answers)) same_filters (subst (IsRun (setting_in w) start) same_history step.0);
      nothing = k.nothing;
      knows_nothing = k.knows_nothing;
      agrees = subst (λ (f : ℕ → List ClauseParts). Agrees form f (whole_world form k.nothing w') (now (setting_of f) (history f w'.answers))) same_filters
          (subst (λ (h : History Mail MailCard). Agrees form (filters_of w) (whole_world form k.nothing w') (now (setting_in w) h)) same_history step.1);
      its_logs = λ r. (goes_on r).its_log (k.its_logs r);
      by_sets = subst (λ (f : ℕ → List ClauseParts). AreBySets form (replica_at w'.members) f w'.answers) same_filters
          (subst (AreBySets form (replica_at w'.members) (filters_of w)) (sym happens.notes) all_by_sets);
      genuine = subst (λ (f : ℕ → List ClauseParts). IsGenuine form (now (setting_of f) (history f w'.answers)).issues (whole_world form k.nothing w')) same_filters
          (subst (λ (h : History Mail MailCard). IsGenuine form (now (setting_in w) h).issues (whole_world form k.nothing w')) same_history genuine.0);
      none_forged = none_forged;
    }

  -- it is answered, or nothing changes
  pub meets_keeps : ListsMore form → (w w' : WorldView K) (e : Event Mail) (result : Result (Unit {0}) WorldFault) → KeepsRules form w → Meets form w e result w' → KeepsRules form w'
  meets_keeps form_lists w w' e (Ok done) k meets = happens_keeps form_lists w w' e meets.0 k meets.1
  meets_keeps form_lists w w' e (Err fault) k meets = subst (KeepsRules form) (sym meets.1) k

  pub leads_keeps : ListsMore form → (w w' : WorldView K) (events : List (Event Mail)) → KeepsRules form w → Leads form w events w' → KeepsRules form w'
  leads_keeps form_lists w w' [] k leads = subst (KeepsRules form) (sym leads) k
  leads_keeps form_lists w w' (e ∷ events) k leads = leads_keeps form_lists leads.0 w' events (happens_keeps form_lists w leads.0 e leads.1.0 k leads.1.1) leads.2

  -- ---- what holds then

  module _ (w : WorldView K) (k : KeepsRules form w) where
    -- the moment after its history has all that the rules keep
    inv : Inv (setting_in w) (moment_of w)
    inv = run_inv (setting_in w) (history_of w) k.run

    holds_as_seen : HoldsAsSeen form w
    holds_as_seen r s e = grind (arith, member_at, option_map, found_or, some_same)

    pub promises : Promises form w
    promises = grind (arith, headline_holds, is_sound, inv, knows_downward, loses_nothing, holds_as_seen, by_sets, none_forged)
