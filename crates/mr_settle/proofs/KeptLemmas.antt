-- What a world promises holds of replicas that are equal to its own.
use Rattle.std.proofs.Common.{◌≡◌, ◌≢◌, ◌⊎◌, inl, inr, refl, sym, ap, subst, ◌∙◌, cond, ℕ, Bool, true, false, List, [], ◌∷◌, Option, Some, None, is_none, find, map, ◌==◌, eqb-true, arith}
use Rattle.mr_settle.proofs.Names.{All, All-cons, All-head, All-nil, All-tail, ClauseParts, Entry, Explains, Form, HasHead, HasHeadline, Holds, In}
use Rattle.mr_settle.proofs.Names.{IsHeldBySome, IsItsLog, IsNewest, IsOneInWorld, IsTrue, KeepTogether, Keeps, KnowsAllOf, Mail, MailCard, MemberView, Name}
use Rattle.mr_settle.proofs.Names.{Promises, State, WorldView, filters_of, is_some, member_at, moment_of, replica_at, selection, setting_in, setting_of}
use Rattle.mr_settle.proofs.Names.{true≢false}
use Rattle.mr_model.specs.Headline.{EachPair, InIssueOrder, IsCurrent, IsSoundHolding, added}
use Rattle.mr_model.specs.Laws.{KnowsDownward}
use Rattle.mr_model.proofs.Basics.{is_refl}
use Rattle.mr_model.specs.Versions.{Issue, IsSuperseded, is, is_issued, item_of}
use Rattle.mr_madewith.specs.Revision.{Rev}
use Rattle.mr_store.specs.Revisions.{holds, revision_of}
use Rattle.mr_world.specs.Agrees.{HoldingsAgree}
use Rattle.mr_settle.proofs.MoveLemmas.{there_if}
use Rattle.mr_settle.proofs.MomentLemmas.{nothing_held}
use Rattle.mr_settle.proofs.RetireLemmas.{none_after}

-- a selection asks for the filter alone
same_selection : (filters gilters : ℕ → List ClauseParts) (r q : ℕ) → filters r ≡ gilters q → (issues : List (Issue Mail)) (v : Name) → selection (setting_of filters) issues r v ≡ selection (setting_of gilters) issues q v
same_selection filters gilters r q e [] v = refl
same_selection filters gilters r q e (x ∷ earlier) v = grind (arith, same_selection filters gilters r q e earlier v)

module _ {A : Type 0} where
  all_in : (P : A → Type 0) (xs : List A) (x : A) → All P xs → In x xs → P x
  all_in P [] x all i = absurd i
  all_in P (y ∷ ys) x all (inl e) = subst P e (All-head P y ys all)
  all_in P (y ∷ ys) x all (inr i) = all_in P ys x (All-tail P y ys all) i

-- revisions of which none is of any version are none
none_held : (rs : List Rev) → ((v : Name) → holds rs v ≡ false) → rs ≡ []
none_held [] none = refl
none_held (r ∷ rs) none = let e : is r.version r.version ≡ true = is_refl r.version in
    let h : is_some (cond (is r.version r.version) (Some r) (revision_of rs r.version)) ≡ false = none r.version in
    absurd (true≢false (sym (ap (λ (b : Bool). is_some (cond b (Some r) (revision_of rs r.version))) e) ∙ h))

module _ {K : Type 0} (form : Form K) (w : WorldView K) (promised : Promises form w) where
  abbrev headline : HasHeadline w
  headline = promised.headline

  keeps : (end : State K) → replica_at w.members end.id ≡ Some end → IsItsLog form end → Keeps form (moment_of w).issues end
  keeps end there its = record {
    own = a.count;
    once = subst (λ (entries : List (Entry MailCard)). EachPair (λ v u. v ≢ u) (added entries)) a.entries (headline.once end.id);
    in_order = subst (λ (entries : List (Entry MailCard)). EachPair (InIssueOrder (moment_of w).issues) (added entries)) a.entries (headline.in_order end.id);
    none_after = none_after form end its;
    clean = λ retired. none_held end.push_outs (λ v. a.push_outs.same v ∙ promised.clean end.id (a.is_retired ∙ retired) v);
    made_with = λ u v known over.
        (let issued = (down.issued v (down.downward u v (sym (a.knows.same u known.0) ∙ known.1) over)) in
        (issued, a.knows.same v issued ∙ down.downward u v (sym (a.knows.same u known.0) ∙ known.1) over));
    heads = λ item v all. (
      λ held. newest item v ((headline.holds end.id item v (known item all)).0 (sym (a.heads.same v) ∙ held.0, held.1)),
      λ is_newest.
          let back = (headline.holds end.id item v (known item all)).1 (current item v is_newest) in
          (a.heads.same v ∙ back.0, back.1),
    );
    soundly = record {
      head_is = λ v head.
          (let stored = so.stored_is v (sym (a.heads.same v) ∙ head) in
          ((stored.0, a.knows.same v stored.0 ∙ stored.1), sym (wanted v) ∙ stored.2));
      complete = λ v known want. still v (so.complete v (sym (a.knows.same v known.0) ∙ known.1) (wanted v ∙ want));
      newest = λ v u head known. so.heads v u (sym (a.heads.same v) ∙ head) (sym (a.knows.same u known.0) ∙ known.1);
    };
  }
    where
      a : HoldingsAgree form (moment_of w).issues (filters_of w) end.id ((moment_of w).holding end.id) ((moment_of w).feed end.id) ((moment_of w).is_retired end.id) end
      a = promised.as_seen end.id end there

      so : IsSoundHolding (setting_in w) (moment_of w) end.id
      so = promised.sound end.id

      down : KnowsDownward (moment_of w) end.id
      down = promised.made_with end.id

      still : (v : Name) → IsTrue (((moment_of w).holding end.id).stored v) ⊎ IsSuperseded (moment_of w).issues v → HasHead end v ⊎ IsSuperseded (moment_of w).issues v
      still v (inl stored) = inl (a.heads.same v ∙ stored)
      still v (inr superseded) = inr superseded

      known : (item : Name) → KnowsAllOf form (moment_of w).issues end item → (u : Name) → IsTrue (is_issued (moment_of w).issues u) → item_of (moment_of w).issues u ≡ item → IsTrue (((moment_of w).holding end.id).known u)
      known item all u issued of_item = sym (a.knows.same u issued) ∙ ap (λ (i : Name). form.known end.knowledge i u) of_item ∙ all u issued of_item

      wanted : (v : Name) → selection (setting_in w) (moment_of w).issues end.id v ≡ selection (setting_of (λ _. end.filter)) (moment_of w).issues 0 v
      wanted v = same_selection (filters_of w) (λ _. end.filter) end.id 0 (sym a.filter) (moment_of w).issues v

      newest : (item v : Name) → IsCurrent (setting_in w) (moment_of w) end.id item v → IsNewest (moment_of w).issues end.filter item v
      newest item v h = record { issued = h.issued; of_item = h.of_item; wanted = sym (wanted v) ∙ h.wanted; newest = h.newest }

      current : (item v : Name) → IsNewest (moment_of w).issues end.filter item v → IsCurrent (setting_in w) (moment_of w) end.id item v
      current item v h = record { issued = h.issued; of_item = h.of_item; wanted = wanted v ∙ h.wanted; newest = h.newest }

  pub ends_keep : (ends : List (State K)) → All (λ end. replica_at w.members end.id ≡ Some end) ends → All (IsOneInWorld form w) ends → All (Keeps form (moment_of w).issues) ends
  ends_keep [] same one = All-nil (Keeps form (moment_of w).issues)
  ends_keep (end ∷ ends) same one =
      All-cons (Keeps form (moment_of w).issues) end ends
      (keeps end (All-head (λ (end : State K). replica_at w.members end.id ≡ Some end) end ends same) (All-head (IsOneInWorld form w) end ends one).0)
      (ends_keep ends (All-tail (λ (end : State K). replica_at w.members end.id ≡ Some end) end ends same) (All-tail (IsOneInWorld form w) end ends one))

-- ---- all ends together

module _ {K : Type 0} where
  -- an id that the ends have is an end's
  found_end : (ends : List (State K)) (r : ℕ) → is_none (find (λ i. i == r) (map (λ (end : State K). end.id) ends)) ≡ false → (end : State K) × In end ends × (end.id ≡ r)
  found_end [] r there = cc (there)
  found_end (x ∷ xs) r there = by (x.id == r) refl there (found_end xs r)
    where
      by : (b : Bool) → (x.id == r) ≡ b → is_none (cond b (Some x.id) (find (λ i. i == r) (map (λ (end : State K). end.id) xs))) ≡ false
          → (is_none (find (λ i. i == r) (map (λ (end : State K). end.id) xs)) ≡ false → (end : State K) × In end xs × (end.id ≡ r)) → (end : State K) × In end (x ∷ xs) × (end.id ≡ r)
      by true e h found = (x, inl refl, eqb-true x.id r e)
      by false e h found = let rest = found h in (rest.0, inr rest.1, rest.2)

module _ {K : Type 0} (form : Form K) (w : WorldView K) (ends : List (State K)) (explains : Explains form ends w) (promised : Promises form w) where
  held_by_end : (r : ℕ) (m : MemberView K) (v : Name) → member_at w.members r ≡ Some m → Holds (moment_of w) r v → IsHeldBySome ends v
  held_by_end r m v there held = record { end = end.0; among = end.1; holds_it = by held }
    where
      end : (end : State K) × In end ends × (end.id ≡ r)
      end = found_end ends r (ap (λ (ids : List ℕ). is_none (find (λ i. i == r) ids)) (sym explains.ids) ∙ sym (there_if w.members r) ∙ ap is_none there)

      a : HoldingsAgree form (moment_of w).issues (filters_of w) r ((moment_of w).holding r) ((moment_of w).feed r) ((moment_of w).is_retired r) end.0
      a = promised.as_seen r end.0 (ap (replica_at w.members) (sym end.2) ∙ all_in (λ (end : State K). replica_at w.members end.id ≡ Some end) ends end.0 explains.same end.1)

      by : Holds (moment_of w) r v → HasHead end.0 v ⊎ IsTrue (holds end.0.push_outs v)
      by (inl stored) = inl (a.heads.same v ∙ stored)
      by (inr pushed_out) = inr (a.push_outs.same v ∙ pushed_out)

  pub ends_keep_together : KeepTogether (moment_of w).issues ends
  ends_keep_together v issued newest = let held = promised.no_loss v issued newest in by held.0 (member_at w.members held.0) refl held.1
    where
      by : (r : ℕ) (o : Option (MemberView K)) → member_at w.members r ≡ o → Holds (moment_of w) r v → IsHeldBySome ends v
      by r (Some m) is h = held_by_end r m v is h
      by r None is h = absurd (nothing_held form ends w explains.is_of r is v h)
