-- Offer, Take and Close.
use Rattle.std.proofs.Common.{◌≡◌, refl, sym, ap, subst, ◌∙◌, ℕ, ◌+◌, true, false, List, [], ◌∷◌, ◌++◌, length, append_assoc, append-nil, inl, inr, if◌then◌else◌, Some, arith}
use Rattle.mr_world.proofs.Names.Lists.{length_push, slice_get}
use Rattle.mr_world.proofs.Names.Model.{IsOffer, IsTake, Mark, Subscriber, at_two, entries_of, is_closed, subscriber_number, with_mark}
use Rattle.mr_world.proofs.Names.Laws.{Inv, cases, two_elim, two_elim₂}
use Rattle.mr_world.proofs.Names.Mails.{ClauseParts, Entry, Form, MailCard, told, told_entry}
use Rattle.mr_world.proofs.Names.World.{Agrees, Answer, MailMoment, Port, PortAgrees, World, setting_of, with_close, with_offered, with_waiting}
use Rattle.mr_model.specs.History as model
use Rattle.mr_model.specs.Moment.{Mark.CloseMark, Mark.Moved}
use Rattle.mr_model.proofs.Ports.{entries-append}
use Rattle.mr_world.specs.declared.answer.Answer.TheVariants as answer
use Rattle.mr_model.specs.declared.event.Act.TheVariants as act
use Rattle.mr_world.specs.declared.task.Task.TheVariants as task
use Rattle.mr_world.proofs.Groundwork.Tools.{two_self}
use Rattle.mr_world.proofs.Moving.ByParts.{DoesAt, with_port}
use Rattle.mr_world.proofs.Agreement.Feeds.{told_append}
use Rattle.mr_world.proofs.Moving.Refines.{Refines, stays}

-- one more entry closes nothing, and the close mark adds no entry
moved_closed : (marks : List (Mark MailCard)) (e : model.Entry MailCard) → is_closed (marks ++ Moved e ∷ []) ≡ is_closed marks
moved_closed [] e = refl
moved_closed (Moved x ∷ marks) e = moved_closed marks e
moved_closed (CloseMark ∷ marks) e = refl

close_closed : (marks : List (Mark MailCard)) → is_closed (marks ++ CloseMark ∷ []) ≡ true
close_closed [] = refl
close_closed (Moved x ∷ marks) = close_closed marks
close_closed (CloseMark ∷ marks) = refl

close_entries : (marks : List (Mark MailCard)) → entries_of (marks ++ CloseMark ∷ []) ≡ entries_of marks
close_entries marks = entries-append marks (CloseMark ∷ []) ∙ append-nil (entries_of marks)

-- what stands in a feed at the place behind its beginning comes next
next_after : (done rest : List (model.Entry MailCard)) (feed : List Entry) (e : Entry) → done ++ rest ≡ told feed → slice_get feed (length done) ≡ Some e → (later : List (model.Entry MailCard)) × (rest ≡ told_entry e ∷ later)
next_after [] rest [] e whole at_place = absurd (cc)
next_after [] rest (x ∷ feed) e whole at_place = let same : x ≡ e = cc in (told feed, whole ∙ ap (λ (z : Entry). told_entry z ∷ told feed) same)
next_after (y ∷ done) rest [] e whole at_place = absurd (cc)
next_after (y ∷ done) rest (x ∷ feed) e whole at_place = let tails : done ++ rest ≡ told feed = cc in next_after done rest feed e tails at_place

module _ {K : Type 0} (form : Form K) (filters : ℕ → List ClauseParts) (w : World K) (m : MailMoment) (inv : Inv (setting_of filters) m) (a : Agrees form filters w m) where
  -- the ports become others
  with_ports : (offered : ℕ → ℕ → List (Mark MailCard)) (taken : ℕ → ℕ → List (model.Entry MailCard)) (ports : ℕ → ℕ → Port) → ((r u : ℕ) → PortAgrees (offered r u) (taken r u) (ports r u)) →
      Agrees form filters (record w { ports = ports }) (record m { offered = offered; taken = taken })
  with_ports offered taken ports new = grind arith

  -- a port that stays as it was
  port_stays : (r u : ℕ) (w' : World K) (new : Port) → w' ≡ with_port w r u new → new ≡ w.ports r u → Agrees form filters w' m
  port_stays r u w' new is same = subst (λ (z : World K). Agrees form filters z m) (sym is) (subst (λ (p : Port). Agrees form filters (with_port w r u p) m) (sym same)
      (subst (λ (f : ℕ → ℕ → Port). Agrees form filters (record w { ports = f }) m) (sym (two_self w.ports r u)) a))

  module _ (r u : ℕ) where
    abbrev p : Port
    p = w.ports r u

    abbrev offered_before : List (Mark MailCard)
    offered_before = m.offered r u

    old : PortAgrees (m.offered r u) (m.taken r u) (w.ports r u)
    old = a.ports r u

    offer_agrees : (e : Entry) → is_closed (m.offered r u) ≡ (w.ports r u).view.closed → (w.ports r u).view.closed ≡ false → slice_get (w.replicas r).feed p.offered ≡ Some e →
        IsOffer m r u (told_entry e) × Agrees form filters (with_port w r u (with_offered p e)) (with_mark m r u (Moved (told_entry e)))
    offer_agrees e closes not_closed at_place =
        let before = inv.core.ports.moved r u in
        let next = next_after (entries_of offered_before) before.0 (w.replicas r).feed e (before.1 ∙ (a.holdings r).entries) (ap (λ (n : ℕ). slice_get (w.replicas r).feed n) old.count ∙ at_place) in (
          record {
            rest = next.0;
            next = sym before.1 ∙ ap (λ (l : List (model.Entry MailCard)). entries_of offered_before ++ l) next.1;
            not_closed = closes ∙ not_closed;
          },
          with_ports (at_two m.offered r u (offered_before ++ Moved (told_entry e) ∷ [])) m.taken (at_two w.ports r u (with_offered p e))
              (λ q t. two_elim₂ (λ (z y : ℕ) (ms : List (Mark MailCard)) (pp : Port). PortAgrees ms (m.taken z y) pp) m.offered w.ports r u (offered_before ++ Moved (told_entry e) ∷ []) (with_offered p e) q t
              (record {
                count = ap (λ (l : List (model.Entry MailCard)). length l) (entries-append offered_before (Moved (told_entry e) ∷ [])) ∙ (length_push (entries_of offered_before) (told_entry e) ∙ ap (λ (n : ℕ). n + 1) old.count);
                waits = entries-append offered_before (Moved (told_entry e) ∷ []) ∙ (ap (λ (l : List (model.Entry MailCard)). l ++ told_entry e ∷ []) old.waits
                    ∙ (append_assoc (m.taken r u) (told p.view.waiting) (told_entry e ∷ []) ∙ ap (λ (l : List (model.Entry MailCard)). m.taken r u ++ l) (sym (told_append p.view.waiting (e ∷ [])))));
                closes = moved_closed offered_before (told_entry e) ∙ old.closes;
              }) (λ other. a.ports q t)),
        )

    take_agrees : (e : Entry) (rest : List Entry) → p.view.waiting ≡ e ∷ rest →
        IsTake m r u (told_entry e) × Agrees form filters (with_port w r u (with_waiting p rest)) (record m { taken = at_two m.taken r u (m.taken r u ++ told_entry e ∷ []) })
    take_agrees e rest waits = grind (arith, entries_of, told_entry, told, old, with_ports, at_two, with_waiting, two_elim₂, append_assoc)

    close_agrees : Agrees form filters (with_port w r u (with_close p)) (if is_closed (m.offered r u) then m else with_mark m r u CloseMark)
    close_agrees = elim (cases (is_closed (m.offered r u))) [
      | inl t ↦ rw t (with_ports m.offered m.taken (at_two w.ports r u (with_close p))
          (λ q t'. two_elim (λ (z y : ℕ) (pp : Port). PortAgrees (m.offered z y) (m.taken z y) pp) w.ports r u (with_close p) q t' (record { count = old.count; waits = old.waits; closes = t }) (λ other. a.ports q t')))
      | inr n ↦ rw n (with_ports (at_two m.offered r u (offered_before ++ CloseMark ∷ [])) m.taken (at_two w.ports r u (with_close p))
          (λ q t'. two_elim₂ (λ (z y : ℕ) (ms : List (Mark MailCard)) (pp : Port). PortAgrees ms (m.taken z y) pp) m.offered w.ports r u (offered_before ++ CloseMark ∷ []) (with_close p) q t'
          (record {
            count = ap (λ (l : List (model.Entry MailCard)). length l) (close_entries offered_before) ∙ old.count;
            waits = close_entries offered_before ∙ old.waits;
            closes = close_closed offered_before;
          }) (λ other. a.ports q t')))
    ]

  pub offers : (r : ℕ) (u : Subscriber) (reply : Answer) (w' : World K) → DoesAt form w r (task.Offer u) reply w' → Refines form filters w m r (act.Offer u) reply w'
  offers r u (answer.Offered e) w' move =
      let n = subscriber_number u in
      let may = move.1 in
      subst (Refines form filters w m r (act.Offer u) (answer.Offered e)) (sym (move.2 ∙ ap (λ (z : Port). with_port w r n z) may.3)) (offer_agrees r n e (a.ports r n).closes may.0 may.1)
  offers r u answer.Closed w' move = stays form filters w m r (act.Offer u) w' (port_stays r (subscriber_number u) w' move.0 move.2 move.1.1)
  offers r u answer.NothingNew w' move = stays form filters w m r (act.Offer u) w' (port_stays r (subscriber_number u) w' move.0 move.2 move.1.2)
  offers r u answer.Full w' move = stays form filters w m r (act.Offer u) w' (port_stays r (subscriber_number u) w' move.0 move.2 move.1.3)
  offers r u reply w' move = grind (arith, subscriber_number, with_port, offer_agrees, stays, port_stays)

  pub takes : (r : ℕ) (u : Subscriber) (reply : Answer) (w' : World K) → DoesAt form w r (task.Take u) reply w' → Refines form filters w m r (act.Take u) reply w'
  takes r u (answer.TookEntry e) w' move =
      let n = subscriber_number u in
      let may = move.1 in
      subst (Refines form filters w m r (act.Take u) (answer.TookEntry e)) (sym (move.2 ∙ ap (λ (z : Port). with_port w r n z) may.2)) (take_agrees r n e may.0 may.1)
  takes r u answer.Closed w' move = stays form filters w m r (act.Take u) w' (port_stays r (subscriber_number u) w' move.0 move.2 move.1.2)
  takes r u answer.Empty w' move = stays form filters w m r (act.Take u) w' (port_stays r (subscriber_number u) w' move.0 move.2 move.1.2)
  takes r u reply w' move = grind (arith, subscriber_number, with_port, take_agrees, stays, port_stays)

  pub closes : (r : ℕ) (u : Subscriber) (reply : Answer) (w' : World K) → DoesAt form w r (task.Close u) reply w' → Refines form filters w m r (act.Close u) reply w'
  closes r u answer.Done w' move =
      let n = subscriber_number u in
      subst (Refines form filters w m r (act.Close u) answer.Done) (sym (move.2 ∙ ap (λ (z : Port). with_port w r n z) move.1)) (tt, close_agrees r n)
  closes r u reply w' move = grind (arith, subscriber_number, with_port, close_agrees)
