-- A world that agrees with a moment answers no record as forged.
use Rattle.std.proofs.Common.{◌≡◌, ◌≢◌, refl, sym, ap, subst, ◌∙◌, ℕ, ◌<◌, ◌≤◌, ◌==◌, nat_lt, nat_le, Bool, true, false, not, ◌||◌, List, [], ◌∷◌, ◌++◌, length, inl, inr, IsTrue, IsFalse, arith, eqb-true, Option, Some, None}
use Rattle.mr_world.proofs.Names.Lists.{Err, Result, and_parts, list_any, ltb-true, option_map, option_map_or}
use Rattle.mr_world.proofs.Names.Wire.{Body, DescentParts, End, Held, Item, Know, MoveOut, Sent, Start}
use Rattle.mr_world.proofs.Names.Replica.{Event as ReplicaEvent, FirstFault, GoesOn, Refusal, RefusesLate, Reply, State, Steps, Wanted, edited_item}
use Rattle.mr_world.proofs.Names.Replica.{first_refusal, has_early, held, is_early, is_early_line, is_forged, is_misfiled, item_refusal, line_of}
use Rattle.mr_world.proofs.Names.Replica.{log_full, own_left, refusal_of_session, refused_if, retired, session_for, session_refusal, wanted_by}
use Rattle.mr_world.proofs.Names.Replica.{◌orelse◌}
use Rattle.mr_world.proofs.Names.Sessions.{Session, SessionFault, first_fault}
use Rattle.mr_world.proofs.Names.Model.{Event, In, is, is_issued, issue_count, item_of}
use Rattle.mr_world.proofs.Names.Laws.{Inv, any_elim, cases, counter_within, in_append, is_from, is_path, item_is_issued, not_both, or_parts}
use Rattle.mr_world.proofs.Names.Mails.{AuthorColumn, ClauseParts, Form, Mail, Name, Rev, column_of, name_eq, vector_has}
use Rattle.mr_world.proofs.Names.World.{Agrees, AreIssuedItems, AreOfIssues, HoldingsAgree, IsNormal, IsNormalBody, IsNormalWorld, IsTrueBody}
use Rattle.mr_world.proofs.Names.World.{IsTrueLine, IsTrueRevision, ListsIssued, MailMoment, Stepped, World, setting_of}
use Rattle.mr_concise.proofs.LastLemmas.{bound-is_last}
use Rattle.mr_replica.specs.Issue.{Wanted.Knowledge, Wanted.Vector}
use Rattle.mr_replica.specs.declared.event.Event.TheVariants as replica
use Rattle.mr_replica.specs.declared.refusal.Refusal.TheVariants as refusal
use Rattle.mr_session.specs.declared.fault.SessionFault.TheVariants as faults
use Rattle.mr_wire.specs.declared.frame.Frame.TheVariants as frame
use Rattle.mr_world.proofs.Moving.ByParts.{MovesAt, StepsAt}
use Rattle.mr_world.proofs.Groundwork.Tools.{find_in}
use Rattle.mr_world.proofs.Moving.Asking.{IsOfPool}
use Rattle.mr_world.proofs.Moving.ByReplica.{Mover, Mover.A_replica, Mover.No_replica, mover}

-- ---- which refusal is Forged

-- it is another refusal, or none
abbrev IsOther : Option Refusal → Type 0
IsOther o = o ≢ Some refusal.Forged

or_other : (a b : Option Refusal) → IsOther a → IsOther b → IsOther (a orelse b)
or_other a b x y = grind arith

if_other : (b : Bool) (e : Refusal) → e ≢ refusal.Forged → IsOther (refused_if b e)
if_other b e differs h = grind arith

if_not : (b : Bool) (e : Refusal) → IsFalse b → IsOther (refused_if b e)
if_not b e n = grind arith

map_other : {A : Type 0} (f : A → Refusal) (o : Option A) → ((x : A) → f x ≢ refusal.Forged) → IsOther (option_map f o)
map_other f o differs h = grind arith

session_other : (f : SessionFault) → refusal_of_session f ≢ refusal.Forged
session_other f h = grind arith

no_session_other : (session : Option Session) (sent : Sent) → IsOther (session_refusal session sent)
no_session_other session sent = grind (arith, map_other, refusal_of_session, first_fault, session_other)

module _ {K : Type 0} (form : Form K) (s : State K) where
  retired_other : IsOther (retired s)
  retired_other = if_other s.is_retired refusal.Retired (λ h. absurd (cc))

  full_other : IsOther (log_full s)
  full_other = if_other (nat_le s.event_limit (length s.log)) refusal.LogFull (λ h. absurd (cc))

  item_other : (bases : List Name) → IsOther (item_refusal s bases)
  item_other bases = grind (arith, or_other, map_other, if_other)

  -- only a record that is forged is refused so
  first_forged : (there : ReplicaEvent) → first_refusal s there ≡ Some refusal.Forged → (sent : Sent) × (there ≡ replica.Receive (frame.Record sent)) × IsTrue (is_forged s sent.body)
  first_forged there e = grind (arith, or_other, retired_other, full_other, item_other, map_other, own_left, edited_item, if_other, cases, is_forged, no_session_other, session_for, if_not, retired)

  -- no form is at fault so
  no_fault : (ws : List Wanted) → ¬ FirstFault form refusal.Forged ws
  no_fault [] h = h
  no_fault (Vector set ∷ ws) h = elim h [ inl x ↦ x | inr later ↦ no_fault ws later.1 ]
  no_fault (Knowledge pairs ∷ ws) h = elim h [ inl x ↦ x | inr later ↦ no_fault ws later.1 ]

  not_late : (there : ReplicaEvent) → ¬ RefusesLate form s there refusal.Forged
  not_late (replica.Receive received) h = no_fault (wanted_by form s (replica.Receive received)) h
  not_late there h = grind (arith, no_fault, wanted_by)

  pub steps_forged : (there : ReplicaEvent) (new : State K) → Steps form s there (Err refusal.Forged) new → (sent : Sent) × (there ≡ replica.Receive (frame.Record sent)) × IsTrue (is_forged s sent.body)
  steps_forged there new step = grind (arith, first_refusal, is_forged, first_forged, not_late)

-- ---- no record of the pool is forged

module _ {K : Type 0} (form : Form K) (filters : ℕ → List ClauseParts) (w : World K) (m : MailMoment) (inv : Inv (setting_of filters) m) (a : Agrees form filters w m) (r : ℕ) where
  hold : HoldingsAgree form m.issues filters r (m.holding r) (m.feed r) (m.is_retired r) (w.replicas r)
  hold = a.holdings r

  not_early : (v : Name) → IsTrue (is_issued m.issues v) → ¬ IsTrue (is_early (w.replicas r) v)
  not_early v issued h = grind (arith, and_parts, eqb-true, hold, issue_count, counter_within, ltb-true)

  not_early_vector : (b : List AuthorColumn) → IsNormal b → AreOfIssues m.issues (vector_has b) → ¬ IsTrue (has_early (w.replicas r) b)
  not_early_vector b normal issued h =
      let more : (w.replicas r).issued < (column_of b (w.replicas r).id).upto = ltb-true (w.replicas r).issued (column_of b (w.replicas r).id).upto h in
      let last = bound-is_last b (w.replicas r).id normal (omega arith) in
      let top : Name = record { author = (w.replicas r).id; counter = (column_of b (w.replicas r).id).upto } in
      let few : (column_of b (w.replicas r).id).upto ≤ (w.replicas r).issued =
      subst (λ (n : ℕ). (column_of b (w.replicas r).id).upto ≤ n) (ap (λ (q : ℕ). issue_count m.issues q) hold.id ∙ hold.count) (counter_within m.issues inv.core.sets.list top (issued top last.is_in)).1 in
      absurd (omega arith)

  not_early_line : (line : DescentParts) → IsNormal line.below → IsTrueLine m.issues line → ¬ IsTrue (is_early_line (w.replicas r) line)
  not_early_line line normal t h = grind (arith, or_parts, is_early, has_early, not_early, is_issued, item_is_issued, not_early_vector)

  -- a held version is held as one of its item
  not_misfiled : (x : Rev) → IsTrueRevision m.issues x → ¬ IsTrue (is_misfiled (w.replicas r) x.item x.version)
  not_misfiled x t h = go (held (w.replicas r) x.version) refl h
    where
      go : (o : Option Rev) → held (w.replicas r) x.version ≡ o → ¬ IsTrue (option_map_or (λ (y : Rev). not (name_eq y.item x.item)) o false)
      go None e misfiled = absurd (cc)
      go (Some y) e misfiled =
          let found = find_in (λ (z : Rev). is z.version x.version) ((w.replicas r).heads ++ (w.replicas r).push_outs) y e in
          let true_one : IsTrueRevision m.issues y = elim (in_append (w.replicas r).heads (w.replicas r).push_outs y found.0) [ inl i ↦ hold.heads.each y i | inr i ↦ hold.push_outs.each y i ] in
          not_both (is y.item x.item) misfiled (is_from y.item x.item (sym true_one.below.of_item ∙ (ap (item_of m.issues) (is_path y.version x.version found.1) ∙ t.below.of_item)))

  not_early_items : (items : Option (List Name)) → AreIssuedItems m.issues items → ¬ IsTrue (option_map_or (list_any (is_early (w.replicas r))) items false)
  not_early_items items issued h = grind (arith, any_elim, is_early, not_early)

  not_forged : (b : Body) → IsTrueBody m.issues b → IsNormalBody b → ListsIssued m.issues b → ¬ IsTrue (is_forged (w.replicas r) b)
  not_forged (Start mode) t normal lists h = absurd (cc)
  not_forged (Item x) t normal lists h = elim (or_parts (is_early_line (w.replicas r) (line_of x)) (is_misfiled (w.replicas r) x.item x.version) h) [
    | inl early ↦ not_early_line (line_of x) normal t.below early
    | inr misfiled ↦ not_misfiled x t misfiled
  ]
  not_forged (MoveOut line) t normal lists h = not_early_line line normal t h
  not_forged (Held vector) t normal lists h = not_early_vector vector normal t h
  not_forged (Know piece) t normal lists h = elim (or_parts (option_map_or (list_any (is_early (w.replicas r))) piece.items false) (has_early (w.replicas r) piece.vector) h) [
    | inl items ↦ not_early_items piece.items lists items
    | inr vector ↦ not_early_vector piece.vector normal t vector
  ]
  not_forged End t normal lists h = absurd (cc)

-- ---- so none is refused as forged

module _ {K : Type 0} (form : Form K) (filters : ℕ → List ClauseParts) (w : World K) (m : MailMoment) (inv : Inv (setting_of filters) m) (a : Agrees form filters w m) (normal : IsNormalWorld w)
    (lists : (sent : Sent) → In sent w.records → ListsIssued m.issues sent.body) where
  at_forged : (r : ℕ) (there : ReplicaEvent) (w' : World K) → IsOfPool w there → ¬ StepsAt form w r there (Stepped (Err refusal.Forged)) w'
  at_forged r there w' pool move =
      let h = steps_forged form (w.replicas r) there move.1 move.2 in
      let i = pool h.0 h.1 in
      not_forged form filters w m inv a r h.0.body (a.records.each h.0 i) (normal.records h.0 i) (lists h.0 i) h.2

  by_mover : (w' : World K) → ¬ Mover form w (Stepped (Err refusal.Forged)) w'
  by_mover w' (A_replica r there pool step) = at_forged r there w' pool step
  by_mover w' (No_replica replicas records none) = none (Err refusal.Forged) refl

  pub never_forged : (e : Event Mail) (w' : World K) → ¬ MovesAt form w e (Stepped (Err refusal.Forged)) w'
  never_forged e w' move = by_mover w' (mover form w e (Stepped (Err refusal.Forged)) w' move)
