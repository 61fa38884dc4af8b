-- what a replica keeps as it takes a record
use Rattle.std.proofs.Common.{rules, ◌≡◌, ◌≤◌, ◌<◌, ◌==◌, nat_lt, ℕ, Bool, true, false, not, ◌&&◌, ◌||◌, if◌then◌else◌, refl, sym, ap, subst, ◌∙◌, arith, [], ◌∷◌, ◌++◌, length, Option, Some, None, IfSome, inl, inr, eq-eqb}
use Rattle.mr_replica.proofs.Names.{All-weaker, AreNoLater, AreSame, AreWithin, Body, DescentParts, Event, Forged, Form, IfSome_then, IsDueIn, IsIndexOf}
use Rattle.mr_replica.proofs.Names.{IsKept, IsRevision, IsSent, IsSound, Name, NotForMe, Receive, Record, Rev, Sent, Session, State, after_record, below_told}
use Rattle.mr_replica.proofs.Names.{cases_Bool, claimed, column_has-above, column_of, ending, entering, finished, first_fault, has_early, is_early, is_forged}
use Rattle.mr_replica.proofs.Names.{is_misfiled, is_start, is_unheld, learned_with_itself, learned_with_keeps, learning, length_push, line_learned, line_of}
use Rattle.mr_replica.proofs.Names.{log_full, ltb-false, ltb-true, moved_on, or_parts, or_right, record_refusal, refusal_of_session, refused_if, revision_of}
use Rattle.mr_replica.proofs.Names.{revision_of-neither, session_for, session_refusal, supersedes, told_by, told_line, vector_has, with_closed, with_pairs}
use Rattle.mr_replica.proofs.Names.{with_taken}
use Rattle.mr_concise.specs.Column.{column_has}
use Rattle.mr_session.specs.declared.fault.SessionFault.TheVariants as faults
use Rattle.mr_session.specs.declared.origin.Origin.{Origin}
use Rattle.mr_replica.specs.State.{held}
use Rattle.mr_replica.proofs.Choice.{all_none, at_has, each_some, map_none, not_refused, short_log}
use Rattle.mr_replica.proofs.Keeping.{held_on, not_held_yet, sound_on, sound_sessions, streams_later, within_changed, within_closed}
use Rattle.mr_replica.proofs.Told.{told_parts}

-- ---- the next index

-- of three tests, none comes first
third_fails : {A : Type 0} (a b c : Bool) (x y z : A) → (if a then Some x else (if b then Some y else (if c then Some z else None))) ≡ None → c ≡ false
third_fails a b c x y z h = grind arith

-- a first record has the index 0
start_index : (body : Body) (index : ℕ) → IsIndexOf body index → (if is_start body then None else Some faults.NotStart) ≡ None → index ≡ 0
start_index body index is h = grind arith

-- a record that a session takes is no later than its next
index_of_next : (origin : Option Origin) (next : ℕ) (sent : Sent) → IsIndexOf sent.body sent.header.index → first_fault origin next sent ≡ None → sent.header.index ≤ next
index_of_next origin next sent is h = grind (arith, start_index, ltb-false, third_fails)

-- what takes a record is open
takes : (o : Option Session) (sent : Sent) → session_refusal o sent ≡ None → (x : Session) × (o ≡ Some x) × (first_fault x.origin x.next sent ≡ None)
takes None sent h = cc
takes (Some x) sent h = (x, refl, map_none refusal_of_session (first_fault x.origin x.next sent) h)

own_late : (own late : Bool) → own ≡ true → (own && late) ≡ false → late ≡ false
own_late own late is h = grind arith

module _ {K : Type 0} (form : Form K) (s : State K) (sent : Sent) (sound : IsSound form s) (kept : IsSent sent.header sent.body) (taken : record_refusal s sent ≡ None) where
  -- no part of what refuses a record does
  none_refuses : (session_refusal (session_for s sent) sent ≡ None) × (refused_if (is_forged s sent.body) Forged ≡ None) × (log_full s ≡ None)
  none_refuses = all_none (refused_if (not (sent.header.target == s.id)) NotForMe) (session_refusal (session_for s sent) sent) (refused_if (is_forged s sent.body) Forged) (log_full s) taken

  sure : is_forged s sent.body ≡ false
  sure = not_refused (is_forged s sent.body) Forged none_refuses.1

  -- a record that is taken has an index below the number of events
  index_within : sent.header.index ≤ length s.log
  index_within =
      let taker = takes (session_for s sent) sent none_refuses.0 in
      let few : taker.0.next ≤ length s.log = at_has (λ (session : Session). session.next ≤ length s.log) sent.header.session taker.0 s.sessions.open_ones sound.sessions.next_few taker.1 in
      omega (arith, few, index_of_next taker.0.origin taker.0.next sent kept.index_is taker.2)

  -- so its session may take it
  pub due : IsDueIn s.sessions sent
  due =
      let taker = takes (session_for s sent) sent none_refuses.0 in
      record { is_open = rw taker.1 (search rules); admitted = rw taker.1 taker.2; goes_on = omega (arith, index_within, short_log s None none_refuses.2, sound.limit_to) }

  abbrev took : Event
  took = Receive (Record sent)

  -- the table of sessions once one has taken the record
  within_taken : AreWithin (λ session. session.next) (length (s.log ++ took ∷ [])) (with_taken sent s.sessions)
  within_taken = within_changed (λ session. session.next) s.log took s.sessions sound.sessions sent.header.session (after_record sent) (λ session. omega (arith, index_within, length_push s.log took))

  pub sound_moved_on : IsSound form (moved_on s sent)
  sound_moved_on = sound_sessions form s sound took (with_taken sent s.sessions) within_taken

  pub sound_finished : IsSound form (finished s sent)
  sound_finished = sound_sessions form s sound took (with_closed s.sessions sent.header.session) (within_closed (λ session. session.next) s.log took s.sessions sound.sessions sent.header.session)

  -- ---- a version that is told

  module _ (item version : Name) (told : told_line sent.body ≡ Some (told_by item version sent.body)) (is : IsRevision item version (below_told sent.body)) (unknown : form.known s.knowledge item version ≡ false) where
    abbrev line : DescentParts
    line = told_by item version sent.body

    -- it was issued before, where it is an own one
    line_no_later : AreNoLater s.id s.issued version line.below
    line_no_later =
        let parts = or_parts (is_early s item) (is_early s version || has_early s line.below) (told_parts s sent.body line told sure).0 in
        let later = or_parts (is_early s version) (has_early s line.below) parts.1 in
        record {
          itself = λ own. ltb-false s.issued version.counter (own_late (version.author == s.id) (nat_lt s.issued version.counter) (eq-eqb version.author s.id own) later.0);
          all_below = λ v in' own.
              elim (cases_Bool (nat_lt s.issued v.counter)) [
                | inl above ↦
                    let low : (column_of line.below s.id).upto ≤ s.issued = ltb-false s.issued (column_of line.below s.id).upto later.1 in
                    let high : (column_of line.below s.id).upto < v.counter = omega (arith, low, ltb-true s.issued v.counter above) in
                    absurd (cc (sym in' ∙ ap (λ a. column_has (column_of line.below a) v.counter) own ∙ column_has-above (column_of line.below s.id) v.counter high))
                | inr here ↦ ltb-false s.issued v.counter here
              ];
        }

    module _ (comer : Option Rev) (comes : comer ≡ entering s sent.body) where
      comer_is : (r : Rev) → comer ≡ Some r → (line_of r ≡ line) × (is_misfiled s r.item r.version ≡ false)
      comer_is r is_it = (told_parts s sent.body line told sure).1 r (sym comes ∙ is_it)

      -- the one that comes is not held yet
      pub comer_new : IfSome comer (λ r. held s r.version ≡ None)
      comer_new =
          each_some comer (λ r is_it.
          let one = comer_is r is_it in
          not_held_yet form s sound r.item r.version (ap (λ (l : DescentParts). form.known s.knowledge l.item l.version) one.0 ∙ unknown) one.1)

      module _ (k : K) (known : AreSame (form.known k) (line_learned form s line)) where
        abbrev Now : Rev → Type 0
        Now = IsKept (form.known k) s.id s.issued

        -- what was kept is kept still, and the one that comes too
        told_still : (r : Rev) → IsKept (form.known s.knowledge) s.id s.issued r → Now r
        told_still r was = record {
          is = was.is;
          no_later = was.no_later;
          known = known r.item r.version ∙ learned_with_keeps form s.knowledge item version (vector_has line.below) r.item r.version was.known;
        }

        comer_kept : IfSome comer Now
        comer_kept =
            each_some comer (λ r is_it.
            let as_line = sym (comer_is r is_it).0 in
            record {
              is = subst (λ (l : DescentParts). IsRevision l.item l.version l.below) as_line is;
              no_later = subst (λ (l : DescentParts). AreNoLater s.id s.issued l.version l.below) as_line line_no_later;
              known = subst (λ (l : DescentParts). form.known k l.item l.version ≡ true) as_line (known item version ∙ learned_with_itself form s.knowledge item version (vector_has line.below));
            })

        pub sound_learned : IsSound form (moved_on (learning s k line comer) sent)
        sound_learned =
            let gone = supersedes item (vector_has line.below) in
            let new : IfSome comer (λ r. revision_of s.heads r.version ≡ None) = IfSome_then comer comer_new (λ r none. (revision_of-neither s.heads s.push_outs r.version none).first) in
            sound_on form s sound took (record (learning s k line comer) { sessions = with_taken sent s.sessions }) (omega arith) (held_on told_still gone comer s.heads s.feed comer_kept new sound.heads)
            (held_on told_still gone None s.push_outs s.push_out_feed tt tt sound.push_outs) (All-weaker (IsKept (form.known s.knowledge) s.id s.issued) Now told_still s.trail sound.trail) within_taken (streams_later form s sound took)

  -- ---- the End of a full session

  pub sound_ended : (k : K) (session : Session) → AreSame (form.known k) (with_pairs (form.known s.knowledge) (claimed session.know)) → IsSound form (finished (ending s k session) sent)
  sound_ended k session known =
      let Was : Rev → Type 0 = IsKept (form.known s.knowledge) s.id s.issued in
      let Now : Rev → Type 0 = IsKept (form.known k) s.id s.issued in
      let still : (r : Rev) → Was r → Now r = λ r was.
      record {
        is = was.is;
        no_later = was.no_later;
        known = known r.item r.version ∙ or_right (claimed session.know r.item r.version) (form.known s.knowledge r.item r.version) was.known;
      } in
      sound_on form s sound took (record (ending s k session) { sessions = with_closed s.sessions sent.header.session }) (omega arith) (held_on still (is_unheld session) None s.heads s.feed tt tt sound.heads)
      (record { in_order = sound.push_outs.in_order; each = All-weaker Was Now still s.push_outs sound.push_outs.each; fold = sound.push_outs.fold }) (All-weaker Was Now still s.trail sound.trail)
      sound_finished.sessions (streams_later form s sound took)
