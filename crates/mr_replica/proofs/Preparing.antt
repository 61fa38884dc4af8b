-- what is prepared of each event, and put in: that is one step
use Rattle.std.proofs.Common.{rules, arith, not, nat_le, ◌==◌, ◌<◌, ◌≤◌, ◌+◌, ◌^◌, ◌++◌, is_some, IsSome, ◌≡◌, Bool, true, false, ℕ, length, Option, Some, None, Result, Ok, Err, List, [], ◌∷◌, map, filter, MatchResult, refl, sym, ap, subst, ◌∙◌}
use Rattle.std.specs.Global.{Vec}
use Rattle.mr_replica.proofs.Names.{All, All-head, All-nil, Answers, AreColumnsOf, AreInVersionOrder, AreSame, Asked, AuthorColumn, Body, Changes}
use Rattle.mr_replica.proofs.Names.{DescentParts, Done, End, EndsSession, Enters, Entry, Event, Finished, FitBeforeMemory, Fits, Form, Gave, GivesNext}
use Rattle.mr_replica.proofs.Names.{Header, IsAskOf, IsChanged, IsOpeningFor, IsPrepared, IsPut, IsReceiptFor, IsRevision, IsSent, IsSound, IsToEnter, Issue}
use Rattle.mr_replica.proofs.Names.{Issued, Issues, Item, Known, MayApply, MayPut, MoveOut, Name, NoSession, NoStream, Onward, OutOfMemory, OwnAsk, Prepares}
use Rattle.mr_replica.proofs.Names.{PreparesEnd, PreparesLate, PreparesLine, Puts, Question, Record, Refusal, RefusesEnd, RefusesEnding, RefusesLate, Reply}
use Rattle.mr_replica.proofs.Names.{Rev, Sent, Session, State, Steps, Streaming, Table, TakesBody, TooManySessions, TooManyStreams, Took, Vouched, Wanted}
use Rattle.mr_replica.proofs.Names.{advanced, answer_refusal, append-nil, below_of_issue, below_told, claimed, cut_in_refusal, cut_out_refusal, cutting_in}
use Rattle.mr_replica.proofs.Names.{cutting_out, dropped, ended_in, ending, entered_in, entering, finished, first_refusal, going_on, holds, is_full}
use Rattle.mr_replica.proofs.Names.{is_unheld, issuing, learned, learning, leb-false, line_learned, line_of, log_full, logged, merged_by, moved_on}
use Rattle.mr_replica.proofs.Names.{new_session, new_stream, news_told, next_refusal, next_version, open_at, parts_seen, pull_refusal, pulling}
use Rattle.mr_replica.proofs.Names.{record_refusal, refused_if, release_refusal, released, released_in, releasing, retire_refusal, retiring, revision_for}
use Rattle.mr_replica.proofs.Names.{rises-filter, session_for, supersedes, told_by, told_in, told_line, vector_has, version_learned, version_of}
use Rattle.mr_replica.proofs.Names.{vouch_refusal, wanted_by, wanted_by_body, wanted_by_issue, wanted_by_line, with_closed, with_opened, with_pairs}
use Rattle.mr_replica.proofs.Names.{with_taken, ◌orelse◌}
use Rattle.mr_store.proofs.RevisionLemmas.{filter-passing}
use Rattle.mr_wire.specs.declared.frame.Receipt.{Receipt as ReceiptParts}
use Rattle.mr_session.specs.declared.limits.TheConstants.{MAX_OPEN}
use Rattle.mr_replica.specs.Admission.{retired}
use Rattle.mr_replica.specs.declared.event.Event.TheVariants as event
use Rattle.mr_replica.specs.declared.replica.answer.Opening.{Opening}
use Rattle.mr_replica.specs.declared.replica.contents.arrival.Arrival.{Arrival}
use Rattle.mr_replica.specs.declared.replica.take.Told.{Told}
use Rattle.mr_replica.specs.declared.replica.end.Ended.{Ended}
use Rattle.mr_replica.specs.declared.replica.parts.Change.{Change}
use Rattle.mr_replica.specs.declared.replica.parts.Parts.{Parts}
use Rattle.mr_replica.specs.declared.replica.parts.Change.TheVariants as change
use Rattle.mr_replica.specs.declared.replica.prepare.Prepared.{Prepared}
use Rattle.mr_replica.proofs.Choice.{some_same, first_none, later_none, not_refused, short_log}
use Rattle.mr_replica.proofs.Replies.{GoesOn}
use Rattle.mr_replica.proofs.Keeping.{goes_on, next_not_held, sound_issued, sound_advanced, sound_released, sound_sessions, sound_streams, sound_turned, sessions_later, streams_later, within_closed, within_opened}
use Rattle.mr_replica.proofs.Taking.{comer_new, due, sound_moved_on, sound_finished, sound_learned, sound_ended}

-- ---- what was not refused

-- what is asked for is open
is_open : {X : Type 0} (o : Option X) (e : Refusal) (first later : Option Refusal) → (first orelse refused_if (not (is_some o)) e orelse later) ≡ None → IsSome o
is_open None e first later h = cc (first_none (Some e) later (later_none first (Some e orelse later) h))
is_open (Some x) e first later h = search rules

is_there : {X : Type 0} (o : Option X) (x : X) → o ≡ Some x → IsSome o
is_there o x is = grind (arith, rules)

-- the arrival was put in, or there was no memory
pub arrival_put : {K E : Type 0} (form : Form K) (p : Parts K) (arrival : Arrival) (e : Event) (q : Parts K) (result : Result (Unit {0}) E) → MatchResult result (λ _. Enters form p arrival q) (λ _. parts_seen q ≡ parts_seen p)
    → MatchResult result (λ _. IsPut form p (change.Enter arrival) e q) (λ _. parts_seen q ≡ parts_seen p)
arrival_put form p arrival e q result h = grind arith

module _ {K : Type 0} (form : Form K) (s : State K) where
  -- ---- a step

  before_memory : (b : Bool) (ws : List Wanted) → All (Fits form) ws → FitBeforeMemory form b ws
  before_memory false ws h = h
  before_memory true [] h = tt
  before_memory true (w ∷ ws) h = All-head (Fits form) w ws h

  -- memory alone can lack where all has a value
  late_memory : (e : Event) → All (Fits form) (wanted_by form s e) → RefusesLate form s e OutOfMemory
  late_memory e h = grind (arith, before_memory)

  module _ (e : Event) where
    abbrev PreparesAt : Option Refusal → Result (Prepared K) Refusal → Type 0
    PreparesAt first answer = elim first [
      | Some r ↦ answer ≡ Err r
      | None ↦ PreparesLate form s e answer
    ]

    -- what is prepared of an event whose own refusals' cases don't hold
    pub prepares : (answer : Result (Prepared K) Refusal) → first_refusal s e ≡ None → PreparesLate form s e answer → Prepares form s e answer
    prepares answer none h = subst (λ (first : Option Refusal). PreparesAt first answer) (sym none) h

    pub late_refused : (r : Refusal) (answer : Result (Prepared K) Refusal) → answer ≡ Err r → RefusesLate form s e r → PreparesLate form s e answer
    late_refused r answer is h = subst (PreparesLate form s e) (sym is) h

    -- a refused event
    pub step_refused : (r : Refusal) (new : State K) → Prepares form s e (Err r) → new ≡ s → Steps form s e (Err r) new
    step_refused r new h same = grind arith

    module _ (p : Prepared K) (h : Prepares form s e (Ok p)) where
      admitted : (first_refusal s e ≡ None) × IsPrepared form s (wanted_by form s e) (Changes form s e) e p
      admitted = go (first_refusal s e) refl h
        where
          go : (first : Option Refusal) → first_refusal s e ≡ first → PreparesAt first (Ok p) → (first_refusal s e ≡ None) × IsPrepared form s (wanted_by form s e) (Changes form s e) e p
          go None is h = (is, h)
          go (Some r) is h = cc h

      pub may_apply : MayApply form s p.change e
      may_apply = admitted.1.may_apply

      answered : (answer : Result Reply Refusal) (new : State K) → Answers form s e answer new → Steps form s e answer new
      answered answer new h = subst (λ (first : Option Refusal). GoesOn form s e first answer new) (sym admitted.0) h

      -- there was no memory for it
      pub step_for_memory : (new : State K) → new ≡ s → Steps form s e (Err OutOfMemory) new
      step_for_memory new same = answered (Err OutOfMemory) new (late_memory e admitted.1.fits, same)

      -- what was prepared was put in
      pub step_changed : (new : State K) → IsChanged form s p.change e new → Steps form s e (Ok p.reply) new
      step_changed new (t, puts, is) = answered (Ok p.reply) new (admitted.1.fits, subst (Changes form s e p.reply) (sym is) (admitted.1.changes t puts))

  -- ---- an event that wants nothing

  -- it makes the replica this
  turns : (e : Event) (reply : Reply) (made : Change K) (t : State K) → wanted_by form s e ≡ [] → ((u : State K) → Puts form s made e u → u ≡ t) → (IsSound form s → MayPut s made e) → (IsSound form s → IsSound form (logged t e))
      → Changes form s e reply (logged t e) → first_refusal s e ≡ None → Prepares form s e (Ok (record { reply = reply; change = made }))
  turns e reply made t wants is may keeps changes none =
      prepares e (Ok (record { reply = reply; change = made })) none
      (record {
        fits = subst (All (Fits form)) (sym wants) (All-nil (Fits form));
        may_apply = λ sound. (may sound, λ u h. subst (λ (u : State K). IsSound form (logged u e)) (sym (is u h)) (keeps sound));
        changes = λ u h. subst (λ (u : State K). Changes form s e reply (logged u e)) (sym (is u h)) changes;
      })

  pub retire_prepared : retire_refusal s ≡ None → Prepares form s event.Retire (Ok (record { reply = Done; change = change.Retire }))
  retire_prepared =
      turns event.Retire Done change.Retire (retiring s) refl (λ u h. h) (λ sound. tt) (λ sound. sound_turned form s sound event.Retire true s.sessions s.streams (sessions_later form s sound event.Retire) (streams_later form s sound event.Retire)) refl

  pub cut_in_prepared : (session : ℕ) → cut_in_refusal s session ≡ None → Prepares form s (event.CutIn session) (Ok (record { reply = Done; change = change.CloseSession session }))
  cut_in_prepared session none =
      let e = event.CutIn session in
      turns e Done (change.CloseSession session) (cutting_in s session) refl (λ u h. h) (λ sound. is_open (open_at s.sessions session) NoSession (retired s) (log_full s) none)
      (λ sound. sound_sessions form s sound e (with_closed s.sessions session) (within_closed (λ session. session.next) s.log e s.sessions sound.sessions session)) refl none

  pub cut_out_prepared : (stream : ℕ) → cut_out_refusal s stream ≡ None → Prepares form s (event.CutOut stream) (Ok (record { reply = Done; change = change.CloseStream stream }))
  cut_out_prepared stream none =
      let e = event.CutOut stream in
      turns e Done (change.CloseStream stream) (cutting_out s stream) refl (λ u h. h) (λ sound. is_open (open_at s.streams stream) NoStream None (log_full s) none)
      (λ sound. sound_streams form s sound e (with_closed s.streams stream) (within_closed (λ stream. stream.next) s.log e s.streams sound.streams stream)) refl none

  -- one more may be opened
  opens : {T : Type 0} (table : Table T) (e : Refusal) (first : Option Refusal) → (first orelse refused_if (nat_le MAX_OPEN (length table.open_ones)) e orelse log_full s) ≡ None → IsSound form s → table.opened ≤ length s.log
      → (length table.open_ones < MAX_OPEN) × (table.opened + 1 < 2 ^ 64)
  opens table e first none sound opened =
      let full = refused_if (nat_le MAX_OPEN (length table.open_ones)) e in
      let later : (full orelse log_full s) ≡ None = later_none first (full orelse log_full s) none in
      (leb-false MAX_OPEN (length table.open_ones) (not_refused (nat_le MAX_OPEN (length table.open_ones)) e (first_none full (log_full s) later)), omega (arith, opened, short_log s full later, sound.limit_to))

  pub pull_prepared : (ask : Question) → IsAskOf form s ask → pull_refusal s ≡ None → Prepares form s event.Pull (Ok (record { reply = Asked ask; change = change.OpenSession }))
  pull_prepared ask is none =
      turns event.Pull (Asked ask) change.OpenSession (pulling s) refl (λ u h. h) (λ sound. opens s.sessions TooManySessions (retired s) none sound sound.sessions.opened)
      (λ sound. sound_sessions form s sound event.Pull (with_opened s.sessions new_session) (within_opened (λ session. session.next) s.log event.Pull s.sessions sound.sessions new_session refl)) (is, refl) none

  pub answer_prepared : (ask : Question) (opening : Opening) (stream : ℕ) → IsOpeningFor form s ask opening → stream ≡ s.streams.opened + 1 → answer_refusal s ask ≡ None
      → Prepares form s (event.Answer ask) (Ok (record { reply = Streaming stream; change = change.OpenStream opening }))
  answer_prepared ask opening stream is next none =
      let e = event.Answer ask in
      let opened = new_stream opening.asked opening.mode opening.know.items in
      turns e (Streaming stream) (change.OpenStream opening) (record s { streams = with_opened s.streams opened }) refl (λ u h. h) (λ sound. opens s.streams TooManyStreams (refused_if (ask.target == s.id) OwnAsk) none sound sound.streams.opened)
      (λ sound. sound_streams form s sound e (with_opened s.streams opened) (within_opened (λ stream. stream.next) s.log e s.streams sound.streams opened refl)) (next, opening.know.items, is.keeps, rw (is.asked, is.mode) refl) none

  pub next_prepared : (stream : ℕ) (sent : Sent) (onward : Onward) → GivesNext s stream sent (going_on s stream onward) → next_refusal s stream ≡ None
      → Prepares form s (event.Next stream) (Ok (record { reply = Gave sent; change = change.GoOn stream onward }))
  next_prepared stream sent onward gives none =
      turns (event.Next stream) (Gave sent) (change.GoOn stream onward) (record s { streams = advanced stream onward s.streams }) refl (λ u h. h)
      (λ sound. (is_open (open_at s.streams stream) NoStream None (log_full s) none, goes_on form s sound stream none)) (λ sound. sound_advanced form s sound (event.Next stream) stream onward) gives none

  pub vouch_prepared : (version : Name) (receipt : ReceiptParts) → IsReceiptFor s version receipt → vouch_refusal s version ≡ None → Prepares form s (event.Vouch version) (Ok (record { reply = Vouched receipt; change = change.Note }))
  vouch_prepared version receipt is =
      turns (event.Vouch version) (Vouched receipt) change.Note s refl (λ u h. h) (λ sound. tt) (λ sound. sound_sessions form s sound (event.Vouch version) s.sessions (sessions_later form s sound (event.Vouch version))) (is, refl)

  pub release_prepared : (entries : Vec Entry) (receipt : ReceiptParts) → entries.items ≡ map dropped (released s receipt) → release_refusal s receipt ≡ None
      → Prepares form s (event.Release receipt) (Ok (record { reply = Done; change = change.Release entries }))
  release_prepared entries receipt tell =
      let told : entries.items ≡ map dropped (released s receipt) ++ [] = tell ∙ sym (append-nil (map dropped (released s receipt))) in
      let gone : released_in s entries.items receipt ≡ releasing s receipt = rw told refl in
      turns (event.Release receipt) Done (change.Release entries) (releasing s receipt) refl (λ u h. h ∙ gone) (λ sound. tt) (λ sound. sound_released form s sound (event.Release receipt) receipt) refl

  -- ---- what is issued

  module _ (i : Issue) (e : Event) (v : Name) (next : v ≡ next_version s) (columns : List AuthorColumn) (of : AreColumnsOf (below_of_issue s i) columns) (arrival : Arrival) (is : arrival.revision ≡ revision_for s i columns) (to : IsToEnter form s arrival) where
    -- the replica once the arrival has entered
    enters : (t : State K) → Puts form s (change.Enter arrival) e t → AreSame (form.known t.knowledge) (version_learned form s arrival.revision.item) × (t ≡ issuing s t.knowledge arrival.revision)
    enters t h =
        let entered : entered_in s arrival t.knowledge ≡ issuing s t.knowledge arrival.revision = rw (to.entries, to.push_out_entries, to.last, to.selected) refl in
        (λ a b. h.0 a b ∙ ap (λ (n : Name). learned form s.knowledge arrival.revision.item n a b) to.next.version, h.1 ∙ entered)

    -- it is what the reply stands for
    pub issue_prepared : (Becomes : Reply → State K → Type 0) → ((new : State K) → Issues form s i v e new → Becomes (Issued v) new) → All (Fits form) (wanted_by_issue form s i)
        → IsPrepared form s (wanted_by_issue form s i) Becomes e (record { reply = Issued v; change = change.Enter arrival })
    issue_prepared Becomes becomes fits = record {
      fits = fits;
      may_apply = λ sound. (
        (omega (arith, sound.issued_few, to.room, sound.limit_to), next_not_held form s sound arrival.revision.version to.next.version),
        λ t h. let j = enters t h in subst (λ (u : State K). IsSound form (logged u e)) (sym j.1) (sound_issued form s sound e t.knowledge arrival.revision to.next j.0),
      );
      changes = λ t h.
          let j = subst (λ (r : Rev). AreSame (form.known t.knowledge) (version_learned form s r.item) × (t ≡ issuing s t.knowledge r)) is (enters t h) in
          becomes (logged t e) (next, columns, of, j.0, ap (λ (u : State K). logged u e) j.1);
    }

  -- ---- a record

  module _ (sent : Sent) (kept : IsSent sent.header sent.body) (taken : record_refusal s sent ≡ None) where
    abbrev took : Event
    took = event.Receive (Record sent)

    -- it is taken, and teaches nothing
    takes : MayApply form s change.Take took
    takes = λ sound. (due form s sent sound kept taken, λ t h. subst (λ (u : State K). IsSound form (logged u took)) (sym h) (sound_moved_on form s sent sound kept taken))

    pub take_prepared : wanted_by_body form s sent sent.body ≡ [] → TakesBody form s sent sent.body Took (moved_on s sent) → PreparesLate form s took (Ok (record { reply = Took; change = change.Take }))
    take_prepared wants is = record {
      fits = subst (All (Fits form)) (sym wants) (All-nil (Fits form));
      may_apply = takes;
      changes = λ t h. subst (λ (u : State K). TakesBody form s sent sent.body Took (logged u took)) (sym h) is;
    }

    -- it tells of a version
    pub known_prepared : (line : DescentParts) (comer : Option Rev) → form.known s.knowledge line.item line.version ≡ true → PreparesLine form s sent line comer (Ok (record { reply = Known; change = change.Take }))
    known_prepared line comer known = record { fits = rw known (All-nil (Fits form)); may_apply = takes; changes = λ t h. (known, ap (λ (u : State K). logged u took) h) }

    module _ (item version : Name) (told : Told) (tells : told_line sent.body ≡ Some (told_by item version sent.body)) (is : IsRevision item version (below_told sent.body)) (unknown : form.known s.knowledge item version ≡ false) (comer : told.comer ≡ entering s sent.body)
        (entries : told.entries.items ≡ news_told (told_by item version sent.body) told.comer s.heads) (push_out_entries : told.push_out_entries.items ≡ map dropped (filter (supersedes item (vector_has (below_told sent.body))) s.push_outs)) where
      learns : (t : State K) → Puts form s (change.Learn item version told) took t
          → AreSame (form.known t.knowledge) (line_learned form s (told_by item version sent.body)) × (logged t took ≡ moved_on (learning s t.knowledge (told_by item version sent.body) told.comer) sent)
      learns t h =
          let gone = filter (supersedes item (vector_has (below_told sent.body))) s.push_outs in
          let pushed : told.push_out_entries.items ≡ map dropped gone ++ [] = push_out_entries ∙ sym (append-nil (map dropped gone)) in
          let learned : told_in s item told sent t.knowledge ≡ record (learning s t.knowledge (told_by item version sent.body) told.comer) { sessions = with_taken sent s.sessions } = rw (entries, pushed) refl in
          (h.0, ap (λ (u : State K). logged u took) (h.1 ∙ learned))

      pub told_prepared : All (Fits form) (wanted_by_line form s (told_by item version sent.body)) → PreparesLine form s sent (told_by item version sent.body) (entering s sent.body) (Ok (record { reply = Took; change = change.Learn item version told }))
      told_prepared fits = record {
        fits = fits;
        may_apply = λ sound. (
          record { due = due form s sent sound kept taken; line = tells; new = comer_new form s sent sound kept taken item version tells is unknown told.comer comer },
          λ t h. let one = learns t h in subst (IsSound form) (sym one.1) (sound_learned form s sent sound kept taken item version tells is unknown told.comer comer t.knowledge one.0),
        );
        changes = λ t h.
            let one = learns t h in
            (unknown, one.0, subst (λ (o : Option Rev). logged t took ≡ moved_on (learning s t.knowledge (told_by item version sent.body) o) sent) comer one.1);
      }

    -- it is the End of a partial stream
    pub partial_prepared : (session : Session) (number : ℕ) → number ≡ sent.header.session → session_for s sent ≡ Some session → is_full session.origin ≡ false → PreparesEnd form s sent (session_for s sent) (Ok (record { reply = Finished; change = change.CloseSession number }))
    partial_prepared session number is found partial =
        let ends : logged (record s { sessions = with_closed s.sessions number }) took ≡ finished s sent = ap (λ n. logged (record s { sessions = with_closed s.sessions n }) took) is in
        record {
          fits = rw (found, partial) (All-nil (Fits form));
          may_apply = λ sound. (
            is_there (open_at s.sessions number) session (ap (open_at s.sessions) is ∙ found),
            λ t h. subst (IsSound form) (sym (ap (λ (u : State K). logged u took) h ∙ ends)) (sound_finished form s sent sound kept taken),
          );
          changes = λ t h. (refl, rw (found, partial) (ap (λ (u : State K). logged u took) h ∙ ends));
        }

    -- or of a full one
    pub full_prepared : (ended : Ended K) (session : Session) → ended.session ≡ sent.header.session → session_for s sent ≡ Some session → is_full session.origin ≡ true → AreSame (form.known ended.knowledge) (with_pairs (form.known s.knowledge) (claimed session.know))
        → ended.left.items ≡ filter (is_unheld session) s.heads → ended.entries.items ≡ map dropped (filter (is_unheld session) s.heads) → AreInVersionOrder s.heads → All (Fits form) (merged_by (form.known s.knowledge) session.know)
        → PreparesEnd form s sent (session_for s sent) (Ok (record { reply = Finished; change = change.End ended }))
    full_prepared ended session number found full known left entries order fits =
        let unheld = filter (is_unheld session) s.heads in
        let stays = ap (λ (rs : List Rev). filter (λ r. not (holds rs r.version)) s.heads) left ∙ filter-passing (is_unheld session) s.heads order in
        let told : ended.entries.items ≡ map dropped unheld ++ [] = entries ∙ sym (append-nil (map dropped unheld)) in
        let ends : logged (ended_in s ended) took ≡ finished (ending s ended.knowledge session) sent = rw (stays, told, number) refl in
        record {
          fits = rw (found, full) fits;
          may_apply = λ sound. (
            (is_there (open_at s.sessions ended.session) session (ap (open_at s.sessions) number ∙ found), subst AreInVersionOrder (sym left) (rises-filter version_of (is_unheld session) s.heads order)),
            λ t h. subst (IsSound form) (sym (ap (λ (u : State K). logged u took) h ∙ ends)) (sound_ended form s sent sound kept taken ended.knowledge session known),
          );
          changes = λ t h. (refl, subst (λ (u : State K). EndsSession form s sent (session_for s sent) (logged u took)) (sym h) (rw (found, full) (known, ends)));
        }

  -- why a full one is not taken
  pub end_refused : (session : Session) → is_full session.origin ≡ true → (e : Refusal) → RefusesEnding form (merged_by (form.known s.knowledge) session.know) e → RefusesEnd form s (Some session) e
  end_refused session full OutOfMemory h = rw full h
  end_refused session full e h = grind arith

  -- what is prepared of what a record tells is prepared of the event
  module _ (header : Header) where
    abbrev sent_of : Body → Sent
    sent_of body = record { header = header; body = body }

    item_prepares : (r : Rev) (answer : Result (Prepared K) Refusal) → PreparesLine form s (sent_of (Item r)) (line_of r) (entering s (Item r)) answer → PreparesLate form s (event.Receive (Record (sent_of (Item r)))) answer
    item_prepares r answer h = grind arith

    move_out_prepares : (line : DescentParts) (answer : Result (Prepared K) Refusal) → PreparesLine form s (sent_of (MoveOut line)) line (entering s (MoveOut line)) answer → PreparesLate form s (event.Receive (Record (sent_of (MoveOut line)))) answer
    move_out_prepares line answer h = grind arith

    pub line_prepares : (body : Body) (line : DescentParts) → told_line body ≡ Some line → (answer : Result (Prepared K) Refusal) → PreparesLine form s (sent_of body) line (entering s body) answer → PreparesLate form s (event.Receive (Record (sent_of body))) answer
    line_prepares body line told answer h = grind (arith, item_prepares, some_same, move_out_prepares)

    end_prepares : (answer : Result (Prepared K) Refusal) → PreparesEnd form s (sent_of End) (session_for s (sent_of End)) answer → PreparesLate form s (event.Receive (Record (sent_of End))) answer
    end_prepares (Ok p) h = record {
      fits = h.fits;
      may_apply = h.may_apply;
      changes = λ t puts.
          let is = h.changes t puts in
          subst (λ (r : Reply). Changes form s (event.Receive (Record (sent_of End))) r (logged t (event.Receive (Record (sent_of End))))) (sym is.0) is.1;
    }
    end_prepares (Err OutOfMemory) h = h
    end_prepares (Err e) h = h

    pub body_end_prepares : (body : Body) → body ≡ End → (answer : Result (Prepared K) Refusal) → PreparesEnd form s (sent_of body) (session_for s (sent_of body)) answer → PreparesLate form s (event.Receive (Record (sent_of body))) answer
    body_end_prepares body is answer = grind (arith, end_prepares)
