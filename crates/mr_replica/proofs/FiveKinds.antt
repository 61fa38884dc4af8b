-- What an admitted event changes: one of five kinds of change of what is known and held, and a turn each of the sessions and the streams.
use Rattle.std.proofs.Common.{◌≡◌, ◌≢◌, ◌⊎◌, refl, sym, ap, subst, append-nil, ℕ, Bool, true, false, List, Option, Some, None, inl, inr, arith}
use Rattle.mr_replica.proofs.Names.{Answer, AreColumnsOf, AreSame, AuthorColumn, Body, Changes, Create, CutIn, CutOut, DescentParts, Edit, Ends, EndsSession}
use Rattle.mr_replica.proofs.Names.{Event, FeedGrows, Form, Frame, GivesIn, Issue, Issues, Keeps, Name, Next, Piece, Pull, PushOutFeedGrows, Question}
use Rattle.mr_replica.proofs.Names.{Receipt, Receive, Release, Reply, Retire, Rev, Sent, Session, State, Stream, Table, TakesBody, TakesFrame, TakesLine}
use Rattle.mr_replica.proofs.Names.{Vouch, asked_of, below_of_issue, claimed, created, edited, ending, entering, held_now, is_full, issuing, learning}
use Rattle.mr_replica.proofs.Names.{line_learned, line_of, logged, mode_for, new_session, new_stream, releasing, revision_for, session_for, told_line}
use Rattle.mr_replica.proofs.Names.{version_learned, with_closed, with_opened, with_pairs, with_taken}
use Rattle.mr_wire.specs.declared.frame.Body.TheVariants as body
use Rattle.mr_wire.specs.declared.frame.Frame.TheVariants as frame
use Rattle.mr_replica.specs.declared.event.Reply.TheVariants as reply

module _ {K : Type 0} (form : Form K) (s : State K) where
  -- ---- the kinds

  -- what the replica has become, but for its log, its sessions and its streams: it issued a version, learned one that a record tells,
  -- took a full stream's End, let go of push-outs, or it knows and holds what it did
  pub data Kind (event : Event) (to : State K) : Type 0 where
    Issuing : (i : Issue) → (columns : List AuthorColumn) → AreColumnsOf (below_of_issue s i) columns → AreSame (form.known to.knowledge) (version_learned form s i.item) → to ≡ issuing s to.knowledge (revision_for s i columns) → Kind event to
    Learning : (sent : Sent) → event ≡ Receive (frame.Record sent) → (line : DescentParts) → told_line sent.body ≡ Some line → AreSame (form.known to.knowledge) (line_learned form s line) → to ≡ learning s to.knowledge line (entering s sent.body) → Kind event to
    Ending : (sent : Sent) → (session : Session) → session_for s sent ≡ Some session → AreSame (form.known to.knowledge) (with_pairs (form.known s.knowledge) (claimed session.know)) → to ≡ ending s to.knowledge session → Kind event to
    Releasing : (receipt : Receipt) → to ≡ releasing s receipt → Kind event to
    Staying : (retired : Bool) → to ≡ record s { is_retired = retired } → Kind event to

  -- what its sessions have become: one was opened, has taken the record, or is closed
  pub data SessionsTurn (event : Event) (sessions : Table Session) : Type 0 where
    Same_sessions : sessions ≡ s.sessions → SessionsTurn event sessions
    Opened_session : sessions ≡ with_opened s.sessions new_session → SessionsTurn event sessions
    Took_record : (sent : Sent) → event ≡ Receive (frame.Record sent) → sessions ≡ with_taken sent s.sessions → SessionsTurn event sessions
    Closed_session : (number : ℕ) → sessions ≡ with_closed s.sessions number → SessionsTurn event sessions

  -- what its streams have become: one was opened, gave a record, or is closed
  pub data StreamsTurn (streams : Table Stream) : Type 0 where
    Same_streams : streams ≡ s.streams → StreamsTurn streams
    Opened_stream : (ask : Question) → (know : List Piece) → Keeps form (mode_for s ask) s.knowledge know → streams ≡ with_opened s.streams (new_stream (asked_of ask) (mode_for s ask) know) → StreamsTurn streams
    Gave_record : (number : ℕ) → (sent : Sent) → GivesIn s.id number s.streams (held_now s) sent streams → StreamsTurn streams
    Closed_stream : (number : ℕ) → streams ≡ with_closed s.streams number → StreamsTurn streams

  -- the change of an event with this reply, by its kind and its turns: only a stream gives a record
  pub record Made (event : Event) (told : Reply) (new : State K) : Type 0 where
    pub to : State K
    pub kind : Kind event to
    pub sessions : SessionsTurn event new.sessions
    pub streams : StreamsTurn new.streams
    pub is : new ≡ logged (record to { sessions = new.sessions; streams = new.streams }) event
    pub retired : (event ≡ Retire) ⊎ (new.is_retired ≡ s.is_retired)
    pub gives : (sent : Sent) → told ≡ reply.Gave sent → (number : ℕ) × GivesIn s.id number s.streams (held_now s) sent new.streams

  -- ---- the kind of each event's change

  -- a change of this kind, with these turns, by an event that gives no record
  made : (event : Event) (told : Reply) (new to : State K) (sessions : Table Session) (streams : Table Stream) → ((sent : Sent) → told ≢ reply.Gave sent) → (event ≡ Retire) ⊎ (to.is_retired ≡ s.is_retired) → Kind event to → SessionsTurn event sessions
      → StreamsTurn streams → new ≡ logged (record to { sessions = sessions; streams = streams }) event → Made event told new
  made event told new to sessions streams none retired kind in_turn out_turn is =
      subst (Made event told) (sym is) (record { to = to; kind = kind; sessions = in_turn; streams = out_turn; is = refl; retired = retired; gives = λ sent e. absurd (none sent e) })

  issue_made : (i : Issue) (v : Name) (event : Event) (new : State K) → Issues form s i v event new → Made event (reply.Issued v) new
  issue_made i v event new h =
      made event (reply.Issued v) new (issuing s new.knowledge (revision_for s i h.1)) s.sessions s.streams (λ sent e. absurd (cc)) (inr refl) (Issuing i h.1 h.2 h.3 refl) (Same_sessions refl) (Same_streams refl) h.4

  line_made : (sent : Sent) (line : DescentParts) → told_line sent.body ≡ Some line → (comer : Option Rev) → entering s sent.body ≡ comer → (told : Reply) (new : State K) → TakesLine form s sent line comer told new → Made (Receive (frame.Record sent)) told new
  line_made sent line tells comer comes reply.Known new h =
      made (Receive (frame.Record sent)) reply.Known new s (with_taken sent s.sessions) s.streams (λ sent e. absurd (cc)) (inr refl) (Staying s.is_retired refl) (Took_record sent refl refl) (Same_streams refl) h.1
  line_made sent line tells comer comes reply.Took new h =
      made (Receive (frame.Record sent)) reply.Took new (learning s new.knowledge line comer) (with_taken sent s.sessions) s.streams (λ sent e. absurd (cc)) (inr refl)
      (Learning sent refl line tells h.1 (ap (λ (o : Option Rev). learning s new.knowledge line o) (sym comes))) (Took_record sent refl refl) (Same_streams refl) h.2
  line_made sent line tells comer comes told new h = absurd h

  end_made : (sent : Sent) (session : Session) → session_for s sent ≡ Some session → (full : Bool) (new : State K) → Ends form s sent session full new → Made (Receive (frame.Record sent)) reply.Finished new
  end_made sent session found true new h =
      made (Receive (frame.Record sent)) reply.Finished new (ending s new.knowledge session) (with_closed s.sessions sent.header.session) s.streams (λ sent e. absurd (cc)) (inr refl)
      (Ending sent session found h.0 refl) (Closed_session sent.header.session refl) (Same_streams refl) h.1
  end_made sent session found false new h =
      made (Receive (frame.Record sent)) reply.Finished new s (with_closed s.sessions sent.header.session) s.streams (λ sent e. absurd (cc)) (inr refl) (Staying s.is_retired refl) (Closed_session sent.header.session refl) (Same_streams refl) h

  session_made : (sent : Sent) (session : Option Session) → session_for s sent ≡ session → (new : State K) → EndsSession form s sent session new → Made (Receive (frame.Record sent)) reply.Finished new
  session_made sent None found new h = absurd h
  session_made sent (Some session) found new h = end_made sent session found (is_full session.origin) new h

  body_made : (sent : Sent) (b : Body) → sent.body ≡ b → (told : Reply) (new : State K) → TakesBody form s sent b told new → Made (Receive (frame.Record sent)) told new
  body_made sent (body.Item r) e told new h = line_made sent (line_of r) (ap told_line e) (entering s (body.Item r)) (ap (entering s) e) told new h
  body_made sent (body.MoveOut line) e told new h = line_made sent line (ap told_line e) None (ap (entering s) e) told new h
  body_made sent body.End e reply.Finished new h = session_made sent (session_for s sent) refl new h
  body_made sent body.End e told new h = absurd h
  body_made sent b e reply.Took new h = made (Receive (frame.Record sent)) reply.Took new s (with_taken sent s.sessions) s.streams (λ sent e. absurd (cc)) (inr refl) (Staying s.is_retired refl) (Took_record sent refl refl) (Same_streams refl) h
  body_made sent b e told new h = absurd h

  frame_made : (f : Frame) (told : Reply) (new : State K) → TakesFrame form s f told new → Made (Receive f) told new
  frame_made (frame.Record sent) told new h = body_made sent sent.body refl told new h
  frame_made f told new h = grind (arith, body_made)

  -- what the change of each event is
  pub change_made : (event : Event) (told : Reply) (new : State K) → Changes form s event told new → Made event told new
  change_made (Create message) (reply.Issued v) new h = issue_made (created s message) v (Create message) new h
  change_made (Edit bases message) (reply.Issued v) new h = issue_made (edited s bases message) v (Edit bases message) new h
  change_made (Receive f) told new h = frame_made f told new h
  change_made (Release receipt) reply.Done new h = made (Release receipt) reply.Done new (releasing s receipt) s.sessions s.streams (λ sent e. absurd (cc)) (inr refl) (Releasing receipt refl) (Same_sessions refl) (Same_streams refl) h
  change_made Retire reply.Done new h = made Retire reply.Done new (record s { is_retired = true }) s.sessions s.streams (λ sent e. absurd (cc)) (inl refl) (Staying true refl) (Same_sessions refl) (Same_streams refl) h
  change_made (Vouch version) (reply.Vouched receipt) new h = made (Vouch version) (reply.Vouched receipt) new s s.sessions s.streams (λ sent e. absurd (cc)) (inr refl) (Staying s.is_retired refl) (Same_sessions refl) (Same_streams refl) h.1
  change_made Pull (reply.Asked ask) new h = made Pull (reply.Asked ask) new s (with_opened s.sessions new_session) s.streams (λ sent e. absurd (cc)) (inr refl) (Staying s.is_retired refl) (Opened_session refl) (Same_streams refl) h.1
  change_made (CutIn session) reply.Done new h = made (CutIn session) reply.Done new s (with_closed s.sessions session) s.streams (λ sent e. absurd (cc)) (inr refl) (Staying s.is_retired refl) (Closed_session session refl) (Same_streams refl) h
  change_made (CutOut stream) reply.Done new h = made (CutOut stream) reply.Done new s s.sessions (with_closed s.streams stream) (λ sent e. absurd (cc)) (inr refl) (Staying s.is_retired refl) (Same_sessions refl) (Closed_stream stream refl) h
  change_made (Answer ask) (reply.Streaming stream) new h =
      made (Answer ask) (reply.Streaming stream) new s s.sessions (with_opened s.streams (new_stream (asked_of ask) (mode_for s ask) h.1)) (λ sent e. absurd (cc)) (inr refl) (Staying s.is_retired refl) (Same_sessions refl) (Opened_stream ask h.1 h.2 refl) h.3
  change_made (Next stream) (reply.Gave sent) new h = subst (Made (Next stream) (reply.Gave sent)) (sym h.2) (record {
    to = s;
    kind = Staying s.is_retired refl;
    sessions = Same_sessions refl;
    streams = Gave_record stream sent h.1;
    is = refl;
    retired = inr refl;
    gives = λ other e. (let same : sent ≡ other = cc in (stream, subst (λ (x : Sent). GivesIn s.id stream s.streams (held_now s) x h.0) same h.1));
  })
  change_made event told new h = absurd h

  -- ---- what each kind leaves, and tells

  -- id, filter, limit and log stay, and the feeds grow
  pub record Leaves (to : State K) : Type 0 where
    pub id : to.id ≡ s.id
    pub filter : to.filter ≡ s.filter
    pub event_limit : to.event_limit ≡ s.event_limit
    pub log : to.log ≡ s.log
    pub feed : FeedGrows s to
    pub push_out_feed : PushOutFeedGrows s to

  leaves_as : (to made : State K) → to ≡ made → made.id ≡ s.id → made.filter ≡ s.filter → made.event_limit ≡ s.event_limit → made.log ≡ s.log → FeedGrows s made → PushOutFeedGrows s made → Leaves to
  leaves_as to made is id filter event_limit log feed push_out_feed = subst Leaves (sym is) (record { id = id; filter = filter; event_limit = event_limit; log = log; feed = feed; push_out_feed = push_out_feed })

  pub kind_leaves : (event : Event) (to : State K) → Kind event to → Leaves to
  kind_leaves event to h = grind (arith, leaves_as, append-nil)
