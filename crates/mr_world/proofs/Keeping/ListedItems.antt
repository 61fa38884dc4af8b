-- Each event leaves fragments that list issued items alone.
use Rattle.std.proofs.Common.{◌≡◌, refl, sym, ap, subst, ◌∙◌, Bool, true, false, ◌||◌, ◌&&◌, List, ◌++◌, ◌⊎◌, inl, inr, IsTrue, IsFalse, Option, Some, None, arith}
use Rattle.mr_world.proofs.Names.Lists.{and_from, and_parts, both_ways}
use Rattle.mr_world.proofs.Names.Wire.{Body, DescentParts, Full, Item, Know, Mode, MoveOut, Partial, Piece, Sent}
use Rattle.mr_world.proofs.Names.Replica.{Changes, Event as ReplicaEvent, Gave, Keeps, Kind, Reply, SessionsTurn, State, change_made, is_selected}
use Rattle.mr_world.proofs.Names.Replica.{issuing, line_learned, line_of, mode_for, next_version, revision_for, told_line}
use Rattle.mr_world.proofs.Names.Sessions.{Asked as AskedOf, Session, Stream, Table, after_record, claimed, if_so, is_end, is_full, is_item, lists}
use Rattle.mr_world.proofs.Names.Sessions.{new_session, told, with_body}
use Rattle.mr_world.proofs.Names.Model.{In, Issue, is_issued}
use Rattle.mr_world.proofs.Names.Laws.{any_elim, any_intro, cases, choice, in_append, is_path, or_left, or_parts, or_right}
use Rattle.mr_world.proofs.Names.Mails.{AreSame, Form, ListsMore, Mail, Name, Pairs, Rev, Versions, has_below, learned, learned_of, left_by, name_eq}
use Rattle.mr_world.proofs.Names.Mails.{vector_has, with_learned, with_pairs}
use Rattle.mr_world.proofs.Names.World.{AreIssuedItems, IsFiled, IsListedReplica, ListIssued, ListsIssued}
use Rattle.mr_replica.specs.declared.event.Event.TheVariants as replica
use Rattle.mr_replica.proofs.FiveKinds.{Kind.Ending, Kind.Issuing, Kind.Learning, Kind.Releasing, Kind.Staying, SessionsTurn.Closed_session, SessionsTurn.Opened_session, SessionsTurn.Same_sessions, SessionsTurn.Took_record}
use Rattle.mr_wire.specs.declared.frame.Frame.TheVariants as frame
use Rattle.mr_wire.specs.declared.frame.Header.{Header}
use Rattle.mr_world.proofs.Drawing.Drawn.{Drawn, Drawn.Ends_fully, Drawn.Ends_partly, Drawn.Shows_first, Drawn.Shows_more, Drawn.Starts, Drawn.Tells, Drawn.Walks}
use Rattle.mr_world.proofs.Groundwork.Orders.{entered_in}
use Rattle.mr_world.proofs.Keeping.Turns.{AllOpen, gives, turns}
use Rattle.mr_world.proofs.Keeping.PiecesListMore.{pieces_list_more}
use Rattle.mr_world.proofs.Groundwork.Tables.{changed_found, closed_found, opened_found}

module _ (issues : List (Issue Mail)) where
  -- ---- what is known

  filed_same : (a b : Pairs) → AreSame a b → IsFiled issues b → IsFiled issues a
  filed_same a b same filed i v h = elim (filed i v (sym (same i v) ∙ h)) [ inl all ↦ inl (λ j. same j v ∙ all j) | inr issued ↦ inr issued ]

  filed_pairs : (old more : Pairs) → IsFiled issues old → IsFiled issues more → IsFiled issues (with_pairs old more)
  filed_pairs old more filed new i v h = grind (arith, or_parts, or_left, or_right)

  -- with a set for an item that was issued, or for all items
  filed_with : (old : Pairs) (for_all : Bool) (item : Name) (set : Versions) → IsTrue (is_issued issues item) → IsFiled issues old → IsFiled issues (with_pairs old (λ i v. (for_all || name_eq item i) && set v))
  filed_with old for_all item set issued filed = grind (arith, filed_pairs, name_eq, and_parts, or_parts, and_from, or_left, is_issued, is_path)

  -- what listed fragments claim
  filed_claimed : (know : List Piece) → ListIssued issues know → IsFiled issues (claimed know)
  filed_claimed know listed i v h = grind (arith, any_elim, lists, vector_has, and_parts, claimed, is_issued, any_intro, and_from, name_eq, is_path)

  -- ---- what a session keeps

  kept_listed : (know : List Piece) (b : Bool) (piece : Piece) → ListIssued issues know → AreIssuedItems issues piece.items → ListIssued issues (know ++ if_so b piece)
  kept_listed know b piece listed one x i = elim (in_append know (if_so b piece) x i) [ inl old ↦ listed x old | inr new ↦ go b new ]
    where
      go : (c : Bool) → In x (if_so c piece) → AreIssuedItems issues x.items
      go true i = elim i [ inl e ↦ subst (λ (z : Piece). AreIssuedItems issues z.items) e one | inr none ↦ absurd none ]
      go false i = elim i [ ]

  body_listed : (k : Session) (header : Header) (b : Body) → ListIssued issues k.know → ListsIssued issues b → ListIssued issues (with_body k header b).know
  body_listed k header (Know piece) listed one = kept_listed k.know (is_full k.origin) piece listed one
  body_listed k header b listed one = listed

-- ---- more was issued

module _ (e e' : List (Issue Mail)) (more : (v : Name) → IsTrue (is_issued e v) → IsTrue (is_issued e' v)) where
  items_more : (items : Option (List Name)) → AreIssuedItems e items → AreIssuedItems e' items
  items_more items h = grind arith

  pub lists_more : (b : Body) → ListsIssued e b → ListsIssued e' b
  lists_more (Know piece) h = items_more piece.items h
  lists_more b h = tt

  pub replica_more : {K : Type 0} (form : Form K) (s : State K) → IsListedReplica form e s → IsListedReplica form e' s
  replica_more form s h = record {
    filed = λ i v k. elim (h.filed i v k) [ inl all ↦ inl all | inr one ↦ inr (more i one) ];
    streams = λ n k found piece i. items_more piece.items (h.streams n k found piece i);
    sessions = λ n k found piece i. items_more piece.items (h.sessions n k found piece i);
  }

-- ---- one step

-- what goes in: its items were issued
abbrev pub IsIssuedEvent : List (Issue Mail) → ReplicaEvent → Type 0
IsIssuedEvent issues there = (sent : Sent) → there ≡ replica.Receive (frame.Record sent) → ListsIssued issues sent.body × ((line : DescentParts) → told_line sent.body ≡ Some line → IsTrue (is_issued issues line.item))

module _ {K : Type 0} (form : Form K) (form_lists : ListsMore form) (issues : List (Issue Mail)) (s : State K) (listed : IsListedReplica form issues s) where
  -- ---- what is known

  abbrev IsFiledIn : State K → Type 0
  IsFiledIn z = IsFiled issues (form.known z.knowledge)

  -- a version that is issued enters the heads or the push-outs
  issued_enters : (to : State K) (r : Rev) → to ≡ issuing s to.knowledge r → In r to.heads ⊎ In r to.push_outs
  issued_enters to r is = subst (λ (z : State K). In r z.heads ⊎ In r z.push_outs) (sym is) (elim (cases (is_selected s r)) [
    | inl t ↦ rw t (inl (entered_in r (left_by r.item (has_below r) s.heads) r (inl refl)))
    | inr n ↦ rw n (inr (entered_in r (left_by r.item (has_below r) s.push_outs) r (inl refl)))
  ])

  kind_filed : (there : ReplicaEvent) (to : State K) → IsIssuedEvent issues there → ((r : Rev) → In r to.heads ⊎ In r to.push_outs → IsTrue (is_issued issues r.item)) → Kind form s there to → IsFiledIn to
  kind_filed there to in_form held (Issuing i columns are known is) =
      filed_same issues (form.known to.knowledge) (learned form s.knowledge i.item (next_version s)) known
      (filed_with issues (form.known s.knowledge) (form.learns_for_all s.knowledge i.item (next_version s) (λ _. false)) i.item (name_eq (next_version s)) (held (revision_for s i columns) (issued_enters to (revision_for s i columns) is)) listed.filed)
  kind_filed there to in_form held (Learning sent e line tells known is) =
      let issued : IsTrue (is_issued issues line.item) = (in_form sent e).1 line tells in
      let for_all : Bool = form.learns_for_all s.knowledge line.item line.version (vector_has line.below) in
      let first_too : Bool = form.firsts_for_all s.knowledge line.item line.version (vector_has line.below) && vector_has line.below line.item in
      filed_same issues (form.known to.knowledge) (line_learned form s line) known
      (filed_with issues (learned_of form s.knowledge line.item line.version (vector_has line.below)) false line.item (vector_has line.below) issued
      (filed_pairs issues (with_learned for_all (form.known s.knowledge) line.item line.version) (λ i v. first_too && name_eq line.item v)
      (filed_with issues (form.known s.knowledge) for_all line.item (name_eq line.version) issued listed.filed) (λ i v h. inl (λ j. h))))
  kind_filed there to in_form held (Ending sent session found known is) =
      filed_same issues (form.known to.knowledge) (with_pairs (form.known s.knowledge) (claimed session.know)) known
      (filed_pairs issues (form.known s.knowledge) (claimed session.know) listed.filed (filed_claimed issues session.know (listed.sessions sent.header.session session found)))
  kind_filed there to in_form held (Releasing receipt is) = subst IsFiledIn (sym is) listed.filed
  kind_filed there to in_form held (Staying retired is) = subst IsFiledIn (sym is) listed.filed

  -- ---- the sessions

  abbrev AreListedSessions : Table Session → Type 0
  AreListedSessions = AllOpen (λ (k : Session). ListIssued issues k.know)

  sessions_listed : (there : ReplicaEvent) (sessions : Table Session) → IsIssuedEvent issues there → SessionsTurn form s there sessions → AreListedSessions sessions
  sessions_listed there sessions in_form (Same_sessions is) = subst (AreListedSessions) (sym is) listed.sessions
  sessions_listed there sessions in_form (Opened_session is) = subst (AreListedSessions) (sym is) (λ n k e. elim (opened_found s.sessions new_session n k e) [
    | inl made ↦ subst (λ (z : Session). ListIssued issues z.know) made.1 (λ piece i. elim i [ ])
    | inr found ↦ listed.sessions n k found
  ])
  sessions_listed there sessions in_form (Took_record sent event_is is) = subst (AreListedSessions) (sym is) (λ n k e. elim (changed_found s.sessions sent.header.session (after_record sent) n k e) [
    | inl here ↦ subst (λ (z : Session). ListIssued issues z.know) here.3 (body_listed issues here.1 sent.header sent.body (listed.sessions sent.header.session here.1 here.2) (in_form sent event_is).0)
    | inr there ↦ listed.sessions n k there.1
  ])
  sessions_listed there sessions in_form (Closed_session number is) = subst (AreListedSessions) (sym is) (λ n k e. listed.sessions n k (closed_found s.sessions number n k e).1)

  -- ---- a stream is opened, and gives

  opened_listed : (mode : Mode) (know : List Piece) → Keeps form mode s.knowledge know → ListIssued issues know
  opened_listed Partial know keeps piece i = elim (subst (λ (ps : List Piece). In piece ps) keeps i) [ ]
  opened_listed Full know keeps piece i = go piece.items refl
    where
      go : (items : Option (List Name)) → piece.items ≡ items → AreIssuedItems issues items
      go None e = tt
      go (Some items) e = λ item j. elim (cases (is_issued issues item)) [
        | inl t ↦ t
        | inr n ↦ absurd (pieces_list_more form form_lists s.knowledge know keeps piece i items e item j (λ v h. elim (listed.filed item v h) [ inl all ↦ all | inr issued ↦ absurd (both_ways (is_issued issues item) n issued) ]))
      ]

  told_listed : (asked : AskedOf) (x : Rev) → ListsIssued issues (told asked x)
  told_listed asked x = choice (ListsIssued issues) (is_item asked x) (Item x) (MoveOut (line_of x)) (λ h. tt) (λ h. tt)

  draw_listed : (k : Stream) (b : Body) (left : Stream) → ListIssued issues k.know → Drawn s k b left → ListsIssued issues b × (IsFalse (is_end b) → ListIssued issues left.know)
  draw_listed k b left know (Starts n eb e) = (subst (ListsIssued issues) (sym eb) tt, λ goes_on. subst (λ (z : Stream). ListIssued issues z.know) (sym e) know)
  draw_listed k b left know (Walks n h x found eb e) = (subst (ListsIssued issues) (sym eb) (told_listed k.asked x), λ goes_on. subst (λ (z : Stream). ListIssued issues z.know) (sym e) know)
  draw_listed k b left know (Shows_first n h none full v vs cut eb e) = (subst (ListsIssued issues) (sym eb) tt, λ goes_on. subst (λ (z : Stream). ListIssued issues z.know) (sym e) know)
  draw_listed k b left know (Ends_partly n h none part eb) = (subst (ListsIssued issues) (sym eb) tt, λ goes_on. (let c : true ≡ false = sym (ap is_end eb) ∙ goes_on in absurd (cc)))
  draw_listed k b left know (Shows_more n v vs h eb e) = (subst (ListsIssued issues) (sym eb) tt, λ goes_on. subst (λ (z : Stream). ListIssued issues z.know) (sym e) know)
  draw_listed k b left know (Tells n h f fs known eb e) = (
    subst (ListsIssued issues) (sym eb) (know f (subst (λ (l : List Piece). In f l) (sym known) (inl refl))),
    λ goes_on. subst (λ (z : Stream). ListIssued issues z.know) (sym e) (λ piece i. know piece (subst (λ (l : List Piece). In piece l) (sym known) (inr i))),
  )
  draw_listed k b left know (Ends_fully n h none eb) = (subst (ListsIssued issues) (sym eb) tt, λ goes_on. (let c : true ≡ false = sym (ap is_end eb) ∙ goes_on in absurd (cc)))

  abbrev IsListedStream : Stream → Type 0
  IsListedStream k = ListIssued issues k.know

  -- ---- any event

  pub step_listed : (there : ReplicaEvent) (told : Reply) (new : State K) → IsIssuedEvent issues there → ((r : Rev) → In r new.heads ⊎ In r new.push_outs → IsTrue (is_issued issues r.item)) → Changes form s there told new →
      IsListedReplica form issues new × ((sent : Sent) → told ≡ Gave sent → ListsIssued issues sent.body)
  step_listed there told new in_form held step =
      let made = change_made form s there told new step in (
        record {
          filed = subst IsFiledIn (sym made.is) (kind_filed there made.to in_form (λ r i. held r (subst (λ (z : State K). In r z.heads ⊎ In r z.push_outs) (sym made.is) i)) made.kind);
          streams = turns form s IsListedStream (ListsIssued issues) listed.streams draw_listed (λ ask know keeps. opened_listed (mode_for s ask) know keeps) new.streams made.streams;
          sessions = sessions_listed there new.sessions in_form made.sessions;
        },
        λ sent e. (let h = made.gives sent e in (gives form s IsListedStream (ListsIssued issues) listed.streams draw_listed h.0 sent new.streams h.1).0),
      )
