-- Receive, whole.
use Rattle.std.proofs.Common.{◌≡◌, refl, sym, ap, subst, ◌∙◌, ℕ, ◌==◌, Bool, true, false, not, ◌&&◌, List, [], ◌∷◌, filter, inl, inr, IsTrue, IsFalse, arith, eqb-true, if◌then◌else◌, Option, Some, None}
use Rattle.mr_world.proofs.Names.Lists.{both_ways, list_any}
use Rattle.mr_world.proofs.Names.Wire.{Body, DescentParts, End, Full, Held, Item, Know, MoveOut, Sent, Start}
use Rattle.mr_world.proofs.Names.Replica.{Ends, EndsSession, Event, Refusal, Reply, State, TakesBody, TakesFrame, TakesLine, ending, entering}
use Rattle.mr_world.proofs.Names.Replica.{finished, is_forged, is_selected, is_unheld, learning, line_learned, line_of, log_full, map_none, moved_on}
use Rattle.mr_world.proofs.Names.Replica.{not_refused, receive_refusal, record_refusal, refusal_of_session, refused_if, retired, session_refusal}
use Rattle.mr_world.proofs.Names.Replica.{◌orelse◌}
use Rattle.mr_world.proofs.Names.Sessions.{Session, Table, claimed, first_fault, is_full, is_start, open_at, with_closed, with_taken}
use Rattle.mr_world.proofs.Names.Model.{Body as SeenBody, Entry as SeenEntry, Holding, In, IsReceived, Issue, Reception, Record, Versions}
use Rattle.mr_world.proofs.Names.Model.{after_taking, at, change_by_reply, change_if_found, completes, feed_after, holding_after_end}
use Rattle.mr_world.proofs.Names.Model.{holding_after_record, holding_after_version, in_session, is, item_of, known, made_with, nothing, numbered}
use Rattle.mr_world.proofs.Names.Model.{only, only_if, pushed_out, reception_of, selection, starts_full, stored, with_holding, ◌without◌, ◌with◌}
use Rattle.mr_world.proofs.Names.Laws.{Inv, IsIssueList, any_elim, cases, feed_stays, in_filter, in_map, made_irrefl, numbered_in, version_again}
use Rattle.mr_world.proofs.Names.Mails.{AreSame, ClauseParts, Entry, Form, Mail, MailCard, Name, Rev, card_of, selects, vector_has, with_pairs}
use Rattle.mr_world.proofs.Names.World.{Agrees, AreAtOnePlace, HoldingsAgree, HoldsAs, IsBelow, IsToldWhole, IsTrueBody, IsTrueLine, IsTrueRevision}
use Rattle.mr_world.proofs.Names.World.{MailMoment, MailSetting, SessionsAgree, Shows, World, message_of, seen_body, seen_record, seen_reply}
use Rattle.mr_world.proofs.Names.World.{setting_of}
use Rattle.mr_model.specs.Changes.{Change.Takes, Reception.AsFinished, Reception.AsKnown, Reception.AsTaken}
use Rattle.mr_model.proofs.Lessons.{whole_stream}
use Rattle.mr_replica.specs.declared.event.Reply.TheVariants as reply
use Rattle.mr_replica.specs.declared.refusal.Refusal.TheVariants as refusal
use Rattle.mr_wire.specs.declared.frame.Frame.TheVariants as frame
use Rattle.mr_world.proofs.Moving.ByParts.{with_replica}
use Rattle.mr_world.proofs.Agreement.Feeds.{feed_is}
use Rattle.mr_world.proofs.Agreement.Learning.{Comes, feed_learned, held_learned, hold_same, none_hold, out_learned, shows_revision, shows_with, some_hold}
use Rattle.mr_world.proofs.Agreement.Staying.{own_agrees, tables_hold}
use Rattle.mr_world.proofs.Agreement.Taking.{IsNextOf, full_is, next_of, session_goes_on, sessions_closed, sessions_taken}
use Rattle.mr_world.proofs.Groundwork.Tools.{at_self, numbered_map, orelse_none, to_true}

-- an issued version is selected by its message
pub selected_message : (s : MailSetting) (issues : List (Issue Mail)) (r : ℕ) (v : Name) (message : Mail) → message_of issues v ≡ Some message → selection s issues r v ≡ s.selects r message
selected_message s [] r v message h = absurd (cc)
selected_message s (x ∷ e) r v message h = grind (arith, selected_message s e r v message, cases, is, at, selects, message_of)

-- the reply is that of the reception
abbrev pub Replies : Reply → Reception → Type 0
Replies reply.Took AsTaken = Unit {0}
Replies reply.Known AsKnown = Unit {0}
Replies reply.Finished AsFinished = Unit {0}
Replies _ _ = ⊥

-- so the change is that the record is taken
taken_change : (m : MailMoment) (r n : ℕ) (x : Record) (given : Reply) (reception : Reception) → numbered m.given n ≡ Some x → Replies given reception →
    change_by_reply m r n (seen_reply m.issues given) ≡ Takes r x reception
taken_change m r n x reply.Took AsTaken e h = ap (λ (o : Option Record). change_if_found o (λ y. Takes r y AsTaken)) e
taken_change m r n x reply.Known AsKnown e h = ap (λ (o : Option Record). change_if_found o (λ y. Takes r y AsKnown)) e
taken_change m r n x reply.Finished AsFinished e h = ap (λ (o : Option Record). change_if_found o (λ y. Takes r y AsFinished)) e
taken_change m r n x given reception e h = grind (arith, change_if_found)

-- what holds an arrived revision
comes_selected : (issues : List (Issue Mail)) (list : IsIssueList issues) (y : Rev) (isb : IsBelow issues y.item y.version y.below) (selected : Bool) → IsTrueRevision issues y →
    Comes issues list y.item y.version y.below isb selected (if selected then Some y else None)
comes_selected issues list y isb selected t = grind arith

module _ {K : Type 0} (form : Form K) (filters : ℕ → List ClauseParts) (w : World K) (m : MailMoment) (inv : Inv (setting_of filters) m) (a : Agrees form filters w m) (r : ℕ)
    (x : Sent) (i : In x w.records) (k : Session) (found : open_at (w.replicas r).sessions x.header.session ≡ Some k) (target : x.header.target ≡ r) (ok : first_fault k.origin k.next x ≡ None) where
  abbrev s : State K
  s = w.replicas r

  abbrev before : List Record
  before = filter (in_session x.header.session) (m.taken_in r)

  one : (y : Sent) → In y w.records → AreAtOnePlace y x → y ≡ x
  one y l at_one = a.records.one_place y x l i at_one

  next : IsNextOf w.records before k x
  next = next_of w.records (m.taken_in r) (w.replicas r).sessions.opened x.header.session k x (a.records.starts x i) ok ((a.sessions r).each x.header.session k found)

  goes_on : SessionsAgree w.records (seen_record x ∷ m.taken_in r) (with_taken x (w.replicas r).sessions)
  goes_on = sessions_taken w.records (m.taken_in r) (w.replicas r).sessions x (a.sessions r) k found
      (session_goes_on w.records (m.taken_in r) (w.replicas r).sessions.opened x.header.session k x ((a.sessions r).each x.header.session k found).old refl i one next)

  closes : SessionsAgree w.records (seen_record x ∷ m.taken_in r) (with_closed (w.replicas r).sessions x.header.session)
  closes = sessions_closed w.records (m.taken_in r) (w.replicas r).sessions x (a.sessions r) k found

  hold : HoldingsAgree form m.issues filters r (m.holding r) (m.feed r) (m.is_retired r) (w.replicas r)
  hold = a.holdings r

  -- r takes the record, and its sets become h
  abbrev taking : Holding → MailMoment
  taking h = record (with_holding (setting_of filters) m r h) { taken_in = at m.taken_in r (seen_record x ∷ m.taken_in r) }

  -- what it tells of a new store
  abbrev told_of : Versions → List (SeenEntry MailCard)
  told_of store = feed_after (setting_of filters) m.issues (stored m r) store (m.feed r)

  abbrev with_holdings : K → (heads push_outs : List Rev) → (feed push_out_feed : List Entry) → Table Session → List Event → State K
  with_holdings knowledge heads push_outs feed push_out_feed sessions log = record (w.replicas r) { knowledge = knowledge; heads = heads; push_outs = push_outs; feed = feed; push_out_feed = push_out_feed; sessions = sessions; log = log }

  changes : (sessions : Table Session) → SessionsAgree w.records (seen_record x ∷ m.taken_in r) sessions → (h : Holding) (knowledge : K) (heads push_outs : List Rev) (feed push_out_feed : List Entry) (log : List Event) →
      HoldingsAgree form m.issues filters r h (told_of h.stored) (m.is_retired r) (with_holdings knowledge heads push_outs feed push_out_feed sessions log) →
      Agrees form filters (with_replica w r (with_holdings knowledge heads push_outs feed push_out_feed sessions log)) (taking h)
  changes sessions agree h knowledge heads push_outs feed push_out_feed log new = grind (arith, with_replica, at_self, own_agrees, stored, seen_record)

  -- the sets are as they were
  quiet : (sessions : Table Session) → SessionsAgree w.records (seen_record x ∷ m.taken_in r) sessions → (log : List Event) →
      Agrees form filters (with_replica w r (record (w.replicas r) { sessions = sessions; log = log })) (taking (m.holding r))
  quiet sessions agree log = changes sessions agree (m.holding r) (w.replicas r).knowledge (w.replicas r).heads (w.replicas r).push_outs (w.replicas r).feed (w.replicas r).push_out_feed log
      (subst (λ (fe : List (SeenEntry MailCard)). HoldingsAgree form m.issues filters r (m.holding r) fe (m.is_retired r) (with_holdings (w.replicas r).knowledge (w.replicas r).heads (w.replicas r).push_outs (w.replicas r).feed (w.replicas r).push_out_feed sessions log))
      (sym (feed_stays (setting_of filters) m.issues (stored m r) (m.feed r)))
      (tables_hold form m.issues filters r (m.holding r) (m.feed r) (m.is_retired r) (w.replicas r) log sessions (w.replicas r).streams (a.holdings r)))

  quiet_move : (new : State K) → new ≡ moved_on (w.replicas r) x → Agrees form filters (with_replica w r new) (taking (m.holding r))
  quiet_move new e = subst (λ (z : State K). Agrees form filters (with_replica w r z) (taking (m.holding r))) (sym e) (quiet (with_taken x (w.replicas r).sessions) goes_on (moved_on (w.replicas r) x).log)

  -- ---- a version is told

  abbrev Versioned : Name → Bool → Reply → State K → Type 0
  Versioned version enters given new = Replies given (if known m r version then AsKnown else AsTaken) × Agrees form filters (with_replica w r new) (taking (holding_after_version m r version enters))

  module _ (line : DescentParts) (isb : IsTrueLine m.issues line) (enters : Bool) (comer : Option Rev) (comes : Comes m.issues inv.core.sets.list line.item line.version line.below isb enters comer) where
    known_is : form.known (w.replicas r).knowledge line.item line.version ≡ known m r line.version
    known_is = ap (λ (z : Name). form.known (w.replicas r).knowledge z line.version) (sym isb.of_item) ∙ hold.knows.same line.version isb.is_one

    version_known : (new : State K) → IsTrue (form.known (w.replicas r).knowledge line.item line.version) → new ≡ moved_on (w.replicas r) x → Versioned line.version enters reply.Known new
    version_known new t e = let t' : IsTrue (known m r line.version) = sym known_is ∙ t in (
      rw t' tt,
      subst (λ (h : Holding). Agrees form filters (with_replica w r new) (taking h)) (sym (version_again (setting_of filters) m r line.version enters inv.core t')) (quiet_move new e),
    )

    -- the sets once an unknown version is learned
    abbrev with_version : Holding
    with_version = record {
      known = known m r with only line.version with made_with m.issues line.version;
      stored = stored m r without made_with m.issues line.version with only_if enters line.version;
      pushed_out = pushed_out m r without made_with m.issues line.version;
    }

    abbrev learned : K → State K
    learned knowledge = moved_on (learning (w.replicas r) knowledge line comer) x

    version_holds : (knowledge : K) → IsFalse (known m r line.version) → AreSame (form.known knowledge) (line_learned form (w.replicas r) line) →
        HoldingsAgree form m.issues filters r with_version (told_of with_version.stored) (m.is_retired r) (learned knowledge)
    version_holds knowledge n l = record {
      id = hold.id;
      filter = hold.filter;
      is_retired = hold.is_retired;
      knows = shows_revision m.issues inv.core.sets.list line.item line.version line.below isb
          (form.learns_for_all (w.replicas r).knowledge line.item line.version (vector_has line.below)) (form.firsts_for_all (w.replicas r).knowledge line.item line.version (vector_has line.below)) (form.known (w.replicas r).knowledge) (form.known knowledge) (known m r) hold.knows l;
      heads = held_learned m.issues inv.core.sets.list line.item line.version line.below isb (w.replicas r).heads comer (stored m r) enters hold.heads comes unstored;
      push_outs = out_learned m.issues inv.core.sets.list line.item line.version line.below isb (w.replicas r).push_outs (pushed_out m r) hold.push_outs;
      entries = ap (λ (fe : List (SeenEntry MailCard)). feed_after (setting_of filters) m.issues (stored m r) (stored m r without made_with m.issues line.version with only_if enters line.version) fe) hold.entries
          ∙ feed_learned m.issues inv.core.sets.list line.item line.version line.below isb filters (w.replicas r).heads comer (stored m r) enters (w.replicas r).feed hold.heads comes unstored (made_irrefl m.issues inv.core.sets.list line.version);
      count = hold.count;
      last = hold.last;
      last_below = hold.last_below;
    }
      where
        unstored : ¬ IsTrue (stored m r line.version)
        unstored t = both_ways (known m r line.version) n ((inv.core.sets.each r).stored line.version t)

    version_new : (new : State K) → IsFalse (form.known (w.replicas r).knowledge line.item line.version) → AreSame (form.known new.knowledge) (line_learned form (w.replicas r) line) → new ≡ learned new.knowledge →
        Versioned line.version enters reply.Took new
    version_new new n l e = let n' : IsFalse (known m r line.version) = sym known_is ∙ n in (
      rw n' tt,
      rw n' (subst (λ (z : State K). Agrees form filters (with_replica w r z) (taking with_version)) (sym e)
          (changes (with_taken x (w.replicas r).sessions) goes_on with_version new.knowledge (learned new.knowledge).heads (learned new.knowledge).push_outs (learned new.knowledge).feed (learned new.knowledge).push_out_feed (learned new.knowledge).log
          (version_holds new.knowledge n' l))),
    )

    line_taken : (given : Reply) (new : State K) → TakesLine form (w.replicas r) x line comer given new → Versioned line.version enters given new
    line_taken reply.Known new step = version_known new step.0 step.1
    line_taken reply.Took new step = version_new new step.0 step.1 step.2
    line_taken given new step = grind (arith, version_known, version_new)

  -- ---- an End

  module _ (e : x.body ≡ End) where
    completes_is : completes m r (seen_record x) ≡ is_full k.origin
    completes_is = ap (λ (b : Bool). b && list_any (λ y. starts_full y.body) before) next.whole ∙ sym (next.full (ap is_start e))

    -- the stream's Start and its End are in the pool
    told_whole : is_full k.origin ≡ true → IsToldWhole m.issues w.records m.known_at_answer m.held_at_draw x
    told_whole full =
        let y = any_elim (λ (y : Record). starts_full y.body) before (sym (next.full (ap is_start e)) ∙ full) in
        let origin = whole_stream (seen_record x) before next.whole y.0 y.1 in
        let pool = in_map seen_record w.records y.0 (subst (In y.0) a.given (inv.core.streams.taken_given r y.0 (in_filter (in_session x.header.session) (m.taken_in r) y.0 y.1).0).0) in
        a.records.whole x pool.0 i pool.1 (sym origin.0 ∙ ap (λ (z : Record). z.source) (sym pool.2), sym origin.1 ∙ ap (λ (z : Record). z.stream) (sym pool.2)) e
        (start_body pool.0.body (ap (λ (z : Record). starts_full z.body) pool.2 ∙ y.2))
      where
        start_body : (b : Body) → starts_full (seen_body b) ≡ true → b ≡ Start Full
        start_body (Start mode) h = ap Start (full_is mode h)
        start_body (Item y) h = absurd (cc)
        start_body (MoveOut line) h = absurd (cc)
        start_body (Held vector) h = absurd (cc)
        start_body (Know piece) h = absurd (cc)
        start_body End h = absurd (cc)

    abbrev taught : Versions
    taught = m.known_at_answer x.header.source x.header.stream

    abbrev shown_then : Versions
    shown_then = m.held_at_draw x.header.source x.header.stream

    module _ (full : is_full k.origin ≡ true) where
      was_told : IsToldWhole m.issues w.records m.known_at_answer m.held_at_draw x
      was_told = told_whole full

      covers_taught : Shows m.issues (claimed k.know) (m.known_at_answer x.header.source x.header.stream)
      covers_taught = record { issued = λ c v h. was_told.knows.issued c v (sym (next.know full c v) ∙ h); same = λ v h. next.know full (item_of m.issues v) v ∙ was_told.knows.same v h }

      unheld_is : (y : Rev) → IsTrueRevision m.issues y → is_unheld k y ≡ (taught without shown_then) y.version
      unheld_is y t = λ z. (ap (λ (c : Name). claimed k.know c y.version) (sym t.below.of_item) ∙ covers_taught.same y.version t.below.is_one) z && not ((next.held full y.version ∙ was_told.held y.version) z)

      abbrev stays : Rev → Bool
      stays y = not (is_unheld k y)

      heads_left : HoldsAs m.issues (filter stays (w.replicas r).heads) (stored m r without (taught without shown_then))
      heads_left = some_hold m.issues (w.replicas r).heads (stored m r) (λ v. not ((taught without shown_then) v)) stays hold.heads (λ y t. ap not (unheld_is y t))

      -- what leaves
      heads_gone : HoldsAs m.issues (filter (is_unheld k) (w.replicas r).heads) (stored m r without (stored m r without (taught without shown_then)))
      heads_gone = hold_same m.issues (filter (is_unheld k) (w.replicas r).heads) (λ v. stored m r v && (taught without shown_then) v) (stored m r without (stored m r without (taught without shown_then)))
          (some_hold m.issues (w.replicas r).heads (stored m r) (taught without shown_then) (is_unheld k) hold.heads unheld_is) (λ v. left (stored m r v) ((taught without shown_then) v))
        where
          left : (a c : Bool) → (a && c) ≡ (a && not (a && not c))
          left a c = grind arith

      -- and nothing comes
      none_come : HoldsAs m.issues [] ((stored m r without (taught without shown_then)) without stored m r)
      none_come = hold_same m.issues [] nothing ((stored m r without (taught without shown_then)) without stored m r) (none_hold m.issues) (λ v. none (stored m r v) ((taught without shown_then) v))
        where
          none : (a c : Bool) → false ≡ ((a && not c) && not a)
          none a c = grind arith

      abbrev ended : K → State K
      ended knowledge = finished (ending (w.replicas r) knowledge k) x

      end_holds : (knowledge : K) → AreSame (form.known knowledge) (with_pairs (form.known (w.replicas r).knowledge) (claimed k.know)) →
          HoldingsAgree form m.issues filters r (holding_after_end m r (seen_record x)) (told_of (stored m r without (taught without shown_then))) (m.is_retired r) (ended knowledge)
      end_holds knowledge merged = record {
        id = hold.id;
        filter = hold.filter;
        is_retired = hold.is_retired;
        knows = shows_with m.issues (form.known (w.replicas r).knowledge) (claimed k.know) (form.known knowledge) (known m r) taught hold.knows covers_taught merged;
        heads = heads_left;
        push_outs = hold.push_outs;
        entries = ap (λ (fe : List (SeenEntry MailCard)). feed_after (setting_of filters) m.issues (stored m r) (stored m r without (taught without shown_then)) fe) hold.entries
            ∙ feed_is filters m.issues inv.core.sets.list (stored m r) (stored m r without (taught without shown_then)) (w.replicas r).feed (filter (is_unheld k) (w.replicas r).heads) [] heads_gone none_come;
        count = hold.count;
        last = hold.last;
        last_below = hold.last_below;
      }

    abbrev Ended : State K → Type 0
    Ended new = Agrees form filters (with_replica w r new) (taking (if completes m r (seen_record x) then holding_after_end m r (seen_record x) else m.holding r))

    session_ended : (b : Bool) → is_full k.origin ≡ b → (new : State K) → Ends form (w.replicas r) x k b new → Ended new
    session_ended true full new step = let done : completes m r (seen_record x) ≡ true = completes_is ∙ full in
        rw done (subst (λ (z : State K). Agrees form filters (with_replica w r z) (taking (holding_after_end m r (seen_record x)))) (sym step.1)
        (changes (with_closed (w.replicas r).sessions x.header.session) closes (holding_after_end m r (seen_record x)) new.knowledge (ended full new.knowledge).heads (w.replicas r).push_outs (ended full new.knowledge).feed (w.replicas r).push_out_feed (ended full new.knowledge).log
        (end_holds full new.knowledge step.0)))
    session_ended false partial new step = let done : completes m r (seen_record x) ≡ false = completes_is ∙ partial in
        rw done (subst (λ (z : State K). Agrees form filters (with_replica w r z) (taking (m.holding r))) (sym step) (quiet (with_closed (w.replicas r).sessions x.header.session) closes (finished (w.replicas r) x).log))

    end_taken : (new : State K) → EndsSession form (w.replicas r) x (open_at (w.replicas r).sessions x.header.session) new → Ended new
    end_taken new step = session_ended (is_full k.origin) refl new (subst (λ (o : Option Session). EndsSession form (w.replicas r) x o new) found step)

  -- ---- any record

  abbrev Taken : Reply → State K → SeenBody → Type 0
  Taken given new b = Replies given (reception_of m r b) × Agrees form filters (with_replica w r new) (taking (holding_after_record (setting_of filters) m r (seen_record x) b))

  body_taken : (b : Body) → x.body ≡ b → (given : Reply) (new : State K) → TakesBody form (w.replicas r) x b given new → Taken given new (seen_body b)
  body_taken (Item y) e given new step =
      let t : IsTrueRevision m.issues y = subst (IsTrueBody m.issues) e (a.records.each x i) in
      let wanted : selection (setting_of filters) m.issues r y.version ≡ selects (w.replicas r).filter (card_of y.message) =
      selected_message (setting_of filters) m.issues r y.version y.message t.message ∙ ap (λ (z : List ClauseParts). selects z (card_of y.message)) (sym hold.filter) in
      subst (λ (enters : Bool). Versioned y.version enters given new) (sym wanted)
      (line_taken (line_of y) t.below (is_selected (w.replicas r) y) (entering (w.replicas r) (Item y)) (comes_selected m.issues inv.core.sets.list y t.below (is_selected (w.replicas r) y) t) given new step)
  body_taken (MoveOut line) e given new step = line_taken line (subst (IsTrueBody m.issues) e (a.records.each x i)) false None tt given new step
  body_taken End e reply.Finished new step = (tt, end_taken e new step)
  body_taken End e given new step = absurd step
  body_taken (Start mode) e reply.Took new step = (tt, quiet_move new step)
  body_taken (Start mode) e given new step = absurd step
  body_taken (Held vector) e reply.Took new step = (tt, quiet_move new step)
  body_taken (Held vector) e given new step = absurd step
  body_taken (Know piece) e reply.Took new step = (tt, quiet_move new step)
  body_taken (Know piece) e given new step = absurd step

  pub record_taken : (given : Reply) (new : State K) → TakesFrame form (w.replicas r) (frame.Record x) given new → Taken given new (seen_body x.body)
  record_taken given new step = body_taken x.body refl given new step

-- the open session of a record that is not refused, and what the refusals leave
module _ {K : Type 0} (form : Form K) (filters : ℕ → List ClauseParts) (w : World K) (m : MailMoment) (inv : Inv (setting_of filters) m) (a : Agrees form filters w m) (r : ℕ) (x : Sent)
    (none : receive_refusal (w.replicas r) (frame.Record x) ≡ None) where
  abbrev session_part : Option Refusal
  session_part = session_refusal (open_at (w.replicas r).sessions x.header.session) x

  abbrev forged_part : Option Refusal
  forged_part = refused_if (is_forged (w.replicas r) x.body) refusal.Forged orelse log_full (w.replicas r)

  abbrev target_part : Option Refusal
  target_part = refused_if (not (x.header.target == (w.replicas r).id)) refusal.NotForMe

  alive : IsFalse (w.replicas r).is_retired
  alive = not_refused (w.replicas r).is_retired refusal.Retired (orelse_none (retired (w.replicas r)) (record_refusal (w.replicas r) x) none).0

  rest : (target_part ≡ None) × ((session_part orelse forged_part) ≡ None)
  rest = orelse_none target_part (session_part orelse forged_part) (orelse_none (retired (w.replicas r)) (record_refusal (w.replicas r) x) none).1

  target : x.header.target ≡ r
  target = eqb-true x.header.target (w.replicas r).id (to_true (x.header.target == (w.replicas r).id) (not_refused (not (x.header.target == (w.replicas r).id)) refusal.NotForMe rest.0)) ∙ (a.holdings r).id

  session_found : (k : Session) × (open_at (w.replicas r).sessions x.header.session ≡ Some k) × (first_fault k.origin k.next x ≡ None)
  session_found = grind (arith, open_at, orelse_none, rest, session_refusal, first_fault, next, map_none, refusal_of_session)

  pub receive_agrees : (n : ℕ) (given : Reply) (new : State K) → numbered w.records n ≡ Some x → TakesFrame form (w.replicas r) (frame.Record x) given new →
      (change_by_reply m r n (seen_reply m.issues given) ≡ Takes r (seen_record x) (reception_of m r (seen_body x.body))) ×
      IsReceived m r (seen_record x) (reception_of m r (seen_body x.body)) × Agrees form filters (with_replica w r new) (after_taking (setting_of filters) m r (seen_record x))
  receive_agrees n given new pool step =
      let k = session_found in
      let there : numbered m.given n ≡ Some (seen_record x) = ap (λ (xs : List Record). numbered xs n) a.given ∙ numbered_map seen_record w.records n x pool in
      let taken = record_taken form filters w m inv a r x (numbered_in w.records n x pool) k.0 k.1 target k.2 given new step in (
        taken_change m r n (seen_record x) given (reception_of m r (seen_body x.body)) there taken.0,
        record { alive = (a.holdings r).is_retired ∙ alive; in_pool = numbered_in m.given n (seen_record x) there; target = target; answer = refl },
        taken.1,
      )
