-- Pull and Answer, the cuts, and Retire.
use Rattle.std.proofs.Common.{◌≡◌, ◌≢◌, refl, sym, ap, subst, ◌∙◌, ℕ, zero, suc, ◌+◌, ◌≤◌, ◌==◌, nat_le, Bool, true, false, ◌||◌, ◌&&◌, List, [], ◌∷◌, filter, map, length, take, inl, inr, IsTrue, IsFalse, arith, eq-eqb, if◌then◌else◌, Option, Some, None}
use Rattle.mr_world.proofs.Names.Lists.{IfSome, Ok, both_ways, list_any}
use Rattle.mr_world.proofs.Names.Wire.{Full, Mode, Partial, Piece, Question, Sent, piece_of}
use Rattle.mr_world.proofs.Names.Replica.{Asked, Done, IsAskOf, Keeps, OwnAsk, PushOutsLeft, State, Streaming, TooManySessions, TooManyStreams}
use Rattle.mr_world.proofs.Names.Replica.{all_claimed, answering, asked_of, log_full, logged, mode_for, not_refused, pulling, refused_if, ◌orelse◌}
use Rattle.mr_world.proofs.Names.Sessions.{Session, Stream, claimed, is_full_mode, lists, new_session, new_stream, open_at}
use Rattle.mr_world.proofs.Names.Model.{Ask, In, IsAsk, IsOf, IsOpened, Issue, Record, Versions, after_opening, at, change_if_found, claims}
use Rattle.mr_world.proofs.Names.Model.{in_version_order, is, is_issued, item_of, known, numbered}
use Rattle.mr_world.proofs.Names.Laws.{Inv, any_elim, any_intro, at_elim, at_same, cases, filter_in, in_filter, in_issued, in_map, in_ordered}
use Rattle.mr_world.proofs.Names.Laws.{is_path, is_refl, issue_in, numbered_in, one_test, or_left, or_parts, or_right, ordered_in, two_same}
use Rattle.mr_world.proofs.Names.Mails.{ClauseParts, Form, Mail, MailCard, Name, Part, Rev, covers, holds, vector_has}
use Rattle.mr_world.proofs.Names.World.{Agrees, Follows, HoldingsAgree, MailMoment, SeesAsk, SeesAsks, SessionAgrees, SessionsAgree, Shows, Stepped}
use Rattle.mr_world.proofs.Names.World.{StreamAgrees, StreamsAgree, World, seen_ask, seen_record, setting_of, told_pairs, versions_in_order}
use Rattle.mr_forms.specs.Parts.{AreListable}
use Rattle.mr_replica.specs.CutIn.{cutting_in}
use Rattle.mr_replica.specs.CutOut.{cutting_out}
use Rattle.mr_replica.specs.Retire.{has_any, retiring}
use Rattle.mr_replica.specs.declared.event.Event.TheVariants as replica
use Rattle.mr_session.specs.declared.limits.TheConstants.{MAX_OPEN}
use Rattle.mr_world.proofs.Moving.ByParts.{with_given, with_replica}
use Rattle.mr_model.specs.Changes.{Change}
use Rattle.mr_model.specs.declared.event.Act.TheVariants as act
use Rattle.mr_world.proofs.Agreement.OneMore.{stream_kept}
use Rattle.mr_world.proofs.Agreement.Staying.{own_agrees, tables_hold}
use Rattle.mr_world.proofs.Agreement.Parts.{parts_none}
use Rattle.mr_world.proofs.Moving.Refines.{Refines, Replies, alive, by_change}
use Rattle.mr_world.proofs.Keeping.PiecesListMore.{piece_part}
use Rattle.mr_world.proofs.Groundwork.Tables.{closed_found, opened_found}
use Rattle.mr_world.proofs.Groundwork.Tools.{at_other, at_self, map_in, orelse_none, same_place, two_other}

-- ---- what was issued, in order

pub ordered_issued : (issues : List (Issue Mail)) (v : Name) → In v (versions_in_order issues) → IsTrue (is_issued issues v)
ordered_issued issues v i = grind (arith, in_map, in_version_order, is_issued, in_issued, ordered_in)

pub issued_ordered : (issues : List (Issue Mail)) (v : Name) → IsTrue (is_issued issues v) → In v (versions_in_order issues)
issued_ordered issues v h = grind (arith, issue_in, versions_in_order, map_in, in_version_order, in_ordered)

-- ---- requests

-- the requests of the pool, one by one
pub sees_length : (issues : List (Issue Mail)) (filters : ℕ → List ClauseParts) (seen : List Ask) (qs : List Question) → SeesAsks issues filters seen qs → length seen ≡ length qs
sees_length issues filters [] [] h = refl
sees_length issues filters [] (q ∷ qs) h = absurd h
sees_length issues filters (a ∷ seen) [] h = absurd h
sees_length issues filters (a ∷ seen) (q ∷ qs) h = ap (λ n. suc n) (sees_length issues filters seen qs h.1)

pub sees_numbered : (issues : List (Issue Mail)) (filters : ℕ → List ClauseParts) (seen : List Ask) (qs : List Question) → SeesAsks issues filters seen qs → (n : ℕ) (q : Question) → numbered qs n ≡ Some q →
    (a : Ask) × (numbered seen n ≡ Some a) × SeesAsk issues filters a (asked_of q)
sees_numbered issues filters [] [] h n q e = absurd (cc)
sees_numbered issues filters [] (y ∷ qs) h n q e = absurd h
sees_numbered issues filters (a ∷ seen) [] h n q e = absurd h
sees_numbered issues filters (a ∷ seen) (y ∷ qs) h n q e = grind (arith, sees_numbered issues filters seen qs h.1 n q, cases, at, sees_length, asked_of, numbered)

pub claims_seen : (issues : List (Issue Mail)) (q : Question) (v : Name) → IsTrue (is_issued issues v) → claimed q.fragments (item_of issues v) v ≡ claims (seen_ask issues q) v
claims_seen issues q v h = grind (arith, one_test, claimed, item_of, claims, seen_ask, any_intro, is, versions_in_order, filter_in, issued_ordered, is_refl, any_elim, in_filter, is_path)

pub claims_issued : (issues : List (Issue Mail)) (q : Question) (v : Name) → IsTrue (claims (seen_ask issues q) v) → IsTrue (is_issued issues v)
claims_issued issues q v h = grind (arith, any_elim, is, claimed, item_of, versions_in_order, is_issued, is_path, ordered_issued, in_filter)

any_take : {A : Type 0} (p : A → Bool) (n : ℕ) (xs : List A) → IsTrue (list_any p (take n xs)) → IsTrue (list_any p xs)
any_take p zero xs h = absurd (cc)
any_take p (suc n) [] h = absurd (cc)
any_take p (suc n) (x ∷ xs) h = elim (or_parts (p x) (list_any p (take n xs)) h) [ inl here ↦ or_left (p x) (list_any p xs) here | inr later ↦ or_right (p x) (list_any p xs) (any_take p n xs later) ]

-- a request claims what its replica knows, and no more
pub asks_known : {K : Type 0} (form : Form K) (s : State K) (q : Question) → IsAskOf form s q → (i v : Name) → IsTrue (claimed q.fragments i v) → IsTrue (form.known s.knowledge i v)
asks_known form s q ask i v h =
    let fs = ask.fragments.fragments in
    let some : IsTrue (claimed (take (length q.fragments) (map piece_of fs)) i v) = subst (λ (ps : List Piece). IsTrue (claimed ps i v)) ask.fragments.longest.beginning h in
    ask.fragments.have.covered i v ∙ (all_claimed fs i v ∙ any_take (λ (piece : Piece). lists piece.items i && vector_has piece.vector v) (length q.fragments) (map piece_of fs) some)

-- ---- what a stream keeps

full_if : (b : Bool) → is_full_mode (if b then Full else Partial) ≡ b
full_if b = grind arith

module _ {K : Type 0} (form : Form K) (knowledge : K) (know : List Piece) where
  kept_known : (mode : Mode) → Keeps form mode knowledge know → (i v : Name) → IsTrue (claimed know i v) → IsTrue (form.known knowledge i v)
  kept_known mode keeps i v h = grind (arith, claimed)

  kept_listed : (mode : Mode) → Keeps form mode knowledge know → (piece : Piece) → In piece know → piece.items ≢ Some []
  kept_listed Full keeps piece i = λ none. (let x = piece_part (λ (p : Part). IfSome p.items AreListable) keeps.0.parts know keeps.0.by_part keeps.0.are_parts.in_order.listable piece i in
      let lists_none : IfSome (Some []) AreListable = subst (λ (o : Option (List Name)). IfSome o AreListable) (sym x.2.items ∙ none) x.1 in lists_none.some refl)
  kept_listed Partial keeps piece i = elim (subst (λ (ps : List Piece). In piece ps) keeps i) [ ]

  kept_whole : (mode : Mode) → is_full_mode mode ≡ true → Keeps form mode knowledge know → (i v : Name) → claimed know i v ≡ form.known knowledge i v
  kept_whole mode full keeps i v = grind arith

pub session_older : (records : List Sent) (taken : List Record) (opened opened' number : ℕ) (k : Session) → opened ≤ opened' → SessionAgrees records taken opened number k → SessionAgrees records taken opened' number k
session_older records taken opened opened' number k le a = record { old = (let o = a.old in omega arith); follows = a.follows; keeps = a.keeps }

pub stream_older : (issues : List (Issue Mail)) (filters : ℕ → List ClauseParts) (records : List Sent) (given : List Record) (r opened opened' number : ℕ) (ask ask' : Option Ask) (known known' held : Versions) (k : Stream) →
    opened ≤ opened' → ask' ≡ ask → known' ≡ known →
    StreamAgrees issues filters records given r opened number ask known held k → StreamAgrees issues filters records given r opened' number ask' known' held k
stream_older issues filters records given r opened opened' number ask ask' known known' held k le ea ek a = grind (arith, stream_kept, told_pairs, claimed)

module _ {K : Type 0} (form : Form K) (filters : ℕ → List ClauseParts) (w : World K) (m : MailMoment) (inv : Inv (setting_of filters) m) (a : Agrees form filters w m) where
  -- r's tables and log become others
  tables_agree : (r : ℕ) (new : State K) → HoldingsAgree form m.issues filters r (m.holding r) (m.feed r) (m.is_retired r) new → SessionsAgree w.records (m.taken_in r) new.sessions →
      StreamsAgree m.issues filters w.records m.given r (m.ask_of r) (m.known_at_answer r) (m.held_at_draw r) new.streams → Agrees form filters (with_replica w r new) m
  tables_agree r new holdings sessions streams = grind (arith, with_replica, at_self, own_agrees)

  -- ---- Pull

  module _ (r : ℕ) (q : Question) where
    abbrev pulled : State K
    pulled = logged (pulling (w.replicas r)) replica.Pull

    pull_agrees : IsFalse (w.replicas r).is_retired → IsAskOf form (w.replicas r) q →
        IsAsk m r (seen_ask m.issues q) × Agrees form filters (record (with_replica w r pulled) { asks = q ∷ w.asks }) (record m { asks = seen_ask m.issues q ∷ m.asks })
    pull_agrees living ask = (
      record {
        alive = (a.holdings r).is_retired ∙ living;
        target = target;
        claims_known = λ v h. (let iss = claims_issued m.issues q v h in sym ((a.holdings r).knows.same v iss) ∙ asks_known form (w.replicas r) q ask (item_of m.issues v) v (claims_seen m.issues q v iss ∙ h));
      },
      record {
        asks = (
          record {
            target = refl;
            session = refl;
            filter = ask.filter ∙ ((a.holdings r).filter ∙ ap filters (sym target));
            shows = record { issued = λ i v h. (a.holdings r).knows.issued i v (asks_known form (w.replicas r) q ask i v h); same = λ v h. claims_seen m.issues q v h };
          },
          a.asks,
        );
        given = opened.given;
        vouched = opened.vouched;
        receipts = opened.receipts;
        ports = opened.ports;
        records = opened.records;
        holdings = opened.holdings;
        sessions = opened.sessions;
        streams = opened.streams;
      },
    )
      where
        target : q.target ≡ r
        target = ask.target ∙ (a.holdings r).id

        before : ℕ
        before = (w.replicas r).sessions.opened

        new_one : SessionAgrees w.records (m.taken_in r) (before + 1) (before + 1) new_session
        new_one = record {
          old = omega arith;
          follows = subst (Follows new_session) (sym ((a.sessions r).fresh (before + 1) (omega arith))) refl;
          keeps = λ o e. absurd (cc);
        }

        each : (number : ℕ) (k : Session) → open_at pulled.sessions number ≡ Some k → SessionAgrees w.records (m.taken_in r) (before + 1) number k
        each number k e = elim (opened_found (w.replicas r).sessions new_session number k e) [
          | inl new ↦ subst (λ (n : ℕ). SessionAgrees w.records (m.taken_in r) (before + 1) n k) new.0 (subst (SessionAgrees w.records (m.taken_in r) (before + 1) (before + 1)) new.1 new_one)
          | inr old ↦ session_older w.records (m.taken_in r) before (before + 1) number k (omega arith) ((a.sessions r).each number k old)
        ]

        opened : Agrees form filters (with_replica w r pulled) m
        opened = tables_agree r pulled (tables_hold form m.issues filters r (m.holding r) (m.feed r) (m.is_retired r) (w.replicas r) pulled.log pulled.sessions pulled.streams (a.holdings r))
            (record { each = each; fresh = λ n lt. (a.sessions r).fresh n (omega arith) }) (a.streams r)

  pub pulls : (r : ℕ) → Replies form filters w m r act.Pull replica.Pull
  pulls r (Asked q) new none step =
      let living = alive form (w.replicas r) (refused_if (nat_le MAX_OPEN (length (w.replicas r).sessions.open_ones)) TooManySessions orelse log_full (w.replicas r)) none in
      subst (λ (s : State K). Refines form filters w m r act.Pull (Stepped (Ok (Asked q))) (with_given (with_replica w r s) (Ok (Asked q)))) (sym step.1) (pull_agrees r q living step.0)
  pulls r reply new none step = absurd step

  -- ---- Answer

  module _ (r n : ℕ) (q : Question) (pool : numbered w.asks n ≡ Some q) (know : List Piece) (keeps : Keeps form (mode_for (w.replicas r) q) (w.replicas r).knowledge know) where
    abbrev mode : Mode
    mode = mode_for (w.replicas r) q

    -- the number of the stream
    abbrev t : ℕ
    t = (w.replicas r).streams.opened + 1

    sees : (b : Ask) × (numbered m.asks n ≡ Some b) × SeesAsk m.issues filters b (asked_of q)
    sees = sees_numbered m.issues filters m.asks w.asks a.asks n q pool

    abbrev after : MailMoment
    after = after_opening m r t sees.0

    unopened : m.ask_of r t ≡ None
    unopened = (a.streams r).fresh t (omega arith)

    none_of : (x : Record) → ¬ IsOf m.given r t x
    none_of x of = let h = inv.core.streams.asked r t x of in let c : Some h.0 ≡ None = sym h.1 ∙ unopened in cc

    not_given : (x : Sent) → In x w.records → ¬ ((x.header.source ≡ r) × (x.header.stream ≡ t))
    not_given x i e = none_of (seen_record x) (record { is_given = subst (In (seen_record x)) (sym a.given) (map_in seen_record w.records x i); source_is = e.0; stream_is = e.1 })

    abbrev stream : Stream
    stream = new_stream (asked_of q) mode know

    abbrev opening : State K
    opening = logged (answering (w.replicas r) q know) (replica.Answer q)

    none_told : (i v : Name) → (told_pairs w.records r t 0 i v || claimed know i v) ≡ claimed know i v
    none_told i v = ap (λ (z : Bool). z || claimed know i v) (parts_none (λ b. _) w.records r t)

    new_one : StreamAgrees m.issues filters w.records m.given r t t (after.ask_of r t) (after.known_at_answer r t) (m.held_at_draw r t) stream
    new_one = record {
      old = omega arith;
      ask = sees.0;
      asked = two_same m.ask_of r t (Some sees.0);
      sees = sees.2;
      covers = full_if (covers (w.replicas r).filter q.filter) ∙ ap (λ (f : List ClauseParts). covers f q.filter) (a.holdings r).filter;
      below_next = λ x of. absurd (none_of x of);
      begun = λ n. absurd (n refl);
      no_end = λ x of. absurd (none_of x of);
      starts = λ x of. absurd (none_of x of);
      past = λ p e. absurd (cc);
      behind = λ x v of. absurd (none_of x of);
      walking = λ e h. none_of h.0 h.1;
      showing = λ e. absurd (e refl);
      shows_full = λ e. absurd (e refl);
      unbegun = λ e. refl;
      held = λ e. absurd (e refl);
      none_shown = λ e v. parts_none _ w.records r t;
      held_issued = λ v h. absurd (cc);
      knows = λ full. subst (Shows m.issues (λ i v. told_pairs w.records r t 0 i v || claimed know i v)) (sym (two_same m.known_at_answer r t (known m r))) (record {
        issued = λ i v h. (a.holdings r).knows.issued i v (kept_known form (w.replicas r).knowledge know mode keeps i v (sym (none_told i v) ∙ h));
        same = λ v h. none_told (item_of m.issues v) v ∙ (kept_whole form (w.replicas r).knowledge know mode full keeps (item_of m.issues v) v ∙ (a.holdings r).knows.same v h);
      });
      know_issued = λ i v h. (a.holdings r).knows.issued i v (kept_known form (w.replicas r).knowledge know mode keeps i v h);
      listed = kept_listed form (w.replicas r).knowledge know mode keeps;
    }

    each : (number : ℕ) (k : Stream) → open_at opening.streams number ≡ Some k → StreamAgrees m.issues filters w.records m.given r t number (after.ask_of r number) (after.known_at_answer r number) (m.held_at_draw r number) k
    each number k e = elim (opened_found (w.replicas r).streams stream number k e) [
      | inl new ↦ subst (λ (z : ℕ). StreamAgrees m.issues filters w.records m.given r t z (after.ask_of r z) (after.known_at_answer r z) (m.held_at_draw r z) k) new.0
          (subst (StreamAgrees m.issues filters w.records m.given r t t (after.ask_of r t) (after.known_at_answer r t) (m.held_at_draw r t)) new.1 new_one)
      | inr found ↦ (let o = (a.streams r).each number k found in let le = o.old in let differ : number ≢ t = (λ e. absurd (omega arith)) in
          stream_older m.issues filters w.records m.given r (w.replicas r).streams.opened t number (m.ask_of r number) (after.ask_of r number) (m.known_at_answer r number) (after.known_at_answer r number) (m.held_at_draw r number) k (omega arith)
          (two_other m.ask_of r t (Some sees.0) r number (λ e. differ e.1)) (two_other m.known_at_answer r t (known m r) r number (λ e. differ e.1)) o)
    ]

    streams_here : StreamsAgree m.issues filters w.records m.given r (after.ask_of r) (after.known_at_answer r) (m.held_at_draw r) opening.streams
    streams_here = record {
      each = each;
      fresh = λ u lt. two_other m.ask_of r t (Some sees.0) r u (λ e. let d = e.1 in absurd (omega arith)) ∙ (a.streams r).fresh u (omega arith);
    }

    streams_there : (z : ℕ) → z ≢ r → StreamsAgree m.issues filters w.records m.given z (after.ask_of z) (after.known_at_answer z) (m.held_at_draw z) (w.replicas z).streams
    streams_there z other = record {
      each = λ number k found. stream_older m.issues filters w.records m.given z (w.replicas z).streams.opened (w.replicas z).streams.opened number (m.ask_of z number) (after.ask_of z number) (m.known_at_answer z number) (after.known_at_answer z number) (m.held_at_draw z number) k (omega arith)
          (two_other m.ask_of r t (Some sees.0) z number (λ e. other e.0)) (two_other m.known_at_answer r t (known m r) z number (λ e. other e.0)) ((a.streams z).each number k found);
      fresh = λ u lt. two_other m.ask_of r t (Some sees.0) z u (λ e. other e.0) ∙ (a.streams z).fresh u lt;
    }

    answer_agrees : q.target ≢ (w.replicas r).id → IsOpened m r t sees.0 × Agrees form filters (with_replica w r opening) after
    answer_agrees other_target = (
      record { asked = numbered_in m.asks n sees.0 sees.1; other = λ e. other_target (sym sees.2.target ∙ (e ∙ sym (a.holdings r).id)); fresh = unopened },
      record {
        asks = a.asks;
        given = a.given;
        vouched = a.vouched;
        receipts = a.receipts;
        ports = a.ports;
        records = record {
          each = a.records.each;
          starts = a.records.starts;
          one_place = a.records.one_place;
          whole = λ x y i j one ex ey. (let h = a.records.whole x y i j one ex ey in record {
            held = h.held;
            knows = subst (Shows m.issues (told_pairs w.records x.header.source x.header.stream x.header.index)) (sym (two_other m.known_at_answer r t (known m r) x.header.source x.header.stream (not_given x i))) h.knows;
          });
        };
        holdings = λ z. at_elim (λ (u : ℕ) (st : State K). HoldingsAgree form m.issues filters u (m.holding u) (m.feed u) (m.is_retired u) st) w.replicas r opening z
            (tables_hold form m.issues filters r (m.holding r) (m.feed r) (m.is_retired r) (w.replicas r) opening.log opening.sessions opening.streams (a.holdings r)) (a.holdings z);
        sessions = λ z. at_elim (λ (u : ℕ) (st : State K). SessionsAgree w.records (m.taken_in u) st.sessions) w.replicas r opening z (a.sessions r) (a.sessions z);
        streams = λ z. elim (same_place z r) [
          | inl e ↦ subst (λ (u : ℕ). StreamsAgree m.issues filters w.records m.given u (after.ask_of u) (after.known_at_answer u) (m.held_at_draw u) (at w.replicas r opening u).streams) (sym e)
              (subst (λ (st : State K). StreamsAgree m.issues filters w.records m.given r (after.ask_of r) (after.known_at_answer r) (m.held_at_draw r) st.streams) (sym (at_same w.replicas r opening)) streams_here)
          | inr other ↦ subst (λ (st : State K). StreamsAgree m.issues filters w.records m.given z (after.ask_of z) (after.known_at_answer z) (m.held_at_draw z) st.streams) (sym (at_other w.replicas r opening z other)) (streams_there z other)
        ];
      },
    )

  pub answers : (r n : ℕ) (q : Question) → numbered w.asks n ≡ Some q → Replies form filters w m r (act.Answer n) (replica.Answer q)
  answers r n q pool (Streaming t) new none step =
      let own = not_refused (q.target == (w.replicas r).id) OwnAsk (orelse_none (refused_if (q.target == (w.replicas r).id) OwnAsk) (refused_if (nat_le MAX_OPEN (length (w.replicas r).streams.open_ones)) TooManyStreams orelse log_full (w.replicas r)) none).0 in
      let seen = sees r n q pool step.1 step.2 in
      subst (λ (s : State K). Refines form filters w m r (act.Answer n) (Stepped (Ok (Streaming t))) (with_replica w r s)) (sym step.3)
      (subst (λ (u : ℕ). Refines form filters w m r (act.Answer n) (Stepped (Ok (Streaming u))) (with_replica w r (logged (answering (w.replicas r) q step.1) (replica.Answer q)))) (sym step.0)
      (by_change form filters w m r (act.Answer n) (Stepped (Ok (Streaming ((w.replicas r).streams.opened + 1)))) (with_replica w r (logged (answering (w.replicas r) q step.1) (replica.Answer q)))
      (Change.Opens r ((w.replicas r).streams.opened + 1) seen.0) (ap (λ (o : Option Ask). change_if_found {C = MailCard} o (Change.Opens r ((w.replicas r).streams.opened + 1))) seen.1)
      (answer_agrees r n q pool step.1 step.2 (λ e. both_ways (q.target == (w.replicas r).id) own (eq-eqb q.target (w.replicas r).id e)))))
  answers r n q pool reply new none step = absurd step

  -- ---- the cuts

  pub cuts_in : (r session : ℕ) → Replies form filters w m r (act.CutIn session) (replica.CutIn session)
  cuts_in r session Done new none step = (
    tt,
    subst (λ (s : State K). Agrees form filters (with_replica w r s) m) (sym step) (tables_agree r cut
        (tables_hold form m.issues filters r (m.holding r) (m.feed r) (m.is_retired r) (w.replicas r) cut.log cut.sessions cut.streams (a.holdings r)) fewer (a.streams r)),
  )
    where
      cut : State K
      cut = logged (cutting_in (w.replicas r) session) (replica.CutIn session)

      fewer : SessionsAgree w.records (m.taken_in r) cut.sessions
      fewer = record { each = λ number k e. (a.sessions r).each number k (closed_found (w.replicas r).sessions session number k e).1; fresh = (a.sessions r).fresh }
  cuts_in r session reply new none step = absurd step

  pub cuts_out : (r number : ℕ) → Replies form filters w m r (act.CutOut number) (replica.CutOut number)
  cuts_out r number Done new none step = (
    tt,
    subst (λ (s : State K). Agrees form filters (with_replica w r s) m) (sym step) (tables_agree r cut
        (tables_hold form m.issues filters r (m.holding r) (m.feed r) (m.is_retired r) (w.replicas r) cut.log cut.sessions cut.streams (a.holdings r)) (a.sessions r) fewer),
  )
    where
      cut : State K
      cut = logged (cutting_out (w.replicas r) number) (replica.CutOut number)

      fewer : StreamsAgree m.issues filters w.records m.given r (m.ask_of r) (m.known_at_answer r) (m.held_at_draw r) cut.streams
      fewer = record { each = λ n k e. (a.streams r).each n k (closed_found (w.replicas r).streams number n k e).1; fresh = (a.streams r).fresh }
  cuts_out r number reply new none step = absurd step

  -- ---- Retire

  retire_agrees : (r : ℕ) → Agrees form filters (with_replica w r (logged (retiring (w.replicas r)) replica.Retire)) (record m { is_retired = at m.is_retired r true })
  retire_agrees r = subst (Agrees form filters (with_replica w r (logged (retiring (w.replicas r)) replica.Retire)))
      (λ i. record m { holding = at_self m.holding r i; feed = at_self m.feed r i; is_retired = at m.is_retired r true; taken_in = at_self m.taken_in r i })
      (own_agrees form filters w m a r (logged (retiring (w.replicas r)) replica.Retire) (m.holding r) (m.feed r) true (m.taken_in r)
      (let h = a.holdings r in record { id = h.id; filter = h.filter; is_retired = refl; knows = h.knows; heads = h.heads; push_outs = h.push_outs; entries = h.entries; count = h.count; last = h.last; last_below = h.last_below })
      (a.sessions r) (a.streams r))

  -- without push-outs the model has none either
  clean : (r : ℕ) → IsFalse (has_any (w.replicas r).push_outs) → (v : Name) → IsFalse ((m.holding r).pushed_out v)
  clean r none v = go (w.replicas r).push_outs refl none
    where
      go : (rs : List Rev) → (w.replicas r).push_outs ≡ rs → IsFalse (has_any rs) → IsFalse ((m.holding r).pushed_out v)
      go [] e h = sym ((a.holdings r).push_outs.same v) ∙ ap (λ (z : List Rev). holds z v) e
      go (y ∷ ys) e h = absurd (cc)

  pub retires : (r : ℕ) → Replies form filters w m r act.Retire replica.Retire
  retires r Done new none step =
      let left = refused_if (has_any (w.replicas r).push_outs) PushOutsLeft in (
        record { alive = (a.holdings r).is_retired ∙ alive form (w.replicas r) left none; clean = clean r (not_refused (has_any (w.replicas r).push_outs) PushOutsLeft (orelse_none _ left none).1) },
        subst (λ (s : State K). Agrees form filters (with_replica w r s) (record m { is_retired = at m.is_retired r true })) (sym step) (retire_agrees r),
      )
  retires r reply new none step = absurd step
