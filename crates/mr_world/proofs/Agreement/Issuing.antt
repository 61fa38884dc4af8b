-- A replica issues a version: what it holds, and what all the others hold, is what the history says.
use Rattle.std.proofs.Common.{◌≡◌, ◌≢◌, refl, sym, ap, subst, ◌∙◌, ℕ, ◌+◌, ◌==◌, Bool, true, false, not, ◌&&◌, if◌then◌else◌, List, ◌∷◌, filter, inl, inr, IsTrue, eqb-true, eq-eqb, Option, Some, None, arith}
use Rattle.mr_world.proofs.Names.Lists.{and_from, and_parts, both_ways, eqb-false}
use Rattle.mr_world.proofs.Names.Replica.{Event, State, arrival_alone, arrived, entered_if, if_so, issuing, logged, told_more}
use Rattle.mr_world.proofs.Names.Model.{Entry as SeenEntry, Holding, Issue, Versions, after_issue, at, feed_after, is, known, last_own, made_with}
use Rattle.mr_world.proofs.Names.Model.{only, only_if, pushed_out, stored, with_holding, with_issue, ◌without◌, ◌with◌}
use Rattle.mr_world.proofs.Names.Laws.{Inv, IsIssuable, IsIssueList, Within, at_elim, cases, count_back, count_here, false_from, fresh, is_path}
use Rattle.mr_world.proofs.Names.Laws.{is_refl, last_own-back, last_own-here, made_irrefl}
use Rattle.mr_world.proofs.Names.Mails.{AreSame, AuthorColumn, ClauseParts, Form, Mail, MailCard, Name, Rev, card_of, last_of, learned, left_by}
use Rattle.mr_world.proofs.Names.Mails.{noted, selects, supersedes, told, vector_has}
use Rattle.mr_world.proofs.Names.World.{Agrees, HoldingsAgree, HoldsAs, IsBelow, IsTrueRevision, MailMoment, SessionsAgree, StreamsAgree, World}
use Rattle.mr_world.proofs.Names.World.{setting_of, version_alone}
use Rattle.mr_world.proofs.Moving.ByParts.{with_replica}
use Rattle.mr_world.proofs.Agreement.Learning.{Comes, feed_learned, held_learned, shows_version}
use Rattle.mr_world.proofs.Agreement.OneMore.{asks_more, below_more, holds_more, receipts_more, records_more, shows_more, stream_more}
use Rattle.mr_world.proofs.Agreement.Trails.{noted_back, noted_here}

-- the revision, if so
abbrev pub comer_if : Bool → Rev → Option Rev
comer_if b r = if b then Some r else None

pub arrived_if : (b : Bool) (r : Rev) (rs : List Rev) → arrived (comer_if b r) rs ≡ entered_if b r rs
arrived_if b r rs = grind arith

pub alone_if : (b : Bool) (r : Rev) → arrival_alone (comer_if b r) ≡ if_so b r
alone_if b r = grind arith

module _ {K : Type 0} (form : Form K) (filters : ℕ → List ClauseParts) (w : World K) (m : MailMoment) (inv : Inv (setting_of filters) m) (a : Agrees form filters w m) (r : ℕ) (x : Issue Mail)
    (author : x.version.author ≡ r) (ok : IsIssuable m.issues x) (columns : List AuthorColumn) (isb : IsBelow (x ∷ m.issues) x.item x.version columns) where
  hold : HoldingsAgree form m.issues filters r (m.holding r) (m.feed r) (m.is_retired r) (w.replicas r)
  hold = a.holdings r

  list : IsIssueList (x ∷ m.issues)
  list = (ok, inv.core.sets.list)

  abbrev revision : Rev
  revision = record { item = x.item; version = x.version; below = columns; message = x.message }

  revision_true : IsTrueRevision (x ∷ m.issues) revision
  revision_true = record { below = isb; message = rw (is_refl x.version) refl }

  abbrev wanted : Bool
  wanted = selects (w.replicas r).filter (card_of x.message)

  abbrev lower : Versions
  lower = made_with (x ∷ m.issues) x.version

  -- the issuer's sets
  abbrev issued_sets : Bool → Holding
  issued_sets b = record {
    known = known m r with only x.version;
    stored = stored m r without lower with only_if b x.version;
    pushed_out = pushed_out m r without lower with only_if (not b) x.version;
  }

  unheld : (set : Versions) → Within set (known m r) → ¬ IsTrue (set x.version)
  unheld set within h = fresh x m.issues ok ((inv.core.sets.each r).issued x.version (within x.version h))

  last_is : (i : Name) → last_own (x ∷ m.issues) r i ≡ version_alone (last_of (noted revision (w.replicas r).trail) i)
  last_is i = elim (cases (is x.item i)) [
    | inl t ↦ last_own-here x m.issues r i (and_from (x.version.author == r) (is x.item i) (eq-eqb x.version.author r author) t) ∙ sym (ap version_alone (noted_here revision (w.replicas r).trail i t))
    | inr n ↦ last_own-back x m.issues r i (false_from ((x.version.author == r) && is x.item i) (λ k. both_ways (is x.item i) n (and_parts (x.version.author == r) (is x.item i) k).1))
        ∙ (hold.last i ∙ sym (ap version_alone (noted_back revision (w.replicas r).trail i n)))
  ]

  last_below_is : (i : Name) (l : Rev) → last_of (noted revision (w.replicas r).trail) i ≡ Some l → IsBelow (x ∷ m.issues) i l.version l.below
  last_below_is i l e = elim (cases (is x.item i)) [
    | inl t ↦ (let k : Some revision ≡ Some l = sym (noted_here revision (w.replicas r).trail i t) ∙ e in let p : revision ≡ l = cc in
        subst (λ (z : Rev). IsBelow (x ∷ m.issues) i z.version z.below) p (subst (λ (z : Name). IsBelow (x ∷ m.issues) z x.version columns) (is_path x.item i t) isb))
    | inr n ↦ (let k : last_of (w.replicas r).trail i ≡ Some l = sym (noted_back revision (w.replicas r).trail i n) ∙ e in below_more x m.issues ok inv.core.sets.list i l.version l.below (hold.last_below i l k))
  ]

  -- the state after it
  abbrev after : K → Event → State K
  after knowledge event = logged (issuing (w.replicas r) knowledge revision) event

  comes : (b : Bool) → Comes (x ∷ m.issues) list x.item x.version columns isb b (comer_if b revision)
  comes b = grind (arith, revision_true)

  -- what is held after it, of the heads or of the push-outs
  held_after : (rs : List Rev) (set : Versions) (b : Bool) → HoldsAs m.issues rs set → Within set (known m r) →
      HoldsAs (x ∷ m.issues) (entered_if b revision (left_by x.item (vector_has columns) rs)) (set without lower with only_if b x.version)
  held_after rs set b h within = subst (λ (z : List Rev). HoldsAs (x ∷ m.issues) z (set without lower with only_if b x.version)) (arrived_if b revision (left_by x.item (vector_has columns) rs))
      (held_learned (x ∷ m.issues) list x.item x.version columns isb rs (comer_if b revision) set b (holds_more x m.issues ok inv.core.sets.list rs set h) (comes b) (unheld set within))

  -- what the feed tells of a new store
  abbrev feed_of : Versions → List (SeenEntry MailCard)
  feed_of store = feed_after (setting_of filters) (x ∷ m.issues) (stored m r) store (m.feed r)

  entries_after : (b : Bool) → feed_of (stored m r without lower with only_if b x.version) ≡ told (told_more (w.replicas r).feed (filter (supersedes x.item (vector_has columns)) (w.replicas r).heads) (if_so b revision))
  entries_after b = ap (λ (fe : List (SeenEntry MailCard)). feed_after (setting_of filters) (x ∷ m.issues) (stored m r) (stored m r without lower with only_if b x.version) fe) hold.entries
      ∙ (feed_learned (x ∷ m.issues) list x.item x.version columns isb filters (w.replicas r).heads (comer_if b revision) (stored m r) b (w.replicas r).feed
      (holds_more x m.issues ok inv.core.sets.list (w.replicas r).heads (stored m r) hold.heads) (comes b) (unheld (stored m r) (inv.core.sets.each r).stored) (made_irrefl (x ∷ m.issues) list x.version)
      ∙ ap (λ (come : List Rev). told (told_more (w.replicas r).feed (filter (supersedes x.item (vector_has columns)) (w.replicas r).heads) come)) (alone_if b revision))

  issuer_holds : (knowledge : K) (event : Event) → AreSame (form.known knowledge) (learned form (w.replicas r).knowledge x.item x.version) →
      HoldingsAgree form (x ∷ m.issues) filters r (issued_sets wanted) (feed_of (stored m r without lower with only_if wanted x.version)) (m.is_retired r) (after knowledge event)
  issuer_holds knowledge event l = record {
    id = hold.id;
    filter = hold.filter;
    is_retired = hold.is_retired;
    knows = shows_version (x ∷ m.issues) list x.item x.version columns isb (form.learns_for_all (w.replicas r).knowledge x.item x.version (λ _. false)) (form.known (w.replicas r).knowledge) (form.known knowledge) (known m r)
        (shows_more x m.issues ok inv.core.sets.list (form.known (w.replicas r).knowledge) (known m r) (inv.core.sets.each r).issued hold.knows) l;
    heads = held_after (w.replicas r).heads (stored m r) wanted hold.heads (inv.core.sets.each r).stored;
    push_outs = held_after (w.replicas r).push_outs (pushed_out m r) (not wanted) hold.push_outs (inv.core.sets.each r).outed;
    entries = entries_after wanted;
    count = count_here x m.issues r author ∙ ap (λ (n : ℕ). n + 1) hold.count;
    last = last_is;
    last_below = last_below_is;
  }

  -- another replica
  other_holds : (q : ℕ) → q ≢ r → HoldingsAgree form m.issues filters q (m.holding q) (m.feed q) (m.is_retired q) (w.replicas q) →
      HoldingsAgree form (x ∷ m.issues) filters q (m.holding q) (m.feed q) (m.is_retired q) (w.replicas q)
  other_holds q other h = record {
    id = h.id;
    filter = h.filter;
    is_retired = h.is_retired;
    knows = shows_more x m.issues ok inv.core.sets.list (form.known (w.replicas q).knowledge) (known m q) (inv.core.sets.each q).issued h.knows;
    heads = holds_more x m.issues ok inv.core.sets.list (w.replicas q).heads (stored m q) h.heads;
    push_outs = holds_more x m.issues ok inv.core.sets.list (w.replicas q).push_outs (pushed_out m q) h.push_outs;
    entries = h.entries;
    count = count_back x m.issues q (false_from (x.version.author == q) not_its) ∙ h.count;
    last = λ i. last_own-back x m.issues q i (false_from ((x.version.author == q) && is x.item i) (λ k. not_its (and_parts (x.version.author == q) (is x.item i) k).0)) ∙ h.last i;
    last_below = λ i l e. below_more x m.issues ok inv.core.sets.list i l.version l.below (h.last_below i l e);
  }
    where
      not_its : ¬ IsTrue (x.version.author == q)
      not_its k = other (sym (eqb-true x.version.author q k) ∙ author)

  wanted_is : selects (filters r) (card_of x.message) ≡ wanted
  wanted_is = ap (λ (z : List ClauseParts). selects z (card_of x.message)) (sym hold.filter)

  streams_after : (q : ℕ) → StreamsAgree (x ∷ m.issues) filters w.records m.given q (m.ask_of q) (m.known_at_answer q) (m.held_at_draw q) (w.replicas q).streams
  streams_after q = record {
    each = λ n k e. stream_more x m.issues ok inv.core.sets.list filters w.records m.given q (w.replicas q).streams.opened n (m.ask_of q n) (m.known_at_answer q n) (m.held_at_draw q n) k
        (λ b ask v h. (inv.core.sets.each b.target).issued v (inv.core.streams.claims_known q n b ask v h)) (λ v h. (inv.core.sets.each q).issued v (inv.core.sets.answer_known q n v h)) ((a.streams q).each n k e);
    fresh = (a.streams q).fresh;
  }

  pub issue_agrees : (knowledge : K) (event : Event) → AreSame (form.known knowledge) (learned form (w.replicas r).knowledge x.item x.version) →
      Agrees form filters (with_replica w r (after knowledge event)) (after_issue (setting_of filters) m r x)
  issue_agrees knowledge event l = subst (λ (b : Bool). Agrees form filters (with_replica w r (after knowledge event)) (with_holding (setting_of filters) (with_issue m x) r (issued_sets b))) (sym wanted_is) (record {
    asks = asks_more x m.issues ok inv.core.sets.list filters m.asks w.asks (λ b i v h. (inv.core.sets.each b.target).issued v (inv.core.streams.asks_known b i v h)) a.asks;
    given = a.given;
    records = records_more x m.issues ok inv.core.sets.list w.records m.known_at_answer m.held_at_draw (λ s t v h. (inv.core.sets.each s).issued v (inv.core.sets.answer_known s t v h)) a.records;
    vouched = a.vouched;
    receipts = receipts_more x m.issues ok inv.core.sets.list w.receipts a.receipts;
    ports = a.ports;
    holdings = λ q. elim (cases (q == r)) [
      | inl t ↦ subst (λ (z : ℕ). HoldingsAgree form (x ∷ m.issues) filters z (at m.holding r (issued_sets wanted) z) (at m.feed r (feed_of (stored m r without lower with only_if wanted x.version)) z) (m.is_retired z) (at w.replicas r (after knowledge event) z)) (sym (eqb-true q r t)) there
      | inr n ↦ (let h = other_holds q (eqb-false q r n) (a.holdings q) in rw n h)
    ];
    sessions = λ q. at_elim (λ (z : ℕ) (st : State K). SessionsAgree w.records (m.taken_in z) st.sessions) w.replicas r (after knowledge event) q (a.sessions r) (a.sessions q);
    streams = λ q. at_elim (λ (z : ℕ) (st : State K). StreamsAgree (x ∷ m.issues) filters w.records m.given z (m.ask_of z) (m.known_at_answer z) (m.held_at_draw z) st.streams) w.replicas r (after knowledge event) q (streams_after r) (streams_after q);
  })
    where
      there : HoldingsAgree form (x ∷ m.issues) filters r (at m.holding r (issued_sets wanted) r) (at m.feed r (feed_of (stored m r without lower with only_if wanted x.version)) r) (m.is_retired r) (at w.replicas r (after knowledge event) r)
      there = rw (eq-eqb r r refl) (issuer_holds knowledge event l)
