-- Vouch and Release.
use Rattle.std.proofs.Common.{◌≡◌, sym, ap, subst, ◌∙◌, ℕ, Bool, not, List, ◌∷◌, filter, inl, inr, IsTrue, IsFalse, ◌||◌, ◌&&◌, false, arith, Option, Some}
use Rattle.mr_world.proofs.Names.Lists.{Ok, list_any}
use Rattle.mr_world.proofs.Names.Wire.{DescentParts, Receipt}
use Rattle.mr_world.proofs.Names.Replica.{Done, NotHeld, NotPushedOut, State, log_full, logged, not_refused, refused_if, releasing, retired, vouched}
use Rattle.mr_world.proofs.Names.Replica.{◌orelse◌}
use Rattle.mr_world.proofs.Names.Model.{In, IsReleased, IsVouched, Issue, Versions, change_if_found, feed_after, holding_after_release, is}
use Rattle.mr_world.proofs.Names.Model.{item_of, made_with, numbered, only, pushed_out, stored, with_holding, ◌without◌, ◌with◌}
use Rattle.mr_world.proofs.Names.Laws.{Inv, IsIssueList, any_elim, at_elim, feed_stays, is_from, is_path, numbered_in, one_test}
use Rattle.mr_world.proofs.Names.Mails.{ClauseParts, Form, Mail, MailCard, Name, Rev, holds, supersedes, vector_has}
use Rattle.mr_world.proofs.Names.World.{Agrees, HoldingsAgree, HoldsAs, IsTrueLine, IsTrueRevision, MailMoment, SessionsAgree, Stepped, StreamsAgree}
use Rattle.mr_world.proofs.Names.World.{World, seen_receipt, setting_of}
use Rattle.mr_model.specs.History as model
use Rattle.mr_replica.specs.Vouch.{IsReceiptFor}
use Rattle.mr_replica.specs.declared.event.Event.TheVariants as replica
use Rattle.mr_replica.specs.declared.event.Reply.TheVariants.{Vouched}
use Rattle.mr_replica.specs.declared.refusal.Refusal.TheVariants.{Retired}
use Rattle.mr_world.proofs.Moving.ByParts.{with_given, with_replica}
use Rattle.mr_model.specs.Changes.{Change}
use Rattle.mr_model.specs.declared.event.Act.TheVariants as act
use Rattle.mr_world.proofs.Groundwork.Orders.{in_held}
use Rattle.mr_world.proofs.Agreement.Learning.{lower_is, some_hold}
use Rattle.mr_world.proofs.Agreement.Staying.{own_agrees, tables_hold}
use Rattle.mr_world.proofs.Moving.Refines.{Refines, Replies, alive, by_change}
use Rattle.mr_world.proofs.Groundwork.Tools.{at_self, find_in, map_in, numbered_map, orelse_none, to_true}

-- what a receipt frees is its version and what that supersedes
pub freed_is : (issues : List (Issue Mail)) → IsIssueList issues → (d : DescentParts) → IsTrueLine issues d → (y : Rev) → IsTrueRevision issues y →
    supersedes d.item (vouched d) y ≡ (only d.version with made_with issues d.version) y.version
freed_is issues ok d true_line y t =
    freed (is y.item d.item) (is y.version d.version) (vector_has d.below y.version) (is d.version y.version) (made_with issues d.version y.version)
    (lower_is issues ok d.item d.version d.below true_line y t)
    (one_test (is y.version d.version) (is d.version y.version) (λ h. is_from d.version y.version (sym (is_path y.version d.version h))) (λ h. is_from y.version d.version (sym (is_path d.version y.version h))))
    (λ h. is_from y.item d.item (sym t.below.of_item ∙ (ap (item_of issues) (is_path y.version d.version h) ∙ true_line.of_item)))
  where
    freed : (i v b u l : Bool) → (i && b) ≡ l → v ≡ u → (IsTrue v → IsTrue i) → (i && ((v || false) || b)) ≡ (u || l)
    freed i v b u l e s h = grind arith

module _ {K : Type 0} (form : Form K) (filters : ℕ → List ClauseParts) (w : World K) (m : MailMoment) (inv : Inv (setting_of filters) m) (a : Agrees form filters w m) (r : ℕ) where
  hold : HoldingsAgree form m.issues filters r (m.holding r) (m.feed r) (m.is_retired r) (w.replicas r)
  hold = a.holdings r

  -- ---- Vouch

  vouch_agrees : (v : Name) (x : Receipt) → IsFalse (w.replicas r).is_retired → IsReceiptFor (w.replicas r) v x →
      IsVouched m r v (seen_receipt x) × Agrees form filters (record (with_replica w r (logged (w.replicas r) (replica.Vouch v))) { receipts = x ∷ w.receipts }) (record m { receipts = seen_receipt x ∷ m.receipts })
  vouch_agrees v x living step = (
    record {
      alive = hold.is_retired ∙ living;
      giver = ap (λ (z : Receipt). z.giver) step.2 ∙ hold.id;
      version = ap (λ (z : Receipt). z.descent.version) step.2 ∙ is_path y.version v found.1;
      stored = subst (λ (z : Name). IsTrue (stored m r z)) (is_path y.version v found.1) (sym (hold.heads.same y.version) ∙ in_held (w.replicas r).heads y found.0);
    },
    record {
      asks = a.asks;
      given = a.given;
      records = a.records;
      vouched = ap (λ (xs : List model.Receipt). seen_receipt x ∷ xs) a.vouched;
      receipts = λ z i. elim i [ inl e ↦ subst (λ (u : Receipt). IsTrueLine m.issues u.descent) (sym step.2 ∙ e) (hold.heads.each y found.0).below | inr j ↦ a.receipts z j ];
      ports = a.ports;
      holdings = λ z. at_elim (λ (u : ℕ) (st : State K). HoldingsAgree form m.issues filters u (m.holding u) (m.feed u) (m.is_retired u) st) w.replicas r (logged (w.replicas r) (replica.Vouch v)) z
          (tables_hold form m.issues filters r (m.holding r) (m.feed r) (m.is_retired r) (w.replicas r) (logged (w.replicas r) (replica.Vouch v)).log (w.replicas r).sessions (w.replicas r).streams hold) (a.holdings z);
      sessions = λ z. at_elim (λ (u : ℕ) (st : State K). SessionsAgree w.records (m.taken_in u) st.sessions) w.replicas r (logged (w.replicas r) (replica.Vouch v)) z (a.sessions r) (a.sessions z);
      streams = λ z. at_elim (λ (u : ℕ) (st : State K). StreamsAgree m.issues filters w.records m.given u (m.ask_of u) (m.known_at_answer u) (m.held_at_draw u) st.streams) w.replicas r (logged (w.replicas r) (replica.Vouch v)) z (a.streams r) (a.streams z);
    },
  )
    where
      y : Rev
      y = step.0

      found : In y (w.replicas r).heads × IsTrue (is y.version v)
      found = find_in (λ (z : Rev). is z.version v) (w.replicas r).heads y step.1

  pub vouches : (v : Name) → Replies form filters w m r (act.Vouch v) (replica.Vouch v)
  vouches v (Vouched x) new none step =
      let living = alive form (w.replicas r) (refused_if (not (holds (w.replicas r).heads v)) (NotHeld v) orelse log_full (w.replicas r)) none in
      subst (λ (s : State K). Refines form filters w m r (act.Vouch v) (Stepped (Ok (Vouched x))) (with_given (with_replica w r s) (Ok (Vouched x)))) (sym step.1) (vouch_agrees v x living step.0)
  vouches v reply new none step = absurd step

  -- ---- Release

  release_agrees : (x : Receipt) → In x w.receipts → IsFalse (w.replicas r).is_retired → IsTrue (list_any (supersedes x.descent.item (vouched x.descent)) (w.replicas r).push_outs) →
      IsReleased m r (seen_receipt x) × Agrees form filters (with_replica w r (logged (releasing (w.replicas r) x) (replica.Release x))) (with_holding (setting_of filters) m r (holding_after_release m r x.descent.version))
  release_agrees x i living some = (
    record {
      alive = hold.is_retired ∙ living;
      in_pool = subst (In (seen_receipt x)) (sym a.vouched) (map_in seen_receipt w.receipts x i);
      frees = (freed.0.version, sym (hold.push_outs.same freed.0.version) ∙ in_held (w.replicas r).push_outs freed.0 freed.1, sym (is_freed_by freed.0 (hold.push_outs.each freed.0 freed.1)) ∙ freed.2);
    },
    subst (Agrees form filters (with_replica w r new))
        (λ i. record (with_holding (setting_of filters) m r (holding_after_release m r x.descent.version)) { is_retired = at_self m.is_retired r i; taken_in = at_self m.taken_in r i })
        (own_agrees form filters w m a r new (holding_after_release m r x.descent.version) (feed_after (setting_of filters) m.issues (stored m r) (stored m r) (m.feed r)) (m.is_retired r) (m.taken_in r) after (a.sessions r) (a.streams r)),
  )
    where
      new : State K
      new = logged (releasing (w.replicas r) x) (replica.Release x)

      is_freed : Rev → Bool
      is_freed y = supersedes x.descent.item (vouched x.descent) y

      out : Versions
      out = only x.descent.version with made_with m.issues x.descent.version

      freed : (y : Rev) × In y (w.replicas r).push_outs × IsTrue (is_freed y)
      freed = any_elim is_freed (w.replicas r).push_outs some

      is_freed_by : (y : Rev) → IsTrueRevision m.issues y → is_freed y ≡ out y.version
      is_freed_by y t = freed_is m.issues inv.core.sets.list x.descent (a.receipts x i) y t

      left : List Rev
      left = filter (λ y. not (is_freed y)) (w.replicas r).push_outs

      left_hold : HoldsAs m.issues left (pushed_out m r without out)
      left_hold = some_hold m.issues (w.replicas r).push_outs (pushed_out m r) (λ v. not (out v)) (λ y. not (is_freed y)) hold.push_outs (λ y t. ap not (is_freed_by y t))

      after : HoldingsAgree form m.issues filters r (holding_after_release m r x.descent.version) (feed_after (setting_of filters) m.issues (stored m r) (stored m r) (m.feed r)) (m.is_retired r) new
      after = record {
        id = hold.id;
        filter = hold.filter;
        is_retired = hold.is_retired;
        knows = hold.knows;
        heads = hold.heads;
        push_outs = left_hold;
        entries = feed_stays (setting_of filters) m.issues (stored m r) (m.feed r) ∙ hold.entries;
        count = hold.count;
        last = hold.last;
        last_below = hold.last_below;
      }

  pub releases : (n : ℕ) (x : Receipt) → numbered w.receipts n ≡ Some x → Replies form filters w m r (act.Release n) (replica.Release x)
  releases n x pool Done new none step =
      let later = orelse_none (retired (w.replicas r)) (refused_if (not some) NotPushedOut orelse log_full (w.replicas r)) none in
      let rest = orelse_none (refused_if (not some) NotPushedOut) (log_full (w.replicas r)) later.1 in
      subst (λ (s : State K). Refines form filters w m r (act.Release n) (Stepped (Ok Done)) (with_replica w r s)) (sym step)
      (by_change form filters w m r (act.Release n) (Stepped (Ok Done)) (with_replica w r (logged (releasing (w.replicas r) x) (replica.Release x))) (Change.Releases r (seen_receipt x)) (ap (λ (o : Option model.Receipt). change_if_found {C = MailCard} o (Change.Releases r)) given)
      (release_agrees x (numbered_in w.receipts n x pool) (not_refused (w.replicas r).is_retired Retired later.0) (to_true some (not_refused (not some) NotPushedOut rest.0))))
    where
      given : numbered m.receipts n ≡ Some (seen_receipt x)
      given = ap (λ (xs : List model.Receipt). numbered xs n) a.vouched ∙ numbered_map seen_receipt w.receipts n x pool

      some : Bool
      some = list_any (supersedes x.descent.item (vouched x.descent)) (w.replicas r).push_outs
  releases n x pool reply new none step = absurd step
