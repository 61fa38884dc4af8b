use Rattle.std.proofs.Common.{◌≡◌, ap, arith, inl, refl, rules, sym, ◌∙◌, length, Result, Ok, Err}
use Rattle.mr_kept.proofs.Names.{Global, Journal, JournalFault, KeptFault, Reply, Uncommitted, Vec, contents, drop_all, entry_bytes, issued_after, issued_of}
use Rattle.mr_kept.proofs.Names.{kept_fault_of, map, replica_of}
use Rattle.mr_kept.proofs.LeftLemmas.{leaves_batch, leaves_same}
use Rattle.mr_kept.proofs.KeptLemmas.{kept_after, spelled_waits, waiting_is, waits_are}
use Rattle.mr_kept.proofs.OpenLemmas.{none_waits}
use Rattle.mr_kept.proofs.RoomLemmas.{batch_fault, err_by, failed_is, has_room, journal_fault, never_failed}
use Rattle.mr_kept.proofs.journaled.Journaled.commit.Goals as goal

-- ---- what a crash leaves

pub returns-then-has_failed-clause-leaves : goal.returns-then-has_failed-clause-leaves
returns-then-has_failed-clause-leaves g c = leaves_same g.K.Knowledge.form g.D.Device g.met.D.Device.only_now c.args.self.now c.log-log.ensures.is_its_log

pub returns-in_err-batch-clause-leaves : goal.returns-in_err-batch-clause-leaves
returns-in_err-batch-clause-leaves g c = leaves_same g.K.Knowledge.form g.D.Device g.met.D.Device.only_now c.args.self.now c.log-log.ensures.is_its_log

pub returns-in_err-commit-clause-leaves : goal.returns-in_err-commit-clause-leaves
returns-in_err-commit-clause-leaves g c =
    let old = c.args.self.now in
    let spelled = spelled_waits old c.log-log.result.now c.min.result c.deref-notes.result.now c.in_ok-batch.batch.entries.items c.deref.result.now c.log-log.ensures.all c.min.ensures c.deref-notes.ensures.value c.deref.ensures.value c.in_ok-batch.ensures.spelled in
    leaves_batch g.K.Knowledge.form g.D.Device old (record old { journal = c.commit.new.self }) (contents c.deref.result.now) c.log-log.ensures.is_its_log spelled c.commit.ensures.any_moment

pub returns-clause-leaves : goal.returns-clause-leaves
returns-clause-leaves g c =
    let old = c.args.self.now in
    let spelled = spelled_waits old c.log-log.result.now c.min.result c.deref-notes.result.now c.in_ok-batch.batch.entries.items c.deref.result.now c.log-log.ensures.all c.min.ensures c.deref-notes.ensures.value c.deref.ensures.value c.in_ok-batch.ensures.spelled in
    leaves_batch g.K.Knowledge.form g.D.Device old _ (contents c.deref.result.now) c.log-log.ensures.is_its_log spelled c.commit.ensures.any_moment

-- ---- what waits is kept, or why it isn't

pub returns-clause-committed : goal.returns-clause-committed
returns-clause-committed g c =
    let old = c.args.self.now in
    let sound = sym c.has_failed.ensures ∙ c.if-has_failed.false in
    let spelled = spelled_waits old c.log-log.result.now c.min.result c.deref-notes.result.now c.in_ok-batch.batch.entries.items c.deref.result.now c.log-log.ensures.all c.min.ensures c.deref-notes.ensures.value c.deref.ensures.value c.in_ok-batch.ensures.spelled in
    let waits = waiting_is old c.log-log.result.now c.min.result c.log-log.ensures.all c.min.ensures in
    let log = (replica_of old).log in
    let len : length c.log-log.result.now ≡ length log = ap length c.log-log.ensures.all in
    let new = record old { journal = c.commit.new.self; kept = length c.log-log.result.now; issued = c.in_ok-batch.batch.issued; leaving = c.replace.new.dest; notes = c.new.result } in
    record {
      can = record { sound = sound; room = has_room old c.deref.result.now (Ok tt) tt refl spelled (λ some none. (c.in_ok-commit.ensures.too_large sound some).1 none) };
      handed_out = search rules;
      none_waits = (none_waits new (sym len) c.new.ensures.items, drop_all (length c.log-log.result.now) log (omega (arith, len)), c.new.ensures.items, ap (λ (v : Vec Reply Global). v.items) c.replace.ensures.after ∙ c.new-2.ensures.items);
      kept = λ told entries kept.
          kept_after entries old new (contents c.deref.result.now) kept spelled (c.in_ok-commit.ensures.kept told (map entry_bytes entries) kept.device) refl refl len
          (c.in_ok-batch.ensures.counted ∙ ap (issued_after (issued_of old)) waits);
    }

pub returns-then-has_failed-clause-uncommitted : goal.returns-then-has_failed-clause-uncommitted
returns-then-has_failed-clause-uncommitted g c = record {
  why = tt;
  back = record { kept = refl; issued = refl; leaving_is = refl; notes = refl };
  unchanged = λ _. refl;
  cause = λ told is. inl (sym c.has_failed.ensures ∙ c.if-has_failed.true);
}

pub returns-in_err-batch-clause-uncommitted : goal.returns-in_err-batch-clause-uncommitted
returns-in_err-batch-clause-uncommitted g c =
    let old = c.args.self.now in
    let sound = sym c.has_failed.ensures ∙ c.if-has_failed.false in
    let waits = waits_are old c.log-log.result.now c.min.result c.deref-notes.result.now c.log-log.ensures.all c.min.ensures c.deref-notes.ensures.value in
    let fault = c.in_err-batch.field-0.0 in
    err_by (λ (fault : KeptFault). Uncommitted g.D.Device old fault old) c.from_residual.result fault c.from_residual.ensures.1 (record {
      why = batch_fault old _ fault sound waits c.in_err-batch.ensures.fault;
      back = record { kept = refl; issued = refl; leaving_is = refl; notes = refl };
      unchanged = λ _. refl;
      cause = λ told is. absurd (never_failed _ fault c.in_err-batch.ensures.fault is);
    })

pub returns-in_err-commit-clause-uncommitted : goal.returns-in_err-commit-clause-uncommitted
returns-in_err-commit-clause-uncommitted g c =
    let old = c.args.self.now in
    let sound = sym c.has_failed.ensures ∙ c.if-has_failed.false in
    let spelled = spelled_waits old c.log-log.result.now c.min.result c.deref-notes.result.now c.in_ok-batch.batch.entries.items c.deref.result.now c.log-log.ensures.all c.min.ensures c.deref-notes.ensures.value c.deref.ensures.value c.in_ok-batch.ensures.spelled in
    let as_err : JournalFault → Result (Unit {0}) JournalFault = λ e. Err e in
    let fault = c.in_err-commit.field-0.0 in
    err_by (λ (fault : KeptFault). Uncommitted g.D.Device old fault (record old { journal = c.commit.new.self })) c.from_residual-in_err-commit.result _ c.from_residual-in_err-commit.ensures.1 (record {
      why = journal_fault old c.deref.result.now fault sound spelled c.in_err-commit.ensures.only (λ none. c.in_err-commit.ensures.empty none sound) (λ some is. (c.in_err-commit.ensures.too_large sound some).0 (ap as_err is));
      back = record { kept = refl; issued = refl; leaving_is = refl; notes = refl };
      unchanged = λ no. ap (λ (j : Journal _). record old { journal = j }) (c.in_err-commit.ensures.refused (λ is. no (ap kept_fault_of is)));
      cause = λ told is. c.in_err-commit.ensures.cause told (failed_is fault c.in_err-commit.ensures.only is);
    })
