use Rattle.std.proofs.Common.{ap, refl, subst, sym, ◌∙◌}
use Rattle.std.proofs.lemmas.Result.{err_from_is_err_and}
use Rattle.mr_replica.specs.Replay.{IsItsLog}
use Rattle.mr_replica.specs.State.{State}
use Rattle.mr_kept.specs.declared.journaled.Journaled.{Journaled}
use Rattle.mr_hosted.specs.declared.outbox.Outbox.{Outbox}
use Rattle.mr_hosted.specs.Hosted.{journaled_of}
use Rattle.mr_hosted.proofs.FileLemmas.{all_kept, unhanded}
use Rattle.mr_hosted.proofs.hosted.Hosted.commit.Goals as goal

pub returns : goal.returns
returns g c =
    let its_log = subst (λ (s : State g.row.K.Denot). IsItsLog g.K.Knowledge.form s) c.replica-replica.ensures.is c.replica-replica.ensures.is_its_log in
    let done = c.in_ok-replies.ensures in
    let e = c.commit.ensures in (
      sym c.is_settled.ensures ∙ c.if-not-is_settled.false,
      record {
        tries = record { replica = e.replica; head = e.head; host = record { done = refl; failed = refl }; leaves = e.leaves };
        committed = done.committed;
        has_log = λ entries kept of. all_kept g.K.Knowledge.form entries (journaled_of c.args.self.now) c.commit.new.self (done.committed.kept refl entries kept) done.committed.none_waits.1 e.replica e.head its_log of;
      },
    )

pub returns-in_err-replies : goal.returns-in_err-replies
returns-in_err-replies g c =
    let p = err_from_is_err_and c.from_residual.result c.from_residual.ensures.1 in
    let old = c.args.self.now in
    let e = c.commit.ensures in
    let un = c.in_err-replies.ensures.uncommitted in
    rw (p.1, p.2) (unhanded g.K.Knowledge.form old (record old { journaled = c.commit.new.self }) c.in_err-replies.field-0.0 (
      sym c.is_settled.ensures ∙ c.if-not-is_settled.false,
      record {
        tries = record { replica = e.replica; head = e.head; host = record { done = refl; failed = refl }; leaves = e.leaves };
        uncommitted = un;
        unchanged = λ no. ap (λ (j : Journaled g.row.K.Denot Outbox g.row.K-Vector.Denot). record old { journaled = j }) (un.unchanged no);
        handed_out_is = refl;
      },
    ))
