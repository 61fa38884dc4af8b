use Rattle.std.proofs.Common.{refl, sym, append-nil}
use Rattle.mr_sync.proofs.Names.{PushOut, Vouch, journal_of, replica_of, sparing_form}
use Rattle.mr_sync.specs.inner.Vouching.{IsVouchOf}
use Rattle.mr_sync.proofs.GrowLaws.{answered_log, grows_not, grows_on, later_grows, told_more}
use Rattle.mr_sync.proofs.VouchLaws.{vouch_of}
use Rattle.mr_sync.proofs.vouching.vouch_all.Goals as goal

pub loop-head-init : goal.loop-head-init
loop-head-init g c = record {
  all = sym (append-nil (replica_of c.args.kept.now).log);
  grows = grows_not (IsVouchOf c.args.heads.now) _ _ refl;
}

pub loop-head-preserved : goal.loop-head-preserved
loop-head-preserved g c =
    let h = c.in_ok-vouch.ensures.later in
    record {
      all = told_more (λ (p : PushOut). Vouch p.version) c.args.heads.now c.loop-head.head-index c.head-item.result _ _ _ c.loop-head.invariant.all c.loop-head-test.true c.head-item.is
          (answered_log sparing_form (journal_of c.loop-head.kept) (replica_of c.loop-head.kept) (Vouch c.head-item.result.version) h.0 (replica_of c.vouch.new.self) h.1);
      grows = grows_on (IsVouchOf c.args.heads.now) _ _ _ c.loop-head.invariant.grows
          (later_grows (IsVouchOf c.args.heads.now) c.loop-head.kept c.vouch.new.self (Vouch c.head-item.result.version) c.vouch.result c.vouch.ensures.later (vouch_of c.args.heads.now c.loop-head.head-index c.head-item.result c.loop-head-test.true c.head-item.is));
    }

pub returns-in_err-vouch-clause-grows : goal.returns-in_err-vouch-clause-grows
returns-in_err-vouch-clause-grows g c =
    grows_on (IsVouchOf c.args.heads.now) _ _ _ c.loop-head.invariant.grows
    (later_grows (IsVouchOf c.args.heads.now) c.loop-head.kept c.vouch.new.self (Vouch c.head-item.result.version) c.vouch.result c.vouch.ensures.later (vouch_of c.args.heads.now c.loop-head.head-index c.head-item.result c.loop-head-test.true c.head-item.is))
