use Rattle.std.proofs.Common.{◌≡◌, List, ap, subst, sym, ◌∙◌}
use Rattle.mr_madewith.specs.Revision.{Rev}
use Rattle.mr_sync.proofs.Names.{All, Normal, PushOut, State, replica_of}
use Rattle.mr_sync.specs.inner.Vouching.{GivesReceipt, IsVouchOf, IsVouchedFor}
use Rattle.mr_sync.proofs.VouchLaws.{grows_under, receipt_of}
use Rattle.mr_sync.proofs.vouching.vouch_held.Goals as goal

pub returns-clause-log : goal.returns-clause-log
returns-clause-log g c = λ told.
    let heads = (replica_of c.args.kept.now).heads in
    let same : c.heads.result.now ≡ heads = c.heads.ensures.all ∙ ap (λ (s : State Normal). s.heads) c.replica.ensures.is in
    let found = subst (λ (hs : List Rev). All (λ (p : PushOut). IsVouchedFor g.F.FileTree.seen g.F.FileTree.may_leave hs c.args.waiting.now c.answers.new.files p.version) c.in_ok-heads.heads.items) same (c.in_ok-heads.ensures.heads told) in
    let here = subst (λ (ps : List PushOut). All (λ (p : PushOut). IsVouchedFor g.F.FileTree.seen g.F.FileTree.may_leave heads c.args.waiting.now c.answers.new.files p.version) ps) (sym c.deref.ensures.value) found in
    grows_under (IsVouchOf c.deref.result.now) (GivesReceipt g.F.FileTree.seen g.F.FileTree.may_leave heads c.args.waiting.now c.answers.new.files) (receipt_of heads c.args.waiting.now c.deref.result.now here) c.vouch_all.ensures.grows
