use Rattle.mr_kept.proofs.Names.{HasLog, device_of, head_of, journal_of, notes_of, started, widened}
use Rattle.mr_kept.proofs.LeftLemmas.{head_on, left_now, same_notes}
use Rattle.mr_kept.proofs.OpenLemmas.{closed_in, closed_on, cut_now, kept_mid, moments_close, no_note_waits}
use Rattle.mr_kept.proofs.journaled.Journaled.close.Goals as goal

pub returns-in_err-are_closed-clause-any_moment : goal.returns-in_err-are_closed-clause-any_moment
returns-in_err-are_closed-clause-any_moment g c = λ told entries kept.
    let device = device_of (journal_of c.args.self.now) in
    started {old = device} (λ file left. cut_now entries c.args.self.now kept file (g.met.D.Device.only_now device file left))

pub returns-in_err-commit-clause-any_moment : goal.returns-in_err-commit-clause-any_moment
returns-in_err-commit-clause-any_moment g c = λ told entries kept.
    let takes = c.in_ok-are_closed.ensures.takes in
    moments_close entries c.args.self.now c.close_all.new.replica c.in_ok-are_closed.are_closed _ _ kept c.requires.waits takes (c.commit.ensures.leaves.any_moment told entries (kept_mid entries c.args.self.now _ c.in_ok-are_closed.are_closed kept takes))

pub returns-clause-closed : goal.returns-clause-closed
returns-clause-closed g c = λ all. closed_on c.close_all.new.replica _ c.commit.ensures.replica (c.in_ok-are_closed.ensures.closed all)

pub returns-clause-kept : goal.returns-clause-kept
returns-clause-kept g c = λ told entries kept.
    let takes = c.in_ok-are_closed.ensures.takes in
    closed_in entries c.args.self.now c.close_all.new.replica c.commit.new.self c.in_ok-are_closed.are_closed kept c.requires.waits takes c.commit.ensures.replica
    (c.in_ok-commit.ensures.committed.kept told entries (kept_mid entries c.args.self.now _ c.in_ok-are_closed.are_closed kept takes))

pub returns-clause-any_moment : goal.returns-clause-any_moment
returns-clause-any_moment g c = λ told entries kept.
    let takes = c.in_ok-are_closed.ensures.takes in
    moments_close entries c.args.self.now c.close_all.new.replica c.in_ok-are_closed.are_closed _ _ kept c.requires.waits takes (c.commit.ensures.leaves.any_moment told entries (kept_mid entries c.args.self.now _ c.in_ok-are_closed.are_closed kept takes))

pub returns-in_err-are_closed-clause-left : goal.returns-in_err-are_closed-clause-left
returns-in_err-are_closed-clause-left g c = λ told entries kept of.
    let device = device_of (journal_of c.args.self.now) in
    started {old = device} (λ file left. left_now g.K.Knowledge.form entries c.args.self.now file kept c.log-log.ensures.is_its_log of (g.met.D.Device.only_now device file left))

pub returns-in_err-commit-clause-left : goal.returns-in_err-commit-clause-left
returns-in_err-commit-clause-left g c = λ told entries kept of.
    let takes = c.in_ok-are_closed.ensures.takes in
    let mid = record c.args.self.now { replica = c.close_all.new.replica } in
    widened (λ file. HasLog g.K.Knowledge.form file (head_of c.args.self.now) (notes_of entries))
    (c.commit.ensures.leaves.left told entries (kept_mid entries c.args.self.now _ c.in_ok-are_closed.are_closed kept takes) (head_on g.K.Knowledge.form (head_of c.args.self.now) c.args.self.now.replica c.close_all.new.replica takes.setting of))
    (λ file here. same_notes g.K.Knowledge.form entries mid file (no_note_waits c.args.self.now c.requires.waits) here)

pub returns-clause-left : goal.returns-clause-left
returns-clause-left g c = λ told entries kept of.
    let takes = c.in_ok-are_closed.ensures.takes in
    let mid = record c.args.self.now { replica = c.close_all.new.replica } in
    widened (λ file. HasLog g.K.Knowledge.form file (head_of c.args.self.now) (notes_of entries))
    (c.commit.ensures.leaves.left told entries (kept_mid entries c.args.self.now _ c.in_ok-are_closed.are_closed kept takes) (head_on g.K.Knowledge.form (head_of c.args.self.now) c.args.self.now.replica c.close_all.new.replica takes.setting of))
    (λ file here. same_notes g.K.Knowledge.form entries mid file (no_note_waits c.args.self.now c.requires.waits) here)
