use Rattle.std.proofs.Common.{◌++◌, inl, inr, ⊎_elim, sym, subst, ◌∙◌}
use Rattle.std.proofs.lemmas.Result.{on_ok_weaker}
use Rattle.mr_journal.specs.Device.{LeavesOnly}
use Rattle.mr_journal.specs.Journal.{device_of}
use Rattle.mr_kept.specs.Kept.{entries_waiting, journal_of, replica_of}
use Rattle.mr_fold.specs.Settling.{AddsInTurn, IsToldFirst}
use Rattle.mr_fold.specs.Telling.{Grows, TellsAll}
use Rattle.mr_fold.proofs.MovingLemmas.{shows_then, tells_first}
use Rattle.mr_fold.proofs.SettlingLemmas.{all_stay, kept_noted, kept_told, none_waits, noted_after, settles_if_kept, told_kept, unwritten}
use Rattle.mr_fold.proofs.settling.settle_moved.Goals as goal

pub returns-clause-settles : goal.returns-clause-settles
returns-clause-settles g c =
    let old = c.args.kept.now in
    let told = c.tell.new.kept in
    let mid = c.commit.new.kept in
    let new = c.commit-2.new.kept in
    let put = c.in_ok-note.ensures.noted in
    settles_if_kept g.D.Device g.F.MailFiles.are_synced c.args.held.now.entries c.args.lacking.now c.commit-2.result c.args.moved.now old new c.note.new.files c.commit-2.ensures.all_kept c.in_ok-note.ensures.all_synced
    (subst (λ s. Grows (TellsAll c.args.held.now.entries c.args.moved.now) (replica_of old) s) (sym (c.commit-2.ensures.replica ∙ put.replica ∙ c.commit.ensures.replica)) c.in_ok-tell.ensures.told)
    (λ is entries kept.
    let first = c.in_ok-commit.ensures.kept is entries (kept_told entries old told c.tell.ensures.journal c.in_ok-tell.ensures.told kept) in
    on_ok_weaker c.commit-2.result
    (noted_after entries old told mid c.note.new.kept new c.args.lacking.now c.tell.ensures.journal (none_waits mid c.in_ok-commit.ensures.all_kept) put c.commit-2.ensures.replica)
    (c.commit-2.ensures.kept is _ (kept_noted _ mid c.note.new.kept _ first put)))

pub returns-in_err-tell-clause-moments : goal.returns-in_err-tell-clause-moments
returns-in_err-tell-clause-moments g c = λ others _ entries kept.
    unwritten entries c.args.kept.now c.tell.new.kept (AddsInTurn c.args.held.now.entries c.args.lacking.now c.args.moved.now others c.args.kept.now c.tell.new.kept entries) (λ f before. inl before) g.met.D.Device.only_now kept
    c.tell.ensures.journal.journal

pub returns-in_err-commit-clause-moments : goal.returns-in_err-commit-clause-moments
returns-in_err-commit-clause-moments g c = λ others is entries kept.
    tells_first c.args.held.now.entries c.args.lacking.now entries c.args.moved.now others c.args.kept.now c.tell.new.kept c.commit.new.kept c.commit.new.kept c.tell.ensures.journal c.in_ok-tell.ensures.told kept
    (c.commit.ensures.any_moment is entries)

pub returns-in_err-show-clause-moments : goal.returns-in_err-show-clause-moments
returns-in_err-show-clause-moments g c = λ others is entries kept.
    tells_first c.args.held.now.entries c.args.lacking.now entries c.args.moved.now others c.args.kept.now c.tell.new.kept c.commit.new.kept c.commit.new.kept c.tell.ensures.journal c.in_ok-tell.ensures.told kept
    (c.commit.ensures.any_moment is entries)

pub returns-in_err-note-clause-moments : goal.returns-in_err-note-clause-moments
returns-in_err-note-clause-moments g c = λ others is entries kept.
    let old = c.args.kept.now in
    let noted = c.note.new.kept in
    subst (λ j. LeavesOnly g.D.Device.moment g.D.Device.left_since (device_of (journal_of old)) (device_of j) (AddsInTurn c.args.held.now.entries c.args.lacking.now c.args.moved.now others old noted entries)) (sym c.note.ensures.journal)
    (tells_first c.args.held.now.entries c.args.lacking.now entries c.args.moved.now others old c.tell.new.kept c.commit.new.kept noted c.tell.ensures.journal c.in_ok-tell.ensures.told kept (c.commit.ensures.any_moment is entries))

pub returns-clause-moments : goal.returns-clause-moments
returns-clause-moments g c = λ others is entries kept.
    shows_then c.args.held.now.entries c.args.lacking.now entries c.args.moved.now others c.args.kept.now c.tell.new.kept c.commit.new.kept c.note.new.kept c.commit-2.new.kept c.tell.ensures.journal c.in_ok-tell.ensures.told kept
    (c.commit.ensures.any_moment is entries) (c.in_ok-commit.ensures.kept is entries) c.in_ok-commit.ensures.all_kept c.in_ok-note.ensures.noted c.commit-2.ensures.replica
    (c.commit-2.ensures.any_moment is (entries ++ entries_waiting c.tell.new.kept))

pub returns-clause-shown : goal.returns-clause-shown
returns-clause-shown g c =
    on_ok_weaker c.commit-2.result (λ _. all_stay c.args.moved.now c.show.new.files c.note.new.files c.note.ensures.stay c.in_ok-show.ensures) c.commit-2.ensures.all_kept

pub returns-in_err-tell-clause-told_first : goal.returns-in_err-tell-clause-told_first
returns-in_err-tell-clause-told_first g c = λ is entries kept. inl c.tell.ensures.stay.synced

pub returns-in_err-commit-clause-told_first : goal.returns-in_err-commit-clause-told_first
returns-in_err-commit-clause-told_first g c = λ is entries kept. inl c.tell.ensures.stay.synced

pub returns-in_err-show-clause-told_first : goal.returns-in_err-show-clause-told_first
returns-in_err-show-clause-told_first g c = λ is entries kept.
    inr (told_kept entries c.args.held.now.entries c.args.moved.now c.args.kept.now c.tell.new.kept c.commit.new.kept c.tell.ensures.journal c.in_ok-tell.ensures.told kept (c.in_ok-commit.ensures.kept is entries)
    c.in_ok-commit.ensures.all_kept c.commit.ensures.replica)

pub returns-in_err-note-clause-told_first : goal.returns-in_err-note-clause-told_first
returns-in_err-note-clause-told_first g c = λ is entries kept.
    let old = c.args.kept.now in
    let told_so = told_kept entries c.args.held.now.entries c.args.moved.now old c.tell.new.kept c.commit.new.kept c.tell.ensures.journal c.in_ok-tell.ensures.told kept (c.in_ok-commit.ensures.kept is entries) c.in_ok-commit.ensures.all_kept c.commit.ensures.replica in
    ⊎_elim
    (λ synced. inl (λ _. synced))
    (λ same. inr (subst (λ j. IsToldFirst g.D.Device.seen g.D.Device.may_leave entries c.args.held.now.entries c.args.moved.now old j) (sym same) told_so))
    c.in_err-note.ensures.failed

pub returns-clause-told_first : goal.returns-clause-told_first
returns-clause-told_first g c = λ is entries kept. inl (λ _. c.in_ok-note.ensures.all_synced)
