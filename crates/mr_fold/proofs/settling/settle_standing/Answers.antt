use Rattle.std.proofs.Common.{inl, sym, subst, ◌∙◌}
use Rattle.std.proofs.lemmas.Result.{on_ok_weaker}
use Rattle.mr_kept.specs.Kept.{notes_waiting, replica_of}
use Rattle.mr_fold.specs.Settling.{AddsAtOnce}
use Rattle.mr_fold.specs.Telling.{Grows, TellsAll}
use Rattle.mr_fold.proofs.SettlingLemmas.{kept_noted, kept_told, noted_by, settles_if_kept, stay_then, told_at_once, unwritten}
use Rattle.mr_fold.proofs.settling.settle_standing.Goals as goal

pub returns-clause-settles : goal.returns-clause-settles
returns-clause-settles g c =
    let old = c.args.kept.now in
    let told = c.tell.new.kept in
    let new = c.commit.new.kept in
    let put = c.in_ok-note.ensures.noted in
    settles_if_kept g.D.Device g.F.MailFiles.are_synced c.args.held.now.entries c.args.lacking.now c.commit.result c.args.standing.now old new c.note.new.files c.commit.ensures.all_kept c.in_ok-note.ensures.all_synced
    (subst (λ s. Grows (TellsAll c.args.held.now.entries c.args.standing.now) (replica_of old) s) (sym (c.commit.ensures.replica ∙ put.replica)) c.in_ok-tell.ensures.told)
    (λ is entries kept.
    on_ok_weaker c.commit.result (noted_by entries (notes_waiting old) told c.note.new.kept new c.args.lacking.now c.tell.ensures.journal.notes put c.commit.ensures.replica)
    (c.commit.ensures.kept is entries (kept_noted entries told c.note.new.kept _ (kept_told entries old told c.tell.ensures.journal c.in_ok-tell.ensures.told kept) put)))

pub returns-in_err-tell-clause-at_once : goal.returns-in_err-tell-clause-at_once
returns-in_err-tell-clause-at_once g c = λ _ entries kept.
    unwritten entries c.args.kept.now c.tell.new.kept (AddsAtOnce c.args.lacking.now c.args.kept.now c.tell.new.kept entries) (λ f before. inl before) g.met.D.Device.only_now kept c.tell.ensures.journal.journal

pub returns-in_err-note-clause-at_once : goal.returns-in_err-note-clause-at_once
returns-in_err-note-clause-at_once g c = λ _ entries kept.
    unwritten entries c.args.kept.now c.note.new.kept (AddsAtOnce c.args.lacking.now c.args.kept.now c.note.new.kept entries) (λ f before. inl before) g.met.D.Device.only_now kept (c.note.ensures.journal ∙ c.tell.ensures.journal.journal)

pub returns-clause-at_once : goal.returns-clause-at_once
returns-clause-at_once g c = λ is entries kept.
    told_at_once c.args.lacking.now entries c.args.kept.now c.tell.new.kept c.note.new.kept c.commit.new.kept c.tell.ensures.journal c.in_ok-tell.ensures.told c.in_ok-note.ensures.noted c.commit.ensures.replica kept
    (c.commit.ensures.any_moment is entries)

pub returns-in_err-note-clause-stay : goal.returns-in_err-note-clause-stay
returns-in_err-note-clause-stay g c = stay_then c.args.files.now c.tell.new.files c.note.new.files c.tell.ensures.stay c.note.ensures.stay

pub returns-clause-stay : goal.returns-clause-stay
returns-clause-stay g c = stay_then c.args.files.now c.tell.new.files c.note.new.files c.tell.ensures.stay c.note.ensures.stay
