use Rattle.std.proofs.Common.{[], inl, refl, sym, ◌∙◌}
use Rattle.std.proofs.lemmas.List.Elements.{All-nil, All-same}
use Rattle.std.proofs.lemmas.Result.{on_ok_weaker}
use Rattle.mr_fold.proofs.MovingLemmas.{begins_at_once, begun_then}
use Rattle.mr_fold.proofs.SettlingLemmas.{all_stay, none_from, settles_alone, settles_first, settles_then, some_from}
use Rattle.mr_fold.proofs.settling.settle.Goals as goal

pub returns-then-is_empty-clause-settles : goal.returns-then-is_empty-clause-settles
returns-then-is_empty-clause-settles g c =
    on_ok_weaker c.settle_standing.result
    (settles_alone c.args.moved.now c.args.standing.now c.args.kept.now c.settle_standing.new.kept c.settle_standing.new.files (none_from c.args.moved.now (sym c.is_empty.ensures ∙ c.if-is_empty.true)))
    c.settle_standing.ensures.settles

pub returns-then-is_empty-clause-moments : goal.returns-then-is_empty-clause-moments
returns-then-is_empty-clause-moments g c = λ told entries kept.
    begins_at_once c.args.held.now.entries c.args.lacking.now c.args.moved.now c.args.standing.now c.args.kept.now c.settle_standing.new.kept entries (c.settle_standing.ensures.at_once told entries kept)

pub returns-then-is_empty-clause-shown : goal.returns-then-is_empty-clause-shown
returns-then-is_empty-clause-shown g c =
    let is_shown = g.F.MailFiles.is_shown c.settle_standing.new.files in
    on_ok_weaker c.settle_standing.result (λ _. All-same is_shown c.args.moved.now [] (none_from c.args.moved.now (sym c.is_empty.ensures ∙ c.if-is_empty.true)) (All-nil is_shown)) c.settle_standing.ensures.settles

pub returns-then-is_empty-clause-told_first : goal.returns-then-is_empty-clause-told_first
returns-then-is_empty-clause-told_first g c = λ told entries kept. inl c.settle_standing.ensures.stay.synced

pub returns-in_err-settle_moved-clause-at_once : goal.returns-in_err-settle_moved-clause-at_once
returns-in_err-settle_moved-clause-at_once g c = λ none. absurd (some_from c.args.moved.now (sym c.is_empty.ensures ∙ c.if-is_empty.false) none)

pub returns-in_err-settle_moved-clause-moments : goal.returns-in_err-settle_moved-clause-moments
returns-in_err-settle_moved-clause-moments g c = c.settle_moved.ensures.moments c.args.standing.now

pub returns-in_err-settle_moved-clause-stay : goal.returns-in_err-settle_moved-clause-stay
returns-in_err-settle_moved-clause-stay g c = λ none. absurd (some_from c.args.moved.now (sym c.is_empty.ensures ∙ c.if-is_empty.false) none)

pub returns-then-is_empty-2-clause-settles : goal.returns-then-is_empty-2-clause-settles
returns-then-is_empty-2-clause-settles g c =
    settles_first c.args.moved.now c.args.standing.now c.args.kept.now c.settle_moved.new.kept c.settle_moved.new.files (none_from c.args.standing.now (sym c.is_empty-2.ensures ∙ c.if-is_empty-2.true)) c.in_ok-settle_moved.ensures.settles

pub returns-then-is_empty-2-clause-at_once : goal.returns-then-is_empty-2-clause-at_once
returns-then-is_empty-2-clause-at_once g c = λ none. absurd (some_from c.args.moved.now (sym c.is_empty.ensures ∙ c.if-is_empty.false) none)

pub returns-then-is_empty-2-clause-moments : goal.returns-then-is_empty-2-clause-moments
returns-then-is_empty-2-clause-moments g c = c.settle_moved.ensures.moments c.args.standing.now

pub returns-then-is_empty-2-clause-stay : goal.returns-then-is_empty-2-clause-stay
returns-then-is_empty-2-clause-stay g c = λ none. absurd (some_from c.args.moved.now (sym c.is_empty.ensures ∙ c.if-is_empty.false) none)

pub returns-clause-settles : goal.returns-clause-settles
returns-clause-settles g c =
    on_ok_weaker c.settle_standing-2.result
    (settles_then c.args.moved.now c.args.standing.now c.args.kept.now c.settle_moved.new.kept c.settle_standing-2.new.kept c.settle_moved.new.files c.settle_standing-2.new.files c.in_ok-settle_moved.ensures.settles)
    c.settle_standing-2.ensures.settles

pub returns-clause-at_once : goal.returns-clause-at_once
returns-clause-at_once g c = λ none. absurd (some_from c.args.moved.now (sym c.is_empty.ensures ∙ c.if-is_empty.false) none)

pub returns-clause-moments : goal.returns-clause-moments
returns-clause-moments g c =
    let old = c.args.kept.now in
    let mid = c.settle_moved.new.kept in
    begun_then c.args.moved.now c.args.standing.now [] c.args.standing.now old mid c.settle_standing-2.new.kept c.settle_moved.new.files refl
    (settles_first c.args.moved.now [] old mid c.settle_moved.new.files refl c.in_ok-settle_moved.ensures.settles)
    (c.settle_moved.ensures.moments c.args.standing.now)
    c.settle_standing-2.ensures.at_once

pub returns-clause-shown : goal.returns-clause-shown
returns-clause-shown g c =
    on_ok_weaker c.settle_standing-2.result
    (λ _. all_stay c.args.moved.now c.settle_moved.new.files c.settle_standing-2.new.files c.settle_standing-2.ensures.stay c.in_ok-settle_moved.ensures.shown)
    c.settle_standing-2.ensures.settles

pub returns-clause-told_first : goal.returns-clause-told_first
returns-clause-told_first g c = λ told entries kept. inl (λ _. c.settle_standing-2.ensures.stay.synced c.in_ok-settle_moved.ensures.settles.all_synced)

pub returns-clause-stay : goal.returns-clause-stay
returns-clause-stay g c = λ none. absurd (some_from c.args.moved.now (sym c.is_empty.ensures ∙ c.if-is_empty.false) none)
