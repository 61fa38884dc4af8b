use Rattle.std.proofs.Common.{inl, Bool, false, sym, length, [], ◌∙◌, ◌≡◌, ◌≢◌, List, refl}
use Rattle.std.specs.Prelude.{◌==◌}
use Rattle.mr_compare.specs.declared.compare.MailAct.{MailAct}
use Rattle.mr_fold.proofs.MovingLemmas.{begins_more, begun_then}
use Rattle.mr_fold.proofs.PartsLemmas.{next_leaves, part_first, part_last, part_next, parts_at_once, whole_part}
use Rattle.mr_fold.proofs.SettlingLemmas.{all_stay, none_from, some_from}
use Rattle.mr_fold.proofs.settling.settle_in_parts.Goals as goal

-- some are left where that is said
some_left : (mails : List MailAct) {is_empty : Bool} → is_empty ≡ (length mails == 0) → is_empty ≡ false → mails ≢ []
some_left mails is none = some_from mails (sym is ∙ none)

pub returns-in_err-settle-clause-in_parts : goal.returns-in_err-settle-clause-in_parts
returns-in_err-settle-clause-in_parts g c = λ none told entries kept.
    parts_at_once c.args.held.now.entries c.args.lacking.now c.args.standing.now c.args.kept.now c.settle.new.kept entries (c.in_err-settle.ensures.at_once none told entries kept)

pub returns-in_err-settle-clause-moments : goal.returns-in_err-settle-clause-moments
returns-in_err-settle-clause-moments g c = λ told entries kept.
    begins_more c.args.held.now.entries c.args.lacking.now c.args.moved.now c.args.standing.now c.args.kept.now c.settle.new.kept entries c.split_at.result.0.now c.split_at.result.1.now c.split_at.ensures.by_index.0 (c.in_err-settle.ensures.moments told entries kept)

pub loop-rest-init : goal.loop-rest-init
loop-rest-init g c =
    let settled = c.in_ok-settle.ensures in
    let first = c.split_at.result.0.now in
    let rest = c.split_at.result.1.now in
    record {
      parts = part_first c.args.moved.now c.args.standing.now first rest c.args.kept.now c.settle.new.kept c.settle.new.files c.split_at.ensures.by_index.0
          (whole_part _ c.args.standing.now first rest c.min.ensures c.split_at.ensures.front_len c.split_at.ensures.back_len) settled.settles settled.at_once settled.moments;
      shown = settled.shown;
    }

pub returns-in_err-settle-2-clause-in_parts : goal.returns-in_err-settle-2-clause-in_parts
returns-in_err-settle-2-clause-in_parts g c =
    next_leaves c.args.moved.now c.args.standing.now c.loop-rest.rest.now c.args.kept.now c.loop-rest.kept c.settle-in-loop-rest.new.kept c.loop-rest.files c.loop-rest.invariant.parts
    (some_left _ c.is_empty.ensures c.loop-rest-test.true) (c.in_err-settle-2.ensures.at_once refl)

pub returns-in_err-settle-2-clause-moments : goal.returns-in_err-settle-2-clause-moments
returns-in_err-settle-2-clause-moments g c =
    let so_far = c.loop-rest.invariant.parts in
    begun_then c.args.moved.now c.args.standing.now so_far.done c.loop-rest.rest.now c.args.kept.now c.loop-rest.kept c.settle-in-loop-rest.new.kept c.loop-rest.files
    so_far.are so_far.settled so_far.moments (c.in_err-settle-2.ensures.at_once refl)

pub returns-in_err-settle-2-clause-told_first : goal.returns-in_err-settle-2-clause-told_first
returns-in_err-settle-2-clause-told_first g c = λ told entries kept. inl (λ _. (c.in_err-settle-2.ensures.stay refl).synced c.loop-rest.invariant.parts.settled.all_synced)

pub loop-rest-preserved : goal.loop-rest-preserved
loop-rest-preserved g c =
    let settled = c.in_ok-settle-2.ensures in
    let part = c.split_at-in-loop-rest.result.0.now in
    let rest = c.split_at-in-loop-rest.result.1.now in
    record {
      parts = part_next c.args.moved.now c.args.standing.now c.loop-rest.rest.now part rest c.args.kept.now c.loop-rest.kept c.settle-in-loop-rest.new.kept c.loop-rest.files c.settle-in-loop-rest.new.files c.loop-rest.invariant.parts
          c.split_at-in-loop-rest.ensures.by_index.0 (some_left _ c.is_empty.ensures c.loop-rest-test.true)
          (whole_part _ c.loop-rest.rest.now part rest c.min-in-loop-rest.ensures c.split_at-in-loop-rest.ensures.front_len c.split_at-in-loop-rest.ensures.back_len) settled.settles (settled.at_once refl);
      shown = all_stay c.args.moved.now c.loop-rest.files c.settle-in-loop-rest.new.files (settled.stay refl) c.loop-rest.invariant.shown;
    }

pub returns-clause-settles : goal.returns-clause-settles
returns-clause-settles g c =
    part_last c.args.moved.now c.args.standing.now c.loop-rest.rest.now c.args.kept.now c.loop-rest.kept c.loop-rest.files c.loop-rest.invariant.parts (none_from c.loop-rest.rest.now (sym c.is_empty.ensures ∙ c.loop-rest-test.false))

pub returns-clause-in_parts : goal.returns-clause-in_parts
returns-clause-in_parts g c = c.loop-rest.invariant.parts.in_parts

pub returns-clause-moments : goal.returns-clause-moments
returns-clause-moments g c = c.loop-rest.invariant.parts.moments

pub returns-clause-shown : goal.returns-clause-shown
returns-clause-shown g c = c.loop-rest.invariant.shown

pub returns-clause-told_first : goal.returns-clause-told_first
returns-clause-told_first g c = λ told entries kept. inl (λ _. c.loop-rest.invariant.parts.settled.all_synced)
