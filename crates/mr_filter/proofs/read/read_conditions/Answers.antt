use Rattle.std.proofs.Common.{◌≡◌, ◌∙◌, ap, ◌++◌, ◌∷◌, [], refl}
use Rattle.mr_filter.proofs.Names.{IsUtf8, MatchOption-at_none, MatchOption-at_some, cut_at, meaning_of, pieces_of}
use Rattle.mr_filter.proofs.DraftLemmas.{IfErr-any}
use Rattle.mr_filter.proofs.Progress.{cut-front, other_text}
use Rattle.mr_filter.proofs.Reading.{Combines-none, HasReadConditions-more, HasReadConditions-all, NamesTooMany-so_far, piece_in_grammar}
use Rattle.mr_filter.proofs.read.read_conditions.Goals as goal

pub loop-condition-init : goal.loop-condition-init
loop-condition-init c =
    record { before = []; given = []; pieces = refl; spelled = tt; combined = rw c.new-draft.ensures.value Combines-none; utf8 = c.utf8.text }

pub unreachable-requires : goal.unreachable-requires
unreachable-requires c =
    let front = cut-front _ _ _ (λ rest. cut_at 38 rest.now) c.cut.ensures.pieces in
    let so_far = c.loop-condition.invariant in
    let found = piece_in_grammar c.args.text.now so_far.before front.0 c.cut.result.0.now c.requires (other_text _ _ c.if-eq.ensures) (so_far.pieces ∙ ap (λ ps. so_far.before ++ ps) front.1) in
    c.in_default.ensures.none found.0 found.1

pub returns-in_err-add-clause-many : goal.returns-in_err-add-clause-many
returns-in_err-add-clause-many c =
    let front = cut-front _ _ _ (λ rest. cut_at 38 rest.now) c.cut.ensures.pieces in
    IfErr-any c.from_residual.result _
    (NamesTooMany-so_far c.args.text.now c.loop-condition.rest.now c.cut.result.0.now front.0 c.loop-condition.draft (meaning_of c.in-Some.condition) c.requires (other_text _ _ c.if-eq.ensures)
    c.loop-condition.invariant front.1 c.in-Some.ensures.found c.in_err-add.ensures.many)

pub returns-in_default-more-clause-read : goal.returns-in_default-more-clause-read
returns-in_default-more-clause-read c =
    HasReadConditions-all _ c.loop-condition.rest.now c.cut.result.0.now _ _ (meaning_of c.in-Some.condition) c.loop-condition.invariant
    (MatchOption-at_none (pieces_of c.loop-condition.rest.now ≡ c.cut.result.0.now ∷ []) (λ rest. pieces_of c.loop-condition.rest.now ≡ c.cut.result.0.now ∷ pieces_of rest.now) c.in_default-more.is c.cut.ensures.pieces)
    c.in-Some.ensures.found c.in_ok-add.ensures.added

pub loop-condition-preserved : goal.loop-condition-preserved
loop-condition-preserved c =
    HasReadConditions-more _ c.loop-condition.rest.now _ c.cut.result.0.now _ _ (meaning_of c.in-Some.condition) c.loop-condition.invariant
    (MatchOption-at_some (pieces_of c.loop-condition.rest.now ≡ c.cut.result.0.now ∷ []) (λ rest. pieces_of c.loop-condition.rest.now ≡ c.cut.result.0.now ∷ pieces_of rest.now) c.in-Some-more.next c.in-Some-more.is c.cut.ensures.pieces)
    c.in-Some.ensures.found
    (MatchOption-at_some (Unit {0}) (λ rest. IsUtf8 rest.now) c.in-Some-more.next c.in-Some-more.is c.cut.ensures.text)
    c.in_ok-add.ensures.added
