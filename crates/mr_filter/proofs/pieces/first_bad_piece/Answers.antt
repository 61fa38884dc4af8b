use Rattle.std.proofs.Common.{◌≡◌, ◌∙◌, ap, ◌++◌, ◌∷◌, [], length, ◌+◌, refl}
use Rattle.mr_filter.proofs.Names.{IsUtf8, MatchOption-at_some, SpellsCondition, cut_at, meaning_of}
use Rattle.mr_filter.proofs.Progress.{HasPassed-more, cut-front, at_none, found_at, other_text}
use Rattle.mr_filter.proofs.pieces.first_bad_piece.Goals as goal

pub returns-then-is_none-clause-found : goal.returns-then-is_none-clause-found
returns-then-is_none-clause-found c =
    let passed = c.loop-piece.invariant.0 in
    let front = cut-front _ _ _ (λ rest. cut_at 38 rest.now) c.cut.ensures.pieces in
    let none = at_none _ _ c.condition_of.ensures.none c.if-is_none.ensures in
    record {
      before = passed.before;
      piece = c.cut.result.0.now;
      after = front.0;
      pieces = passed.pieces ∙ ap (λ ps. passed.before ++ ps) front.1;
      fine = passed.fine;
      bad = λ found. none found.0 found.1;
      not_all = other_text _ _ c.if-eq.ensures;
      place_is = passed.place_is;
    }

pub loop-piece-preserved : goal.loop-piece-preserved
loop-piece-preserved c =
    let fine = found_at _ (SpellsCondition c.cut.result.0.now) meaning_of c.condition_of.ensures.found c.if-is_none.ensures in (
      HasPassed-more _ _ _ _ _ _ _ _ c.loop-piece.invariant.0 fine
          (MatchOption-at_some (cut_at 38 c.loop-piece.rest.now ≡ c.cut.result.0.now ∷ []) (λ rest. cut_at 38 c.loop-piece.rest.now ≡ c.cut.result.0.now ∷ cut_at 38 rest.now) c.in_ok-next.next c.in_ok-next.was c.cut.ensures.pieces)
          (MatchOption-at_some (c.cut.result.0.now ≡ c.loop-piece.rest.now) (λ rest. length c.cut.result.0.now + 3 + length rest.now ≡ length c.loop-piece.rest.now) c.in_ok-next.next c.in_ok-next.was c.cut.ensures.last) refl,
      MatchOption-at_some (Unit {0}) (λ rest. IsUtf8 rest.now) c.in_ok-next.next c.in_ok-next.was c.cut.ensures.text,
    )
