use Rattle.std.proofs.Common.{◌≡◌, ◌∙◌, ap, ◌++◌, ◌∷◌, [], length, ◌+◌, refl}
use Rattle.mr_filter.proofs.Names.{IsUtf8, MatchOption-at_some, cut_at}
use Rattle.mr_filter.proofs.Progress.{HasPassed-more, cut-front, other_text}
use Rattle.mr_filter.proofs.pieces.first_bad.Goals as goal

pub returns-in-Some : goal.returns-in-Some
returns-in-Some c =
    let passed = c.loop-in_clause.invariant.0 in
    let front = cut-front _ _ _ (λ rest. cut_at 124 rest.now) c.cut.ensures.pieces in
    record {
      before = passed.before;
      clause = c.cut.result.0.now;
      after = front.0;
      in_clause = c.in-Some.in_clause;
      clauses = passed.pieces ∙ ap (λ ps. passed.before ++ ps) front.1;
      fine = passed.fine;
      bad = c.in-Some.ensures.found;
      not_none = other_text _ _ c.if-eq.ensures;
      place_is = ap (λ n. n + c.in-Some.in_clause) passed.place_is;
    }

pub loop-in_clause-preserved : goal.loop-in_clause-preserved
loop-in_clause-preserved c = (
  HasPassed-more _ _ _ _ _ _ _ _ c.loop-in_clause.invariant.0 c.in_default.ensures.found
      (MatchOption-at_some (cut_at 124 c.loop-in_clause.rest.now ≡ c.cut.result.0.now ∷ []) (λ rest. cut_at 124 c.loop-in_clause.rest.now ≡ c.cut.result.0.now ∷ cut_at 124 rest.now) c.in_ok-next.next c.in_ok-next.was c.cut.ensures.pieces)
      (MatchOption-at_some (c.cut.result.0.now ≡ c.loop-in_clause.rest.now) (λ rest. length c.cut.result.0.now + 3 + length rest.now ≡ length c.loop-in_clause.rest.now) c.in_ok-next.next c.in_ok-next.was c.cut.ensures.last) refl,
  MatchOption-at_some (Unit {0}) (λ rest. IsUtf8 rest.now) c.in_ok-next.next c.in_ok-next.was c.cut.ensures.text,
)
