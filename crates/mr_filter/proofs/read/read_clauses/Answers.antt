use Rattle.std.proofs.Common.{◌≡◌, ◌∙◌, ap, ◌++◌, ◌∷◌, []}
use Rattle.mr_filter.proofs.Names.{All-push, IsClause, IsClauseInGrammar, IsUtf8, MatchOption-at_none, MatchOption-at_some, clauses_of, cut_at}
use Rattle.mr_filter.proofs.Progress.{cut-front}
use Rattle.mr_filter.proofs.Reading.{HasReadClauses-more, HasReadClauses-all, at_place}
use Rattle.mr_filter.proofs.read.read_clauses.Goals as goal

pub read_clause-requires-clause-in_grammar : goal.read_clause-requires-clause-in_grammar
read_clause-requires-clause-in_grammar c =
    let front = cut-front _ _ _ (λ rest. cut_at 124 rest.now) c.cut.ensures.pieces in
    let so_far = c.loop-clauses.invariant in
    at_place IsClauseInGrammar so_far.before c.cut.result.0.now front.0 (rw (← (so_far.pieces ∙ ap (λ ps. so_far.before ++ ps) front.1)) c.requires.in_grammar)

pub read_clause-requires-clause-few : goal.read_clause-requires-clause-few
read_clause-requires-clause-few c =
    let front = cut-front _ _ _ (λ rest. cut_at 124 rest.now) c.cut.ensures.pieces in
    let so_far = c.loop-clauses.invariant in
    λ many. c.requires.few (record {
      before = so_far.before;
      clause = c.cut.result.0.now;
      after = front.0;
      clauses = so_far.pieces ∙ ap (λ ps. so_far.before ++ ps) front.1;
      many = many;
    })

pub returns-in_default-clause-read : goal.returns-in_default-clause-read
returns-in_default-clause-read c =
    HasReadClauses-all _ c.loop-clauses.rest.now c.cut.result.0.now _ _ c.in_ok-read_clause.field-0 c.loop-clauses.invariant
    (MatchOption-at_none (clauses_of c.loop-clauses.rest.now ≡ c.cut.result.0.now ∷ []) (λ rest. clauses_of c.loop-clauses.rest.now ≡ c.cut.result.0.now ∷ clauses_of rest.now) c.in_default.is c.cut.ensures.pieces)
    c.in_ok-read_clause.ensures.read c.in_ok-push.ensures.items

pub returns-in_default-clause-kept : goal.returns-in_default-clause-kept
returns-in_default-clause-kept c =
    rw c.in_ok-push.ensures.items (All-push IsClause _ _ c.loop-clauses.invariant.kept c.in_ok-read_clause.ensures.kept)

pub loop-clauses-preserved : goal.loop-clauses-preserved
loop-clauses-preserved c =
    HasReadClauses-more _ c.loop-clauses.rest.now _ c.cut.result.0.now _ _ c.in_ok-read_clause.field-0 c.loop-clauses.invariant
    (MatchOption-at_some (clauses_of c.loop-clauses.rest.now ≡ c.cut.result.0.now ∷ []) (λ rest. clauses_of c.loop-clauses.rest.now ≡ c.cut.result.0.now ∷ clauses_of rest.now) c.in-Some.next c.in-Some.is c.cut.ensures.pieces)
    c.in_ok-read_clause.ensures.read c.in_ok-read_clause.ensures.kept
    (MatchOption-at_some (Unit {0}) (λ rest. IsUtf8 rest.now) c.in-Some.next c.in-Some.is c.cut.ensures.text)
    c.in_ok-push.ensures.items
