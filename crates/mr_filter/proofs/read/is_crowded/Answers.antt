use Rattle.std.proofs.Common.{◌≡◌, ◌∙◌, ap, ◌++◌, ◌∷◌, [], ◌+◌, length, refl, subst}
use Rattle.mr_filter.proofs.Names.{AllByRecursion, IsClauseInGrammar, IsUtf8, MatchOption-at_none, MatchOption-at_some, NamesTooMany, clauses_of, cut_at}
use Rattle.mr_filter.proofs.Names.{false≢true}
use Rattle.mr_filter.proofs.Progress.{HasPassed-more, HasPassed-all, cut-front}
use Rattle.mr_filter.proofs.Reading.{at_place}
use Rattle.mr_filter.proofs.UniqueLemmas.{crowded_at, uncrowded_at}
use Rattle.mr_filter.proofs.read.is_crowded.Goals as goal

pub read_conditions-requires : goal.read_conditions-requires
read_conditions-requires c =
    let front = cut-front _ _ _ (λ rest. cut_at 124 rest.now) c.cut.ensures.pieces in
    let passed = c.loop-more.invariant.0.1 in
    at_place IsClauseInGrammar passed.before c.cut.result.0.now front.0 (rw (← (passed.pieces ∙ ap (λ ps. passed.before ++ ps) front.1)) c.requires)

pub returns-then-is_err : goal.returns-then-is_err
returns-then-is_err c =
    let front = cut-front _ _ _ (λ rest. cut_at 124 rest.now) c.cut.ensures.pieces in
    let passed = c.loop-more.invariant.0.1 in (
      λ _. record {
        before = passed.before;
        clause = c.cut.result.0.now;
        after = front.0;
        clauses = passed.pieces ∙ ap (λ ps. passed.before ++ ps) front.1;
        many = crowded_at c.read_conditions.result (NamesTooMany c.cut.result.0.now) c.read_conditions.ensures.many c.if-is_err.ensures.value;
      },
      λ _. refl,
    )

pub returns-in_default : goal.returns-in_default
returns-in_default c =
    let here = uncrowded_at c.cut.result.0.now c.read_conditions.result c.read_conditions.ensures.read c.read_conditions.ensures.kept c.if-is_err.ensures.value in
    let last = MatchOption-at_none (clauses_of c.loop-more.rest.now ≡ c.cut.result.0.now ∷ []) (λ rest. clauses_of c.loop-more.rest.now ≡ c.cut.result.0.now ∷ clauses_of rest.now) c.in_default.is c.cut.ensures.pieces in
    let each = HasPassed-all 124 (λ clause. NamesTooMany clause → ⊥) c.args.text.now c.loop-more.rest.now c.loop-more.invariant.0.0 c.cut.result.0.now c.loop-more.invariant.0.1 here last in (
      λ no. absurd (false≢true no),
      λ crowded. absurd (at_place (λ clause. NamesTooMany clause → ⊥) crowded.before crowded.clause crowded.after (subst (AllByRecursion (λ clause. NamesTooMany clause → ⊥)) crowded.clauses each) crowded.many),
    )

pub loop-more-preserved : goal.loop-more-preserved
loop-more-preserved c =
    let here = uncrowded_at c.cut.result.0.now c.read_conditions.result c.read_conditions.ensures.read c.read_conditions.ensures.kept c.if-is_err.ensures.value in (
      (
        c.loop-more.invariant.0.0 + (length c.cut.result.0.now + 3),
        HasPassed-more _ _ _ _ _ _ _ _ c.loop-more.invariant.0.1 here
            (MatchOption-at_some (clauses_of c.loop-more.rest.now ≡ c.cut.result.0.now ∷ []) (λ rest. clauses_of c.loop-more.rest.now ≡ c.cut.result.0.now ∷ clauses_of rest.now) c.in-Some.next c.in-Some.is c.cut.ensures.pieces)
            (MatchOption-at_some (c.cut.result.0.now ≡ c.loop-more.rest.now) (λ rest. length c.cut.result.0.now + 3 + length rest.now ≡ length c.loop-more.rest.now) c.in-Some.next c.in-Some.is c.cut.ensures.last) refl,
      ),
      MatchOption-at_some (Unit {0}) (λ rest. IsUtf8 rest.now) c.in-Some.next c.in-Some.is c.cut.ensures.text,
    )
