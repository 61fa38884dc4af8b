use Rattle.std.proofs.Common.{◌≤◌, length, arith, inr}
use Rattle.mr_filter.proofs.Names.{BadFilter, TooManyClauses, TooManyLabels, clauses_of}
use Rattle.mr_filter.proofs.Reading.{IsFilter-read}
use Rattle.mr_filter.proofs.UniqueLemmas.{Reads-fault, Reads-unique}
use Rattle.mr_filter.proofs.filter.Filter.read.Goals as goal

pub invariant_of-result-2 : goal.invariant_of-result-2
invariant_of-result-2 c =
    let few : length (clauses_of c.args.text.now) ≤ 16 = omega arith in
    IsFilter-read c.args.text.now _ c.in_ok-read_clauses.ensures.read c.in_ok-read_clauses.ensures.kept few

pub returns-in-Some-clause-complete : goal.returns-in-Some-clause-complete
returns-in-Some-clause-complete c =
    λ filter reads kept. Reads-fault c.args.text.now filter reads kept (BadFilter c.in-Some.place) c.in-Some.ensures

pub returns-then-count_clauses-gt-MAX_CLAUSES-clause-complete : goal.returns-then-count_clauses-gt-MAX_CLAUSES-clause-complete
returns-then-count_clauses-gt-MAX_CLAUSES-clause-complete c =
    λ filter reads kept. Reads-fault c.args.text.now filter reads kept TooManyClauses (record { in_grammar = c.in_default.ensures; many = omega arith })

pub returns-then-is_crowded-clause-complete : goal.returns-then-is_crowded-clause-complete
returns-then-is_crowded-clause-complete c =
    λ filter reads kept. Reads-fault c.args.text.now filter reads kept TooManyLabels (record { in_grammar = c.in_default.ensures; few = omega arith; crowded = c.is_crowded.ensures.0 c.if-is_crowded.true })

pub returns-clause-complete : goal.returns-clause-complete
returns-clause-complete c =
    λ filter reads kept. Reads-unique c.args.text.now _ filter (inr c.in_ok-read_clauses.ensures.read) reads
