use Rattle.std.proofs.Common.{◌≡◌, ◌≤◌, arith, length}
use Rattle.mr_concise.proofs.Names.{both, column_of, ltb-false, of_author, vector_has}
use Rattle.mr_concise.proofs.LoneLemmas.{first_alone, second_alone, at_least-from_column}
use Rattle.mr_concise.proofs.union.both_have_fewer_holes.Goals as goal

pub returns-then-upto-eq0-clause-no : goal.returns-then-upto-eq0-clause-no
returns-then-upto-eq0-clause-no c few =
    let had : c.column_at-had.result ≡ column_of c.args.a.now c.args.author = rw c.author_columns.ensures.is at c.column_at-had.ensures in
    let added : c.column_at-added.result ≡ column_of c.args.b.now c.args.author = rw c.author_columns-2.ensures.is at c.column_at-added.ensures in
    let none : (column_of c.args.b.now c.args.author).upto ≤ 0 = rw (← added) (let u = c.upto.ensures in let z = c.if-upto-eq0.true in omega arith) in
    let many : c.args.limit ≤ length (column_of c.args.a.now c.args.author).holes = rw (← had, ← c.holes.ensures) (ltb-false (length c.holes.result.now) c.args.limit few) in
    at_least-from_column (of_author (both (vector_has c.args.a.now) (vector_has c.args.b.now)) c.args.author) (column_of c.args.a.now c.args.author) c.args.limit (first_alone c.args.a.now c.args.b.now c.args.author c.author_columns.ensures.vector none) many

pub returns-then-upto-eq0-2-clause-no : goal.returns-then-upto-eq0-2-clause-no
returns-then-upto-eq0-2-clause-no c few =
    let had : c.column_at-had.result ≡ column_of c.args.a.now c.args.author = rw c.author_columns.ensures.is at c.column_at-had.ensures in
    let added : c.column_at-added.result ≡ column_of c.args.b.now c.args.author = rw c.author_columns-2.ensures.is at c.column_at-added.ensures in
    let none : (column_of c.args.a.now c.args.author).upto ≤ 0 = rw (← had) (let u = c.upto-2.ensures in let z = c.if-upto-eq0-2.true in omega arith) in
    let many : c.args.limit ≤ length (column_of c.args.b.now c.args.author).holes = rw (← added, ← c.holes-then-upto-eq0-2.ensures) (ltb-false (length c.holes-then-upto-eq0-2.result.now) c.args.limit few) in
    at_least-from_column (of_author (both (vector_has c.args.a.now) (vector_has c.args.b.now)) c.args.author) (column_of c.args.b.now c.args.author) c.args.limit (second_alone c.args.a.now c.args.b.now c.args.author c.author_columns-2.ensures.vector none) many
