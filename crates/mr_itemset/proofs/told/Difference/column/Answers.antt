use Rattle.std.proofs.Common.{◌≡◌, ◌+◌, ◌↔◌, ℕ, true, sym, subst, refl, arith}
use Rattle.mr_itemset.proofs.Names.{Extent, IsToldOfAuthor, column_has, column_of, column_of-IsColumn, of_author, vector_has}
use Rattle.mr_forms.specs.Sets.{both}
use Rattle.mr_itemset.proofs.ToldWalk.{joined, walked_more, walked_end, walked_few, next_with, none_with, beyond_with, row_with}
use Rattle.mr_itemset.proofs.told.Difference.column.Goals as goal

pub loop-first-preserved : goal.loop-first-preserved
loop-first-preserved c =
    let all = of_author (vector_has c.args.self.now.all.now) c.args.author in
    let own = of_author (vector_has c.args.self.now.own.now) c.args.author in
    walked_more all (joined all own)
    c.loop-first.holes.items c.loop-first.upto c.in-Some.first c.last_in_row-upto.result c.loop-first.invariant (next_with all own (c.loop-first.upto + 1) c.in-Some.first c.in-Some.ensures.next)
    c.last_in_row-upto.ensures.above (beyond_with all own c.last_in_row-upto.result c.last_in_row-upto.ensures.is) (row_with all own c.in-Some.first c.last_in_row-upto.result c.last_in_row-upto.ensures.row)
    (let bound = c.last_in_row-upto.ensures.bound in omega arith) c.skip.new.holes.items c.in_ok-skip.ensures

pub new-requires : goal.new-requires
new-requires c =
    let all = of_author (vector_has c.args.self.now.all.now) c.args.author in
    let own = of_author (vector_has c.args.self.now.own.now) c.args.author in
    walked_few all own c.loop-first.holes.items c.loop-first.upto (column_of c.args.self.now.own.now c.args.author) (column_of-IsColumn 0 c.args.self.now.own.now c.args.author c.author_columns-own.ensures.vector) (λ k. refl) refl c.loop-first.invariant c.in_default.ensures.next

pub returns-clause-told : goal.returns-clause-told
returns-clause-told c =
    let all = of_author (vector_has c.args.self.now.all.now) c.args.author in
    let own = of_author (vector_has c.args.self.now.own.now) c.args.author in
    subst (λ (column : Extent). (k : ℕ) → (column_has column k ≡ true) ↔ IsToldOfAuthor (vector_has c.args.self.now.all.now) (both (vector_has c.args.self.now.all.now) (vector_has c.args.self.now.own.now)) c.args.author k) (sym c.new.ensures)
    (walked_end all (joined all own) c.loop-first.holes.items c.loop-first.upto c.loop-first.invariant refl (none_with all own (c.loop-first.upto + 1) c.in_default.ensures.next))
