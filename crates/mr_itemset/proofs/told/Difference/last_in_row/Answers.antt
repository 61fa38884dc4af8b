use Rattle.std.proofs.Common.{arith}
use Rattle.mr_itemset.proofs.Names.{of_author, vector_has}
use Rattle.mr_itemset.proofs.HoleWalk.{row_end}
use Rattle.mr_itemset.proofs.ToldLemmas.{beyond_parts, beyond_from}
use Rattle.mr_itemset.proofs.told.Difference.last_in_row.Goals as goal

pub last_out_before-requires-clause-before : goal.last_out_before-requires-clause-before
last_out_before-requires-clause-before c =
    let all = of_author (vector_has c.args.self.now.all.now) c.args.author in
    let own = of_author (vector_has c.args.self.now.own.now) c.args.author in
    row_end own c.args.first c.next_out-end.result (beyond_parts all own c.args.first c.requires.is).0 c.next_out-end.ensures.next

pub last_out_before-requires-clause-lacks : goal.last_out_before-requires-clause-lacks
last_out_before-requires-clause-lacks c =
    let all = of_author (vector_has c.args.self.now.all.now) c.args.author in
    let own = of_author (vector_has c.args.self.now.own.now) c.args.author in
    (beyond_parts all own c.args.first c.requires.is).1

pub returns-clause-is : goal.returns-clause-is
returns-clause-is c =
    let all = of_author (vector_has c.args.self.now.all.now) c.args.author in
    let own = of_author (vector_has c.args.self.now.own.now) c.args.author in
    beyond_from all own c.last_out_before.result (c.next_out-end.ensures.next.between c.last_out_before.result c.last_out_before.ensures.above c.last_out_before.ensures.below) c.last_out_before.ensures.lacks

pub returns-clause-row : goal.returns-clause-row
returns-clause-row c k low high = c.next_out-end.ensures.next.between k low (let below = c.last_out_before.ensures.below in omega arith)
