use Rattle.std.proofs.Common.{◌≤◌, ◌<◌, ◌-◌, length, arith}
use Rattle.std.proofs.lemmas.Bool.{leb-true, leb-false}
use Rattle.mr_itemset.proofs.EachLemmas.{few_given, few_counted, many_each}
use Rattle.mr_itemset.proofs.knowledge.ItemsUpTo.has_room_for.Goals as goal

pub returns-then-items-most_listed-clause-yes : goal.returns-then-items-most_listed-clause-yes
returns-then-items-most_listed-clause-yes g c _ set =
    let most = c.most_listed.ensures.most in
    let bound = c.most_listed.ensures.bound in
    let room = c.if-items-most_listed.true in
    few_given c.args.self.now c.args.items.now set (omega arith)

pub returns-then-items-room-clause-yes : goal.returns-then-items-room-clause-yes
returns-then-items-room-clause-yes g c _ set =
    let few = c.listed_count-room.ensures.normal.few in
    let room = rw c.listed_count-room.ensures.count at c.if-items-room.true in
    few_given c.args.self.now c.args.items.now set (omega arith)

pub returns-clause-yes : goal.returns-clause-yes
returns-clause-yes g c is_few set =
    let few = c.listed_count-room.ensures.normal.few in
    let room : c.count_new.result ≤ g.row.LIMIT - length c.args.self.now.listed = rw c.listed_count-room.ensures.count at (leb-true c.count_new.result (g.row.LIMIT - c.listed_count-room.result) is_few) in
    few_counted c.args.self.now c.args.items.now set c.count_new.result c.count_new.ensures (omega arith)

pub returns-clause-no : goal.returns-clause-no
returns-clause-no g c is_many set lacks =
    let few = c.listed_count-room.ensures.normal.few in
    let over : g.row.LIMIT - length c.args.self.now.listed < c.count_new.result = rw c.listed_count-room.ensures.count at (leb-false c.count_new.result (g.row.LIMIT - c.listed_count-room.result) is_many) in
    many_each c.args.self.now c.args.items.now set c.count_new.result c.listed_count-room.ensures.normal lacks c.count_new.ensures (omega arith)
