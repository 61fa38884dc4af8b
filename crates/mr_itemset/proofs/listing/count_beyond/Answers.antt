use Rattle.std.proofs.Common.{◌≡◌, ◌≤◌, eqb-true, length, sym, ap, ◌∙◌, arith}
use Rattle.mr_itemset.proofs.Names.{deref, rest_all, rest_more, united}
use Rattle.mr_itemset.proofs.CountLemmas.{gained_count, gained_few, counted_one, counted_none}
use Rattle.mr_itemset.proofs.EntryLemmas.{listed_of-length}
use Rattle.mr_itemset.proofs.MergingLemmas.{all_listed}
use Rattle.mr_itemset.proofs.WalkLemmas.{read_vector}
use Rattle.mr_itemset.proofs.listing.count_beyond.Goals as goal

pub loop-vector-init : goal.loop-vector-init
loop-vector-init g c =
    let count = gained_count c.args.pending.now (united c.args.settled.now.all c.args.pending.now) c.args.settled.now.listed in
    rw (c.into_iter-vector-iterator.ensures.into_iter_gives ∙ c.vectors-vector-items.ensures.is) (omega arith)

pub overflow_add-count : goal.overflow_add-count
overflow_add-count g c =
    let few = gained_few c.args.pending.now (united c.args.settled.now.all c.args.pending.now) c.args.settled.now.listed in
    let most : length c.args.settled.now.listed ≤ g.row.LIMIT = c.vectors-vector-items.ensures.normal.few in
    let next = rest_more deref _ _ _ _ c.in-Some.is c.next.ensures.steps in
    let read = read_vector _ _ _ _ _ _ _ (c.into_iter-vector-iterator.ensures.into_iter_gives ∙ c.vectors-vector-items.ensures.is) c.loop-vector.yielded_by c.in-Some.is c.next.ensures.steps in
    let one = counted_one c.args.settled.now c.args.pending.now c.in-Some.vector.now c.loop-vector.vector-iterator c.next.new.self c.vectors-vector-items.ensures.normal c.requires.vector c.requires.all c.requires.listed read next (rw c.for_all.ensures.is at (c.lacks.ensures.yes c.if-lacks.true)) in
    omega (arith, g.LIMIT.fits)

pub loop-vector-preserved-then-lacks : goal.loop-vector-preserved-then-lacks
loop-vector-preserved-then-lacks g c =
    let next = rest_more deref _ _ _ _ c.in-Some.is c.next.ensures.steps in
    let read = read_vector _ _ _ _ _ _ _ (c.into_iter-vector-iterator.ensures.into_iter_gives ∙ c.vectors-vector-items.ensures.is) c.loop-vector.yielded_by c.in-Some.is c.next.ensures.steps in
    let one = counted_one c.args.settled.now c.args.pending.now c.in-Some.vector.now c.loop-vector.vector-iterator c.next.new.self c.vectors-vector-items.ensures.normal c.requires.vector c.requires.all c.requires.listed read next (rw c.for_all.ensures.is at (c.lacks.ensures.yes c.if-lacks.true)) in
    omega arith

pub loop-vector-preserved : goal.loop-vector-preserved
loop-vector-preserved g c =
    let next = rest_more deref _ _ _ _ c.in-Some.is c.next.ensures.steps in
    let read = read_vector _ _ _ _ _ _ _ (c.into_iter-vector-iterator.ensures.into_iter_gives ∙ c.vectors-vector-items.ensures.is) c.loop-vector.yielded_by c.in-Some.is c.next.ensures.steps in
    let none = counted_none c.args.settled.now c.args.pending.now c.in-Some.vector.now c.loop-vector.vector-iterator c.next.new.self c.vectors-vector-items.ensures.normal c.requires.vector c.requires.all c.requires.listed read next (rw c.for_all.ensures.is at (c.lacks.ensures.no c.if-lacks.false)) in
    omega arith

pub returns-clause-count : goal.returns-clause-count
returns-clause-count g c =
    let none = rest_all deref _ _ _ c.in-None.is c.next.ensures.steps in
    let whole = rw none at c.loop-vector.invariant in
    omega arith

pub returns-clause-bound : goal.returns-clause-bound
returns-clause-bound g c =
    let few = gained_few c.args.pending.now (united c.args.settled.now.all c.args.pending.now) c.args.settled.now.listed in
    let most = c.vectors-vector-items.ensures.normal.few in
    omega arith

-- where nothing is pending all that are listed stay listed
pub returns-then-is_empty-clause-count : goal.returns-then-is_empty-clause-count
returns-then-is_empty-clause-count g c =
    let listed : c.len.result ≡ length c.args.settled.now.listed = c.len.ensures.len ∙ sym (listed_of-length c.listed.result.now.entries) ∙ ap length c.listed.ensures.is in
    let none : length c.args.pending.now ≡ 0 = ap length (sym c.author_columns.ensures.is) ∙ eqb-true (length c.author_columns.result.now) 0 (sym c.is_empty.ensures ∙ c.if-is_empty.true)
    in
    listed ∙ sym (all_listed c.args.settled.now c.args.pending.now none c.listed.ensures.normal)
