use Rattle.std.proofs.Common.{◌≡◌, ◌<◌, ◌||◌, ◌++◌, ◌∷◌, [], true, take, length, sym, ◌∙◌, ap, arith}
use Rattle.mr_itemset.proofs.Names.{Name, items_of, list_any, name_eq, take_more}
use Rattle.mr_itemset.proofs.EachLemmas.{counts_none, counts_one, counts_known, among_first, among_listed}
use Rattle.mr_itemset.proofs.RisingLemmas.{all_before}
use Rattle.mr_itemset.proofs.knowledge.ItemsUpTo.count_new.Goals as goal
use Rattle.mr_itemset.proofs.knowledge.ItemsUpTo.count_new.Goals.{then-not-is_among+then-not-lists, else-not-is_among, else-not-is_among-via-then-not-is_among+else-not-lists, else-not-is_among-via-else-not-is_among}

pub loop-at-init : goal.loop-at-init
loop-at-init g c = record { counted = counts_none c.args.self.now c.requires; few = omega arith }

pub is_among-requires : goal.is_among-requires
is_among-requires g c rising = all_before c.args.items.now c.loop-at.at c.index-items-at.result (c.rises-are_rising.ensures rising) (omega arith) c.index-items-at.is

pub loop-at-preserved : goal.loop-at-preserved
loop-at-preserved g c =
    let within : c.loop-at.at < length c.args.items.now = omega arith in
    let more = take_more c.args.items.now c.loop-at.at c.index-items-at.result within ∙ ap (λ (y : Name). take c.loop-at.at c.args.items.now ++ y ∷ []) (sym c.index-items-at.is) in
    elim c.if-not-is_among.branch [
      | then-not-is_among+then-not-lists w ↦
          record { counted = rw (more, w.count-is) (counts_one c.args.self.now (take c.loop-at.at c.args.items.now) c.index-items-at.result c.loop-at.count (sym c.is_among.ensures ∙ w.if-not-is_among.true) (sym w.lists.ensures ∙ w.if-not-lists.true) c.loop-at.invariant.counted); few = let few = c.loop-at.invariant.few in rw w.count-is (omega arith) }
      | else-not-is_among w ↦
          let known : (list_any (name_eq c.index-items-at.result) (take c.loop-at.at c.args.items.now) || list_any (name_eq c.index-items-at.result) (items_of c.args.self.now.listed)) ≡ true = elim w.else-not-is_among.branch [
            | else-not-is_among-via-then-not-is_among+else-not-lists v ↦ among_listed (list_any (name_eq c.index-items-at.result) (take c.loop-at.at c.args.items.now)) (list_any (name_eq c.index-items-at.result) (items_of c.args.self.now.listed)) (sym v.lists.ensures ∙ v.if-not-lists.false)
            | else-not-is_among-via-else-not-is_among v ↦ among_first (list_any (name_eq c.index-items-at.result) (take c.loop-at.at c.args.items.now)) (list_any (name_eq c.index-items-at.result) (items_of c.args.self.now.listed)) (sym c.is_among.ensures ∙ v.if-not-is_among.false)
          ] in
          record { counted = rw (more, w.count-is) (counts_known c.args.self.now (take c.loop-at.at c.args.items.now) c.index-items-at.result c.loop-at.count known c.loop-at.invariant.counted); few = let few = c.loop-at.invariant.few in rw w.count-is (omega arith) }
    ]
