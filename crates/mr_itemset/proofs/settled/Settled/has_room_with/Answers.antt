use Rattle.std.proofs.Common.{◌≡◌, ◌≤◌, length, false, sym, ◌∙◌}
use Rattle.mr_itemset.proofs.Names.{items_of, list_any, name_eq}
use Rattle.mr_itemset.proofs.EntryLemmas.{listed_of-length}
use Rattle.mr_itemset.proofs.WithLemmas.{lists_too_many-with}
use Rattle.mr_itemset.proofs.settled.Settled.has_room_with.Goals as goal

pub returns-clause-no : goal.returns-clause-no
returns-clause-no g c full =
    let free : list_any (name_eq c.args.item) (items_of c.args.self.now.listed) ≡ false = sym c.lists.ensures ∙ c.if-lists.false in
    let many : g.row.LIMIT ≤ length c.args.self.now.listed = rw (← c.listed.ensures.is, listed_of-length c.listed.result.now.entries, ← c.len.ensures.len) c.if-len.false in
    lists_too_many-with c.args.self.now (g.A.Source.has c.args.learned.now) (g.S.Source.has c.args.below.now) c.args.item c.listed.ensures.normal many free
    (rw c.for_all.ensures.is at (c.lacks.ensures.yes c.if-not-lacks.false))
    (c.would_drop.ensures.no full)
