use Rattle.std.proofs.Common.{ap, List, arith}
use Rattle.mr_store.proofs.Names.{Rev, RevisionParts, leaves, versions_of}
use Rattle.mr_store.proofs.IndexLemmas.{index-left}
use Rattle.mr_store.proofs.ListedLemmas.{to_list-exact}
use Rattle.mr_store.proofs.revision_list.RevisionList.remove_leaving.Goals as goal

pub let_leave-requires-clause-listed : goal.let_leave-requires-clause-listed
let_leave-requires-clause-listed c = rw (c.self.invariant.indexed c.args.item) (to_list-exact c.self.inside.room c.args.item (versions_of c.args.item c.self.inside.revisions.items))

pub invariant_of-self : goal.invariant_of-self
invariant_of-self c =
    let heads = c.self.inside.revisions.items in
    record {
      in_order = c.let_leave.ensures.in_order;
      indexed = rw c.let_leave.ensures.items (index-left c.self.inside.index c.let_leave.new.index c.drop_idle.new.index c.self.inside.room c.args.item (leaves c.args.ones.now c.args.below.now) heads c.let_leave.ensures.lists c.drop_idle.ensures.lists c.self.invariant.indexed);
      has_place = λ h. omega (arith, c.let_leave.ensures.spare, c.self.invariant.has_place h);
      has_room = c.drop_idle.ensures.room c.self.inside.room (c.let_leave.ensures.room c.self.inside.room c.self.invariant.has_room);
    }

pub returns : goal.returns
returns c = rw (← c.self.view_is) (ap (λ (hs : List Rev). (let s : RevisionParts = record { revisions = hs; room = c.self.inside.room } in s)) c.let_leave.ensures.items)
