use Rattle.std.proofs.Common.{◌≡◌, ◌∙◌, Some, ap, subst}
use Rattle.mr_store.proofs.Names.{AreInVersionOrder, IsIndexOf, RevisionParts, entered, room_of}
use Rattle.mr_store.proofs.IndexLemmas.{index-put}
use Rattle.mr_store.proofs.revision_list.RevisionList.put.Goals as goal

pub invariant_of-self : goal.invariant_of-self
invariant_of-self c =
    let heads = c.self.inside.revisions.items in
    let room : c.self.inside.room ≡ Some (room_of c.args.revision) = ap (λ (s : RevisionParts). s.room) c.self.view_is ∙ c.requires.room in
    let in_order : AreInVersionOrder (entered c.args.revision heads) = subst AreInVersionOrder c.insert.ensures.items c.insert.ensures.in_order in
    record {
      in_order = c.insert.ensures.in_order;
      indexed = rw c.insert.ensures.items (index-put c.self.inside.index c.list.new.index c.args.revision heads in_order
          (rw (c.item.ensures, c.version.ensures) at c.list.ensures)
          (subst (λ r. IsIndexOf r heads c.self.inside.index) room c.self.invariant.indexed));
      has_place = λ h. cc h;
      has_room = tt;
    }
