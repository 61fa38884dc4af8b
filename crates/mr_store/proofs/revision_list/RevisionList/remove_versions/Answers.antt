use Rattle.std.proofs.Common.{not, sym, ◌∙◌, ap, List, Option, arith}
use Rattle.mr_store.proofs.Names.{Name, Rev, RevisionParts, filter, holds, option_map, rises-filter, stays_listed, to_list, version_of, versions_of}
use Rattle.mr_store.proofs.RevisionLemmas.{versions_of-filter, none_left}
use Rattle.mr_store.proofs.ListedLemmas.{stays-some}
use Rattle.mr_store.proofs.revision_list.RevisionList.remove_versions.Goals as goal

pub returns-then-is_empty : goal.returns-then-is_empty
returns-then-is_empty c = ap (λ (rs : List Rev). (let s : RevisionParts = record { revisions = rs; room = c.args.self.now.room } in s)) (none_left c.args.left.now c.args.self.now.revisions (sym c.is_empty.ensures ∙ c.if-is_empty.true))

pub invariant_of-self : goal.invariant_of-self
invariant_of-self c =
    let left = c.args.left.now in
    let old = c.self.inside.revisions.items in
    let room = c.self.inside.room in
    record {
      in_order = rw c.retain_others.ensures.items (rises-filter version_of (λ r. not (holds left r.version)) old c.self.invariant.in_order);
      indexed = λ i. rw c.retain_others.ensures.items
          (c.unlist_versions.ensures.lists i
          ∙ (ap (λ (o : Option (List Name)). stays_listed room i (option_map (filter (λ v. not (holds left v))) o)) (c.self.invariant.indexed i)
          ∙ (stays-some room i (λ v. not (holds left v)) (versions_of i old)
          ∙ ap (to_list room i) (sym (versions_of-filter (holds left) i old)))));
      has_place = λ h. omega (arith, c.retain_others.ensures.spare, c.self.invariant.has_place h);
      has_room = c.unlist_versions.ensures.room room c.self.invariant.has_room;
    }
