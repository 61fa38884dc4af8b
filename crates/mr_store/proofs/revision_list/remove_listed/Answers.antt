use Rattle.std.proofs.Common.{◌≡◌, ◌+◌, ap, sym, ◌∙◌, List, [], ◌∷◌, ◌++◌, take, arith}
use Rattle.mr_store.proofs.Names.{Name, Rev, filter, leaves, take_more, version_of, without}
use Rattle.mr_store.proofs.RevisionLemmas.{is_none_of, filter-all, without-more, is_none_of-more}
use Rattle.mr_store.proofs.revision_list.remove_listed.Goals.{then-leaves, else-leaves}
use Rattle.mr_store.proofs.revision_list.remove_listed.Goals as goal

pub loop-version-init : goal.loop-version-init
loop-version-init c = record {
  items = filter-all c.args.revisions.now.items;
  in_order = c.requires;
  spare = omega arith;
}

pub loop-version-preserved : goal.loop-version-preserved
loop-version-preserved c =
    let vs = take c.loop-version.version-index c.args.versions.now in
    let v = c.version-item.result in
    let below = leaves c.args.ones.now c.args.below.now in
    let heads = c.args.revisions.now.items in
    let more : take (c.loop-version.version-index + 1) c.args.versions.now ≡ vs ++ v ∷ [] = take_more c.args.versions.now c.loop-version.version-index v (omega arith) ∙ ap (λ (w : Name). vs ++ w ∷ []) (sym c.version-item.is) in
    let to_more : filter (is_none_of (vs ++ v ∷ []) below) heads ≡ filter (is_none_of (take (c.loop-version.version-index + 1) c.args.versions.now) below) heads = ap (λ (ws : List Name). filter (is_none_of ws below) heads) (sym more) in
    elim c.if-leaves.branch [
      | then-leaves w ↦ record {
        items = ap (λ h. h.items) w.revisions-is ∙ w.remove.ensures.items ∙ ap (λ (hs : List Rev). without version_of v hs) c.loop-version.invariant.items ∙ without-more vs v below heads (sym c.leaves.ensures ∙ w.if-leaves.true) ∙ to_more;
        in_order = rw w.revisions-is w.remove.ensures.in_order;
        spare = rw w.revisions-is (omega (arith, w.remove.ensures.spare, c.loop-version.invariant.spare));
      }
      | else-leaves w ↦ record {
        items = ap (λ h. h.items) w.revisions-is ∙ c.loop-version.invariant.items ∙ is_none_of-more vs v below heads (sym c.leaves.ensures ∙ w.if-leaves.false) ∙ to_more;
        in_order = rw w.revisions-is c.loop-version.invariant.in_order;
        spare = rw w.revisions-is c.loop-version.invariant.spare;
      }
    ]
