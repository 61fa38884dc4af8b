use Rattle.std.proofs.Common.{◌≡◌, ◌+◌, ap, sym, ◌∙◌, List, [], ◌∷◌, ◌++◌, take, take_all, arith, Option, Some, None, refl, append-nil}
use Rattle.mr_store.proofs.Names.{Name, Rev, RevisionParts, filter_map, filter_map-append, take_more, vector_has}
use Rattle.mr_store.proofs.RevisionLemmas.{found_below, found-versions_of}
use Rattle.mr_store.proofs.revision_list.RevisionList.superseded.Goals.{in-Some+in_ok-copy+in_ok-push, in_default}
use Rattle.mr_store.proofs.revision_list.RevisionList.superseded.Goals as goal

one_more : (h : Name → Option Rev) (vs : List Name) (v : Name) (r : Rev) → Some r ≡ h v → filter_map h vs ++ r ∷ [] ≡ filter_map h (vs ++ v ∷ [])
one_more h vs v r is = rw (filter_map-append h vs (v ∷ []), ← is) refl

none_more : (h : Name → Option Rev) (vs : List Name) (v : Name) → h v ≡ None → filter_map h (vs ++ v ∷ []) ≡ filter_map h vs
none_more h vs v is = filter_map-append h vs (v ∷ []) ∙ rw (is, append-nil) refl

pub loop-version-preserved : goal.loop-version-preserved
loop-version-preserved c =
    let all = c.versions_of-version-items.result.now in
    let vs = take c.loop-version.version-index all in
    let v = c.version-item.result in
    let found = found_below (vector_has c.args.below.now) c.args.self.now.revisions in
    let more : take (c.loop-version.version-index + 1) all ≡ vs ++ v ∷ [] = take_more all c.loop-version.version-index v (omega arith) ∙ ap (λ (w : Name). vs ++ w ∷ []) (sym c.version-item.is) in
    elim c.match-revision_below.branch [
      | in-Some+in_ok-copy+in_ok-push w ↦
          let r = w.in-Some.revision.now in
          let grown : filter_map found vs ++ r ∷ [] ≡ filter_map found (vs ++ v ∷ []) = one_more found vs v r w.in-Some.ensures in
          rw (w.left-is, w.in_ok-push.ensures.items, w.in_ok-copy.ensures, c.loop-version.invariant, more) grown
      | in_default w ↦ rw (w.left-is, more, none_more found vs v (sym w.in_default.ensures)) c.loop-version.invariant
    ]

pub returns : goal.returns
returns c =
    let all : take c.loop-version.version-index c.versions_of-version-items.result.now ≡ c.versions_of-version-items.result.now = take_all c.loop-version.version-index c.versions_of-version-items.result.now c.loop-version-test.false in
    let revisions = ap (λ (s : RevisionParts). s.revisions) c.self.view_is in
    (rw (all, c.versions_of-version-items.ensures) at c.loop-version.invariant)
    ∙ found-versions_of c.args.item (vector_has c.args.below.now) c.args.self.now.revisions (rw revisions at c.self.invariant.in_order)
