use Rattle.std.proofs.Common.{◌≡◌, ◌+◌, ◌++◌, ◌∷◌, [], true, false, List, map, filter, take, take_all, arith, sym, ap, ◌∙◌, append-nil}
use Rattle.mr_replica.proofs.Names.{Name, Versions, filter-append, leaves, map-append, take_more}
use Rattle.mr_replica.proofs.Releasing.{gone_of, gone_of_versions}
use Rattle.mr_replica.proofs.replica.contents.entries.entries_of_gone.Goals.{then-leaves+in_ok-push, else-leaves}
use Rattle.mr_replica.proofs.replica.contents.entries.entries_of_gone.Goals as goal

-- one version more, which leaves or stays
one_more : (item : Name) (set : Versions) (vs : List Name) (v : Name) → set v ≡ true → map (gone_of item) (filter set (vs ++ v ∷ [])) ≡ map (gone_of item) (filter set vs) ++ gone_of item v ∷ []
one_more item set vs v is = rw (filter-append set vs (v ∷ []), is) (map-append (gone_of item) (filter set vs) (v ∷ []))

none_more : (item : Name) (set : Versions) (vs : List Name) (v : Name) → set v ≡ false → map (gone_of item) (filter set (vs ++ v ∷ [])) ≡ map (gone_of item) (filter set vs)
none_more item set vs v is = rw (filter-append set vs (v ∷ []), is) (ap (λ (ws : List Name). map (gone_of item) ws) (append-nil (filter set vs)))

pub loop-version-preserved : goal.loop-version-preserved
loop-version-preserved c =
    let all = c.push_outs_of-version-items.result.now in
    let vs = take c.loop-version.version-index all in
    let v = c.version-item.result in
    let set = leaves c.args.ones.now c.args.below.now in
    let more : take (c.loop-version.version-index + 1) all ≡ vs ++ v ∷ [] = take_more all c.loop-version.version-index v (omega arith) ∙ ap (λ (w : Name). vs ++ w ∷ []) (sym c.version-item.is) in
    elim c.if-leaves.branch [
      | then-leaves+in_ok-push w ↦ rw (w.entries-is, w.in_ok-push.ensures.items, c.loop-version.invariant, more) (sym (one_more c.args.item set vs v (sym c.leaves.ensures ∙ w.if-leaves.true)))
      | else-leaves w ↦ rw (w.entries-is, more) (c.loop-version.invariant ∙ sym (none_more c.args.item set vs v (sym c.leaves.ensures ∙ w.if-leaves.false)))
    ]

pub returns : goal.returns
returns c =
    let all : take c.loop-version.version-index c.push_outs_of-version-items.result.now ≡ c.push_outs_of-version-items.result.now = take_all c.loop-version.version-index c.push_outs_of-version-items.result.now c.loop-version-test.false in
    (rw (all, c.push_outs_of-version-items.ensures) at c.loop-version.invariant) ∙ gone_of_versions c.args.item (leaves c.args.ones.now c.args.below.now) c.args.store.now.push_outs
