use Rattle.std.proofs.Common.{◌≡◌, true, false, sym, ◌∙◌}
use Rattle.mr_store.specs.Leaving.{leaves}
use Rattle.mr_store.proofs.ListedLemmas.{first_out, none_out, stays-above}
use Rattle.mr_store.proofs.revision_list.remove_first.Goals.{else-leaves-via-then-leaves+else-not-is_empty, else-leaves-via-else-leaves}
use Rattle.mr_store.proofs.revision_list.remove_first.Goals as goal

pub returns-then-not-is_empty-clause-items : goal.returns-then-not-is_empty-clause-items
returns-then-not-is_empty-clause-items c =
    let below = leaves c.args.ones.now c.args.below.now in
    let is_below : below c.creator-first.result ≡ true = sym c.leaves.ensures ∙ c.if-leaves.true in
    (rw c.creator-first.ensures at c.remove.ensures.items)
    ∙ first_out c.args.item below c.args.revisions.now.items c.first_of.result.now c.requires.in_order c.requires.alone (rw c.as_slice.ensures at c.first_of.ensures) (sym c.is_empty.ensures ∙ c.if-not-is_empty.true) (rw c.creator-first.ensures at is_below)

pub returns-else-leaves-clause-items : goal.returns-else-leaves-clause-items
returns-else-leaves-clause-items c =
    let below = leaves c.args.ones.now c.args.below.now in
    let old = c.args.revisions.now.items in
    elim c.else-leaves.branch [
      | else-leaves-via-then-leaves+else-not-is_empty w ↦
          none_out c.args.item below old w.first_of.result.now c.requires.in_order c.requires.alone (rw w.as_slice.ensures at w.first_of.ensures) (sym w.is_empty.ensures ∙ w.if-not-is_empty.false)
      | else-leaves-via-else-leaves w ↦
          let above : below c.creator-first.result ≡ false = sym c.leaves.ensures ∙ w.if-leaves.false in
          stays-above c.args.item below old c.requires.in_order c.requires.alone (rw c.creator-first.ensures at above)
    ]
