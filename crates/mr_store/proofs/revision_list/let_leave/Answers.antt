use Rattle.std.proofs.Common.{◌≡◌, List, ◌∙◌, arith, not, sym, ap, is_some}
use Rattle.mr_store.proofs.Names.{Name, filter, leaves, versions_of}
use Rattle.mr_store.proofs.RevisionLemmas.{is_none_of, left_by-listed}
use Rattle.mr_store.proofs.IndexLemmas.{listed_matches, listed-mapped, room-kept}
use Rattle.mr_store.proofs.revision_list.let_leave.Goals as goal

pub returns-in-Some-clause-items : goal.returns-in-Some-clause-items
returns-in-Some-clause-items c =
    let old = c.args.revisions.now.items in
    let below = leaves c.args.ones.now c.args.below.now in
    let are : c.in-Some.versions.now.items ≡ versions_of c.args.item old = listed_matches _ c.in-Some.versions.now _ _ c.in-Some.ensures.value c.requires.listed in
    (rw c.deref.ensures.value at c.remove_listed.ensures.items)
    ∙ (ap (λ (vs : List Name). filter (is_none_of vs below) old) are
    ∙ left_by-listed c.args.item below old c.requires.in_order)

pub returns-in-Some-clause-lists : goal.returns-in-Some-clause-lists
returns-in-Some-clause-lists c =
    listed-mapped (filter (λ v. not (leaves c.args.ones.now c.args.below.now v))) c.args.index.now (c.get_mut.follows.lender c.retain_others.new.versions) c.args.item c.in-Some.versions.now c.retain_others.new.versions
    ((c.get_mut.follows.holds c.retain_others.new.versions).3 (ap is_some (sym c.in-Some.ensures.value))).0 (sym c.in-Some.ensures.value) c.retain_others.ensures.others

pub returns-in-Some-clause-room : goal.returns-in-Some-clause-room
returns-in-Some-clause-room c =
    room-kept c.args.index.now (c.get_mut.follows.lender c.retain_others.new.versions) c.args.item c.in-Some.versions.now c.retain_others.new.versions
    ((c.get_mut.follows.holds c.retain_others.new.versions).3 (ap is_some (sym c.in-Some.ensures.value))).0 (sym c.in-Some.ensures.value)
    (λ room. omega (arith, c.retain_others.ensures.fewer, c.retain_others.ensures.capacity))
