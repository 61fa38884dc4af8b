use Rattle.std.proofs.Common.{◌≡◌, List, not, sym, subst, ap, ◌∙◌}
use Rattle.mr_store.proofs.Names.{AreInVersionOrder, Holdings, Rev, filter, holds, is_unheld, rises-filter, version_of}
use Rattle.mr_store.proofs.RevisionLemmas.{filter-passing}
use Rattle.mr_store.proofs.store.Store.drop_unheld.Goals as goal

pub remove_heads-requires : goal.remove_heads-requires
remove_heads-requires c =
    let unheld = λ (r : Rev). is_unheld c.args.learned.now c.args.held.now r.item r.version in
    subst AreInVersionOrder (sym (c.deref.ensures.value ∙ c.in_ok-left.ensures)) (rises-filter version_of unheld c.args.self.now.heads c.heads-heads.ensures.in_order)

pub returns-clause-ok : goal.returns-clause-ok
returns-clause-ok c =
    let unheld = λ (r : Rev). is_unheld c.args.learned.now c.args.held.now r.item r.version in
    let heads = c.args.self.now.heads in
    let left : c.deref.result.now ≡ filter unheld heads = c.deref.ensures.value ∙ c.in_ok-left.ensures in
    let stay : filter (λ r. not (holds c.deref.result.now r.version)) heads ≡ filter (λ r. not (unheld r)) heads =
    ap (λ (rs : List Rev). filter (λ r. not (holds rs r.version)) heads) left ∙ filter-passing unheld heads c.heads-heads.ensures.in_order in
    c.remove_heads.ensures ∙ ap (λ (rs : List Rev). (let h : Holdings = record c.args.self.now { heads = rs } in h)) stay
