use Rattle.std.proofs.Common.{ap, ◌∙◌, List}
use Rattle.mr_replica.proofs.Names.{Holdings, Name, Rev, State, list_any, versions_of, vouched}
use Rattle.mr_replica.proofs.Releasing.{any_of_versions, release_refused, release_goes_on}
use Rattle.mr_replica.proofs.replica.Core.check_release.Goals as goal

pub returns-then-not-vouches_for_any : goal.returns-then-not-vouches_for_any
returns-then-not-vouches_for_any g c =
    let s = c.args.self.now in
    let receipt = c.args.receipt.now in
    let push_outs = ap (λ (p : State g.row.K.Denot). p.push_outs) c.self.view_is in
    let held = ap (λ (h : Holdings). h.push_outs) c.store.ensures ∙ push_outs in
    let versions = c.push_outs_of.ensures ∙ ap (λ (i : Name). versions_of i c.store.result.now.push_outs) c.item.ensures ∙ ap (λ (rs : List Rev). versions_of receipt.descent.item rs) held in
    let any = c.vouches_for_any.ensures ∙ ap (λ (vs : List Name). list_any (vouched receipt.descent) vs) versions ∙ any_of_versions receipt.descent.item (vouched receipt.descent) s.push_outs in
    release_refused s receipt c.vouches_for_any.result c.in_ok-check_retired.ensures any c.if-not-vouches_for_any.true

pub returns : goal.returns
returns g c =
    let s = c.args.self.now in
    let receipt = c.args.receipt.now in
    let push_outs = ap (λ (p : State g.row.K.Denot). p.push_outs) c.self.view_is in
    let held = ap (λ (h : Holdings). h.push_outs) c.store.ensures ∙ push_outs in
    let versions = c.push_outs_of.ensures ∙ ap (λ (i : Name). versions_of i c.store.result.now.push_outs) c.item.ensures ∙ ap (λ (rs : List Rev). versions_of receipt.descent.item rs) held in
    let any = c.vouches_for_any.ensures ∙ ap (λ (vs : List Name). list_any (vouched receipt.descent) vs) versions ∙ any_of_versions receipt.descent.item (vouched receipt.descent) s.push_outs in
    rw (release_goes_on s receipt c.vouches_for_any.result c.in_ok-check_retired.ensures any c.if-not-vouches_for_any.false) c.check_log.ensures
