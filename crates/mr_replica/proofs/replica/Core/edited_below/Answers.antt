use Rattle.std.proofs.Common.{◌≡◌, ◌↔◌, List, IfOk, IsErrOf, subst, ap, ◌∙◌}
use Rattle.mr_replica.proofs.Names.{AreColumnsOf, HasTooManyHoles, Holdings, IfOk-weaker, IsSound, Name, Rev, State, Track, Versions, below_for, by_held}
use Rattle.mr_replica.proofs.Names.{edited_item, filled_below, in_any, last_of, option_copied}
use Rattle.mr_forms.specs.declared.fault.FormFault.TheVariants.{TooManyHoles}
use Rattle.mr_replica.proofs.Below.{below_for-sources, edited_next}
use Rattle.mr_replica.proofs.replica.Core.edited_below.Goals as goal

pub returns-clause-ok : goal.returns-clause-ok
returns-clause-ok g c =
    let s = c.args.self.now in
    let heads = ap (λ (p : State g.row.K.Denot). p.heads) c.self.view_is in
    let push_outs = ap (λ (p : State g.row.K.Denot). p.push_outs) c.self.view_is in
    let trail = ap (λ (p : State g.row.K.Denot). p.trail) c.self.view_is in
    let is : filled_below (in_any (by_held c.store.result.now) c.args.bases.now) (option_copied c.last.result) c.args.version ≡ below_for s c.args.item c.args.bases.now =
    below_for-sources s c.store.result.now c.args.item c.args.bases.now (option_copied c.last.result) c.args.version
    (ap (λ (h : Holdings). h.heads) c.store.ensures ∙ heads) (ap (λ (h : Holdings). h.push_outs) c.store.ensures ∙ push_outs) (c.last.ensures ∙ ap (λ (t : List Rev). last_of t c.args.item) (ap (λ (t : Track). t.lasts) c.trail.ensures ∙ trail)) c.requires.version c.requires.admitted in
    subst (λ (t : Versions). IfOk c.below_of.result (AreColumnsOf t)) is c.below_of.ensures.ok

pub returns-clause-holes : goal.returns-clause-holes
returns-clause-holes g c =
    let s = c.args.self.now in
    let heads = ap (λ (p : State g.row.K.Denot). p.heads) c.self.view_is in
    let push_outs = ap (λ (p : State g.row.K.Denot). p.push_outs) c.self.view_is in
    let trail = ap (λ (p : State g.row.K.Denot). p.trail) c.self.view_is in
    let is : filled_below (in_any (by_held c.store.result.now) c.args.bases.now) (option_copied c.last.result) c.args.version ≡ below_for s c.args.item c.args.bases.now =
    below_for-sources s c.store.result.now c.args.item c.args.bases.now (option_copied c.last.result) c.args.version
    (ap (λ (h : Holdings). h.heads) c.store.ensures ∙ heads) (ap (λ (h : Holdings). h.push_outs) c.store.ensures ∙ push_outs) (c.last.ensures ∙ ap (λ (t : List Rev). last_of t c.args.item) (ap (λ (t : Track). t.lasts) c.trail.ensures ∙ trail)) c.requires.version c.requires.admitted in
    subst (λ (t : Versions). IsErrOf c.below_of.result TooManyHoles ↔ HasTooManyHoles t) is c.below_of.ensures.holes

pub returns-clause-next : goal.returns-clause-next
returns-clause-next g c =
    let s = c.args.self.now in
    let bases = c.args.bases.now in
    let sound = subst (IsSound g.K.Knowledge.form) c.self.view_is c.self.invariant in
    IfOk-weaker c.below_of.result _ _ (λ below of m.
    let of' : AreColumnsOf (below_for s (edited_item s bases) bases) below = subst (λ (i : Name). AreColumnsOf (below_for s i bases) below) c.requires.item of in
    rw (c.requires.item, c.requires.version) (edited_next g.K.Knowledge.form s sound bases m below c.requires.admitted of')) (returns-clause-ok g c)
