use Rattle.std.proofs.Common.{List, sym, ap, subst, ◌∙◌, arith, take}
use Rattle.mr_forms.proofs.Names.{AreSame, Fragment, plain_form, plain_known, take_all}
use Rattle.mr_forms.proofs.MergedLemmas.{after_all, after_all-same, merged_next, take_next}
use Rattle.mr_forms.proofs.plain_knowledge.PlainKnowledgeKnowledge.with_fragments.Goals as goal

-- the next fragment is merged
pub loop-fragment-preserved : goal.loop-fragment-preserved
loop-fragment-preserved g c =
    let has = g.S.VersionSet.has in
    let known = plain_known c.args.self.now in
    let k = c.loop-fragment.fragment-index in
    let f = c.fragment-item.result in
    let fs = c.args.fragments.now in
    subst (λ (gs : List (Fragment g.row.S.Denot)). AreSame (plain_known c.merge.new.self) (after_all has known gs)) (sym (take_next fs k f c.loop-fragment-test.true c.fragment-item.is))
    (merged_next plain_form has known c.loop-fragment.knowledge (take k fs) f c.loop-fragment.invariant c.merge.new.self c.in_ok-merge.ensures.ok)

-- all fragments are merged
pub returns-clause-ok : goal.returns-clause-ok
returns-clause-ok g c i v =
    let has = g.S.VersionSet.has in
    let known = plain_known c.args.self.now in
    let all = take_all c.loop-fragment.fragment-index c.args.fragments.now (omega (arith, c.loop-fragment-test.false)) in
    c.loop-fragment.invariant i v ∙ ap (λ (gs : List (Fragment g.row.S.Denot)). after_all has known gs i v) all ∙ after_all-same has known c.args.fragments.now i v
