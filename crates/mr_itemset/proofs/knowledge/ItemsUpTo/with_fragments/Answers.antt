use Rattle.std.proofs.Common.{List, All, sym, ap, subst, ◌∙◌, arith, take}
use Rattle.mr_itemset.proofs.Names.{AreSame, Fragment, HasValue, Normal, after_all, after_all-same, after_each, fits_next, items_form, merged_next}
use Rattle.mr_itemset.proofs.Names.{normal_known, take_all, take_next}
use Rattle.mr_forms.specs.declared.fault.FormFault.TheVariants as fault
use Rattle.mr_itemset.proofs.MergingLemmas.{holes_at, items_at, passed_on}
use Rattle.mr_itemset.proofs.knowledge.ItemsUpTo.with_fragments.Goals as goal

-- the next fragment is the first that has no value
pub returns-in_err-take_in-clause-holes : goal.returns-in_err-take_in-clause-holes
returns-in_err-take_in-clause-holes g c over =
    holes_at g.row.LIMIT g.S.VersionSet.has (normal_known c.args.self.now) c.loop-fragment.knowledge c.args.fragments.now c.loop-fragment.fragment-index c.fragment-item.result c.loop-fragment-test.true c.fragment-item.is c.loop-fragment.invariant.is c.take_in.result c.loop-fragment.invariant.fits c.take_in.ensures.holes c.take_in.ensures.items
    (passed_on c.take_in.result c.from_residual-in_err-take_in.result c.in_err-take_in.field-0.0 fault.TooManyHoles c.in_err-take_in.was c.from_residual-in_err-take_in.ensures.1 over)

pub returns-in_err-take_in-clause-items : goal.returns-in_err-take_in-clause-items
returns-in_err-take_in-clause-items g c over =
    items_at g.row.LIMIT g.S.VersionSet.has (normal_known c.args.self.now) c.loop-fragment.knowledge c.args.fragments.now c.loop-fragment.fragment-index c.fragment-item.result c.loop-fragment-test.true c.fragment-item.is c.loop-fragment.invariant.is c.take_in.result c.loop-fragment.invariant.fits c.take_in.ensures.holes c.take_in.ensures.items
    (passed_on c.take_in.result c.from_residual-in_err-take_in.result c.in_err-take_in.field-0.0 fault.TooManyItems c.in_err-take_in.was c.from_residual-in_err-take_in.ensures.1 over)

-- the next fragment has a value and is merged
pub loop-fragment-preserved : goal.loop-fragment-preserved
loop-fragment-preserved g c =
    let has = g.S.VersionSet.has in
    let known = normal_known c.args.self.now in
    let k = c.loop-fragment.fragment-index in
    let f = c.fragment-item.result in
    let fs = c.args.fragments.now in
    let more = take_next fs k f c.loop-fragment-test.true c.fragment-item.is in
    record {
      is = subst (λ (gs : List (Fragment g.row.S.Denot)). AreSame (normal_known c.take_in.new.self) (after_all has known gs)) (sym more)
          (merged_next (items_form g.row.LIMIT) has known c.loop-fragment.knowledge (take k fs) f c.loop-fragment.invariant.is c.take_in.new.self c.in_ok-take_in.ensures.ok);
      fits = subst (λ (gs : List (Fragment g.row.S.Denot)). All (HasValue (items_form g.row.LIMIT)) (after_each has known gs)) (sym more)
          (fits_next (items_form g.row.LIMIT) has known c.loop-fragment.knowledge (take k fs) f c.loop-fragment.invariant.is c.take_in.result c.loop-fragment.invariant.fits c.take_in.ensures.holes c.take_in.ensures.items c.in_ok-take_in.was);
    }

-- all fragments are merged, and what waits is settled
pub returns-clause-ok : goal.returns-clause-ok
returns-clause-ok g c i v =
    let has = g.S.VersionSet.has in
    let known = normal_known c.args.self.now in
    let all = take_all c.loop-fragment.fragment-index c.args.fragments.now (omega (arith, c.loop-fragment-test.false)) in
    ap (λ (k : Normal). normal_known k i v) (c.of.ensures ∙ c.in-Ok-folded.ensures.is)
    ∙ c.loop-fragment.invariant.is i v ∙ ap (λ (gs : List (Fragment g.row.S.Denot)). after_all has known gs i v) all ∙ after_all-same has known c.args.fragments.now i v

pub returns-clause-value : goal.returns-clause-value
returns-clause-value g c =
    let has = g.S.VersionSet.has in
    let all = take_all c.loop-fragment.fragment-index c.args.fragments.now (omega (arith, c.loop-fragment-test.false)) in
    subst (λ (gs : List (Fragment g.row.S.Denot)). All (HasValue (items_form g.row.LIMIT)) (after_each has (normal_known c.args.self.now) gs)) all c.loop-fragment.invariant.fits
