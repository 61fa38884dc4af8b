use Rattle.std.proofs.Common.{◌||◌, ◌∙◌, ap, refl, take_all}
use Rattle.mr_forms.proofs.Names.{contains, eq_by_cmp, list_any, taken_back}
use Rattle.mr_forms.proofs.ListLemmas.{list_any-here}
use Rattle.mr_forms.proofs.SetLemmas.{passes_more}
use Rattle.mr_forms.proofs.additions.add_all.Goals as goal

pub loop-key-init : goal.loop-key-init
loop-key-init g c = record {
  have = λ k. refl;
  lead_back = ap (λ added. taken_back g.K.Ord.cmp added c.args.set.now.keys) c.new-added.ensures.items;
}

pub loop-key-preserved : goal.loop-key-preserved
loop-key-preserved g c = record {
  have = λ k.
      passes_more _ _ (eq_by_cmp g.K.Ord.cmp k c.key-item.result) _ _ _ (c.in-Ok.ensures.ok k) (c.loop-key.invariant.have k)
      (list_any-here (eq_by_cmp g.K.Ord.cmp k) c.args.keys.now c.loop-key.key-index c.key-item.result c.loop-key-test.true c.key-item.is);
  lead_back = c.add_one.ensures.same_rest ∙ c.loop-key.invariant.lead_back;
}

pub returns-in-Err-clause-err : goal.returns-in-Err-clause-err
returns-in-Err-clause-err g c = c.take_back.ensures ∙ c.add_one.ensures.same_rest ∙ c.loop-key.invariant.lead_back

pub returns-clause-ok : goal.returns-clause-ok
returns-clause-ok g c = λ key.
    c.loop-key.invariant.have key
    ∙ ap (λ keys. list_any (eq_by_cmp g.K.Ord.cmp key) keys || contains g.K.Ord.cmp c.args.set.now key) (take_all c.loop-key.key-index _ c.loop-key-test.false)
