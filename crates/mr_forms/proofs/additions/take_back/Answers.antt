use Rattle.std.proofs.Common.{◌∙◌, ap, sym}
use Rattle.mr_forms.specs.inner.Additions.{taken_back}
use Rattle.mr_forms.proofs.AdditionLemmas.{taken_back-push}
use Rattle.mr_forms.proofs.additions.take_back.Goals as goal

pub loop-key-preserved : goal.loop-key-preserved
loop-key-preserved g c =
    ap (taken_back g.K.Ord.cmp c.pop.new.self.items) c.remove.ensures.keys
    ∙ sym (taken_back-push g.K.Ord.cmp c.pop.new.self.items c.in-Some.key c.loop-key.set.keys)
    ∙ ap (λ added. taken_back g.K.Ord.cmp added c.loop-key.set.keys) (sym c.in-Some.ensures.items)
    ∙ c.loop-key.invariant
