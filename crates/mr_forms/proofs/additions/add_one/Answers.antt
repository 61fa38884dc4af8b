use Rattle.std.proofs.Common.{◌∙◌, ap, sym}
use Rattle.mr_forms.specs.inner.Additions.{taken_back}
use Rattle.mr_forms.proofs.AdditionLemmas.{taken_back-push, remove_key-insert_key}
use Rattle.mr_forms.proofs.additions.add_one.Goals as goal

pub returns-in-Ok-clause-same_rest : goal.returns-in-Ok-clause-same_rest
returns-in-Ok-clause-same_rest g c =
    rw (c.in_ok-push.ensures.items, c.in-Ok.ensures.keys)
    (taken_back-push g.K.Ord.cmp c.args.added.now.items c.args.key _
    ∙ ap (taken_back g.K.Ord.cmp c.args.added.now.items) (remove_key-insert_key g.met.K.Ord.total c.args.set.now.keys c.args.key (sym c.contains.ensures ∙ c.if-contains.false)))
