use Rattle.std.proofs.Common.{◌∙◌, ◌∷◌, [], ◌++◌, ap, sym}
use Rattle.std.proofs.lemmas.Bool.{false≢true}
use Rattle.mr_forms.proofs.FragmentLemmas.{gains_in_last, gains_after_last}
use Rattle.mr_forms.proofs.plain_knowledge.add_pair.Goals as goal

pub returns-in_ok-push-2-clause-ok : goal.returns-in_ok-push-2-clause-ok
returns-in_ok-push-2-clause-ok c =
    gains_in_last c.args.fragments.now.items c.push-then-is_only.new.self.items c.pop.new.self.items c.in-Some.last c.in_ok-with_version.field-0 c.args.pair
    c.in-Some.ensures.items c.in_ok-push-2.ensures.items (c.is_only.ensures.0 c.if-is_only.true) c.in_ok-with_version.ensures.ok c.requires.one_by_one c.requires.up_to

pub returns-in_ok-push-4-clause-ok : goal.returns-in_ok-push-4-clause-ok
returns-in_ok-push-4-clause-ok c =
    gains_after_last c.args.fragments.now.items c.push-else-is_only-2.new.self.items c.pop.new.self.items c.in-Some.last c.in_ok-fragment_of-2.field-0 c.args.pair
    c.in-Some.ensures.items (c.in_ok-push-4.ensures.items ∙ ap (λ fs. fs ++ c.in_ok-fragment_of-2.field-0 ∷ []) c.in_ok-push-3.ensures.items)
    (λ only. false≢true (sym c.if-is_only.false ∙ c.is_only.ensures.1 only)) c.in_ok-fragment_of-2.ensures.ok c.requires.one_by_one c.requires.up_to
