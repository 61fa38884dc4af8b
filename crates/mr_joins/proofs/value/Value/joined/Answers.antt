use Rattle.std.proofs.Common.{◌≡◌, ◌∙◌, sym, subst, ap, List}
use Rattle.std.specs.List.{AllByRecursion}
use Rattle.std.proofs.lemmas.List.Sums.{fold-append}
use Rattle.std.proofs.lemmas.List.Elements.{recursion_from_All}
use Rattle.std.proofs.lemmas.Iterator.Adapters.{YieldsList-from_vec}
use Rattle.std.proofs.lemmas.Iterator.Consumers.{YieldsList-end}
use Rattle.std.specs.Prelude.{[], ◌∷◌}
use Rattle.mr_joins.specs.declared.mark.Mark.{Mark}
use Rattle.mr_joins.specs.Says.{IsBelow, IsDeleted, Stands}
use Rattle.mr_joins.specs.Value.{IsValue, says, join, joined}
use Rattle.mr_joins.proofs.Values.{each_more, itself, says-joined, joined-above, joined-least, joined-set, joined-told, joined-deleted, joined-stands}
use Rattle.mr_joins.proofs.value.Value.joined.Goals as goal

pub loop-head-preserved : goal.loop-head-preserved
loop-head-preserved c = record {
  is = c.in_ok-value.ensures.value ∙ ap (λ (ms : List Mark). join ms c.in-Some.head) c.loop-head.invariant.is ∙ sym (fold-append join [] c.loop-head.yielded (c.in-Some.head ∷ []));
  each = each_more c.loop-head.yielded c.in-Some.head c.loop-head.invariant.each c.in_ok-value.ensures.values.1;
}

pub returns : goal.returns
returns c =
    let gives = c.into_iter-head-iterator.ensures.into_iter_gives in
    let end = YieldsList-end (YieldsList-from_vec {s = c.into_iter-head-iterator.result} c.args.heads.items gives.0 (gives.1 ∙ c.args.heads.ok.0)) c.loop-head.yielded c.loop-head.head-iterator c.loop-head.yielded_by c.next.result c.next.new.self c.in-None.is c.next.ensures.steps in
    let whole : c.loop-head.yielded ≡ c.args.heads.items = sym (itself c.loop-head.yielded) ∙ end.0 in
    let is : c.loop-head.value ≡ joined c.args.heads.items = c.loop-head.invariant.is ∙ ap joined whole in
    let each : AllByRecursion IsValue c.args.heads.items = subst (AllByRecursion IsValue) whole c.loop-head.invariant.each in
    record {
      value = is;
      says = λ key. ap (λ (ms : List Mark). says ms key) is ∙ says-joined c.args.heads.items each key;
      above = λ head among. subst (λ (ms : List Mark). IsBelow (says head) (says ms)) (sym is) (joined-above c.args.heads.items each head among);
      least = λ other all. subst (λ (ms : List Mark). IsBelow (says ms) other) (sym is) (joined-least c.args.heads.items each other all);
      set = λ others all there back. joined-set c.args.heads.items others each (recursion_from_All IsValue others all) there back ∙ sym is;
      told = λ kept among. ap (λ (ms : List Mark). joined (ms ∷ kept)) is ∙ joined-told c.args.heads.items kept each among ∙ sym is;
      deleted = λ all. subst (λ (ms : List Mark). IsDeleted (says ms)) (sym is) (joined-deleted c.args.heads.items each all);
      stands = λ head key among all. subst (λ (ms : List Mark). Stands (says ms)) (sym is) (joined-stands c.args.heads.items each head key among all);
    }
