use Rattle.std.proofs.Common.{Bool, ◌||◌, ◌&&◌, ap, ◌∙◌}
use Rattle.mr_version.specs.Name.{name_eq}
use Rattle.mr_itemset.proofs.settled.Settled.with_learned_below.Goals as goal

pub returns-in_default : goal.returns-in_default
returns-in_default g c = rw c.in_default.is c.in_ok-grown.ensures.same

pub returns : goal.returns
returns g c = rw c.in-Some.is
    (λ i v. c.in_ok-learn_below.ensures.ok i v ∙ ap (λ (b : Bool). (name_eq c.in-Some.item i && g.S.Source.has c.args.below.now v) || b) (c.in_ok-grown.ensures.same i v))
