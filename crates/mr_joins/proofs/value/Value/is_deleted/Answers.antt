use Rattle.std.proofs.Common.{◌≡◌, ◌∙◌, sym, subst, ap}
use Rattle.mr_joins.specs.Value.{IsValue}
use Rattle.mr_joins.specs.Shown.{is_deleted}
use Rattle.mr_joins.proofs.ShownLemmas.{deleted_says, says_deleted}
use Rattle.mr_joins.proofs.value.Value.is_deleted.Goals as goal

pub returns-clause-says : goal.returns-clause-says
returns-clause-says c =
    let is : c.are_deleted.result ≡ is_deleted c.args.self.now = c.are_deleted.ensures ∙ ap is_deleted (c.deref.ensures.value ∙ c.self.view_is) in
    let v : IsValue c.args.self.now = subst IsValue c.self.view_is c.self.invariant in
    (λ t. deleted_says c.args.self.now (sym is ∙ t), λ h. is ∙ says_deleted c.args.self.now v.rising h)
