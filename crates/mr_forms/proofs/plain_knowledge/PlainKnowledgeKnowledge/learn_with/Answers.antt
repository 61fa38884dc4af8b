use Rattle.std.proofs.Common.{false, ◌||◌, ◌&&◌, ◌∙◌, ◌∷◌, [], ap}
use Rattle.mr_forms.proofs.Names.{is_listed, list_any-append, name_eq, plain_known}
use Rattle.std.proofs.lemmas.Result.{on_ok_weaker}
use Rattle.mr_forms.proofs.PairLemmas.{listed_with}
use Rattle.mr_forms.proofs.SetLemmas.{name_eq-symmetric}
use Rattle.mr_forms.proofs.plain_knowledge.PlainKnowledgeKnowledge.learn_with.Goals as goal

pub returns-clause-ok : goal.returns-clause-ok
returns-clause-ok g c =
    on_ok_weaker c.learn_versions.result (λ same i v.
    let for_item = name_eq c.args.item i in
    let old = plain_known c.args.self.now i v in
    same i v
    ∙ ap (λ vs. ((for_item || false) && is_listed vs v) || old) (c.deref.ensures.value ∙ c.in_ok-push.ensures.items)
    ∙ ap (λ b. ((for_item || false) && b) || old) (list_any-append (name_eq v) c.in_ok-versions.versions.items (c.args.version ∷ []))
    ∙ ap (λ b. ((for_item || false) && (b || (name_eq v c.args.version || false))) || old) (c.in_ok-versions.ensures.ok v)
    ∙ ap (λ b. ((for_item || false) && (g.S.VersionSet.has c.args.below.now v || (b || false))) || old) (name_eq-symmetric v c.args.version)
    ∙ listed_with for_item (g.S.VersionSet.has c.args.below.now v) (name_eq c.args.version v) old) c.learn_versions.ensures.ok
