use Rattle.std.proofs.Common.{◌≡◌, ◌||◌, ◌∙◌, ap, sym, [], ◌∷◌, ◌++◌}
use Rattle.mr_forms.proofs.Names.{Name, is_listed, name_eq}
use Rattle.mr_forms.proofs.PairLemmas.{filled_from_has, name_eq-itself}
use Rattle.mr_forms.proofs.SetLemmas.{or_nothing}
use Rattle.mr_forms.proofs.plain_knowledge.fragment_of.Goals as goal

pub returns-clause-ok : goal.returns-clause-ok
returns-clause-ok c =
    let has : (v : Name) → is_listed c.insert.new.self v ≡ name_eq c.args.pair.version v = λ (v : Name). c.in_ok-insert.ensures.ok v ∙ ap (λ vs. name_eq c.args.pair.version v || is_listed vs v) c.new-vector.ensures.empty ∙ sym (or_nothing (name_eq c.args.pair.version v)) in
    record {
      item = c.in_ok-push.ensures.items ∙ ap (λ items. items ++ c.args.pair.item ∷ []) c.new-items.ensures.items;
      versions = has;
      filled = filled_from_has c.insert.new.self c.args.pair.version (has c.args.pair.version ∙ name_eq-itself c.args.pair.version);
    }
