use Rattle.std.proofs.Common.{◌||◌, ◌∙◌, ap, refl}
use Rattle.mr_forms.specs.Sets.{is_listed}
use Rattle.mr_forms.proofs.PairLemmas.{filled_from_has, name_eq-itself}
use Rattle.mr_forms.proofs.plain_knowledge.with_version.Goals as goal

pub returns-clause-ok : goal.returns-clause-ok
returns-clause-ok c = record {
  items = refl;
  versions = c.in_ok-insert.ensures.ok;
  filled = filled_from_has c.insert.new.self c.args.version (c.in_ok-insert.ensures.ok c.args.version ∙ ap (λ b. b || is_listed c.args.fragment.vector c.args.version) (name_eq-itself c.args.version));
}
