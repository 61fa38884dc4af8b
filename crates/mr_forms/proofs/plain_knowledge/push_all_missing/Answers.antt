use Rattle.std.proofs.Common.{◌||◌, ◌&&◌, ◌∙◌, ap, sym, take}
use Rattle.mr_forms.proofs.Names.{has_pair, is_listed, name_eq, pair}
use Rattle.mr_forms.proofs.ListLemmas.{list_any-here}
use Rattle.mr_forms.proofs.SetLemmas.{name_eq-symmetric}
use Rattle.mr_forms.proofs.PairLemmas.{pair_eq-parts, one_more_listed}
use Rattle.mr_forms.proofs.plain_knowledge.push_all_missing.Goals as goal

pub loop-version-preserved : goal.loop-version-preserved
loop-version-preserved c i v =
    let version = c.version-item.result in
    let for_item = name_eq c.args.item i in
    let before = is_listed (take c.loop-version.version-index c.args.versions.now) v in
    let rest = has_pair c.args.missing.now.items (pair i v) || has_pair c.args.known.now.keys (pair i v) in
    c.in_ok-push_missing.ensures.ok (pair i v)
    ∙ ap (λ b. b || (has_pair c.loop-version.missing.items (pair i v) || has_pair c.args.known.now.keys (pair i v))) (pair_eq-parts i v (pair c.args.item version))
    ∙ ap (λ b. (for_item && b) || (has_pair c.loop-version.missing.items (pair i v) || has_pair c.args.known.now.keys (pair i v))) (name_eq-symmetric version v)
    ∙ ap (λ b. (for_item && name_eq v version) || b) (c.loop-version.invariant i v)
    ∙ one_more_listed for_item (name_eq v version) before rest
    ∙ ap (λ b. (for_item && b) || rest) (sym (list_any-here (name_eq v) c.args.versions.now c.loop-version.version-index version c.loop-version-test.true c.version-item.is))
