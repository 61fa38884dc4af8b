use Rattle.std.proofs.Common.{sym, ◌∙◌, string_bytes}
use Rattle.std.proofs.lemmas.List.{length-map}
use Rattle.std.proofs.lemmas.List.Filters.{dedup_is}
use Rattle.std.proofs.lemmas.List.Sums.{AllPass-from_list_all}
use Rattle.mr_mail.specs.Label.{is_label, texts_of}
use Rattle.mr_mail.proofs.LabelLemmas.{AreLabelsOf-sorted, AllPass-sorted, length-AreLabelsOf}
use Rattle.mr_mail.proofs.label.sort_once.Goals as goal

pub returns-clause-labels : goal.returns-clause-labels
returns-clause-labels c =
    AreLabelsOf-sorted _ _ _ c.sort_unstable.ensures.permutation c.sort_unstable.ensures.sorted (dedup_is _ _ _ c.dedup.ensures.filtered)

pub returns-clause-each : goal.returns-clause-each
returns-clause-each c =
    λ each. AllPass-sorted _ _ _ c.sort_unstable.ensures.permutation (dedup_is _ _ _ c.dedup.ensures.filtered) (AllPass-from_list_all is_label (texts_of c.args.texts.now.items) each)

pub returns-clause-count : goal.returns-clause-count
returns-clause-count c =
    sym (length-map c.dedup.new.self.items (λ s. string_bytes s)) ∙
    length-AreLabelsOf _ _ (AreLabelsOf-sorted _ _ _ c.sort_unstable.ensures.permutation c.sort_unstable.ensures.sorted (dedup_is _ _ _ c.dedup.ensures.filtered))
