use Rattle.std.proofs.Common.{◌≡◌, [], true, subst, arith}
use Rattle.mr_filter.proofs.Names.{get_or-map, is_label, length-map}
use Rattle.mr_filter.proofs.draft.owned_labels.Goals as goal

pub label_of-requires : goal.label_of-requires
label_of-requires c =
    let long = length-map c.args.texts.now (λ text. text.now) in
    subst (λ text. is_label text ≡ true) (get_or-map (λ text. text.now) c.args.texts.now c.loop-text.text-index (record { ref_ptr = (0, 0); now = [] })) (c.requires c.loop-text.text-index [] (omega arith))
