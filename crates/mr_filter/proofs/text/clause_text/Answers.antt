use Rattle.std.proofs.Common.{◌++◌, ◌∙◌, ap, map, codes, string_bytes}
use Rattle.mr_filter.proofs.Names.{IfOk-weaker, IsClauseText, all_flags, filter, flag_name, has_flag, join_or, texts_of}
use Rattle.mr_filter.proofs.TextLemmas.{IsClauseText-joined}
use Rattle.mr_filter.proofs.text.clause_text.Goals as goal

pub returns : goal.returns
returns c =
    IfOk-weaker c.joined.result _ (λ text. IsClauseText c.args.clause.now (string_bytes text))
    (λ text joined. IsClauseText-joined c.args.clause.now
    (texts_of c.push_labels.new.texts.items) (texts_of c.push_labels-2.new.texts.items)
    (texts_of c.push_flags.new.texts.items) (texts_of c.push_flags-2.new.texts.items) (texts_of c.push_since.new.texts.items)
    (string_bytes text) c.all_labels.ensures.kept
    (c.in_ok-push_labels.ensures
    ∙ ap (λ items. texts_of items ++ map (λ label. codes "label:" ++ label) c.all_labels.result.now) c.new-texts.ensures.items
    ∙ ap (map (λ label. codes "label:" ++ label)) c.all_labels.ensures.value)
    (c.in_ok-push_labels-2.ensures
    ∙ ap (λ labels. texts_of c.push_labels.new.texts.items ++ map (λ label. codes "!label:" ++ label) labels) c.no_labels.ensures.value)
    (c.in_ok-push_flags.ensures
    ∙ ap (λ flags. texts_of c.push_labels-2.new.texts.items ++ map (λ flag. codes "flag:" ++ flag_name flag) (filter (has_flag flags) all_flags)) c.flags_on.ensures.value)
    (c.in_ok-push_flags-2.ensures
    ∙ ap (λ flags. texts_of c.push_flags.new.texts.items ++ map (λ flag. codes "!flag:" ++ flag_name flag) (filter (has_flag flags) all_flags)) c.flags_off.ensures.value)
    (rw (← c.since.ensures.value) c.in_ok-push_since.ensures)
    (joined ∙ ap (λ items. join_or (codes "all") (codes " & ") (texts_of items)) c.as_slice.ensures.value))
    c.joined.ensures
