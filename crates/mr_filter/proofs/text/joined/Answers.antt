use Rattle.std.proofs.Common.{◌++◌, string_bytes, sym, ◌∙◌, ap}
use Rattle.mr_filter.proofs.Names.{flat_map, join_or, texts_of}
use Rattle.mr_filter.proofs.TextLemmas.{join_or-cons}
use Rattle.mr_filter.proofs.text.joined.Goals as goal

pub returns : goal.returns
returns c =
    c.in_ok-push_each.ensures
    ∙ ap (λ first. first ++ flat_map (λ part. c.args.separator.now ++ part) (texts_of c.in-Some.rest.now)) c.in_ok-text.ensures.cases
    ∙ sym (join_or-cons c.args.none.now c.args.separator.now (string_bytes c.in-Some.first.now) (texts_of c.in-Some.rest.now))
    ∙ ap (λ texts. join_or c.args.none.now c.args.separator.now (texts_of texts)) (sym c.in-Some.ensures.cases.0)
