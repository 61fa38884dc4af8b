use Rattle.std.proofs.Common.{◌∷◌, [], ◌∙◌, ap, string_bytes, arith}
use Rattle.mr_filter.proofs.Names.{IsClauseText, map-append, texts_of}
use Rattle.mr_filter.proofs.TextLemmas.{AllZip-push}
use Rattle.mr_filter.proofs.text.clause_texts.Goals as goal

pub loop-clause-preserved : goal.loop-clause-preserved
loop-clause-preserved c =
    AllZip-push IsClauseText c.args.clauses.now c.loop-clause.clause-index c.clause-item.result (texts_of c.loop-clause.texts.items) (texts_of c.push.new.self.items) (string_bytes c.in_ok-clause_text.field-0)
    (omega arith) c.clause-item.is c.loop-clause.invariant c.in_ok-clause_text.ensures
    (ap texts_of c.in_ok-push.ensures.items ∙ map-append (λ t. string_bytes t) c.loop-clause.texts.items (c.in_ok-clause_text.field-0 ∷ []))
