use Rattle.std.proofs.Common.{◌≡◌, lit<}
use Rattle.std.proofs.lemmas.Str.Pattern.{split_after}
use Rattle.mr_filter.proofs.ColonLemmas.{no_colon, IsSomeAnd-from}
use Rattle.mr_filter.proofs.condition.kind_and_value.Goals as goal

pub returns-clause-complete : goal.returns-clause-complete
returns-clause-complete c =
    λ kind value lacks is. IsSomeAnd-from c.split_once.result (λ parts. (parts.0.now ≡ kind) × (parts.1.now ≡ value)) (split_after 58 c.args.piece.now kind value c.split_once.result c.split_once.ensures.cases (lit< tt) is (no_colon kind lacks))
