use Rattle.std.proofs.Common.{◌≡◌, ◌∙◌, ap, true}
use Rattle.std.proofs.lemmas.Fmt.{parse-decimal}
use Rattle.std.specs.Result.{result_ok}
use Rattle.mr_version.specs.inner.Number.{IsPlain}
use Rattle.mr_version.proofs.Decimal.{IsPlain-decimal, decimal-parse}
use Rattle.mr_version.proofs.number.read_decimal.Goals as goal

pub returns-then-is_plain-clause-spelled : goal.returns-then-is_plain-clause-spelled
returns-then-is_plain-clause-spelled c = rw c.ok.ensures.value (decimal-parse c.args.text.now c.parse.result c.parse.ensures.value.0 (c.is_plain.ensures.0 c.if-is_plain.true))

pub returns-then-is_plain-clause-whole : goal.returns-then-is_plain-clause-whole
returns-then-is_plain-clause-whole c n small spelled =
    c.ok.ensures.value ∙ ap result_ok (parse-decimal 64 n c.args.text.now c.parse.result small small spelled c.parse.ensures.value.0)

pub returns-else-is_plain-clause-whole : goal.returns-else-is_plain-clause-whole
returns-else-is_plain-clause-whole c n small spelled =
    let plain : IsPlain c.args.text.now = rw spelled (IsPlain-decimal n small) in
    let tested : c.is_plain.result ≡ true = c.is_plain.ensures.1 plain in
    cc
