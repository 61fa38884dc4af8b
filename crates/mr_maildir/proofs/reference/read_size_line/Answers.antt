use Rattle.std.proofs.Common.{◌≡◌}
use Rattle.std.specs.Fmt.{decimal}
use Rattle.mr_maildir.proofs.ReferenceLemmas.{size-one_line}
use Rattle.mr_maildir.proofs.reference.read_size_line.Goals as goal

pub returns-in_err-number-clause-whole : goal.returns-in_err-number-clause-whole
returns-in_err-number-clause-whole c = λ size rest small e. absurd (rw c.in_err-number.was at (c.read_line.ensures.whole (decimal size) rest (size-one_line size small) e))

pub returns-in_err-size-clause-whole : goal.returns-in_err-size-clause-whole
returns-in_err-size-clause-whole c = λ size rest small e.
    let parts = rw c.in_ok-number.was at (c.read_line.ensures.whole (decimal size) rest (size-one_line size small) e) in
    let found = c.read_decimal.ensures.whole size small parts.0 in
    let none = c.in_err-size.was in
    absurd cc

pub returns-clause-whole : goal.returns-clause-whole
returns-clause-whole c = λ size rest small e.
    let parts = rw c.in_ok-number.was at (c.read_line.ensures.whole (decimal size) rest (size-one_line size small) e) in
    let found = c.read_decimal.ensures.whole size small parts.0 in
    let some = c.in_ok-size.was in
    let same : c.in_ok-size.size ≡ size = cc in
    (same, parts.1)
