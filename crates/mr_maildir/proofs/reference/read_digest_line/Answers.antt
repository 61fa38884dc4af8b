use Rattle.std.proofs.Common.{◌≡◌}
use Rattle.hex.specs.Hex.{encode_lower}
use Rattle.mr_maildir.proofs.ReferenceLemmas.{digest-one_line}
use Rattle.mr_maildir.proofs.reference.read_digest_line.Goals as goal

pub returns-in_err-digits-clause-whole : goal.returns-in_err-digits-clause-whole
returns-in_err-digits-clause-whole c = λ digest rest is e. absurd (rw c.in_err-digits.was at (c.read_line.ensures.whole (encode_lower digest) rest (digest-one_line digest is) e))

pub returns-in_err-digest-clause-whole : goal.returns-in_err-digest-clause-whole
returns-in_err-digest-clause-whole c = λ digest rest is e.
    let parts = rw c.in_ok-digits.was at (c.read_line.ensures.whole (encode_lower digest) rest (digest-one_line digest is) e) in
    let found = c.read_digest.ensures.whole digest is parts.0 in
    let none = c.in_err-digest.was in
    absurd cc

pub returns-clause-whole : goal.returns-clause-whole
returns-clause-whole c = λ digest rest is e.
    let parts = rw c.in_ok-digits.was at (c.read_line.ensures.whole (encode_lower digest) rest (digest-one_line digest is) e) in
    let found = c.read_digest.ensures.whole digest is parts.0 in
    let some = c.in_ok-digest.was in
    let same : c.in_ok-digest.digest ≡ digest = cc in
    (same, parts.1)
