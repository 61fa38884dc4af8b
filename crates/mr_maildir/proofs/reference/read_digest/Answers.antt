use Rattle.std.proofs.Common.{◌≡◌, true, sym, ap, ◌∙◌}
use Rattle.std.specs.Result.{result_ok}
use Rattle.mr_maildir.proofs.Names.{decode_sized, decode_sized-encode_lower, encode_lower, false≢true, text_eq}
use Rattle.mr_maildir.proofs.ReferenceLemmas.{same_digits}
use Rattle.mr_maildir.proofs.reference.read_digest.Goals as goal

pub returns-in_err-digest-clause-whole : goal.returns-in_err-digest-clause-whole
returns-in_err-digest-clause-whole c = λ digest is written.
    let made = c.from_hex.ensures ∙ (ap (λ t. decode_sized t 32) written ∙ decode_sized-encode_lower digest 32 is.long is.bytes) in
    let found = c.ok.ensures.value ∙ ap result_ok made in
    let none = c.in_err-digest.was in
    absurd (cc)

pub returns-then-is_written-clause-whole : goal.returns-then-is_written-clause-whole
returns-then-is_written-clause-whole c = λ digest is written.
    let made = c.from_hex.ensures ∙ (ap (λ t. decode_sized t 32) written ∙ decode_sized-encode_lower digest 32 is.long is.bytes) in
    sym c.in_ok-digest.was ∙ (c.ok.ensures.value ∙ ap result_ok made)

pub returns-else-is_written-clause-whole : goal.returns-else-is_written-clause-whole
returns-else-is_written-clause-whole c = λ digest is written.
    let made = c.from_hex.ensures ∙ (ap (λ t. decode_sized t 32) written ∙ decode_sized-encode_lower digest 32 is.long is.bytes) in
    let found = sym c.in_ok-digest.was ∙ (c.ok.ensures.value ∙ ap result_ok made) in
    let same : c.in_ok-digest.digest ≡ digest = cc in
    let digits : text_eq (encode_lower c.in_ok-digest.digest) c.args.digits.now ≡ true = rw same (same_digits digest c.args.digits.now written) in
    absurd (false≢true (sym c.if-is_written.false ∙ (c.is_written.ensures ∙ digits)))
