use Rattle.std.proofs.Common.{◌≡◌, ◌<◌, ℕ, false, sym, ◌∙◌, arith}
use Rattle.mr_maildir.proofs.Names.{is_safe_name, slice_index}
use Rattle.mr_maildir.proofs.PathLemmas.{digits_are_part, digits_lack_colon}
use Rattle.mr_maildir.proofs.name.unique_for.Goals as goal

pub returns-else-is_safe_name-clause-path : goal.returns-else-is_safe_name-clause-path
returns-else-is_safe_name-clause-path c =
    let unsafe : is_safe_name c.args.told.now ≡ false = sym c.is_safe_name.ensures.value ∙ c.if-is_safe_name.false in
    let fits : (i : ℕ) → slice_index c.args.digest.now i < 256 = λ i. (let f = c.fits-digest i in omega arith) in
    rw unsafe (digits_are_part c.args.digest.now fits c.told-digest)

pub returns-else-is_safe_name-clause-colon : goal.returns-else-is_safe_name-clause-colon
returns-else-is_safe_name-clause-colon c =
    let unsafe : is_safe_name c.args.told.now ≡ false = sym c.is_safe_name.ensures.value ∙ c.if-is_safe_name.false in
    let fits : (i : ℕ) → slice_index c.args.digest.now i < 256 = λ i. (let f = c.fits-digest i in omega arith) in
    rw unsafe (digits_lack_colon c.args.digest.now fits)
