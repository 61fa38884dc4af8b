use Rattle.std.proofs.Common.{◌<◌, ℕ, arith}
use Rattle.std.specs.Prelude.{slice_index}
use Rattle.mr_maildir.proofs.PathLemmas.{digits_are_part, digits_lack_colon}
use Rattle.mr_maildir.proofs.plan.digits_of.Goals as goal

pub returns-clause-named : goal.returns-clause-named
returns-clause-named c =
    let fits : (i : ℕ) → slice_index c.args.digest.now i < 256 = λ i. (let f = c.fits-digest i in omega arith) in
    record { part = digits_are_part c.args.digest.now fits c.told-digest; colon = digits_lack_colon c.args.digest.now fits }
