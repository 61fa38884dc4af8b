use Rattle.std.proofs.Common.{◌≡◌, ◌<◌, ℕ, sym, subst, string_bytes, rules, arith}
use Rattle.mr_folder.proofs.Names.{IsInside, slice_index, stored_path}
use Rattle.mr_folder.proofs.InsideLemmas.{stored_inside}
use Rattle.mr_folder.proofs.path.FilePath.stored.Goals as goal

pub invariant_of-result : goal.invariant_of-result
invariant_of-result c =
    let fits : (i : ℕ) → slice_index c.args.digest.now i < 256 = λ i. (let f = c.fits-digest i in omega arith) in
    let value : string_bytes c.push_str.new.self ≡ stored_path c.args.digest.now = search rules in
    subst IsInside (sym value) (stored_inside c.args.digest.now fits c.told-digest)
