use Rattle.std.proofs.Common.{◌≡◌, ◌<◌, ◌++◌, ℕ, string_bytes, codes, take, rules, arith}
use Rattle.mr_maildir.proofs.Names.{encode_lower, slice_index}
use Rattle.mr_maildir.proofs.FolderLemmas.{digits_are_label}
use Rattle.mr_maildir.proofs.folder.digest_text.Goals as goal

pub returns-clause-is_label : goal.returns-clause-is_label
returns-clause-is_label c =
    let fits : (i : ℕ) → slice_index c.args.digest.now i < 256 = λ i. (let f = c.fits-digest i in omega arith) in
    let value : string_bytes c.push_str.new.self ≡ codes "f-" ++ encode_lower (take 15 c.args.digest.now) = search rules in
    rw value (digits_are_label c.args.digest.now fits c.told-digest)
