-- the mails that were edited in place and the others, with one file more
use Rattle.std.proofs.Common.{◌≡◌, ℕ, ◌+◌, ◌-◌, ◌<◌, Bool, true, false, cond, List, [], ◌∷◌, ◌++◌, map, filter, take, length, get_or, Option, Some, option_map, refl, ap, sym, ◌∙◌, arith}
use Rattle.std.specs.Prelude.{not, slice_get}
use Rattle.std.proofs.lemmas.List.{append-nil, map-append, length-append, get_or_push}
use Rattle.std.proofs.lemmas.List.Elements.{filter-append, filter_more}
use Rattle.std.proofs.lemmas.Option.{slice_get-get_or}
use Rattle.mr_scan.specs.inner.Spoiled.{mail_of, digest_of, is_spoiled, spoiled_of, whole_of, has_inode, last_of, last_at, with_file}
use Rattle.mr_scan.specs.declared.inodes.Stored.{Stored}
use Rattle.mr_scan.specs.declared.inodes.StoreFile.{StoreFile}

-- ---- those that were edited

digests_if : (b : Bool) (file : StoreFile) → map digest_of (cond b (file ∷ []) []) ≡ cond b (file.mail.digest ∷ []) []
digests_if true file = refl
digests_if false file = refl

-- with one file more
pub spoiled_more : (sizes : List (List ℕ × ℕ)) (files : List StoreFile) (i : ℕ) (d : StoreFile) (is : Bool) (old new : List (List ℕ)) → i < length files
    → is ≡ is_spoiled sizes (get_or files i d) → old ≡ spoiled_of sizes (take i files) → new ≡ old ++ cond is ((get_or files i d).mail.digest ∷ []) [] → new ≡ spoiled_of sizes (take (i + 1) files)
spoiled_more sizes files i d is old new h e known pushed =
    let file = get_or files i d in
    pushed ∙ ap (λ digests. digests ++ cond is (file.mail.digest ∷ []) []) known
    ∙ ap (λ b. spoiled_of sizes (take i files) ++ cond b (file.mail.digest ∷ []) []) e
    ∙ sym (ap (map digest_of) (filter_more (is_spoiled sizes) files i d h)
    ∙ map-append digest_of (filter (is_spoiled sizes) (take i files)) (cond (is_spoiled sizes file) (file ∷ []) [])
    ∙ ap (λ digests. spoiled_of sizes (take i files) ++ digests) (digests_if (is_spoiled sizes file) file))

-- ---- those that weren't

last_pushed : (files : List StoreFile) (file : StoreFile) → last_of (files ++ file ∷ []) ≡ Some file
last_pushed files file =
    let long = length-append files (file ∷ []) in
    let at : length (files ++ file ∷ []) - 1 ≡ length files = omega (arith, long) in
    let within : length files < length (files ++ file ∷ []) = omega (arith, long) in
    ap (slice_get (files ++ file ∷ [])) at ∙ slice_get-get_or (files ++ file ∷ []) (length files) file within ∙ ap (λ f. Some f) (get_or_push files file file (length files) refl)

last_if : (b : Bool) (files : List StoreFile) (file : StoreFile) → option_map mail_of (last_of (files ++ cond b (file ∷ []) [])) ≡ cond b (Some file.mail) (option_map mail_of (last_of files))
last_if true files file = ap (option_map mail_of) (last_pushed files file)
last_if false files file = ap (λ fs. option_map mail_of (last_of fs)) (append-nil files)

last_more : (inode : ℕ) (files : List StoreFile) (file : StoreFile) → last_at inode (files ++ file ∷ []) ≡ cond (has_inode inode file) (Some file.mail) (last_at inode files)
last_more inode files file =
    ap (λ fs. option_map mail_of (last_of fs)) (filter-append (has_inode inode) files (file ∷ [])) ∙ last_if (has_inode inode file) (filter (has_inode inode) files) file

noted_if : (spoiled : Bool) (inode : ℕ) (files : List StoreFile) (file : StoreFile) → with_file spoiled file inode (last_at inode files) ≡ last_at inode (files ++ cond (not spoiled) (file ∷ []) [])
noted_if true inode files file = ap (last_at inode) (sym (append-nil files))
noted_if false inode files file = sym (last_more inode files file)

-- with one file more
pub whole_more : (sizes : List (List ℕ × ℕ)) (files : List StoreFile) (i : ℕ) (d : StoreFile) (inode : ℕ) (is : Bool) (old new : Option Stored) → i < length files
    → is ≡ is_spoiled sizes (get_or files i d) → old ≡ last_at inode (whole_of sizes (take i files)) → new ≡ with_file is (get_or files i d) inode old → new ≡ last_at inode (whole_of sizes (take (i + 1) files))
whole_more sizes files i d inode is old new h e known noted =
    let file = get_or files i d in
    noted ∙ ap (with_file is file inode) known ∙ ap (λ b. with_file b file inode (last_at inode (whole_of sizes (take i files)))) e
    ∙ noted_if (is_spoiled sizes file) inode (whole_of sizes (take i files)) file
    ∙ sym (ap (last_at inode) (filter_more (λ f. not (is_spoiled sizes f)) files i d h))
