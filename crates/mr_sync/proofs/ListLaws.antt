-- lists of parts of one size that fill the bytes
use Rattle.std.proofs.Common.{◌≡◌, ◌≢◌, ℕ, ◌*◌, ◌/◌, ◌<◌, ◌^◌, Bool, cond, List, [], ◌∷◌, ◌++◌, length, Option, Some, None, Result, Ok, Err, refl, sym, ap, subst, take, ◌≤◌, ◌∙◌, arith, length-append}
use Rattle.mr_sync.proofs.Names.{AllByRecursion, BadList, IsDigest, IsPushOut, Name, OutOfMemory, PushOut, Reads, ReadsList, RunFits, SyncFault, Vec}
use Rattle.mr_sync.proofs.Names.{append-nil, begin_at, digest_at, flat_map, flat_map-cons, length-take, list_at, push_out_at, push_out_bytes, reads_as}
use Rattle.mr_sync.proofs.Names.{reads_bytes, reads_like, reads_run, reads_then, reads_u64, revision_bytes, some_is, whole_list_of}
use Rattle.std.proofs.Math.Dec.{eqb-suc-zero}
use Rattle.std.proofs.Math.Nat.{mul-div_cancel_left}
use Rattle.mr_madewith.specs.Revision.{Rev}
use Rattle.mr_wire.specs.Reading.{Reader, Finds}
use Rattle.mr_wire.specs.Spelling.{u64}
use Rattle.mr_wire.proofs.PartLaws.{reads_name}

-- nothing is left, or something
more_left : {X : Type 0} (xs ys : List X) (b : ℕ) (rest : List ℕ) → ◌≢◌ {A = Option (List X × List ℕ)} (Some (xs, b ∷ rest)) (Some (ys, []))
more_left {X} xs ys b rest e =
    let p : ◌≡◌ {A = List X × List ℕ} (xs, b ∷ rest) (ys, []) = some_is (xs, b ∷ rest) (ys, []) e in
    let q : b ∷ rest ≡ [] = ap (λ (z : List X × List ℕ). z.1) p in
    cc

-- a part is read alike wherever it stands
abbrev pub same_place : {X : Type 0} → ℕ → X → ℕ
same_place _ _ = 0

module _ {X : Type 0} {fits : X → Type 0} {spell : X → List ℕ} {at : Reader X} (reads : Reads fits spell at) (size : ℕ) (some : 0 < size) (sized : (x : X) → fits x → length (spell x) ≡ size) where
  abbrev Fits : ℕ → X → Type 0
  Fits _ x = fits x

  are_all : (xs : List X) → RunFits Fits same_place 0 xs → AllByRecursion fits xs
  are_all [] h = tt
  are_all (x ∷ xs) h = (h.0, are_all xs h.1)

  all_fit : (xs : List X) → AllByRecursion fits xs → RunFits Fits same_place 0 xs
  all_fit [] h = tt
  all_fit (x ∷ xs) h = (h.0, all_fit xs h.1)

  spelled_length : (xs : List X) → AllByRecursion fits xs → length (flat_map spell xs) ≡ size * length xs
  spelled_length [] h = omega arith
  spelled_length (x ∷ xs) h =
      let one : length (spell x) ≡ size = sized x h.0 in
      let rest : length (flat_map spell xs) ≡ size * length xs = spelled_length xs h.1 in
      ap length (flat_map-cons spell x xs) ∙ length-append (spell x) (flat_map spell xs) ∙ grind (arith, one, rest)

  -- what is spelled is found
  again : (bytes : List ℕ) (xs : List X) → AllByRecursion fits xs → bytes ≡ flat_map spell xs → list_at at (length bytes / size) bytes ≡ Some (xs, [])
  again bytes xs h e =
      let count : length bytes / size ≡ length xs = ap (λ n. n / size) (ap length e ∙ spelled_length xs h) ∙ mul-div_cancel_left (length xs) some in
      let all : list_at at (length xs) (flat_map spell xs ++ []) ≡ Some (xs, []) = (reads_run {fits = Fits} same_place (λ _. reads) 0 (length xs)).again xs [] (refl, all_fit xs h) in
      ap (λ n. list_at at n bytes) count ∙ ap (list_at at (length xs)) (e ∙ sym (append-nil (flat_map spell xs))) ∙ all

  -- what is found with nothing behind it is spelled
  takes : (n : ℕ) (bytes : List ℕ) (xs : List X) → list_at at n bytes ≡ Some (xs, []) → (bytes ≡ flat_map spell xs) × AllByRecursion fits xs
  takes n bytes xs e =
      let t = (reads_run {fits = Fits} same_place (λ _. reads) 0 n).takes bytes xs [] e in
      (t.0 ∙ append-nil (flat_map spell xs), are_all xs t.1.1)

  nothing_else : (bytes : List ℕ) (o : Option (List X × List ℕ)) → list_at at (length bytes / size) bytes ≡ o → ((xs : List X) → o ≢ Some (xs, [])) → (list : List X) → AllByRecursion fits list → bytes ≢ flat_map spell list
  nothing_else bytes o e not list h is = not list (sym e ∙ again bytes list h is)

  found_list : (bytes : List ℕ) (found : Option (Option (Vec X))) (rest : List ℕ) → Finds (λ v. v.items) (list_at at (length bytes / size)) bytes found rest → ReadsList fits spell bytes (whole_list_of found (length rest))
  found_list bytes None rest h = nothing_else bytes None h (λ xs is. cc)
  found_list bytes (Some None) [] h =
      let t = takes (length bytes / size) bytes h.part h.stands in
      (h.part, t.0, t.1)
  found_list bytes (Some None) (b ∷ rest) h =
      subst (λ (t : Bool). ReadsList fits spell bytes (cond t (Err OutOfMemory) (Err BadList))) (sym (eqb-suc-zero (length rest)))
      (nothing_else bytes (Some (h.part, b ∷ rest)) h.stands (λ xs. more_left h.part xs b rest))
  found_list bytes (Some (Some v)) [] h =
      let t = takes (length bytes / size) bytes h.part h.stands in
      subst (λ (xs : List X). (bytes ≡ flat_map spell xs) × AllByRecursion fits xs) (sym h.is_part) t
  found_list bytes (Some (Some v)) (b ∷ rest) h =
      subst (λ (t : Bool). ReadsList fits spell bytes (cond t (Ok v) (Err BadList))) (sym (eqb-suc-zero (length rest)))
      (nothing_else bytes (Some (h.part, b ∷ rest)) h.stands (λ xs. more_left h.part xs b rest))

  pub reads_list : (bytes start : List ℕ) (left : ℕ) (found : Option (Option (Vec X))) (rest : List ℕ) (result : Result (Vec X) SyncFault) → start ≡ bytes → Finds (λ v. v.items) (list_at at (length bytes / size)) start found rest → left ≡ length rest → result ≡ whole_list_of found left → ReadsList fits spell bytes result
  reads_list bytes start left found rest result is h none e =
      subst (ReadsList fits spell bytes) (sym (e ∙ ap (whole_list_of found) none))
      (found_list bytes found rest (subst (λ (from : List ℕ). Finds (λ v. v.items) (list_at at (length bytes / size)) from found rest) is h))

-- ---- the two lists

pub reads_push_out : Reads IsPushOut push_out_bytes push_out_at
reads_push_out =
    reads_like IsPushOut push_out_bytes
    (reads_as (λ (p : Name × Name). record { item = p.0; version = p.1 }) (λ (p : PushOut). (p.item, p.version)) (λ p. refl) (λ p. refl) (reads_then reads_name (λ _. reads_name)))
    (λ p h. h) (λ p h. h) (λ p. refl)

pub reads_digest : Reads IsDigest (λ (d : List ℕ). d) digest_at
reads_digest = reads_like IsDigest (λ (d : List ℕ). d) (reads_bytes 32) (λ d h. h.0) (λ d h. (h, tt)) (λ d. refl)

pub push_out_size : (p : PushOut) → IsPushOut p → length (push_out_bytes p) ≡ 12
push_out_size p h = refl

-- ---- what a file begins with

reads_begin : Reads (λ (p : List ℕ × ℕ). IsDigest p.0 × (p.1 < 2 ^ 64)) (λ p. p.0 ++ u64 p.1) begin_at
reads_begin = reads_then reads_digest (λ _. reads_u64)

pub begin_spelled : (bytes rest : List ℕ) (x : List ℕ × ℕ) → begin_at bytes ≡ Some (x, rest) → length rest ≡ 0 → bytes ≡ x.0 ++ u64 x.1
begin_spelled bytes [] x e none = (reads_begin.takes bytes x [] e).0 ∙ append-nil (x.0 ++ u64 x.1)
begin_spelled bytes (b ∷ rest) x e none = absurd (omega arith)

pub begin_whole : (bytes digest : List ℕ) (size : ℕ) → IsDigest digest → size < 2 ^ 64 → bytes ≡ digest ++ u64 size → begin_at bytes ≡ Some ((digest, size), [])
begin_whole bytes digest size d s e = ap begin_at (e ∙ sym (append-nil (digest ++ u64 size))) ∙ reads_begin.again (digest, size) [] (d, s)

-- the bytes are such, and nothing was found
pub begin_missed : (bytes start digest : List ℕ) (size : ℕ) → start ≡ bytes → begin_at start ≡ None → IsDigest digest → size < 2 ^ 64 → bytes ≡ digest ++ u64 size → ⊥
begin_missed bytes start digest size is none d s e =
    let q : ◌≡◌ {A = Option ((List ℕ × ℕ) × List ℕ)} None (Some ((digest, size), [])) = sym none ∙ ap begin_at is ∙ begin_whole bytes digest size d s e in
    cc

-- the bytes are such, so what was found is it
pub begin_found : (bytes start rest digest : List ℕ) (size : ℕ) (x : List ℕ × ℕ) → start ≡ bytes → begin_at start ≡ Some (x, rest) → IsDigest digest → size < 2 ^ 64 → bytes ≡ digest ++ u64 size → ◌≡◌ {A = (List ℕ × ℕ) × List ℕ} (x, rest) ((digest, size), [])
begin_found bytes start rest digest size x is found d s e = some_is (x, rest) ((digest, size), []) (sym found ∙ ap begin_at is ∙ begin_whole bytes digest size d s e)

-- ---- revisions

revisions_length : (rs : List Rev) → length (flat_map revision_bytes rs) ≡ 12 * length rs
revisions_length [] = omega arith
revisions_length (r ∷ rs) =
    let rest : length (flat_map revision_bytes rs) ≡ 12 * length rs = revisions_length rs in
    ap length (flat_map-cons revision_bytes r rs) ∙ length-append (revision_bytes r) (flat_map revision_bytes rs) ∙ omega (arith, rest)

-- so many revisions take no more bytes than a list may have
pub revisions_short : (bytes : List ℕ) (n : ℕ) (rs : List Rev) → bytes ≡ flat_map revision_bytes (take n rs) → n ≤ 174762 → length bytes ≤ 2097152
revisions_short bytes n rs e few =
    let all : length bytes ≡ 12 * length (take n rs) = ap length e ∙ revisions_length (take n rs) in
    omega (arith, all, length-take n rs)
