-- trees whose files have the digests that they are stored by
use Rattle.std.proofs.Common.{◌≡◌, ◌≢◌, ◌⊎◌, inl, inr, ⊎_elim, ℕ, true, false, List, drop, Option, None, Some, IfSome, refl, sym, ap, ◌∙◌, subst, arith}
use Rattle.mr_folder.proofs.Names.{HasMail, IsBytes, IsStore, MayLink, MayMove, OnlyAt, Tree, bytes_decides, decode_of, decode_of-encode_lower}
use Rattle.mr_folder.proofs.Names.{decode_of-same, draft_path, encode_lower, is_some, nat_eq, pointwise, sha256, slice_index, stored_path}

-- the draft is at no place of the store
pub draft_apart : (digest : List ℕ) → draft_path ≢ stored_path digest
draft_apart digest same =
    let letter : slice_index draft_path 10 ≡ slice_index (stored_path digest) 10 = ap (λ l. slice_index l 10) same in
    let wrong : ◌≡◌ {A = ℕ} 116 102 = letter in
    absurd (omega arith)

-- each digest has a place of its own
pub own_place : (a b : List ℕ) → IsBytes a → IsBytes b → stored_path a ≡ stored_path b → a ≡ b
own_place a b fa fb same =
    let digits : encode_lower a ≡ encode_lower b = ap (λ l. drop 16 l) same in
    decode_of-same (encode_lower b) a b (ap decode_of (sym digits) ∙ decode_of-encode_lower a fa) (decode_of-encode_lower b fb)

-- a store stays one where only the draft changes
pub IsStore-draft : (old new : Tree) → OnlyAt draft_path old new → IsStore old → IsStore new
IsStore-draft old new only store = λ digest fits.
    let P : Option (List ℕ) → Type 0 = λ o. IfSome o (λ bytes. sha256 bytes ≡ digest) in
    subst P (sym (only (stored_path digest) (λ e. draft_apart digest (sym e)))) (store digest fits)

-- and where, beside it, only a file changes that has its digest
pub IsStore-at : (digest : List ℕ) (old new : Tree) → IsBytes digest → ((path : List ℕ) → path ≢ stored_path digest → path ≢ draft_path → new path ≡ old path) → IfSome (new (stored_path digest)) (λ bytes. sha256 bytes ≡ digest) → IsStore old → IsStore new
IsStore-at digest old new fits only here store = λ other others.
    let P : Option (List ℕ) → Type 0 = λ o. IfSome o (λ bytes. sha256 bytes ≡ other) in
    elim (pointwise nat_eq other digest) as (λ t. pointwise nat_eq other digest ≡ t → P (new (stored_path other))) [
      | true ↦ λ is.
          let same : other ≡ digest = (bytes_decides other digest).0 is in
          rw same here
      | false ↦ λ isnt.
          let differs : stored_path other ≢ stored_path digest = λ e. differ other digest isnt (own_place other digest others fits e) in
          subst P (sym (only (stored_path other) differs (λ e. draft_apart other (sym e)))) (store other others)
    ] refl
  where
    differ : (a b : List ℕ) → pointwise nat_eq a b ≡ false → a ≢ b
    differ a b isnt same = let is = (bytes_decides a b).1 same in cc

-- a file of the digest, or none
pub of_none_or : (digest bytes : List ℕ) (o : Option (List ℕ)) → sha256 bytes ≡ digest → (o ≡ None) ⊎ (o ≡ Some bytes) → IfSome o (λ b. sha256 b ≡ digest)
of_none_or digest bytes o is cases =
    let P : Option (List ℕ) → Type 0 = λ p. IfSome p (λ b. sha256 b ≡ digest) in
    ⊎_elim (λ none. subst P (sym none) tt) (λ some. subst P (sym some) is) cases

-- what is as it was, or as another one that has the digest, has it
pub of_either : (digest : List ℕ) (old other new : Option (List ℕ)) → IfSome old (λ b. sha256 b ≡ digest) → IfSome other (λ b. sha256 b ≡ digest) → (new ≡ old) ⊎ (new ≡ other) → IfSome new (λ b. sha256 b ≡ digest)
of_either digest old other new was will cases =
    let P : Option (List ℕ) → Type 0 = λ p. IfSome p (λ b. sha256 b ≡ digest) in
    ⊎_elim (λ same. subst P (sym same) was) (λ moved. subst P (sym moved) will) cases

-- the draft moves into the store
pub IsStore-moved : (digest bytes : List ℕ) (old new : Tree) → IsBytes digest → sha256 bytes ≡ digest → (old draft_path ≡ None) ⊎ (old draft_path ≡ Some bytes) → MayMove draft_path (stored_path digest) old new → IsStore old → IsStore new
IsStore-moved digest bytes old new fits is draft move store =
    IsStore-at digest old new fits (λ path other apart. move.only path apart other)
    (of_either digest (old (stored_path digest)) (old draft_path) (new (stored_path digest)) (store digest fits) (of_none_or digest bytes (old draft_path) is draft) move.target)
    store

-- a file gets a second path in the store
pub IsStore-linked : (digest bytes path : List ℕ) (old new : Tree) → IsBytes digest → sha256 bytes ≡ digest → (old path ≡ None) ⊎ (old path ≡ Some bytes) → MayLink path (stored_path digest) old new → IsStore old → IsStore new
IsStore-linked digest bytes path old new fits is source linked store =
    IsStore-at digest old new fits (λ other apart _. linked.only other apart)
    (of_either digest (old (stored_path digest)) (old path) (new (stored_path digest)) (store digest fits) (of_none_or digest bytes (old path) is source) (⊎_elim (λ same. inl same) (λ free. inr free.1) linked.target))
    store

-- where a store has a file at the place of a digest, it has the mail
pub HasMail-there : (digest : List ℕ) (tree : Tree) → IsBytes digest → is_some (tree (stored_path digest)) ≡ true → IsStore tree → HasMail digest tree
HasMail-there digest tree fits there store = go (tree (stored_path digest)) refl there (store digest fits)
  where
    go : (o : Option (List ℕ)) → tree (stored_path digest) ≡ o → is_some o ≡ true → IfSome o (λ b. sha256 b ≡ digest) → HasMail digest tree
    go None same some is = absurd (none some)
      where
        none : false ≡ true → ⊥
        none e = cc
    go (Some bytes) same some is = record { bytes = bytes; stored = same; digest_is = is }
