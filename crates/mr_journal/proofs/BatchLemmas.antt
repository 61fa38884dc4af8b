-- one more batch behind those of a journal
use Rattle.std.proofs.Common.{◌≡◌, ◌⊎◌, inl, inr, ⊎_elim, ℕ, zero, suc, ◌+◌, ◌*◌, List, [], ◌∷◌, ◌++◌, length, refl, sym, ◌∙◌, ap, arith, length-append, append_assoc}
use Rattle.mr_journal.proofs.Names.{AllByRecursion, AreBatches, Fits, IsBatch, IsStaged, LeavesOnly, Stands, append-nil, batch, body, flat_map}
use Rattle.sha2.specs.Sha256.{digest_bytes}
use Rattle.mr_journal.proofs.Names.{flat_map-append, head, sealed, slice_index, to_be_bytes, u64, w32}
use Rattle.sha2.specs.Sha256.{sha256}
use Rattle.mr_journal.specs.Journal.{Keeps}
use Rattle.mr_journal.specs.declared.journal.Journal.{Journal}
use Rattle.mr_journal.proofs.Moments.{widened}

length-digest_bytes : (h : List ℕ) (n : ℕ) → length (digest_bytes h n) ≡ 4 * n
unfolding digest_bytes
length-digest_bytes h zero = refl
length-digest_bytes h (suc n) = omega (arith, length-digest_bytes h n, length-append (digest_bytes h n) (to_be_bytes w32 (slice_index h n)))

-- a digest has 32 bytes
pub length-sha256 : (m : List ℕ) → length (sha256 m) ≡ 32
unfolding sha256
length-sha256 m = length-digest_bytes _ 8

pub length-sealed : (entries : List (List ℕ)) → length (sealed entries) ≡ 40 + length (body entries)
length-sealed entries =
    let size = length (body entries) in
    omega (arith, length-append (u64 size) (sha256 (body entries) ++ body entries), length-append (sha256 (body entries)) (body entries), length-sha256 (body entries))

pub all_push : {A : Type 0} (P : A → Type 0) (xs : List A) (x : A) → AllByRecursion P xs → P x → AllByRecursion P (xs ++ x ∷ [])
all_push P [] x each is = (is, tt)
all_push P (y ∷ xs) x each is = (each.0, all_push P xs x each.1 is)

pub grown : (entries more : List (List ℕ)) (front : List ℕ) → AreBatches entries front → IsBatch more → AreBatches (entries ++ more) (front ++ batch more)
grown entries more front are is = record {
  batches = are.batches ++ more ∷ [];
  each = all_push IsBatch are.batches more are.each is;
  front_is = ap (λ (l : List ℕ). l ++ batch more) are.front_is
      ∙ append_assoc (head 1) (flat_map batch are.batches) (batch more)
      ∙ ap (λ (l : List ℕ). head 1 ++ (flat_map batch are.batches ++ l)) (sym (append-nil (batch more)))
      ∙ ap (λ (l : List ℕ). head 1 ++ l) (sym (flat_map-append batch are.batches (more ∷ [])));
  entries_are = ap (λ (l : List (List ℕ)). l ++ more) are.entries_are
      ∙ ap (λ (l : List (List ℕ)). flat_map (λ b. b) are.batches ++ l) (sym (append-nil more))
      ∙ sym (flat_map-append (λ b. b) are.batches (more ∷ []));
}

-- a batch that fits, and what stands where its gate is open
pub fitting : {place : ℕ} {more : List (List ℕ)} → Fits place more → IsBatch more
fitting fits = record { entries_are = fits.entries_are; whole = omega (arith, fits.room) }

pub behind_gate : (front bytes : List ℕ) (more : List (List ℕ)) → bytes ≡ sealed more ++ (0 ∷ []) → front ++ (1 ∷ bytes) ≡ (front ++ batch more) ++ (0 ∷ [])
behind_gate front bytes more is = ap (λ (l : List ℕ). front ++ (1 ∷ l)) is ∙ sym (append_assoc front (batch more) (0 ∷ []))

-- a crash over a commit leaves the entries, or those and the batch
pub commit_leaves : {D : Type 0} {seen : D → List ℕ} {may_leave : D → List ℕ → Type 0} {moment : D → ℕ} {left_since : D → ℕ → List ℕ → Type 0} {old new : D} {place : ℕ} {entries more : List (List ℕ)} {journal : Journal D}
    (keeps : Keeps seen may_leave entries journal) (bytes : List ℕ) → Fits place more → bytes ≡ sealed more ++ (0 ∷ []) → LeavesOnly moment left_since old new (λ c. IsStaged keeps.front (length bytes) c ⊎ (c ≡ keeps.front ++ (1 ∷ bytes)))
    → LeavesOnly moment left_since old new (λ c. Stands entries c ⊎ Stands (entries ++ more) c)
commit_leaves {entries = entries} {more} keeps bytes fits is leaves =
    widened {P = λ c. IsStaged keeps.front (length bytes) c ⊎ (c ≡ keeps.front ++ (1 ∷ bytes))} (λ c. Stands entries c ⊎ Stands (entries ++ more) c) leaves (λ c left. ⊎_elim
    (λ (staged : IsStaged keeps.front (length bytes) c). inl (inl (record { front = keeps.front; left = staged.tail; batches = keeps.batches; file_is = staged.file_is })))
    (λ (whole : c ≡ keeps.front ++ (1 ∷ bytes)). inr (inl (record { front = keeps.front ++ batch more; left = []; batches = grown entries more keeps.front keeps.batches (fitting fits); file_is = whole ∙ behind_gate keeps.front bytes more is })))
    left)
