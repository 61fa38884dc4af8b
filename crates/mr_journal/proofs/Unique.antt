-- bytes stand for one list of entries, and are then not refused
use Rattle.std.proofs.Common.{◌≡◌, ◌≢◌, ◌⊎◌, inl, inr, ℕ, ◌<◌, ◌^◌, List, [], ◌∷◌, ◌++◌, length, get_or, take, drop, refl, sym, ◌∙◌, ap, arith, length-append, append_assoc}
use Rattle.mr_journal.proofs.Names.{AllByRecursion, AreBatches, AreEntries, Damaged, Failed, IsBatch, IsNew, IsReason, JournalFault, NotAJournal, OtherFormat}
use Rattle.mr_journal.proofs.Names.{OutOfMemory, Stands, TooLarge, append_cancel_left, batch, body, drop_at, entry_bytes, flat_map, framed, from_be_bytes}
use Rattle.mr_journal.proofs.Names.{from_be_bytes-to_be_bytes_2, head, sha256, take_at, u16, u32, w16}
use Rattle.mr_journal.proofs.ReadLemmas.{drop-framed, entry_front, framed_batch, same_front, take-framed}

-- bodies that are spelled alike are of the same entries
body_unique : (m n : List (List ℕ)) → AreEntries m → AreEntries n → body m ≡ body n → m ≡ n
body_unique [] [] m_are n_are same = refl
body_unique [] (f ∷ n) m_are n_are same = absurd (omega (arith, ap length same, length-append (entry_bytes f) (body n), length-append (u32 (length f)) f))
body_unique (e ∷ m) [] m_are n_are same = absurd (omega (arith, ap length same, length-append (entry_bytes e) (body m), length-append (u32 (length e)) e))
body_unique (e ∷ m) (f ∷ n) m_are n_are same =
    let first : take 4 (entry_bytes e ++ body m) ≡ u32 (length e) = ap (λ (l : List ℕ). take 4 l) (append_assoc (u32 (length e)) e (body m)) ∙ take_at (u32 (length e)) (e ++ body m) 4 refl in
    let count : length e ≡ length f = entry_front (entry_bytes e ++ body m) f (body n) (length e) m_are.0 n_are.0 first same in
    let behind : e ++ body m ≡ f ++ body n = sym (drop_at (u32 (length e)) (e ++ body m) 4 refl) ∙ ap (λ (l : List ℕ). drop 4 l) (sym (append_assoc (u32 (length e)) e (body m)) ∙ same ∙ append_assoc (u32 (length f)) f (body n)) ∙ drop_at (u32 (length f)) (f ++ body n) 4 refl in
    let one : e ≡ f = sym (take_at e (body m) (length e) refl) ∙ ap (λ (l : List ℕ). take (length e) l) behind ∙ take_at f (body n) (length e) (sym count) in
    let rest : body m ≡ body n = sym (drop_at e (body m) (length e) refl) ∙ ap (λ (l : List ℕ). drop (length e) l) behind ∙ drop_at f (body n) (length e) (sym count) in
    let others = body_unique m n m_are.1 n_are.1 rest in
    λ i. one i ∷ others i

-- bytes begin with one batch
batch_unique : (m n : List (List ℕ)) (p q : List ℕ) → IsBatch m → IsBatch n → batch m ++ p ≡ batch n ++ q → (m ≡ n) × (p ≡ q)
batch_unique m n p q m_is n_is same =
    let framed_same : framed (body m) p ≡ framed (body n) q = sym (framed_batch m p) ∙ same ∙ framed_batch n q in
    let front = same_front (length (body m)) (sha256 (body m)) (body n) q (framed (body m) p) m_is.whole n_is.whole (take-framed (body m) p) framed_same in
    let behind : body m ++ p ≡ body n ++ q = sym (drop-framed (body m) p) ∙ ap (λ (l : List ℕ). drop 41 l) framed_same ∙ drop-framed (body n) q in
    let bodies : body m ≡ body n = sym (take_at (body m) p (length (body m)) refl) ∙ ap (λ (l : List ℕ). take (length (body m)) l) behind ∙ take_at (body n) q (length (body m)) (sym front.0) in
    (body_unique m n m_is.entries_are n_is.entries_are bodies, sym (drop_at (body m) p (length (body m)) refl) ∙ ap (λ (l : List ℕ). drop (length (body m)) l) behind ∙ drop_at (body n) q (length (body m)) (sym front.0))

gate_no_batch : (left rest : List ℕ) (n : List (List ℕ)) → 0 ∷ left ≢ batch n ++ rest
gate_no_batch left rest n same = omega (arith, ap (λ (l : List ℕ). get_or l 0 0) same)

-- batches up to a closed gate are those up to what begins no batch, and that is the gate
batches_unique : (ms ns : List (List (List ℕ))) (p rest : List ℕ) → AllByRecursion IsBatch ms → AllByRecursion IsBatch ns → ((more : List (List ℕ)) (left : List ℕ) → IsBatch more → rest ≢ batch more ++ left)
    → flat_map batch ms ++ (0 ∷ p) ≡ flat_map batch ns ++ rest → (ms ≡ ns) × (0 ∷ p ≡ rest)
batches_unique [] [] p rest m_are n_are none same = (refl, same)
batches_unique [] (n ∷ ns) p rest m_are n_are none same = absurd (gate_no_batch p (flat_map batch ns ++ rest) n (same ∙ append_assoc (batch n) (flat_map batch ns) rest))
batches_unique (m ∷ ms) [] p rest m_are n_are none same = absurd (none m (flat_map batch ms ++ (0 ∷ p)) m_are.0 (sym same ∙ append_assoc (batch m) (flat_map batch ms) (0 ∷ p)))
batches_unique (m ∷ ms) (n ∷ ns) p rest m_are n_are none same =
    let one = batch_unique m n (flat_map batch ms ++ (0 ∷ p)) (flat_map batch ns ++ rest) m_are.0 n_are.0 (sym (append_assoc (batch m) (flat_map batch ms) (0 ∷ p)) ∙ same ∙ append_assoc (batch n) (flat_map batch ns) rest) in
    let others = batches_unique ms ns p rest m_are.1 n_are.1 none one.1 in
    (λ i. one.0 i ∷ others.0 i, others.1)

-- what stands behind the head of a journal
behind_head : {entries : List (List ℕ)} {front : List ℕ} (are : AreBatches entries front) (rest file : List ℕ) → file ≡ front ++ rest → file ≡ head 1 ++ (flat_map batch are.batches ++ rest)
behind_head are rest file file_is = file_is ∙ ap (λ (l : List ℕ). l ++ rest) are.front_is ∙ append_assoc (head 1) (flat_map batch are.batches) rest

-- a head is no new file
head_not_new : (format : ℕ) (rest file : List ℕ) → file ≡ head format ++ rest → IsNew file → ⊥
head_not_new format rest file is (inl short) = omega (arith, short, ap length is, length-append (head format) rest)
head_not_new format rest file is (inr staged) = omega (arith, ap (λ (l : List ℕ). get_or l 0 0) (sym is ∙ staged.1))

pub one_list : (file : List ℕ) (a b : List (List ℕ)) → Stands a file → Stands b file → a ≡ b
one_list file a b (inl x) (inl y) =
    let both = append_cancel_left (head 1) _ _ (sym (behind_head x.batches (0 ∷ x.left) file x.file_is) ∙ behind_head y.batches (0 ∷ y.left) file y.file_is) in
    let same = batches_unique x.batches.batches y.batches.batches x.left (0 ∷ y.left) x.batches.each y.batches.each (λ more left _. gate_no_batch y.left left more) both in
    x.batches.entries_are ∙ ap (λ (bs : List (List (List ℕ))). flat_map (λ b. b) bs) same.0 ∙ sym y.batches.entries_are
one_list file a b (inl x) (inr y) = absurd (head_not_new 1 _ file (behind_head x.batches (0 ∷ x.left) file x.file_is) y.1)
one_list file a b (inr x) (inl y) = absurd (head_not_new 1 _ file (behind_head y.batches (0 ∷ y.left) file y.file_is) x.1)
one_list file a b (inr x) (inr y) = x.0 ∙ sym y.0

-- heads that are spelled alike are of one format
same_format : (m n : ℕ) (p q : List ℕ) → m < 2 ^ 16 → n < 2 ^ 16 → head m ++ p ≡ head n ++ q → m ≡ n
same_format m n p q m_lt n_lt same =
    let fronts : head m ≡ head n = sym (take_at (head m) p 10 refl) ∙ ap (λ (l : List ℕ). take 10 l) same ∙ take_at (head n) q 10 refl in
    let numbers : u16 m ≡ u16 n = ap (λ (l : List ℕ). drop 8 l) fronts in
    sym (from_be_bytes-to_be_bytes_2 m m_lt) ∙ ap (from_be_bytes w16) numbers ∙ from_be_bytes-to_be_bytes_2 n n_lt

pub not_refused : (file : List ℕ) (entries : List (List ℕ)) (fault : JournalFault) → Stands entries file → IsReason fault file → (fault ≡ OutOfMemory) ⊎ (fault ≡ Failed)
not_refused file entries OutOfMemory stands reason = inl refl
not_refused file entries Failed stands reason = inr refl
not_refused file entries NotAJournal (inl x) reason = absurd (reason.1 1 _ (omega arith) (behind_head x.batches (0 ∷ x.left) file x.file_is))
not_refused file entries NotAJournal (inr x) reason = absurd (reason.0 x.1)
not_refused file entries (OtherFormat format) (inl x) reason = absurd (reason.3 (same_format format 1 reason.0 _ reason.2 (omega arith) (sym reason.1 ∙ behind_head x.batches (0 ∷ x.left) file x.file_is)))
not_refused file entries (OtherFormat format) (inr x) reason = absurd (head_not_new format reason.0 file reason.1 x.1)
not_refused file entries (Damaged place) (inl x) reason =
    let both = append_cancel_left (head 1) _ _ (sym (behind_head x.batches (0 ∷ x.left) file x.file_is) ∙ behind_head reason.batches reason.rest file reason.file_is) in
    let same = batches_unique x.batches.batches reason.batches.batches x.left reason.rest x.batches.each reason.batches.each reason.no_batch both in
    absurd (reason.no_gate x.left (sym same.1))
not_refused file entries (Damaged place) (inr x) reason = absurd (head_not_new 1 _ file (behind_head reason.batches reason.rest file reason.file_is) x.1)
not_refused file entries TooLarge stands reason = absurd reason
