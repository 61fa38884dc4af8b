-- what the bytes at a place say
use Rattle.std.proofs.Common.{◌≡◌, ◌≢◌, ⊎_elim, ℕ, zero, suc, ◌+◌, ◌<◌, ◌≤◌, ◌^◌, min, Bool, true, false, not, Option, Result, Err, Vec, List, [], ◌∷◌, ◌++◌, length, get_or, take, drop, refl, sym, ◌∙◌, ap, subst, arith, length-append, length-take, length-drop, take-append-drop, append_assoc}
use Rattle.mr_journal.proofs.Names.{AreBatches, AreEntries, Damaged, Failed, Global, IsBatch, IsDamagedAt, IsFound, IsNothing, IsReason, JournalFault}
use Rattle.mr_journal.proofs.Names.{OutOfMemory, append-nil, batch, be_bytes_4, be_bytes_8, body, cases_lt, drop-drop, drop_at, drop_more, entry_bytes}
use Rattle.mr_journal.proofs.Names.{flat_map-append, framed, from_be_bytes, from_be_bytes-to_be_bytes_4, from_be_bytes-to_be_bytes_8, get_or-drop}
use Rattle.mr_journal.proofs.Names.{get_or-take, get_or_past, head, not-false, not-true, not_from_Decides, sha256, take_at, u32, u64, w32, w64}
use Rattle.std.proofs.lemmas.Slice.Eq.{bytes_eq-Decides}
use Rattle.std.specs.Str.{bytes_eq}
use Rattle.mr_journal.proofs.BatchLemmas.{length-sealed, length-sha256, grown}

-- a byte of a part of bytes is a byte
pub byte_of_part : (k n : ℕ) (bytes : List ℕ) → ((i : ℕ) → get_or bytes i 0 < 256) → (i : ℕ) → get_or (take n (drop k bytes)) i 0 < 256
byte_of_part k n bytes fits i = ⊎_elim
    (λ (lt : i < n). rw (get_or-take n (drop k bytes) i 0 lt, get_or-drop k bytes i 0) (fits (k + i)))
    (λ (le : n ≤ i). rw (get_or_past (take n (drop k bytes)) i 0 (omega (arith, le, length-take n (drop k bytes)))) (omega arith))
    (cases_lt i n)

-- 41 bytes that begin with an open gate are a size and a digest behind it
pub open_head : (bytes size digest : List ℕ) (n : ℕ) → length bytes ≡ 41 → ((i : ℕ) → get_or bytes i 0 < 256) → get_or bytes 0 0 ≡ 1 → size ≡ take 8 (drop 1 bytes) → digest ≡ drop 9 bytes → n ≡ from_be_bytes w64 size
    → bytes ≡ 1 ∷ (u64 n ++ digest)
open_head bytes size digest n len fits first size_is digest_is n_is =
    let eight : length size ≡ 8 = ap length size_is ∙ omega (arith, length-take 8 (drop 1 bytes), length-drop 1 bytes, len) in
    let small : (i : ℕ) → get_or size i 0 < 256 = λ i. rw size_is (byte_of_part 1 8 bytes fits i) in
    let spelled : u64 n ≡ size = be_bytes_8 size n eight small n_is in
    let whole : bytes ≡ 1 ∷ drop 1 bytes = drop_more bytes 0 0 (omega (arith, len)) ∙ ap (λ (k : ℕ). k ∷ drop 1 bytes) first in
    let rest : drop 1 bytes ≡ size ++ digest = sym (take-append-drop 8 (drop 1 bytes)) ∙ ap (λ (l : List ℕ). l ++ drop 8 (drop 1 bytes)) (sym size_is) ∙ ap (λ (l : List ℕ). size ++ l) (drop-drop 8 1 bytes ∙ sym digest_is) in
    whole ∙ ap (λ (l : List ℕ). 1 ∷ l) (rest ∙ ap (λ (l : List ℕ). l ++ digest) (sym spelled))

-- the front of a framed body, and what stands behind it
framed_splits : (bytes left : List ℕ) → framed bytes left ≡ (1 ∷ (u64 (length bytes) ++ sha256 bytes)) ++ (bytes ++ left)
framed_splits bytes left = ap (λ (l : List ℕ). 1 ∷ l) (sym (append_assoc (u64 (length bytes)) (sha256 bytes) (bytes ++ left)))

length_front : (n : ℕ) (digest : List ℕ) → length digest ≡ 32 → length (1 ∷ (u64 n ++ digest)) ≡ 41
length_front n digest len = omega (arith, len, length-append (u64 n) digest)

pub take-framed : (bytes left : List ℕ) → take 41 (framed bytes left) ≡ 1 ∷ (u64 (length bytes) ++ sha256 bytes)
take-framed bytes left =
    ap (λ (l : List ℕ). take 41 l) (framed_splits bytes left) ∙ take_at (1 ∷ (u64 (length bytes) ++ sha256 bytes)) (bytes ++ left) 41 (length_front (length bytes) (sha256 bytes) (length-sha256 bytes))

pub drop-framed : (bytes left : List ℕ) → drop 41 (framed bytes left) ≡ bytes ++ left
drop-framed bytes left =
    ap (λ (l : List ℕ). drop 41 l) (framed_splits bytes left) ∙ drop_at (1 ∷ (u64 (length bytes) ++ sha256 bytes)) (bytes ++ left) 41 (length_front (length bytes) (sha256 bytes) (length-sha256 bytes))

length-framed : (bytes left : List ℕ) → length (framed bytes left) ≡ 41 + length bytes + length left
length-framed bytes left =
    omega (arith, ap length (framed_splits bytes left), length-append (1 ∷ (u64 (length bytes) ++ sha256 bytes)) (bytes ++ left), length_front (length bytes) (sha256 bytes) (length-sha256 bytes), length-append bytes left)

-- numbers of eight bytes that are spelled alike are one
same_u64 : (m n : ℕ) → m < 2 ^ 64 → n < 2 ^ 64 → u64 m ≡ u64 n → m ≡ n
same_u64 m n m_lt n_lt same = sym (from_be_bytes-to_be_bytes_8 m m_lt) ∙ ap (from_be_bytes w64) same ∙ from_be_bytes-to_be_bytes_8 n n_lt

-- a front that says a size and a digest says those of the body that is framed there
pub same_front : (size : ℕ) (digest bytes left rest : List ℕ) → size < 2 ^ 64 → length bytes < 2 ^ 64 → take 41 rest ≡ 1 ∷ (u64 size ++ digest) → rest ≡ framed bytes left → (size ≡ length bytes) × (digest ≡ sha256 bytes)
same_front size digest bytes left rest lt bytes_lt first is =
    let same : 1 ∷ (u64 size ++ digest) ≡ 1 ∷ (u64 (length bytes) ++ sha256 bytes) = sym first ∙ ap (λ (l : List ℕ). take 41 l) is ∙ take-framed bytes left in
    let behind : u64 size ++ digest ≡ u64 (length bytes) ++ sha256 bytes = ap (λ (l : List ℕ). drop 1 l) same in (
      same_u64 size (length bytes) lt bytes_lt (sym (take_at (u64 size) digest 8 refl) ∙ ap (λ (l : List ℕ). take 8 l) behind ∙ take_at (u64 (length bytes)) (sha256 bytes) 8 refl),
      sym (drop_at (u64 size) digest 8 refl) ∙ ap (λ (l : List ℕ). drop 8 l) behind ∙ drop_at (u64 (length bytes)) (sha256 bytes) 8 refl,
    )

-- a front that is neither leaves nothing
pub nothing_broken : (first rest : List ℕ) (count : ℕ) → first ≡ take count rest → count ≡ min 41 (length rest) → 0 < count → ((left : List ℕ) → first ≢ 0 ∷ left) → ((size : ℕ) (digest : List ℕ) → length digest ≡ 32 → first ≢ 1 ∷ (u64 size ++ digest)) → IsNothing rest
nothing_broken first rest zero first_is count_is some no_gate no_head = absurd (omega arith)
nothing_broken first rest (suc count) first_is count_is some no_gate no_head = record {
  no_gate = λ left e. no_gate (take count left) (first_is ∙ ap (λ (l : List ℕ). take (suc count) l) e);
  no_body = λ bytes left lt e. no_head (length bytes) (sha256 bytes) (length-sha256 bytes) (
      let all : suc count ≡ 41 = omega (arith, ap length e, length-framed bytes left, count_is) in
      first_is ∙ ap (λ (n : ℕ). take n rest) all ∙ ap (λ (l : List ℕ). take 41 l) e ∙ take-framed bytes left);
}

-- nor does a front before too few bytes
pub nothing_short : (size : ℕ) (digest rest : List ℕ) → size < 2 ^ 64 → take 41 rest ≡ 1 ∷ (u64 size ++ digest) → length rest < 41 + size → IsNothing rest
nothing_short size digest rest lt first short = record {
  no_gate = λ left e. let same : 1 ∷ (u64 size ++ digest) ≡ 0 ∷ take 40 left = sym first ∙ ap (λ (l : List ℕ). take 41 l) e in absurd (omega (arith, ap (λ (l : List ℕ). get_or l 0 0) same));
  no_body = λ bytes left bytes_lt e. omega (arith, short, ap length e, length-framed bytes left, (same_front size digest bytes left rest lt bytes_lt first e).0);
}

-- nor one before bytes of another digest
pub nothing_other : (size : ℕ) (digest bytes rest : List ℕ) → size < 2 ^ 64 → take 41 rest ≡ 1 ∷ (u64 size ++ digest) → bytes ≡ take size (drop 41 rest) → sha256 bytes ≢ digest → IsNothing rest
nothing_other size digest bytes rest lt first bytes_are other = record {
  no_gate = λ left e. let same : 1 ∷ (u64 size ++ digest) ≡ 0 ∷ take 40 left = sym first ∙ ap (λ (l : List ℕ). take 41 l) e in absurd (omega (arith, ap (λ (l : List ℕ). get_or l 0 0) same));
  no_body = λ more left more_lt e.
      let same = same_front size digest more left rest lt more_lt first e in
      let those : bytes ≡ more = bytes_are ∙ ap (λ (n : ℕ). take n (drop 41 rest)) same.0 ∙ ap (λ (l : List ℕ). take (length more) l) (ap (λ (l : List ℕ). drop 41 l) e ∙ drop-framed more left) ∙ take_at more left (length more) refl in
      other (ap sha256 those ∙ sym same.1);
}

-- a front before bytes of its size and digest frames them
pub found_framed : (size : ℕ) (digest bytes rest : List ℕ) → take 41 rest ≡ 1 ∷ (u64 size ++ digest) → bytes ≡ take size (drop 41 rest) → length bytes ≡ size → sha256 bytes ≡ digest → rest ≡ framed bytes (drop size (drop 41 rest))
found_framed size digest bytes rest first bytes_are count same =
    let left = drop size (drop 41 rest) in
    let front : take 41 rest ≡ 1 ∷ (u64 (length bytes) ++ sha256 bytes) = first ∙ ap (λ (n : ℕ). 1 ∷ (u64 n ++ digest)) (sym count) ∙ ap (λ (l : List ℕ). 1 ∷ (u64 (length bytes) ++ l)) (sym same) in
    let back : drop 41 rest ≡ bytes ++ left = sym (take-append-drop size (drop 41 rest)) ∙ ap (λ (l : List ℕ). l ++ left) (sym bytes_are) in
    sym (take-append-drop 41 rest) ∙ ap (λ (l : List ℕ). l ++ drop 41 rest) front ∙ ap (λ (l : List ℕ). (1 ∷ (u64 (length bytes) ++ sha256 bytes)) ++ l) back ∙ sym (framed_splits bytes left)

pub framed_batch : (more : List (List ℕ)) (left : List ℕ) → batch more ++ left ≡ framed (body more) left
framed_batch more left =
    let size = u64 (length (body more)) in
    ap (λ (l : List ℕ). 1 ∷ l) (append_assoc size (sha256 (body more) ++ body more) left ∙ ap (λ (l : List ℕ). size ++ l) (append_assoc (sha256 (body more)) (body more) left))

-- whole batches up to a place of a file, and what stands there
pub record ReadTo (entries : List (List ℕ)) (place : ℕ) (file : List ℕ) : Type 0 where
  pub front : List ℕ
  pub left : List ℕ
  pub batches : AreBatches entries front
  pub file_is : file ≡ front ++ left
  pub place_is : place ≡ length front

module _ {entries : List (List ℕ)} {place : ℕ} {file : List ℕ} (so_far : ReadTo entries place file) where
  -- what is found there stands there
  pub found_there : (r : Result (Option (Vec ℕ Global)) JournalFault) (now : List ℕ) → now ≡ file → IsFound r place (drop place now) → IsFound r place so_far.left
  found_there r now same found =
      subst (λ (l : List ℕ). IsFound r place l) (ap (λ (l : List ℕ). drop place l) (same ∙ so_far.file_is) ∙ drop_at so_far.front so_far.left place (sym so_far.place_is)) found

  -- one more batch is read
  pub read_one : (more : List (List ℕ)) (bytes left : List ℕ) (next : ℕ) → so_far.left ≡ framed bytes left → bytes ≡ body more → AreEntries more → length bytes < 2 ^ 64 → next ≡ place + (41 + length bytes) → ReadTo (entries ++ more) next file
  read_one more bytes left next is bytes_are fit lt next_is = record {
    front = so_far.front ++ batch more;
    left = left;
    batches = grown entries more so_far.front so_far.batches (record { entries_are = fit; whole = omega (arith, lt, ap length bytes_are) });
    file_is = so_far.file_is ∙ ap (λ (l : List ℕ). so_far.front ++ l) (is ∙ ap (λ (l : List ℕ). framed l left) bytes_are ∙ sym (framed_batch more left)) ∙ sym (append_assoc so_far.front (batch more) left);
    place_is = omega (arith, next_is, so_far.place_is, ap length bytes_are, length-append so_far.front (batch more), length-sealed more);
  }

  damaged : ((left : List ℕ) → so_far.left ≢ 0 ∷ left) → ((more : List (List ℕ)) (left : List ℕ) → IsBatch more → so_far.left ≢ batch more ++ left) → IsDamagedAt place file
  damaged no_gate no_batch =
      record { front = so_far.front; rest = so_far.left; entries = entries; batches = so_far.batches; file_is = so_far.file_is; place_is = so_far.place_is; no_gate = no_gate; no_batch = no_batch }

  -- a body that is no entries leaves nothing
  pub damaged_body : (bytes left : List ℕ) → so_far.left ≡ framed bytes left → length bytes < 2 ^ 64 → ((more : List (List ℕ)) → AreEntries more → bytes ≢ body more) → IsDamagedAt place file
  damaged_body bytes left is lt none =
      damaged (λ behind e. absurd (omega (arith, ap (λ (l : List ℕ). get_or l 0 0) (sym is ∙ e)))) (λ more behind is_batch e.
      let framed_too : framed bytes left ≡ framed (body more) behind = sym is ∙ e ∙ framed_batch more behind in
      let same = same_front (length bytes) (sha256 bytes) (body more) behind (framed bytes left) lt is_batch.whole (take-framed bytes left) framed_too in
      let back : bytes ++ left ≡ body more ++ behind = sym (drop-framed bytes left) ∙ ap (λ (l : List ℕ). drop 41 l) framed_too ∙ drop-framed (body more) behind in
      none more is_batch.entries_are (sym (take_at bytes left (length bytes) refl) ∙ ap (λ (l : List ℕ). take (length bytes) l) back ∙ ap (λ (n : ℕ). take n (body more ++ behind)) same.0 ∙ take_at (body more) behind (length (body more)) refl))

  -- what was found is the reason why the file is refused
  pub reason_found : (fault : JournalFault) → IsFound (Err fault) place so_far.left → IsReason fault file
  reason_found OutOfMemory found = tt
  reason_found Failed found = tt
  reason_found (Damaged at) found =
      subst (λ (n : ℕ). IsDamagedAt n file) (sym found.0) (damaged found.1.no_gate (λ more left is e. found.1.no_body (body more) left is.whole (e ∙ framed_batch more left)))
  reason_found fault found = absurd found

same_u32 : (m n : ℕ) → m < 2 ^ 32 → n < 2 ^ 32 → u32 m ≡ u32 n → m ≡ n
same_u32 m n m_lt n_lt same = sym (from_be_bytes-to_be_bytes_4 m m_lt) ∙ ap (from_be_bytes w32) same ∙ from_be_bytes-to_be_bytes_4 n n_lt

-- bytes that begin with an entry begin with its length
pub entry_front : (bytes entry behind : List ℕ) (count : ℕ) → count < 2 ^ 32 → length entry < 2 ^ 32 → take 4 bytes ≡ u32 count → bytes ≡ entry_bytes entry ++ behind → count ≡ length entry
entry_front bytes entry behind count lt entry_lt first is =
    same_u32 count (length entry) lt entry_lt (sym first ∙ ap (λ (l : List ℕ). take 4 l) (is ∙ append_assoc (u32 (length entry)) entry behind) ∙ take_at (u32 (length entry)) (entry ++ behind) 4 refl)

-- the four bytes that were read are those of the number
pub spelled_u32 : (bytes number : List ℕ) (count : ℕ) → length number ≡ 4 → number ≡ take 4 bytes → ((i : ℕ) → get_or bytes i 0 < 256) → count ≡ from_be_bytes w32 number → take 4 bytes ≡ u32 count
spelled_u32 bytes number count four is fits count_is = sym (be_bytes_4 number count four (λ i. rw is (byte_of_part 0 4 bytes fits i)) count_is ∙ is)

pub is_entry : (bytes entry behind : List ℕ) (count : ℕ) → 4 + count ≤ length bytes → take 4 bytes ≡ u32 count → entry ≡ take count (drop 4 bytes) → behind ≡ drop count (drop 4 bytes) → bytes ≡ entry_bytes entry ++ behind
is_entry bytes entry behind count le first entry_is behind_is =
    let long : length entry ≡ count = ap length entry_is ∙ omega (arith, le, length-take count (drop 4 bytes), length-drop 4 bytes) in
    sym (take-append-drop 4 bytes) ∙ ap (λ (l : List ℕ). l ++ drop 4 bytes) first
    ∙ ap (λ (l : List ℕ). u32 count ++ l) (sym (take-append-drop count (drop 4 bytes)))
    ∙ ap (λ (l : List ℕ). u32 count ++ (l ++ drop count (drop 4 bytes))) (sym entry_is)
    ∙ ap (λ (l : List ℕ). u32 count ++ (entry ++ l)) (sym behind_is)
    ∙ ap (λ (n : ℕ). u32 n ++ (entry ++ behind)) (sym long)
    ∙ sym (append_assoc (u32 (length entry)) entry behind)

-- one entry more is split off
pub split_one : (bytes rest entry behind : List ℕ) (more : List (List ℕ)) → bytes ≡ body more ++ rest → rest ≡ entry_bytes entry ++ behind → bytes ≡ body (more ++ entry ∷ []) ++ behind
split_one bytes rest entry behind more is rest_is =
    is ∙ ap (λ (l : List ℕ). body more ++ l) rest_is ∙ sym (append_assoc (body more) (entry_bytes entry) behind)
    ∙ ap (λ (l : List ℕ). (body more ++ l) ++ behind) (sym (append-nil (entry_bytes entry)))
    ∙ ap (λ (l : List ℕ). l ++ behind) (sym (flat_map-append entry_bytes more (entry ∷ [])))

-- what stands behind an entry of a body is a body too
pub body_behind : (others : List (List ℕ)) (rest entry behind : List ℕ) → AreEntries others → rest ≡ body others → rest ≡ entry_bytes entry ++ behind → length entry < 2 ^ 32 → (later : List (List ℕ)) × AreEntries later × (behind ≡ body later)
body_behind [] rest entry behind are is rest_is lt = absurd (omega (arith, ap length is, ap length rest_is, length-append (entry_bytes entry) behind, length-append (u32 (length entry)) entry))
body_behind (f ∷ others) rest entry behind are is rest_is lt =
    let both : entry_bytes entry ++ behind ≡ entry_bytes f ++ body others = sym rest_is ∙ is in
    let first : take 4 (entry_bytes entry ++ behind) ≡ u32 (length entry) = ap (λ (l : List ℕ). take 4 l) (append_assoc (u32 (length entry)) entry behind) ∙ take_at (u32 (length entry)) (entry ++ behind) 4 refl in
    let same : length entry ≡ length f = entry_front (entry_bytes entry ++ behind) f (body others) (length entry) lt are.0 first both in
    let long : length (entry_bytes entry) ≡ length (entry_bytes f) = omega (arith, same, length-append (u32 (length entry)) entry, length-append (u32 (length f)) f) in
    (others, are.1, sym (drop_at (entry_bytes entry) behind (length (entry_bytes entry)) refl) ∙ ap (λ (l : List ℕ). drop (length (entry_bytes entry)) l) both ∙ drop_at (entry_bytes f) (body others) (length (entry_bytes entry)) (sym long))

-- a body that isn't empty begins with an entry
pub body_begins : (others : List (List ℕ)) (rest : List ℕ) → rest ≡ body others → 0 < length rest → AreEntries others → (entry behind : List ℕ) × (length entry < 2 ^ 32) × (rest ≡ entry_bytes entry ++ behind)
body_begins [] rest is some are = absurd (omega (arith, ap length is))
body_begins (f ∷ others) rest is some are = (f, body others, are.0, is)

-- what a test of bytes says
pub tested_same : (a b : List ℕ) (r : Bool) → r ≡ not (bytes_eq a b) → r ≡ false → a ≡ b
tested_same a b r is off = (bytes_eq-Decides a b).0 (not-false (bytes_eq a b) (sym is ∙ off))

pub tested_other : (a b : List ℕ) (r : Bool) → r ≡ not (bytes_eq a b) → r ≡ true → a ≢ b
tested_other a b r is on = not_from_Decides (bytes_eq a b) (bytes_eq-Decides a b) (not-true (bytes_eq a b) (sym is ∙ on))

-- a head alone is no batches
pub none_yet : AreBatches [] (head 1)
none_yet = record { batches = []; each = tt; front_is = refl; entries_are = refl }
