-- What is read of a note respells the bytes that it took, and what is spelled is read again.
use Rattle.std.proofs.Common.{◌≡◌, ℕ, ◌<◌, ◌^◌, Bool, true, false, cond, eqb, List, [], ◌∷◌, ◌++◌, length, Option, Some, None, Result, Ok, Err, refl, sym, ap, subst, ◌∙◌}
use Rattle.mr_compare.proofs.Names.{All-from_recursion, AllByRecursion, IfOk, IfSome, IsItem, Name, Reads, RunFits, Vec, append-nil, eqb-true, flat_map}
use Rattle.mr_compare.proofs.Names.{name_bytes, option_map, reads_as, reads_bytes, reads_counted, reads_like, reads_run, reads_then, reads_u32, reads_u64}
use Rattle.mr_compare.proofs.Names.{recursion_from_All, u32}
use Rattle.std.specs.Int.{w32, w64}
use Rattle.mr_wire.specs.Prefixed.{whole_at}
use Rattle.mr_wire.specs.Reading.{Reader, ◌>>=◌, number_at, as_at, then_at, counted_at, Stands}
use Rattle.mr_wire.proofs.PartLaws.{reads_author, reads_name}
use Rattle.mr_wire.proofs.FrameLaws.{as_again, as_takes}
use Rattle.mr_wire.proofs.PrefixLaws.{whole_found}
use Rattle.mr_compare.specs.declared.note.Meeting.{Meeting}
use Rattle.mr_compare.specs.declared.note.FolderNote.{FolderNote}
use Rattle.mr_compare.specs.declared.note.FolderNote.TheVariants as note
use Rattle.mr_compare.specs.Shown.{ShownParts}
use Rattle.mr_compare.specs.Note.{shown_bytes, meeting_bytes, note_kind, note_bytes, IsShown, IsMeeting, IsNote, Spells}
use Rattle.mr_compare.specs.NoteParts.{items_run, shown_at, meeting_at, note_read}
use Rattle.mr_compare.specs.inner.NoteParts.{FindsWhole, FindsNote, HasItems, IsKept}

-- ---- the parts

-- an item is read alike wherever it stands
abbrev pub same_place : ℕ → Name → ℕ
same_place _ _ = 0

abbrev ItemFits : ℕ → Name → Type 0
ItemFits _ v = IsItem v

are_items : (xs : List Name) → RunFits ItemFits same_place 0 xs → AllByRecursion IsItem xs
are_items [] h = tt
are_items (x ∷ xs) h = (h.0, are_items xs h.1)

items_fit : (xs : List Name) → AllByRecursion IsItem xs → RunFits ItemFits same_place 0 xs
items_fit [] h = tt
items_fit (x ∷ xs) h = (h.0, items_fit xs h.1)

reads_items : Reads (λ (xs : List Name). (length xs < 2 ^ 32) × AllByRecursion IsItem xs) (λ xs. u32 (length xs) ++ flat_map name_bytes xs) (counted_at (number_at w32) items_run)
reads_items =
    reads_like (λ (xs : List Name). (length xs < 2 ^ 32) × AllByRecursion IsItem xs) (λ xs. u32 (length xs) ++ flat_map name_bytes xs)
    (reads_counted length reads_u32 (λ n. reads_run {fits = ItemFits} same_place (λ _. reads_name) 0 n))
    (λ xs h. (h.0, are_items xs h.1)) (λ xs h. (h.0, items_fit xs h.1)) (λ xs. refl)

pub reads_shown : Reads IsShown shown_bytes shown_at
reads_shown =
    reads_like IsShown shown_bytes
    (reads_as (λ (p : ℕ × List Name). record { entries = p.0; lacking = p.1 }) (λ (s : ShownParts). (s.entries, s.lacking)) (λ s. refl) (λ p. refl) (reads_then reads_u64 (λ _. reads_items)))
    (λ s h. record { entries_in = h.0; few = h.1.0; items_in = All-from_recursion IsItem s.lacking h.1.1 })
    (λ s h. (h.entries_in, (h.few, recursion_from_All IsItem s.lacking h.items_in)))
    (λ s. refl)

pub reads_meeting : Reads IsMeeting meeting_bytes meeting_at
reads_meeting =
    reads_like IsMeeting meeting_bytes
    (reads_as (λ (p : ℕ × (List ℕ × (List ℕ × (List ℕ × ℕ)))). record { id = p.0; birth = p.1.0; mine = p.1.1.0; theirs = p.1.1.1.0; time = p.1.1.1.1 })
    (λ (m : Meeting). (m.id, (m.birth, (m.mine, (m.theirs, m.time))))) (λ m. refl) (λ p. refl)
    (reads_then reads_author (λ _. reads_then (reads_bytes 16) (λ _. reads_then (reads_bytes 32) (λ _. reads_then (reads_bytes 32) (λ _. reads_u64))))))
    (λ m h. record { id_in = h.0; birth_in = h.1.0.0; mine_in = h.1.1.0.0; theirs_in = h.1.1.1.0.0; time_in = h.1.1.1.1 })
    (λ m h. (h.id_in, ((h.birth_in, tt), ((h.mine_in, tt), ((h.theirs_in, tt), h.time_in)))))
    (λ m. refl)

-- ---- notes

module _ {X : Type 0} {f : X → Type 0} {s : X → List ℕ} {at : Reader X} (to : X → FolderNote) (reads : Reads f s at) where
  -- what bytes that are such a part tell
  whole_takes : (bytes : List ℕ) (n : FolderNote) → whole_at (as_at to at) bytes ≡ Some n → (x : X) × (n ≡ to x) × (bytes ≡ s x) × f x
  whole_takes bytes n e =
      let t = as_takes to reads bytes n [] (whole_found (as_at to at) bytes n e) in
      (t.0, t.1, t.2 ∙ append-nil (s t.0), t.3)

  whole_again : (x : X) → f x → whole_at (as_at to at) (s x) ≡ Some (to x)
  whole_again x h =
      let e : as_at to at (s x) ≡ Some (to x, []) = ap (as_at to at) (sym (append-nil (s x))) ∙ as_again to reads x [] h in
      ap (λ (o : Option (FolderNote × List ℕ)). o >>= λ found. cond (eqb (length found.1) 0) (Some found.0) None) e

-- what is read spells its bytes
pub note_spelled : (kind : ℕ) (bytes : List ℕ) (n : FolderNote) → note_read kind bytes ≡ Some n → Spells n kind bytes
note_spelled kind bytes n e = first (eqb kind 1) refl e
  where
    second : (b : Bool) → eqb kind 2 ≡ b → cond b (whole_at (as_at note.Met meeting_at) bytes) None ≡ Some n → Spells n kind bytes
    second true k h =
        let t = whole_takes note.Met reads_meeting bytes n h in
        subst (λ (x : FolderNote). Spells x kind bytes) (sym t.1) (record { in_grammar = t.3; kind_is = eqb-true kind 2 k; written = t.2 })
    second false k h = absurd (cc)

    first : (b : Bool) → eqb kind 1 ≡ b → cond b (whole_at (as_at note.Shown shown_at) bytes) (cond (eqb kind 2) (whole_at (as_at note.Met meeting_at) bytes) None) ≡ Some n → Spells n kind bytes
    first true k h =
        let t = whole_takes note.Shown reads_shown bytes n h in
        subst (λ (x : FolderNote). Spells x kind bytes) (sym t.1) (record { in_grammar = t.3; kind_is = eqb-true kind 1 k; written = t.2 })
    first false k h = second (eqb kind 2) refl h

again : (n : FolderNote) → IsNote n → note_read (note_kind n) (note_bytes n) ≡ Some n
again (note.Shown s) h = whole_again note.Shown reads_shown s h
again (note.Met m) h = whole_again note.Met reads_meeting m h

-- what is spelled is read
pub note_found : (kind : ℕ) (bytes : List ℕ) (n : FolderNote) → Spells n kind bytes → note_read kind bytes ≡ Some n
note_found kind bytes n h = ap (λ (k : ℕ). note_read k bytes) h.kind_is ∙ ap (note_read (note_kind n)) h.written ∙ again n h.in_grammar

-- ---- what was kept of what was read

kept_is : (read : Option FolderNote) (found : Option (Option FolderNote)) (kept : Option FolderNote) → FindsWhole read found → IsKept found kept → kept ≡ read
kept_is read None kept h k = k ∙ sym h
kept_is read (Some None) kept h k = absurd k
kept_is read (Some (Some n)) kept h k = k ∙ ap Some h.2 ∙ sym h.1

spelled_if : (kind : ℕ) (bytes : List ℕ) (kept : Option FolderNote) → kept ≡ note_read kind bytes → IfSome kept (λ n. Spells n kind bytes)
spelled_if kind bytes None e = tt
spelled_if kind bytes (Some n) e = note_spelled kind bytes n (sym e)

module _ {E : Type 0} (kind : ℕ) (bytes : List ℕ) (found : Option (Option FolderNote)) (finds : FindsNote kind bytes found) where
  pub is_spelled : (r : Result (Option FolderNote) E) → IfOk r (λ kept. IsKept found kept) → IfOk r (λ kept. IfSome kept (λ n. Spells n kind bytes))
  is_spelled (Ok kept) k = spelled_if kind bytes kept (kept_is (note_read kind bytes) found kept finds k)
  is_spelled (Err e) k = tt

  pub is_read : (r : Result (Option FolderNote) E) → IfOk r (λ kept. IsKept found kept) → IfOk r (λ kept. kept ≡ note_read kind bytes)
  is_read (Ok kept) k = kept_is (note_read kind bytes) found kept finds k
  is_read (Err e) k = tt

  pub is_found : (r : Result (Option FolderNote) E) → IfOk r (λ kept. IsKept found kept) → (n : FolderNote) → Spells n kind bytes → IfOk r (λ kept. kept ≡ Some n)
  is_found (Ok kept) k n h = kept_is (note_read kind bytes) found kept finds k ∙ note_found kind bytes n h
  is_found (Err e) k n h = tt

-- ---- steps of reading

abbrev behind : {X Y : Type 0} → X → Option (Y × List ℕ) → Option ((X × Y) × List ℕ)
behind x o = o >>= λ b. Some ((x, b.0), b.1)

abbrev and_behind : {X Y : Type 0} → (X → Reader Y) → Option (X × List ℕ) → Option ((X × Y) × List ℕ)
and_behind q o = o >>= λ a. behind a.0 (q a.0 a.1)

abbrev seen_as : {X Z : Type 0} → (X → Z) → Option (X × List ℕ) → Option (Z × List ℕ)
seen_as to o = o >>= λ p. Some (to p.0, p.1)

-- a part and one behind it, seen as another value
stands_pair : {X Y Z : Type 0} (r : Reader X) (q : X → Reader Y) (to : X × Y → Z) (old : List ℕ) (x : X) (r1 : List ℕ) (y : Y) (rest : List ℕ) → r old ≡ Some (x, r1) → q x r1 ≡ Some (y, rest) → as_at to (then_at r q) old ≡ Some (to (x, y), rest)
stands_pair {X} {Y} {Z} r q to old x r1 y rest e1 e2 =
    ap (λ (o : Option (X × List ℕ)). seen_as to (and_behind q o)) e1 ∙ ap (λ (o : Option (Y × List ℕ)). seen_as to (behind x o)) e2

-- a count and what is of it
stands_counted : {Y : Type 0} (c : Reader ℕ) (q : ℕ → Reader Y) (old : List ℕ) (n : ℕ) (r1 : List ℕ) (y : Y) (rest : List ℕ) → c old ≡ Some (n, r1) → q n r1 ≡ Some (y, rest) → counted_at c q old ≡ Some (y, rest)
stands_counted {Y} c q old n r1 y rest e1 e2 = ap (λ (o : Option (ℕ × List ℕ)). o >>= λ a. q a.0 a.1) e1 ∙ e2

shown_if : (entries : ℕ) (part : List Name) (kept : Option (Vec Name)) (shown : Option ShownParts) → IfSome kept (λ v. v.items ≡ part) → IfSome shown (λ s. HasItems kept (λ items. s ≡ record { entries = entries; lacking = items })) →
    IfSome shown (λ s. s ≡ record { entries = entries; lacking = part })
shown_if entries part kept None is h = tt
shown_if entries part None (Some s) is h = absurd h
shown_if entries part (Some v) (Some s) is h = h ∙ ap (λ (items : List Name). record { entries = entries; lacking = items }) is

pub stands_shown : (old r1 r2 rest : List ℕ) (entries count : ℕ) (kept : Option (Vec Name)) (shown : Option ShownParts) → number_at w64 old ≡ Some (entries, r1) → number_at w32 r1 ≡ Some (count, r2) →
    Stands (λ (v : Vec Name). v.items) (items_run count) r2 kept rest (λ _. Unit {0}) → IfSome shown (λ s. HasItems kept (λ items. s ≡ record { entries = entries; lacking = items })) →
    Stands (λ (s : ShownParts). s) shown_at old shown rest (λ _. Unit {0})
stands_shown old r1 r2 rest entries count kept shown e1 e2 st h = record {
  part = record { entries = entries; lacking = st.part };
  stands = stands_pair (number_at w64) (λ _. counted_at (number_at w32) items_run) (λ (p : ℕ × List Name). record { entries = p.0; lacking = p.1 }) old entries r1 st.part rest e1 (stands_counted (number_at w32) items_run r1 count r2 st.part rest e2 st.stands);
  is_part = shown_if entries st.part kept shown st.is_part h;
  told = tt;
}

few_if : (kept : Option (Vec Name)) (part : List Name) → length part < 2 ^ 32 → IfSome kept (λ v. v.items ≡ part) → IfSome kept (λ v. length v.items < 2 ^ 32)
few_if None part few is = tt
few_if (Some v) part few is = subst (λ (xs : List Name). length xs < 2 ^ 32) (sym is) few

-- items behind a count of four bytes are few
pub few_items : (count : ℕ) (old rest : List ℕ) (kept : Option (Vec Name)) → count < 2 ^ 32 → Stands (λ (v : Vec Name). v.items) (items_run count) old kept rest (λ _. Unit {0}) → IfSome kept (λ v. length v.items < 2 ^ 32)
few_items count old rest kept few st =
    let t = (reads_run {fits = ItemFits} same_place (λ _. reads_name) 0 count).takes old st.part rest st.stands in
    few_if kept st.part (subst (λ (n : ℕ). n < 2 ^ 32) (sym t.1.0) few) st.is_part

note_if : (shown : Option ShownParts) (part : ShownParts) → IfSome shown (λ s. s ≡ part) → IfSome (option_map note.Shown shown) (λ k. k ≡ note.Shown part)
note_if None part is = tt
note_if (Some s) part is = ap note.Shown is

-- what stands at the front of bytes, and is all of them, is found
pub whole_stands : (old bytes rest : List ℕ) (shown : Option ShownParts) (kept : Option FolderNote) → old ≡ bytes → Stands (λ (s : ShownParts). s) shown_at old shown rest (λ _. Unit {0}) → length rest ≡ 0 → kept ≡ option_map note.Shown shown →
    FindsWhole (whole_at (as_at note.Shown shown_at) bytes) (Some kept)
whole_stands old bytes rest shown kept same st none is =
    subst (λ (b : List ℕ). FindsWhole (whole_at (as_at note.Shown shown_at) b) (Some kept)) same (
      note.Shown st.part,
      (ap (λ (o : Option (FolderNote × List ℕ)). o >>= λ found. cond (eqb (length found.1) 0) (Some found.0) None) (ap (λ (o : Option (ShownParts × List ℕ)). seen_as note.Shown o) st.stands)
          ∙ ap (λ (n : ℕ). cond (eqb n 0) (Some (note.Shown st.part)) None) none),
      subst (λ (k : Option FolderNote). IfSome k (λ x. x ≡ note.Shown st.part)) (sym is) (note_if shown st.part st.is_part),
    )
