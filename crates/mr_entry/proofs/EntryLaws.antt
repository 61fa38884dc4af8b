-- What is read of an entry respells the bytes that it took, and what is spelled is read again.
use Rattle.std.proofs.Common.{◌≡◌, ℕ, ◌-◌, ◌≤◌, ◌<◌, ◌^◌, cond, eqb, List, ◌∷◌, ◌++◌, length, take, drop, Option, Some, Result, Ok, Err, refl, sym, ap, subst, ◌∙◌, arith, append_assoc}
use Rattle.mr_entry.proofs.Names.{Answers, AnswersEvent, Event, IsEntry, Reads, Spells, SpellsEvent, as_again, as_at, as_takes, counted_event, decoded}
use Rattle.mr_entry.proofs.Names.{drop_at, entry_bytes, entry_read, eqb-true, event_bytes, event_decoded, event_read, filter_text_at, head_at, head_read}
use Rattle.mr_entry.proofs.Names.{kind_byte, length-append, nexts_at, nexts_read, note_at, note_bytes, note_read, number_at, or_ok, part_bytes, parts_read}
use Rattle.mr_entry.proofs.Names.{reads_as, reads_author, reads_bytes, reads_counted, reads_like, reads_only, reads_then, reads_u16, reads_u32, reads_u64}
use Rattle.mr_entry.proofs.Names.{reads_u8, setting_bytes, take-append-drop, take_at, test_ok, then_ok, u16, u32, u64, w16, w32, w8}
use Rattle.std.specs.Str.{IsUtf8, is_utf8}
use Rattle.std.proofs.lemmas.Str.{IsUtf8-from_is_utf8, is_utf8-from_IsUtf8}
use Rattle.mr_wire.specs.Prefixed.{and_then, or_fault}
use Rattle.mr_entry.specs.Head.{HeadParts, IsHead}
use Rattle.mr_entry.specs.Note.{NoteParts}
use Rattle.mr_entry.specs.declared.entry.Entry.{Entry}
use Rattle.mr_entry.specs.declared.entry.Entry.TheVariants as entry
use Rattle.mr_entry.specs.Fault.{fault_of_event}
use Rattle.mr_entry.specs.declared.event.fault.EventFault.{EventFault}
use Rattle.mr_entry.specs.declared.event.fault.EventFault.TheVariants as event_fault
use Rattle.mr_entry.specs.declared.fault.EntryFault.{EntryFault}
use Rattle.mr_entry.specs.declared.fault.EntryFault.TheVariants.{OutOfMemory, Truncated, BadKind, OtherFormat, BadBody}
use Rattle.mr_entry.proofs.CodecLaws.{IsCodec, Takes, byte_alone, by_kind, takes_of}
use Rattle.mr_entry.proofs.EventLaws.{event_codec}

-- ---- parts

reads_text : Reads (λ (text : List ℕ). (length text < 2 ^ 32) × IsUtf8 text) (λ text. u32 (length text) ++ text) filter_text_at
reads_text =
    reads_like (λ (text : List ℕ). (length text < 2 ^ 32) × IsUtf8 text) (λ text. u32 (length text) ++ text) (reads_only is_utf8 (reads_counted length reads_u32 reads_bytes))
    (λ text h. (h.0.0, IsUtf8-from_is_utf8 text h.1)) (λ text h. ((h.0, tt), is_utf8-from_IsUtf8 text h.1)) (λ text. refl)

abbrev HeadFits : HeadParts → Type 0
HeadFits h = IsHead h × (length h.filter < 2 ^ 32)

reads_head : Reads HeadFits setting_bytes head_at
reads_head =
    reads_like HeadFits setting_bytes
    (reads_as (λ (p : ℕ × (ℕ × (List ℕ × (List ℕ × List ℕ)))). record { id = p.0; event_limit = p.1.0; birth = p.1.1.0; mark = p.1.1.1.0; filter = p.1.1.1.1 })
    (λ (h : HeadParts). (h.id, (h.event_limit, (h.birth, (h.mark, h.filter))))) (λ h. refl) (λ p. refl)
    (reads_then reads_author (λ _. reads_then reads_u32 (λ _. reads_then (reads_bytes 16) (λ _. reads_then (reads_bytes 32) (λ _. reads_text))))))
    (λ h f. (record { id_in = f.0; limit_in = f.1.0; birth_in = f.1.1.0.0; mark_in = f.1.1.1.0.0; text = f.1.1.1.1.1 }, f.1.1.1.1.0))
    (λ h f. (f.0.id_in, (f.0.limit_in, ((f.0.birth_in, tt), ((f.0.mark_in, tt), (f.1, f.0.text)))))) (λ h. refl)

reads_nexts : Reads (λ (p : ℕ × ℕ). (p.0 < 2 ^ 64) × (p.1 < 2 ^ 32)) (λ p. u64 p.0 ++ u32 p.1) nexts_at
reads_nexts = reads_then reads_u64 (λ _. reads_u32)

reads_note : Reads (λ (n : NoteParts). (n.kind < 256) × (length n.bytes < 2 ^ 32)) note_bytes note_at
reads_note =
    reads_like (λ (n : NoteParts). (n.kind < 256) × (length n.bytes < 2 ^ 32)) note_bytes
    (reads_as (λ (p : ℕ × List ℕ). record { kind = p.0; bytes = p.1 }) (λ (n : NoteParts). (n.kind, n.bytes)) (λ n. refl) (λ p. refl)
    (reads_then reads_u8 (λ _. reads_counted length reads_u32 reads_bytes)))
    (λ n f. (f.0, f.1.0)) (λ n f. (f.0, (f.1, tt))) (λ n. refl)

-- ---- what stands behind a kind

ok_is : {X E : Type 0} (p q : X) → ◌≡◌ {A = Result X E} (Ok p) (Ok q) → p ≡ q
ok_is p q h = cc

abbrev nexts_of : ℕ × ℕ → Entry
nexts_of p = entry.Nexts p.0 p.1

module _ (bytes : List ℕ) (e : Entry) (rest : List ℕ) where
  abbrev Tells : ℕ → Type 0
  Tells kind = Takes kind_byte part_bytes IsEntry kind bytes e rest

  head_takes : head_read bytes ≡ Ok (e, rest) → Tells 0
  head_takes h =
      let a = then_ok (or_fault BadBody (number_at w16 bytes)) (λ format. cond (eqb format.0 1) (or_fault BadBody (as_at entry.Head head_at format.1)) (Err (OtherFormat format.0))) (e, rest) h in
      let b = test_ok (eqb a.0.0 1) (or_fault BadBody (as_at entry.Head head_at a.0.1)) (OtherFormat a.0.0) (e, rest) a.2 in
      let format = reads_u16.takes bytes a.0.0 a.0.1 (or_ok BadBody (number_at w16 bytes) a.0 a.1) in
      let t = as_takes entry.Head reads_head a.0.1 e rest (or_ok BadBody (as_at entry.Head head_at a.0.1) (e, rest) b.1) in
      let whole : bytes ≡ (u16 1 ++ setting_bytes t.0) ++ rest =
      format.0 ∙ ap (λ (n : ℕ). u16 n ++ a.0.1) (eqb-true a.0.0 1 b.0) ∙ ap (λ (z : List ℕ). u16 1 ++ z) t.2 ∙ sym (append_assoc (u16 1) (setting_bytes t.0) rest) in
      subst (λ (x : Entry). Takes kind_byte part_bytes IsEntry 0 bytes x rest) (sym t.1) (record { parts = whole; kind_is = refl; in_grammar = t.3 })

  event_takes : event_read bytes ≡ Ok (e, rest) → Tells 1
  event_takes h =
      let a = then_ok (or_fault BadBody (number_at w32 bytes)) (λ issued. counted_event issued.0 issued.1 (event_decoded issued.1)) (e, rest) h in
      let count = reads_u32.takes bytes a.0.0 a.0.1 (or_ok BadBody (number_at w32 bytes) a.0 a.1) in
      found a.0.0 a.0.1 count.0 count.1 (event_decoded a.0.1) refl a.2
    where
      found : (issued : ℕ) (behind : List ℕ) → bytes ≡ u32 issued ++ behind → issued < 2 ^ 32 → (r : Result (Event × ℕ) EventFault) → event_decoded behind ≡ r → counted_event issued behind r ≡ Ok (e, rest) → Tells 1
      found issued behind whole few (Err fault) read h' = absurd cc
      found issued behind whole few (Ok p) read h' =
          let t = event_codec.takes behind p.0 p.1 read in
          let parts : bytes ≡ (u32 issued ++ event_bytes p.0) ++ drop p.1 behind =
          whole ∙ ap (λ (z : List ℕ). u32 issued ++ z) (sym (take-append-drop p.1 behind)) ∙ ap (λ (z : List ℕ). u32 issued ++ (z ++ drop p.1 behind)) t.0.written ∙ sym (append_assoc (u32 issued) (event_bytes p.0) (drop p.1 behind)) in
          let spelled : SpellsEvent p.0 (event_bytes p.0) = record { in_grammar = t.0.in_grammar; few = t.0.few; written = refl } in
          let made : Takes kind_byte part_bytes IsEntry 1 bytes (entry.Event issued p.0) (drop p.1 behind) = record { parts = parts; kind_is = refl; in_grammar = (few, spelled) } in
          subst (λ (q : Entry × List ℕ). Takes kind_byte part_bytes IsEntry 1 bytes q.0 q.1) (ok_is (entry.Event issued p.0, drop p.1 behind) (e, rest) h') made

  nexts_takes : nexts_read bytes ≡ Ok (e, rest) → Tells 2
  nexts_takes h = takes_of kind_byte part_bytes IsEntry nexts_of 2 reads_nexts (λ p. refl) (λ p. refl) (λ p f. f) bytes e rest (or_ok BadBody (as_at nexts_of nexts_at bytes) (e, rest) h)

  note_takes : note_read bytes ≡ Ok (e, rest) → Tells 3
  note_takes h = takes_of kind_byte part_bytes IsEntry entry.Note 3 reads_note (λ n. refl) (λ n. refl) (λ n f. f) bytes e rest (or_ok BadBody (as_at entry.Note note_at bytes) (e, rest) h)

  none : (kind : ℕ) → ◌≡◌ {A = Result (Entry × List ℕ) EntryFault} (Err BadKind) (Ok (e, rest)) → Tells kind
  none kind h = absurd cc

  parts_take : (kind : ℕ) → parts_read kind bytes ≡ Ok (e, rest) → Tells kind
  parts_take kind = by_kind Tells kind 0 _ _ _ head_takes (by_kind Tells kind 1 _ _ _ event_takes (by_kind Tells kind 2 _ _ _ nexts_takes (by_kind Tells kind 3 _ _ _ note_takes (none kind))))

parts_again : (e : Entry) (rest : List ℕ) → IsEntry e → parts_read (kind_byte e) (part_bytes e ++ rest) ≡ Ok (e, rest)
parts_again (entry.Head h) rest is =
    let one : 1 < 2 ^ 16 = omega arith in
    ap head_read (append_assoc (u16 1) (setting_bytes h) rest) ∙ rw (reads_u16.again 1 (setting_bytes h ++ rest) one, reads_head.again h rest is) refl
parts_again (entry.Event issued e) rest is =
    let behind = event_bytes e ++ rest in
    ap event_read (append_assoc (u32 issued) (event_bytes e) rest)
    ∙ ap (λ (o : Option (ℕ × List ℕ)). and_then (or_fault BadBody o) (λ issued. counted_event issued.0 issued.1 (event_decoded issued.1))) (reads_u32.again issued behind is.0)
    ∙ ap (counted_event issued behind) (event_codec.again e (event_bytes e) rest is.1)
    ∙ ap (λ (z : List ℕ). Ok (entry.Event issued e, z)) (drop_at (event_bytes e) rest (length (event_bytes e)) refl)
parts_again (entry.Nexts stream count) rest is = ap (or_fault BadBody) (as_again nexts_of reads_nexts (stream, count) rest is)
parts_again (entry.Note n) rest is = ap (or_fault BadBody) (as_again entry.Note reads_note n rest is)

-- ---- entries

kind_fits : (e : Entry) → kind_byte e < 256
kind_fits (entry.Head h) = omega arith
kind_fits e = omega arith

entry_takes : (bytes : List ℕ) (e : Entry) (rest : List ℕ) → entry_read bytes ≡ Ok (e, rest) → (bytes ≡ entry_bytes e ++ rest) × IsEntry e
entry_takes bytes e rest h =
    let a = then_ok (or_fault Truncated (number_at w8 bytes)) (λ kind. parts_read kind.0 kind.1) (e, rest) h in
    let k = reads_u8.takes bytes a.0.0 a.0.1 (or_ok Truncated (number_at w8 bytes) a.0 a.1) in
    let t = parts_take a.0.1 e rest a.0.0 a.2 in
    (k.0 ∙ ap (λ (z : List ℕ). z ++ a.0.1) (byte_alone a.0.0 k.1) ∙ ap (λ (n : ℕ). n ∷ a.0.1) (sym t.kind_is) ∙ ap (λ (z : List ℕ). kind_byte e ∷ z) t.parts, t.in_grammar)

entry_again : (e : Entry) (rest : List ℕ) → IsEntry e → entry_read (entry_bytes e ++ rest) ≡ Ok (e, rest)
entry_again e rest is =
    let behind = part_bytes e ++ rest in
    ap (λ (z : List ℕ). entry_read (z ++ behind)) (sym (byte_alone (kind_byte e) (kind_fits e)))
    ∙ ap (λ (o : Option (ℕ × List ℕ)). and_then (or_fault Truncated o) (λ kind. parts_read kind.0 kind.1)) (reads_u8.again (kind_byte e) behind (kind_fits e)) ∙ parts_again e rest is

-- what is left is no longer than all
pub left_within : (old bytes : List ℕ) (e : Entry) (rest : List ℕ) (n : ℕ) → n ≡ length rest → old ≡ bytes → entry_read old ≡ Ok (e, rest) → n ≤ length bytes
left_within old bytes e rest n is same h = omega (arith, is, ap length same, ap length (entry_takes old e rest h).0, length-append (entry_bytes e) rest)

pub entry_codec : IsCodec Spells decoded
entry_codec = record {
  takes = λ bytes e n h.
      let a = then_ok (entry_read bytes) (λ f. Ok (f.0, length bytes - length f.1)) (e, n) h in
      let t = entry_takes bytes a.0.0 a.0.1 a.1 in
      let text : List ℕ = entry_bytes a.0.0 in
      let used : ℕ = length bytes - length a.0.1 in
      let len : length text ≡ used = omega (arith, ap length t.0, length-append text a.0.1) in
      let made : Spells a.0.0 (take used bytes) × (used ≤ length bytes) = (record { in_grammar = t.1; written = ap (take used) t.0 ∙ take_at text a.0.1 used len }, omega arith) in
      subst (λ (q : Entry × ℕ). Spells q.0 (take q.1 bytes) × (q.1 ≤ length bytes)) (ok_is (a.0.0, used) (e, n) a.2) made;
  again = λ e text more s.
      let read : entry_read (text ++ more) ≡ Ok (e, more) = ap (λ (z : List ℕ). entry_read (z ++ more)) s.written ∙ entry_again e more s.in_grammar in
      let len : length (text ++ more) - length more ≡ length text = omega (arith, length-append text more) in
      ap (λ (r : Result (Entry × List ℕ) EntryFault). and_then r (λ f. Ok (f.0, length (text ++ more) - length f.1))) read ∙ ap (λ (n : ℕ). Ok (e, n)) len;
}

pub spelled_once : (e : Entry) (a b : List ℕ) → Spells e a → Spells e b → a ≡ b
spelled_once e a b s t = s.written ∙ sym t.written

-- a fault of an event is one of its entry
module _ (issued : ℕ) (behind : List ℕ) where
  of_event : (read : Result (Event × ℕ) EventFault) (fault : EventFault) → AnswersEvent read (Err fault) → Answers (counted_event issued behind read) (Err (fault_of_event fault))
  of_event (Ok e) event_fault.OutOfMemory h = refl
  of_event (Err fault) event_fault.OutOfMemory h = absurd cc
  of_event read fault h = ap (counted_event issued behind) h

  pub is_event_fault : (bytes : List ℕ) (fault : EventFault) (told : EntryFault) → number_at w32 bytes ≡ Some (issued, behind) → AnswersEvent (event_decoded behind) (Err fault) → told ≡ fault_of_event fault → Answers (event_read bytes) (Err told)
  is_event_fault bytes fault told counted h is =
      subst (λ (f : EntryFault). Answers (event_read bytes) (Err f)) (sym is)
      (subst (λ (o : Option (ℕ × List ℕ)). Answers (and_then (or_fault BadBody o) (λ issued. counted_event issued.0 issued.1 (event_decoded issued.1))) (Err (fault_of_event fault))) (sym counted) (of_event (event_decoded behind) fault h))

-- a fault of what was read is one of what was decoded
module _ (bytes : List ℕ) where
  abbrev sized : Result (Entry × List ℕ) EntryFault → Result (Entry × ℕ) EntryFault
  sized read = and_then read (λ f. Ok (f.0, length bytes - length f.1))

  stays : (read : Result (Entry × List ℕ) EntryFault) (fault : EntryFault) → Answers read (Err fault) → Answers (sized read) (Err fault)
  stays (Ok f) OutOfMemory h = refl
  stays (Err fault) OutOfMemory h = absurd cc
  stays read fault h = ap sized h

  pub fault_stays : (fault : EntryFault) → Answers (entry_read bytes) (Err fault) → Answers (decoded bytes) (Err fault)
  fault_stays fault = stays (entry_read bytes) fault
