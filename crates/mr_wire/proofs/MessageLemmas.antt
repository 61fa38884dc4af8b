-- Messages are read from their parts.
use Rattle.std.proofs.Common.{◌≡◌, ℕ, ◌≤◌, ◌<◌, ◌^◌, true, false, List, ◌++◌, length, Option, Some, refl, arith, lit<, append_assoc}
use Rattle.mr_wire.proofs.Names.{IfSome, IsLabelSet, IsLetter, IsSomeAnd, Mail, Stands, Vec, card_bytes, flags_at, labels_at, le-leb, leb-true, message_at}
use Rattle.mr_wire.proofs.Names.{message_body_at, message_bytes, message_with, nat_le, number_at, only_at, text_at, u16, u32, w16, w32}
use Rattle.std.specs.Str.{IsUtf8, is_utf8}
use Rattle.std.proofs.lemmas.Str.{IsUtf8-from_is_utf8, is_utf8-from_IsUtf8}
use Rattle.mr_wire.proofs.Laws.{Reads, reads_like, reads_only, reads_as, reads_then, reads_counted, reads_bytes, reads_u16, reads_u32}
use Rattle.mr_wire.proofs.FilterLaws.{reads_label_set, reads_flags}
use Rattle.mr_wire.proofs.FilterLemmas.{if_set}

pub is_text : (bs : List ℕ) → IsUtf8 bs → is_utf8 bs ≡ true
is_text bs h = is_utf8-from_IsUtf8 bs h

pub no_text : (bs : List ℕ) → (IsUtf8 bs → ⊥) → is_utf8 bs ≡ false
no_text bs h = grind (arith, IsUtf8-from_is_utf8)

-- ---- the law

few_at : (most : ℕ) → most < 2 ^ 16 → Reads (λ n. n ≤ most) u16 (only_at (λ n. nat_le n most) (number_at w16))
few_at most lt = reads_like (λ n. n ≤ most) u16 (reads_only (λ n. nat_le n most) reads_u16) (λ n h. leb-true n most h.1) (λ n h. (omega arith, le-leb n most h)) (λ n. refl)

abbrev pub IsText : ℕ → List ℕ → Type 0
IsText most text = (length text ≤ most) × IsUtf8 text

reads_text : (most : ℕ) → most < 2 ^ 16 → Reads (IsText most) (λ text. u16 (length text) ++ text) (text_at most)
reads_text most lt = reads_like (IsText most) (λ text. u16 (length text) ++ text) (reads_only is_utf8 (reads_counted length (few_at most lt) reads_bytes))
    (λ text h. (h.0.0, IsUtf8-from_is_utf8 text h.1)) (λ text h. ((h.0, tt), is_utf8-from_IsUtf8 text h.1)) (λ text. refl)

few_32 : Reads (λ n. n ≤ 65536) u32 (only_at (λ n. nat_le n 65536) (number_at w32))
few_32 = reads_like (λ n. n ≤ 65536) u32 (reads_only (λ n. nat_le n 65536) reads_u32) (λ n h. leb-true n 65536 h.1) (λ n h. (omega arith, le-leb n 65536 h)) (λ n. refl)

reads_body : Reads (λ body. (length body ≤ 65536) × Unit {0}) (λ body. u32 (length body) ++ body) message_body_at
reads_body = reads_counted length few_32 reads_bytes

regrouped : (m : Mail) → (u16 (length m.from) ++ m.from) ++ ((u16 (length m.subject) ++ m.subject) ++ ((u32 (length m.body) ++ m.body) ++ card_bytes m)) ≡ message_bytes m
regrouped m = grind (arith, append_assoc)

pub reads_message : Reads IsLetter message_bytes message_at
reads_message = reads_like IsLetter message_bytes
    (reads_as (λ (p : List ℕ × (List ℕ × (List ℕ × (List (List ℕ) × (ℕ × ℕ))))). record { from = p.0; subject = p.1.0; body = p.1.1.0; labels = p.1.1.1.0; flags = p.1.1.1.1.0; day = p.1.1.1.1.1 })
    (λ (m : Mail). (m.from, (m.subject, (m.body, (m.labels, (m.flags, m.day)))))) (λ m. refl) (λ p. refl)
    (reads_then (reads_text 254 (lit< tt)) (λ _. reads_then (reads_text 998 (lit< tt)) (λ _. reads_then reads_body (λ _. reads_then reads_label_set (λ _. reads_then reads_flags (λ _. reads_u16)))))))
    (λ m h. record { mail_in = record { from_in = h.0.0; subject_in = h.1.0.0; body_in = h.1.1.0.0; card_in = record { labels_in = h.1.1.1.0; flags_in = h.1.1.1.1.0; day_in = h.1.1.1.1.1 } }; from_is = h.0.1; subject_is = h.1.0.1 })
    (λ m h. ((h.mail_in.from_in, h.from_is), ((h.mail_in.subject_in, h.subject_is), ((h.mail_in.body_in, tt), (h.mail_in.card_in.labels_in, (h.mail_in.card_in.flags_in, h.mail_in.card_in.day_in))))))
    regrouped

-- ---- reading

pub if_labels : {old new : List ℕ} {kept : Option (Vec (List ℕ))} {n : ℕ} → Stands (λ (v : Vec (List ℕ)). v.items) labels_at old kept new (λ labels. length labels ≡ n) → IfSome kept (λ v. IsLabelSet v.items)
if_labels {old} {new} {kept} s = if_set kept s.part s.is_part ((reads_label_set.takes old s.part new s.stands).1)

kept_message : (message : Option Mail) (kept : Option (Vec (List ℕ))) (labels : List (List ℕ)) (from subject body : List ℕ) (flags day : ℕ) → IfSome kept (λ v. v.items ≡ labels) →
    IfSome message (λ m. IsSomeAnd kept (λ v. m ≡ message_with from subject body v.items flags day)) → IfSome message (λ m. m ≡ message_with from subject body labels flags day)
kept_message message kept labels from subject body flags day is made = grind arith

pub stands_message : (old r1 r2 r3 r4 r5 new : List ℕ) (from subject body : List ℕ) (kept : Option (Vec (List ℕ))) (n flags day : ℕ) (message : Option Mail) →
    text_at 254 old ≡ Some (from, r1) → text_at 998 r1 ≡ Some (subject, r2) → message_body_at r2 ≡ Some (body, r3) → Stands (λ (v : Vec (List ℕ)). v.items) labels_at r3 kept r4 (λ labels. length labels ≡ n) →
    flags_at r4 ≡ Some (flags, r5) → number_at w16 r5 ≡ Some (day, new) → IfSome message (λ m. IsSomeAnd kept (λ v. m ≡ message_with from subject body v.items flags day)) →
    Stands (λ (m : Mail). m) message_at old message new (λ _. Unit {0})
stands_message old r1 r2 r3 r4 r5 new from subject body kept n flags day message e1 e2 e3 s e5 e6 made = record {
  part = message_with from subject body s.part flags day;
  stands = rw (e1, e2, e3, s.stands, e5, e6) refl;
  is_part = kept_message message kept s.part from subject body flags day s.is_part made;
  told = tt;
}
