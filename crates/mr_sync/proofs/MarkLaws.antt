-- marks: what bytes and logs say of them
use Rattle.std.proofs.Common.{◌≡◌, ◌≢◌, ◌↔◌, ◌≤◌, ◌<◌, ◌^◌, inl, inr, ℕ, Bool, true, false, IsTrue, List, ◌++◌, length, take, drop, Option, Some, None, refl, sym, ap, subst, ◌∙◌, append_assoc}
use Rattle.mr_sync.proofs.Names.{IsVersion, MatchBool, MatchOption, Name, false≢true, from_be_bytes, length-take-le, some_is, take-append-drop, to_be_bytes}
use Rattle.mr_sync.proofs.Names.{w32}
use Rattle.std.specs.Borrow.{Bor}
use Rattle.std.specs.Option.{option_copied}
use Rattle.std.proofs.lemmas.Nat.{be_bytes_4}
use Rattle.mr_mail.specs.Mail.{Mail}
use Rattle.mr_talk.proofs.MessageLaws.{IsBytes, bytes_take}
use Rattle.mr_lookup.specs.Told.{message_at}
use Rattle.mr_sync.specs.declared.marks.Mark.{Mark}
use Rattle.mr_sync.specs.Marks.{AgreesWith, IsMarked, Tells, TellsNoneOf, message_short}

-- bytes that are cut behind the fourth and the twentieth are a mark and what is behind it
pub cut_marked : (bytes four rest short frame : List ℕ) (counter : ℕ) → IsBytes bytes → four ≡ take 4 bytes → rest ≡ drop 4 bytes → 4 ≤ length bytes →
    short ≡ take 16 rest → frame ≡ drop 16 rest → 16 ≤ length rest → counter ≡ from_be_bytes w32 four → counter < 2 ^ 32 → IsMarked bytes (record { counter = counter; short = short }) frame
cut_marked bytes four rest short frame counter are is_four is_rest has_four is_short is_frame has_short value fits =
    let spelled : to_be_bytes w32 counter ≡ take 4 bytes =
    be_bytes_4 four counter (ap length is_four ∙ length-take-le 4 bytes has_four) (subst IsBytes (sym is_four) (bytes_take 4 bytes are)) value ∙ is_four in
    let behind : short ++ frame ≡ drop 4 bytes =
    ap (λ (l : List ℕ). l ++ frame) is_short ∙ ap (λ (l : List ℕ). take 16 rest ++ l) is_frame ∙ take-append-drop 16 rest ∙ is_rest in
    let all : (to_be_bytes w32 counter ++ short) ++ frame ≡ bytes =
    append_assoc (to_be_bytes w32 counter) short frame ∙ ap (λ (l : List ℕ). l ++ (short ++ frame)) spelled ∙ ap (λ (l : List ℕ). take 4 bytes ++ l) behind ∙ take-append-drop 4 bytes in
    record { counter_in = fits; short_long = ap length is_short ∙ length-take-le 16 rest has_short; whole = sym all }

none≢some : (message : Mail) → ◌≡◌ {A = Option Mail} None (Some message) → ⊥
none≢some message e = cc

-- a log tells one message of an author's version, or none
pub told_of : (told : List (Name × Mail)) (author counter : ℕ) (version : Name) → IsVersion author counter → version ≡ (record { author = author; counter = counter }) →
    (found : Option (Bor Mail)) → option_copied found ≡ message_at told version → MatchOption found (TellsNoneOf told author counter) (λ message. Tells told author counter message.now)
told_of told author counter version is named (Some message) e = record { is_version = is; is_told = sym (e ∙ ap (message_at told) named) }
told_of told author counter version is named None e = λ message tells. none≢some message (e ∙ ap (message_at told) named ∙ tells.is_told)
