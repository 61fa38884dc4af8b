-- worked rows: what the definitions give for small values
use Rattle.std.specs.Prelude.{◌≡◌, ℕ, List, [], ◌∷◌, pos, Some, None, Ok, Err, false, codes, refl}
use Rattle.std.proofs.Common.{arith}
use Rattle.mr_mail.specs.Mail.{Mail}
use Rattle.mr_version.specs.Name.{Name}
use Rattle.mr_version.specs.declared.fault.VersionFault.TheVariants.{BadVersion}
use Rattle.mr_entry.specs.Note.{NoteParts}
use Rattle.mr_desk.specs.Notes.{TakesNote}
use Rattle.mr_desk.specs.declared.call.Call.TheVariants.{Pull}
use Rattle.mr_desk.specs.declared.call.VersionNumbers.{VersionNumbers}
use Rattle.mr_desk.specs.declared.device.Device.{Device}
use Rattle.mr_hosted.specs.declared.act.Act.TheVariants as act
use Rattle.mr_replica.specs.declared.event.Reply.TheVariants as reply
use Rattle.mr_desk.specs.declared.fault.Fault.TheVariants as fault
use Rattle.mr_desk.specs.declared.reply.Told.TheVariants.{Issued, Done, Asked, Known}
use Rattle.mr_c.specs.Called.{Called, Does, number_told, outcome_told, version_told}
use Rattle.mr_c.specs.Code.{code_of, failure_number}
use Rattle.mr_c.specs.Given.{IsFilled, IsGiven, at_place}
use Rattle.mr_c.specs.Shown.{known, of_version, part_of, shown_card}
use Rattle.mr_c.specs.Notes.{count_at}
use Rattle.mr_c.specs.inner.Opened.{ClosedOnly}
use Rattle.mr_c.specs.Peer.{FindsCounter, birth_at}
use Rattle.mr_c.specs.ShownKept.{act_at, is_well, shown_act, shown_reply, written}
use Rattle.mr_c.specs.declared.failure.Failure.TheVariants.{Closed, InUse, NotThere, Desk}

-- ---- numbers

pub number_of_fault : failure_number (Desk (fault.Version BadVersion)) ≡ 258
number_of_fault = refl

pub number_of_closed : code_of {X = ℕ} (Err Closed) ≡ pos 2
number_of_closed = refl

-- ---- what is told

abbrev name : ℕ → ℕ → Name
name author counter = record { author = author; counter = counter }

abbrev numbers : ℕ → ℕ → VersionNumbers
numbers author counter = record { author = author; counter = counter }

pub issued_version : version_told (Ok (Issued (name 3 7))) (numbers 0 0) ≡ numbers 3 7
issued_version = refl

-- a variable stays as it was where nothing is told of it
pub no_version : version_told (Err Closed) (numbers 9 9) ≡ numbers 9 9
no_version = refl

pub no_number : number_told (Ok Done) 5 ≡ 5
no_number = refl

pub asked_number : number_told (Ok (Asked 8)) 5 ≡ 8
asked_number = refl

pub known_outcome : outcome_told (Ok Known) 7 ≡ 1
known_outcome = refl

-- a closed handle answers so, and stays closed
pub closed_is_called : Called None Pull (Err Closed) None
closed_is_called = (refl, refl)

-- ---- what is given

pub second_place : at_place (λ (n : ℕ). n) (4 ∷ 5 ∷ []) 1 ≡ Ok 5
second_place = refl

pub behind_the_last : at_place (λ (n : ℕ). n) (4 ∷ 5 ∷ []) 2 ≡ Err NotThere
behind_the_last = refl

pub given : IsGiven {X = ℕ} (Ok 5) 0 5 (pos 0)
given = (refl, refl)

-- two bytes at the front of three
pub filled : IsFilled {X = ℕ} (Ok (8 ∷ 9 ∷ [])) (1 ∷ 2 ∷ 3 ∷ []) (8 ∷ 9 ∷ 3 ∷ []) 77 2 (pos 0)
filled = (refl, record { fits = λ _. (refl, refl); too_many = λ more. absurd (omega (arith, more)) })

-- just as many as there is room for
pub filled_whole : IsFilled {X = ℕ} (Ok (8 ∷ 9 ∷ [])) (1 ∷ 2 ∷ []) (8 ∷ 9 ∷ []) 77 2 (pos 0)
filled_whole = (refl, record { fits = λ _. (refl, refl); too_many = λ more. absurd (omega (arith, more)) })

-- one too many: the length is told, and the buffer is as it was
pub too_small : IsFilled {X = ℕ} (Ok (8 ∷ 9 ∷ [])) (1 ∷ []) (1 ∷ []) 77 2 (pos 5)
too_small = (refl, record { fits = λ few. absurd (omega (arith, few)); too_many = λ _. (refl, refl) })

-- where nothing is found, the word is as it was too
pub not_filled : IsFilled {X = ℕ} (Err NotThere) (1 ∷ []) (1 ∷ []) 77 77 (pos 6)
not_filled = (refl, refl, refl)

-- ---- messages

abbrev mail : Mail
mail = record { from = codes "ann"; subject = codes "Hi"; body = codes "there"; labels = codes "a" ∷ codes "b" ∷ []; flags = 5; day = 20000 }

pub subject_is_second : part_of 1 mail ≡ Ok (codes "Hi")
subject_is_second = refl

pub no_fourth_part : part_of 3 mail ≡ Err NotThere
no_fourth_part = refl

pub card_row : shown_card mail ≡ record { labels = 2; flags = 5; day = 20000 }
card_row = refl

-- numbers that are no version's are told before anything is looked for
pub no_such_version : of_version {X = ℕ} (numbers 3 0) (Ok 1) ≡ Err (Desk (fault.Version BadVersion))
no_such_version = refl

pub known_when_closed : known None (numbers 3 0) (numbers 3 0) ≡ Err Closed
known_when_closed = refl

-- ---- kept devices

pub cut_row : shown_act (act.Cut 40) ≡ record { kind = 1; at = 40; len = 0 }
cut_row = refl

pub sync_row : shown_act act.Sync ≡ record { kind = 2; at = 0; len = 0 }
sync_row = refl

-- a cut writes no byte
pub cut_writes_none : written (act.Cut 40 ∷ []) 0 ≡ Err NotThere
cut_writes_none = refl

pub version_handed : shown_reply (reply.Issued (name 3 7)) ≡ record { kind = 0; number = 0; version = numbers 3 7 }
version_handed = refl

pub zero_is_unwell : is_well 0 ≡ false
zero_is_unwell = refl

pub acts_when_closed : act_at None 0 ≡ Err Closed
acts_when_closed = refl

-- ---- notes

pub no_count_when_closed : count_at None ≡ Err Closed
no_count_when_closed = refl

-- the second of two notes, and none behind it
abbrev two_notes : List NoteParts
two_notes = record { kind = 0; bytes = 7 ∷ [] } ∷ record { kind = 0; bytes = 8 ∷ 9 ∷ [] } ∷ []

pub second_note : at_place (λ (n : NoteParts). n.bytes) two_notes 1 ≡ Ok (8 ∷ 9 ∷ [])
second_note = refl

pub no_third_note : at_place (λ (n : NoteParts). n.bytes) two_notes 2 ≡ Err NotThere
no_third_note = refl

pub none_taken_when_closed : (bytes : List ℕ) → Does (TakesNote bytes) None (Err Closed) None
none_taken_when_closed bytes = (refl, refl)

-- ---- other devices

pub birth_when_closed : birth_at None ≡ Err Closed
birth_when_closed = refl

pub none_found_when_closed : FindsCounter (Err Closed) 3 (Err Closed)
none_found_when_closed = refl

-- ---- opening

-- an open one is not opened
pub open_is_refused : (d : Device) → ClosedOnly (Some d) (Err InUse) (Some d)
open_is_refused d = (refl, refl)
