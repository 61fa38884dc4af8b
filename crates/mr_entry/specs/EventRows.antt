-- worked rows: what the definitions of events give for small values
use Rattle.std.specs.Prelude.{◌≡◌, ℕ, List, [], ◌∷◌, ◌++◌, None, Ok, Err, refl, codes}
use Rattle.mr_version.specs.Name.{Name}
use Rattle.mr_mail.specs.Mail.{Mail}
use Rattle.mr_wire.specs.declared.frame.Body.TheVariants.{End}
use Rattle.mr_wire.specs.declared.frame.Frame.{Frame}
use Rattle.mr_wire.specs.declared.frame.Frame.TheVariants as frame
use Rattle.mr_wire.specs.inner.FrameParts.{descent_with}
use Rattle.mr_wire.specs.Reading.{run_at}
use Rattle.mr_replica.specs.declared.event.Event.{Event}
use Rattle.mr_replica.specs.declared.event.Event.TheVariants.{Create, Edit, Retire, Pull, Receive, CutIn, Answer, Next, CutOut, Vouch, Release}
use Rattle.mr_entry.specs.declared.event.fault.EventFault.TheVariants.{Truncated, TooLong, BadForm, BadKind, BadBody}
use Rattle.mr_entry.specs.Spelling.{event_bytes}
use Rattle.mr_entry.specs.Decoding.{event_decoded}

abbrev name : ℕ → ℕ → Name
name author counter = record { author = author; counter = counter }

-- a message from ann, with the label a, seen, of the day 7
abbrev message : Mail
message = record { from = codes "ann"; subject = codes "Hi"; body = codes "there"; labels = codes "a" ∷ []; flags = 1; day = 7 }

-- its bytes: sender, subject and body behind their lengths, labels, flags, day
abbrev message_row : List ℕ
message_row = 0 ∷ 3 ∷ 97 ∷ 110 ∷ 110 ∷ 0 ∷ 2 ∷ 72 ∷ 105 ∷ 0 ∷ 0 ∷ 0 ∷ 5 ∷ 116 ∷ 104 ∷ 101 ∷ 114 ∷ 101 ∷ 1 ∷ 1 ∷ 97 ∷ 1 ∷ 0 ∷ 7 ∷ []

-- a number of eight bytes
abbrev number_row : ℕ → List ℕ
number_row n = 0 ∷ 0 ∷ 0 ∷ 0 ∷ 0 ∷ 0 ∷ 0 ∷ n ∷ []

-- ---- an event of each kind: length, form, kind, and what the kind has

-- a create is its message
abbrev create_row : List ℕ
create_row = 0 ∷ 0 ∷ 0 ∷ 26 ∷ 1 ∷ 0 ∷ message_row

pub create_is : event_bytes (Create message) ≡ create_row
create_is = refl

-- an edit of 0.1 and 1.2
abbrev edit_row : List ℕ
edit_row = 0 ∷ 0 ∷ 0 ∷ 42 ∷ 1 ∷ 1 ∷ 0 ∷ 0 ∷ 0 ∷ 2 ∷ 0 ∷ 0 ∷ 0 ∷ 0 ∷ 0 ∷ 1 ∷ 0 ∷ 1 ∷ 0 ∷ 0 ∷ 0 ∷ 2 ∷ message_row

pub edit_is : event_bytes (Edit (name 0 1 ∷ name 1 2 ∷ []) message) ≡ edit_row
edit_is = refl

-- a retirement and a pull are their kind alone
pub retire_is : event_bytes Retire ≡ 0 ∷ 0 ∷ 0 ∷ 2 ∷ 1 ∷ 2 ∷ []
retire_is = refl

pub pull_is : (event_bytes Pull ≡ 0 ∷ 0 ∷ 0 ∷ 2 ∷ 1 ∷ 3 ∷ []) × (event_decoded (0 ∷ 0 ∷ 0 ∷ 2 ∷ 1 ∷ 3 ∷ 9 ∷ 9 ∷ []) ≡ Ok (Pull, 6))
pull_is = (refl, refl)

-- the end of the stream 1 of replica 0, for the session 1 of replica 1
abbrev end : Frame
end = frame.Record (record { header = record { source = 0; stream = 1; target = 1; session = 1; index = 4 }; body = End })

-- it is taken: the kind 6 of the frame, its header, and no body
abbrev receive_row : List ℕ
receive_row = 0 ∷ 0 ∷ 0 ∷ 27 ∷ 1 ∷ 4 ∷ 6 ∷ 0 ∷ 0 ∷ (number_row 1 ++ 0 ∷ 1 ∷ (number_row 1 ++ 0 ∷ 0 ∷ 0 ∷ 4 ∷ []))

pub receive_is : (event_bytes (Receive end) ≡ receive_row) × (event_decoded receive_row ≡ Ok (Receive end, 31))
receive_is = (refl, refl)

-- the session 3 is cut
pub cut_in_is : event_bytes (CutIn 3) ≡ 0 ∷ 0 ∷ 0 ∷ 10 ∷ 1 ∷ 5 ∷ number_row 3
cut_in_is = refl

-- replica 1 asks in its session 1 for what has the label inbox, and knows nothing of any item
abbrev ask : Event
ask = Answer (record { target = 1; session = 1; filter = record { all_labels = codes "inbox" ∷ []; no_labels = []; flags_on = 0; flags_off = 0; since = 0 } ∷ []; fragments = record { items = None; vector = [] } ∷ [] })

-- it has the length of its frame: 32
abbrev ask_row : List ℕ
ask_row = 0 ∷ 0 ∷ 0 ∷ 32 ∷ 1 ∷ 6 ∷ 0 ∷ 1 ∷ (number_row 1 ++ 1 ∷ 1 ∷ 5 ∷ 105 ∷ 110 ∷ 98 ∷ 111 ∷ 120 ∷ 0 ∷ 0 ∷ 0 ∷ 0 ∷ 0 ∷ 0 ∷ 0 ∷ 0 ∷ 1 ∷ 0 ∷ 0 ∷ 0 ∷ [])

pub ask_is : (event_bytes ask ≡ ask_row) × (event_decoded ask_row ≡ Ok (ask, 36))
unfolding run_at
ask_is = (refl, refl)

-- the stream 1 is drawn from, and cut
pub next_is : (event_bytes (Next 1) ≡ 0 ∷ 0 ∷ 0 ∷ 10 ∷ 1 ∷ 7 ∷ number_row 1) × (event_decoded (0 ∷ 0 ∷ 0 ∷ 10 ∷ 1 ∷ 7 ∷ number_row 1) ≡ Ok (Next 1, 14))
next_is = (refl, refl)

pub cut_out_is : event_bytes (CutOut 1) ≡ 0 ∷ 0 ∷ 0 ∷ 10 ∷ 1 ∷ 8 ∷ number_row 1
cut_out_is = refl

-- 1.1 is vouched for, and its receipt by replica 0 is taken
abbrev vouch_row : List ℕ
vouch_row = 0 ∷ 0 ∷ 0 ∷ 8 ∷ 1 ∷ 9 ∷ 0 ∷ 1 ∷ 0 ∷ 0 ∷ 0 ∷ 1 ∷ []

pub vouch_is : (event_bytes (Vouch (name 1 1)) ≡ vouch_row) × (event_decoded vouch_row ≡ Ok (Vouch (name 1 1), 12))
vouch_is = (refl, refl)

pub release_is : event_bytes (Release (record { giver = 0; descent = descent_with (name 1 1) (name 1 1) [] })) ≡ 0 ∷ 0 ∷ 0 ∷ 18 ∷ 1 ∷ 10 ∷ 0 ∷ 0 ∷ 0 ∷ 1 ∷ 0 ∷ 0 ∷ 0 ∷ 1 ∷ 0 ∷ 1 ∷ 0 ∷ 0 ∷ 0 ∷ 1 ∷ 0 ∷ 0 ∷ []
release_is = refl

-- ---- the edges of what is read

-- a kind is 0 to 10
pub last_kind : event_decoded (0 ∷ 0 ∷ 0 ∷ 2 ∷ 1 ∷ 10 ∷ []) ≡ Err BadBody
last_kind = refl

-- a length has four bytes
pub half_a_length : event_decoded (0 ∷ 0 ∷ 0 ∷ []) ≡ Err Truncated
half_a_length = refl

-- of 8,388,609 bytes there is no event, and of 8,388,608 they are not there
pub one_too_long : (event_decoded (0 ∷ 128 ∷ 0 ∷ 1 ∷ []) ≡ Err TooLong) × (event_decoded (0 ∷ 128 ∷ 0 ∷ 0 ∷ []) ≡ Err Truncated)
one_too_long = (refl, refl)

-- form and kind take two bytes, whether or not they are there
pub too_short : (event_decoded (0 ∷ 0 ∷ 0 ∷ 1 ∷ []) ≡ Err BadBody) × (event_decoded (0 ∷ 0 ∷ 0 ∷ 2 ∷ 1 ∷ []) ≡ Err Truncated)
too_short = (refl, refl)

-- the form comes before the kind, and the kind before the body
pub other_form : (event_decoded (0 ∷ 0 ∷ 0 ∷ 2 ∷ 2 ∷ 11 ∷ []) ≡ Err BadForm) × (event_decoded (0 ∷ 0 ∷ 0 ∷ 3 ∷ 1 ∷ 11 ∷ 0 ∷ []) ≡ Err BadKind)
other_form = (refl, refl)

-- a pull has no body
pub body_of_a_pull : event_decoded (0 ∷ 0 ∷ 0 ∷ 3 ∷ 1 ∷ 3 ∷ 0 ∷ []) ≡ Err BadBody
body_of_a_pull = refl

-- the bases that a count promises have to be there
pub hostile_count : event_decoded (0 ∷ 0 ∷ 0 ∷ 6 ∷ 1 ∷ 1 ∷ 255 ∷ 255 ∷ 255 ∷ 255 ∷ []) ≡ Err BadBody
unfolding run_at
hostile_count = refl
