-- worked rows: what the definitions give for small values
use Rattle.std.specs.Prelude.{◌≡◌, ◌++◌, ℕ, List, [], ◌∷◌, Some, None, Ok, Err, codes, refl}
use Rattle.mr_wire.specs.inner.FrameParts.{descent_with}
use Rattle.mr_wire.specs.FrameSpelling.{frame_bytes}
use Rattle.mr_wire.specs.Reading.{run_at}
use Rattle.mr_wire.specs.declared.fault.WireFault.TheVariants as wire
use Rattle.mr_wire.specs.declared.frame.Frame.{Frame}
use Rattle.mr_wire.specs.declared.frame.Frame.TheVariants as frame
use Rattle.mr_version.specs.Name.{Name}
use Rattle.mr_version.specs.declared.fault.VersionFault.TheVariants.{NoSuchAuthor, BadVersion}
use Rattle.mr_journal.specs.declared.fault.JournalFault.TheVariants as journal
use Rattle.mr_kept.specs.declared.fault.KeptFault.TheVariants as kept
use Rattle.mr_kept.specs.declared.fault.OpenFault.TheVariants as opens
use Rattle.mr_kept.specs.declared.peer.PeerFault.TheVariants as peer
use Rattle.mr_replica.specs.declared.event.Reply.TheVariants as reply
use Rattle.mr_replica.specs.declared.replica.replay.ReplayFault.TheVariants.{BadLimit}
use Rattle.mr_replica.specs.declared.refusal.Refusal.TheVariants.{NoSession, OutOfMemory as NoMemory}
use Rattle.mr_mail.specs.Mail.{Mail, MailCard}
use Rattle.mr_maildir.specs.declared.policy.MergeFault.TheVariants as merge
use Rattle.mr_feed.specs.declared.entry.Entry.TheVariants.{Added, Dropped}
use Rattle.mr_madewith.specs.Revision.{Rev}
use Rattle.mr_desk.specs.Device.{notes_found}
use Rattle.mr_desk.specs.Draft.{labels_of}
use Rattle.mr_desk.specs.Fault.{fault_number}
use Rattle.mr_desk.specs.Frames.{announced, any_frame, claim_by, frame_fault, only_ask, only_receipt}
use Rattle.mr_desk.specs.Kept.{told_of}
use Rattle.mr_desk.specs.KeptOpening.{given}
use Rattle.mr_desk.specs.Merge.{last_under, said_together, unmerged}
use Rattle.mr_desk.specs.Notes.{TakesNote, note_of}
use Rattle.mr_desk.specs.Peer.{birth_of, births_fault, heard_fault, told_verdict}
use Rattle.mr_desk.specs.Told.{frame_by, told_by}
use Rattle.mr_desk.specs.Version.{first_version_fault, version_fault}
use Rattle.mr_desk.specs.declared.call.VersionNumbers.{VersionNumbers}
use Rattle.mr_desk.specs.declared.device.Device.TheVariants as device
use Rattle.mr_desk.specs.declared.fault.Fault.TheVariants.{OutOfMemory, BytesBehind, OtherFrame, Failed, NoConflict, Version, Wire, Refused, Open, Merge, Peer}
use Rattle.mr_desk.specs.declared.peer.Born.{Born}
use Rattle.mr_desk.specs.declared.reply.Told.TheVariants as told

-- ---- faults

-- a family has its numbers behind its own: 4 for frames, 7 for refusals
pub number_of_wire : fault_number (Wire wire.Truncated) ≡ 1025
number_of_wire = refl

pub number_of_refusal : fault_number (Refused NoSession) ≡ 1804
number_of_refusal = refl

-- want of memory has one number, wherever it came
pub number_of_memory : fault_number (Refused NoMemory) ≡ fault_number OutOfMemory
number_of_memory = refl

-- of opening a file it is that of the fault which it carries, and else one of family 8
pub number_of_copied : fault_number (Open opens.Copied) ≡ 2057
number_of_copied = refl

pub number_of_damaged : fault_number (Open (opens.Journal (journal.Damaged 7))) ≡ 2308
number_of_damaged = refl

pub number_of_limit : fault_number (Open (opens.Replay BadLimit)) ≡ 1537
number_of_limit = refl

pub number_of_failed : fault_number (Open (opens.Kept kept.Failed)) ≡ fault_number Failed
number_of_failed = refl

pub number_of_contents : fault_number (Merge merge.ContentsDiffer) ≡ 2561
number_of_contents = refl

pub number_of_old_copy : fault_number (Peer peer.OldCopy) ≡ 2817
number_of_old_copy = refl

-- ---- versions by their numbers

abbrev numbers : ℕ → ℕ → VersionNumbers
numbers author counter = record { author = author; counter = counter }

pub last_version : version_fault (numbers 63 1000000) ≡ None
last_version = refl

pub counter_behind : version_fault (numbers 63 1000001) ≡ Some BadVersion
counter_behind = refl

-- the author comes first
pub author_before_counter : version_fault (numbers 64 0) ≡ Some NoSuchAuthor
author_before_counter = refl

-- the first of several that is none tells
pub first_of_several : first_version_fault (numbers 0 1 ∷ numbers 1 0 ∷ numbers 64 1 ∷ []) ≡ Some BadVersion
first_of_several = refl

-- ---- what another replica tells

abbrev born : ℕ → Born
born author = record { author = author; birth = 7 ∷ [] }

pub last_author : births_fault (born 0 ∷ born 63 ∷ []) ≡ None
last_author = refl

pub no_such_author : births_fault (born 0 ∷ born 64 ∷ born 1 ∷ []) ≡ Some NoSuchAuthor
no_such_author = refl

-- of versions and journals the versions come first
pub versions_first : heard_fault (numbers 0 0 ∷ []) (born 64 ∷ []) ≡ Some (Version BadVersion)
versions_first = refl

pub nothing_heard : heard_fault [] [] ≡ None
nothing_heard = refl

pub told_old_copy : told_verdict (Ok (Err peer.OldCopy)) ≡ Err (Peer peer.OldCopy)
told_old_copy = refl

pub failed_has_no_birth : birth_of device.Failed ≡ Err Failed
failed_has_no_birth = refl

-- ---- notes

pub note_of_two_bytes : note_of (7 ∷ 8 ∷ []) ≡ record { kind = 0; bytes = 7 ∷ 8 ∷ [] }
note_of_two_bytes = refl

pub failed_found_no_note : notes_found device.Failed ≡ Err Failed
failed_found_no_note = refl

-- a device that has failed takes none either, and stays so
pub failed_takes_no_note : TakesNote (7 ∷ []) device.Failed (Err Failed) device.Failed
failed_takes_no_note = (refl, refl)

-- ---- labels

pub no_label : labels_of [] ≡ []
no_label = refl

pub two_labels : labels_of (codes "inbox,work") ≡ codes "inbox" ∷ codes "work" ∷ []
two_labels = refl

-- a comma alone has an empty part on either side
pub empty_labels : labels_of (codes ",") ≡ [] ∷ [] ∷ []
empty_labels = refl

-- ---- frames

-- a length of seven, and its own four bytes
pub eleven_bytes : announced (0 ∷ 0 ∷ 0 ∷ 7 ∷ 2 ∷ []) ≡ Ok 11
eleven_bytes = refl

pub three_bytes : announced (0 ∷ 0 ∷ 0 ∷ []) ≡ Err wire.Truncated
three_bytes = refl

-- 8,388,608 bytes may follow a length, and no more
pub longest_frame : announced (0 ∷ 128 ∷ 0 ∷ 0 ∷ []) ≡ Ok 8388612
longest_frame = refl

pub too_long_a_frame : announced (0 ∷ 128 ∷ 0 ∷ 1 ∷ []) ≡ Err wire.TooLong
too_long_a_frame = refl

abbrev name : ℕ → ℕ → Name
name author counter = record { author = author; counter = counter }

-- replica 5 has the version 1.1
abbrev receipt : Frame
receipt = frame.Receipt (record { giver = 5; descent = descent_with (name 1 1) (name 1 1) [] })

abbrev receipt_row : List ℕ
receipt_row = frame_bytes 2 receipt

pub receipt_is_taken : frame_fault only_receipt receipt_row ≡ None
unfolding run_at
receipt_is_taken = refl

pub receipt_is_no_ask : frame_fault only_ask receipt_row ≡ Some OtherFrame
unfolding run_at
receipt_is_no_ask = refl

-- bytes behind it are told before its kind
pub receipt_with_more : frame_fault only_ask (receipt_row ++ 0 ∷ []) ≡ Some BytesBehind
unfolding run_at
receipt_with_more = refl

pub no_frame : frame_fault any_frame [] ≡ Some (Wire wire.Truncated)
no_frame = refl

pub receipt_claims : claim_by receipt ≡ record { kind = 2; author = 5 }
receipt_claims = refl

-- ---- replies

-- an issued version is told, and gives no frame
pub issued_is_told : told_by (reply.Issued (name 1 1)) ≡ told.Issued (name 1 1)
issued_is_told = refl

pub issued_gives_none : frame_by (reply.Issued (name 1 1)) ≡ []
issued_gives_none = refl

-- a receipt is the frame, and nothing else is told
pub receipt_gives : frame_by (reply.Vouched (record { giver = 5; descent = descent_with (name 1 1) (name 1 1) [] })) ≡ receipt_row
receipt_gives = refl

pub receipt_tells_nothing : told_by (reply.Vouched (record { giver = 5; descent = descent_with (name 1 1) (name 1 1) [] })) ≡ told.Done
receipt_tells_nothing = refl

-- ---- a replica whose host writes

-- of a version that is held back it is told that it is done
pub version_waits : told_of None ≡ told.Done
version_waits = refl

-- a stream's number is told at once
pub stream_is_told : told_of (Some (reply.Streaming 4)) ≡ told.Streaming 4
stream_is_told = refl

pub no_birth : given [] ≡ None
no_birth = refl

pub some_birth : given (1 ∷ 2 ∷ []) ≡ Some (1 ∷ 2 ∷ [])
some_birth = refl

-- ---- merges

abbrev mail : (subject label : List ℕ) (flags : ℕ) → Mail
mail subject label flags = record { from = []; subject = subject; body = []; labels = label ∷ []; flags = flags; day = 0 }

abbrev card : (label : List ℕ) → MailCard
card label = record { labels = label ∷ []; flags = 0; day = 0 }

-- one head moves the mail, and another reads it: over where it stood it is moved and read
pub moved_and_read : said_together (Some (card (codes "inbox"))) (mail [] (codes "inbox") 1 ∷ mail [] (codes "work") 0 ∷ []) ≡ record { labels = codes "work" ∷ []; flags = 1 }
moved_and_read = refl

-- over nothing it stands in both
pub read_in_both : said_together None (mail [] (codes "inbox") 1 ∷ mail [] (codes "work") 0 ∷ []) ≡ record { labels = codes "inbox" ∷ codes "work" ∷ []; flags = 1 }
read_in_both = refl

-- one head alone isn't merged, nor are two that say the same
pub one_head : unmerged None (mail [] (codes "inbox") 1 ∷ []) ≡ Some NoConflict
one_head = refl

pub alike_heads : unmerged None (mail [] (codes "inbox") 1 ∷ mail [] (codes "inbox") 1 ∷ []) ≡ Some NoConflict
alike_heads = refl

-- where a subject differs too, that is told first
pub other_subject : unmerged None (mail (codes "a") (codes "inbox") 1 ∷ mail (codes "b") (codes "inbox") 1 ∷ []) ≡ Some (Merge merge.ContentsDiffer)
other_subject = refl

-- a head of the item 0.1 that supersedes the first so many versions of author 0
abbrev head_over : ℕ → Mail → Rev
head_over upto message = record { item = name 0 1; version = name 1 1; below = record { author = 0; column = record { upto = upto; holes = [] } } ∷ []; message = message }

-- of two versions that a head supersedes the last counts, and one that it doesn't is passed over
pub last_came : last_under (head_over 2 (mail [] [] 0) ∷ []) (Added (name 0 1) (name 0 1) (card (codes "a")) ∷ Added (name 0 1) (name 0 2) (card (codes "b")) ∷ Dropped (name 0 1) (name 0 1) ∷ Added (name 0 1) (name 0 3) (card (codes "c")) ∷ []) ≡ Some (card (codes "b"))
last_came = refl
