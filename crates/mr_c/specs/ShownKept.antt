-- what the host of a kept device does, and what it is handed out
use Rattle.std.specs.Prelude.{◌==◌, not, ℕ, Bool, List, length, Option, Result, Ok, Err}
use Rattle.mr_hosted.specs.declared.act.Act.{Act}
use Rattle.mr_hosted.specs.declared.act.Act.TheVariants.{Write, Cut, Sync}
use Rattle.mr_replica.specs.declared.event.Reply.{Reply}
use Rattle.mr_replica.specs.declared.event.Reply.TheVariants.{Issued, Asked, Gave, Vouched}
use Rattle.mr_desk.specs.Device.{acts_of, replies_of}
use Rattle.mr_desk.specs.Told.{frame_by}
use Rattle.mr_desk.specs.Version.{numbers_of}
use Rattle.mr_desk.specs.declared.call.VersionNumbers.{VersionNumbers}
use Rattle.mr_desk.specs.declared.device.Device.{Device}
use Rattle.mr_c.specs.Given.{at_place, by_desk, read_of, read_open}
use Rattle.mr_c.specs.declared.failure.Failure.{Failure}
use Rattle.mr_c.specs.declared.failure.Failure.TheVariants.{NotThere}
use Rattle.mr_c.specs.declared.kept.HostAct.{HostAct}
use Rattle.mr_c.specs.declared.kept.HandedOut.{HandedOut}

-- 0 tells that an act failed
abbrev pub is_well : ℕ → Bool
is_well word = not (word == 0)

-- ---- acts

-- the act, and how many bytes it writes
abbrev pub shown_act : Act → HostAct
shown_act (Write at bytes) = record { kind = 0; at = at; len = length bytes.items }
shown_act (Cut len) = record { kind = 1; at = len; len = 0 }
shown_act Sync = record { kind = 2; at = 0; len = 0 }

abbrev pub act_in : Device → ℕ → Result HostAct Failure
act_in device place = read_of (λ acts. at_place shown_act acts place) (by_desk (acts_of device))

abbrev pub act_at : Option Device → ℕ → Result HostAct Failure
act_at device place = read_open (λ d. act_in d place) device

-- the bytes that an act writes
abbrev pub bytes_of : Act → Result (List ℕ) Failure
bytes_of (Write at bytes) = Ok bytes.items
bytes_of act = Err NotThere

abbrev pub written : List Act → ℕ → Result (List ℕ) Failure
written acts place = read_of bytes_of (at_place (λ act. act) acts place)

abbrev pub written_in : Device → ℕ → Result (List ℕ) Failure
written_in device place = read_of (λ acts. written acts place) (by_desk (acts_of device))

abbrev pub written_at : Option Device → ℕ → Result (List ℕ) Failure
written_at device place = read_open (λ d. written_in d place) device

-- ---- what is handed out

-- a version, a session's number, a record or a receipt
abbrev pub handed : ℕ → ℕ → VersionNumbers → HandedOut
handed kind number version = record { kind = kind; number = number; version = version }

abbrev pub no_version : VersionNumbers
no_version = record { author = 0; counter = 0 }

abbrev pub shown_reply : Reply → HandedOut
shown_reply (Issued version) = handed 0 0 (numbers_of version)
shown_reply (Asked ask) = handed 1 ask.session no_version
shown_reply (Gave sent) = handed 2 0 no_version
shown_reply (Vouched receipt) = handed 3 0 no_version
shown_reply reply = handed 4 0 no_version

abbrev pub reply_in : Device → ℕ → Result HandedOut Failure
reply_in device place = read_of (λ replies. at_place shown_reply replies place) (by_desk (replies_of device))

abbrev pub reply_at : Option Device → ℕ → Result HandedOut Failure
reply_at device place = read_open (λ d. reply_in d place) device

-- its frame
abbrev pub frame_in : Device → ℕ → Result (List ℕ) Failure
frame_in device place = read_of (λ replies. at_place frame_by replies place) (by_desk (replies_of device))

abbrev pub frame_at : Option Device → ℕ → Result (List ℕ) Failure
frame_at device place = read_open (λ d. frame_in d place) device
