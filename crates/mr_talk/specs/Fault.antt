-- the numbers by which a host knows faults
use Rattle.std.specs.Prelude.{ℕ, List, [], ◌∷◌, Option, Some, None}
use Rattle.std.specs.Int.{w16, from_be_bytes}
use Rattle.mr_talk.specs.declared.fault.MessageFault.{MessageFault}
use Rattle.mr_talk.specs.declared.fault.LineFault.{LineFault}
use Rattle.mr_talk.specs.declared.fault.LineFault.TheVariants as line
use Rattle.mr_talk.specs.declared.talk_fault.TalkFault.{TalkFault}
use Rattle.mr_talk.specs.declared.talk_fault.TalkFault.TheVariants as talk
use Rattle.mr_talk.specs.declared.hello.HelloFault.{HelloFault}
use Rattle.mr_talk.specs.declared.hello.HelloFault.TheVariants as hello
use Rattle.mr_talk.specs.declared.fault.MessageFault.TheVariants.{OutOfMemory, Truncated, BadKind, TooLong, Failed}

abbrev pub fault_number : MessageFault → ℕ
fault_number OutOfMemory = 0
fault_number Truncated = 1
fault_number BadKind = 2
fault_number TooLong = 3
fault_number Failed = 4

abbrev pub hello_fault_number : HelloFault → ℕ
hello_fault_number hello.Length = 1
hello_fault_number hello.Format = 2
hello_fault_number hello.Id = 3
hello_fault_number hello.Waiting = 4
hello_fault_number hello.KeepsAll = 5

abbrev pub line_fault_number : LineFault → ℕ
line_fault_number (line.Message fault) = fault_number fault
line_fault_number line.Closed = 5
line_fault_number line.Read = 6
line_fault_number line.Write = 7

abbrev pub talk_fault_number : TalkFault → ℕ
talk_fault_number (talk.Line fault) = line_fault_number fault
talk_fault_number (talk.Hello fault) = 8
talk_fault_number talk.OutOfPlace = 9
talk_fault_number (talk.Host fault) = 10
talk_fault_number (talk.Told bytes) = 11

-- the number that the bytes of a told fault begin with
abbrev pub told_number : List ℕ → Option ℕ
told_number [] = None
told_number (a ∷ []) = None
told_number (a ∷ b ∷ text) = Some (from_be_bytes w16 (a ∷ b ∷ []))
