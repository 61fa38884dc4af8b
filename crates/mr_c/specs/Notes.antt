-- notes of the host in the file of a kept device
use Rattle.std.specs.Prelude.{ℕ, List, length, Option, Result, Ok}
use Rattle.mr_desk.specs.Device.{notes_found}
use Rattle.mr_desk.specs.declared.device.Device.{Device}
use Rattle.mr_c.specs.Given.{at_place, by_desk, read_of, read_open}
use Rattle.mr_c.specs.declared.failure.Failure.{Failure}

-- how many notes the opening of a device found
abbrev pub count_in : Device → Result ℕ Failure
count_in device = read_of (λ notes. Ok (length notes)) (by_desk (notes_found device))

abbrev pub count_at : Option Device → Result ℕ Failure
count_at device = read_open count_in device

-- the bytes of one of them
abbrev pub note_in : Device → ℕ → Result (List ℕ) Failure
note_in device place = read_of (λ notes. at_place (λ note. note.bytes) notes place) (by_desk (notes_found device))

abbrev pub note_at : Option Device → ℕ → Result (List ℕ) Failure
note_at device place = read_open (λ d. note_in d place) device
