-- the bytes of a frame, in the format that is written
use Rattle.std.specs.Prelude.{◌≡◌, ◌≤◌, ◌<◌, ◌+◌, ◌*◌, ℕ, List, length, sum_by, Result, Ok, Err}
use Rattle.std.specs.Global.{Vec}
use Rattle.mr_version.specs.declared.author.TheConstants.{AUTHORS}
use Rattle.mr_forms.specs.declared.fragment.TheConstants.{MAX_ITEMS}
use Rattle.mr_concise.specs.declared.column.TheConstants.{MAX_HOLES}
use Rattle.mr_wire.specs.declared.decoding.TheConstants.{MAX_REST_BYTES}
use Rattle.mr_wire.specs.declared.fault.WireFault.{WireFault}
use Rattle.mr_wire.specs.declared.fault.WireFault.TheVariants.{OutOfMemory, Truncated, TooLong, BadFormat, BadKind, BadBody}
use Rattle.mr_wire.specs.declared.frame.Frame.{Frame}
use Rattle.mr_wire.specs.declared.frame.Frame.TheVariants as frame
use Rattle.mr_wire.specs.declared.frame.TheConstants.{MAX_ASKED_BYTES}
use Rattle.mr_wire.specs.Values.{Piece}
use Rattle.mr_wire.specs.Spelling.{fragment_bytes}
use Rattle.mr_wire.specs.FrameSpelling.{rest_bytes, frame_bytes}

-- how many bytes the fragments take
abbrev pub total_len : List Piece → ℕ
total_len = sum_by (λ piece. length (fragment_bytes piece))

-- how many bytes a fragment takes at most: as many items as one may list, and a column with all its holes for each author
abbrev pub longest_fragment : ℕ
longest_fragment = 5 + 6 * MAX_ITEMS + (2 + AUTHORS * (8 + 8 * MAX_HOLES))

-- the fragments of a request take at most 8,000,000 bytes; a record or a receipt has no such limit to keep
abbrev pub HasShortFragments : Frame → Type 0
HasShortFragments (frame.Ask q) = total_len q.fragments ≤ MAX_ASKED_BYTES
HasShortFragments (frame.Record r) = Unit {0}
HasShortFragments (frame.Receipt r) = Unit {0}

-- What is answered is the frame's bytes, or that they would be too many. Memory runs out only where they aren't.
abbrev pub Encodes : Frame → Result (Vec ℕ) WireFault → Type 0
Encodes f (Ok v) = (v.items ≡ frame_bytes 2 f) × (length (rest_bytes 2 f) ≤ MAX_REST_BYTES)
Encodes f (Err TooLong) = MAX_REST_BYTES < length (rest_bytes 2 f)
Encodes f (Err OutOfMemory) = length (rest_bytes 2 f) ≤ MAX_REST_BYTES
Encodes f (Err Truncated) = ⊥
Encodes f (Err BadFormat) = ⊥
Encodes f (Err BadKind) = ⊥
Encodes f (Err BadBody) = ⊥
