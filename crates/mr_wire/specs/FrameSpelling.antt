-- how frames are spelled
use Rattle.std.specs.Prelude.{ℕ, List, [], ◌∷◌, ◌++◌, length}
use Rattle.std.specs.List.{flat_map}
use Rattle.mr_madewith.specs.Revision.{Rev}
use Rattle.mr_wire.specs.declared.frame.Mode.{Mode}
use Rattle.mr_wire.specs.declared.frame.Mode.TheVariants.{Partial, Full}
use Rattle.mr_wire.specs.declared.frame.Header.{Header}
use Rattle.mr_wire.specs.declared.frame.Body.{Body}
use Rattle.mr_wire.specs.declared.frame.Body.TheVariants as body
use Rattle.mr_wire.specs.declared.frame.Frame.{Frame}
use Rattle.mr_wire.specs.declared.frame.Frame.TheVariants as frame
use Rattle.mr_wire.specs.declared.kind.Kind.{Kind}
use Rattle.mr_wire.specs.declared.kind.Kind.TheVariants as kind
use Rattle.mr_wire.specs.Values.{DescentParts}
use Rattle.mr_wire.specs.Frames.{Question}
use Rattle.mr_wire.specs.Kinds.{kind_byte}
use Rattle.mr_wire.specs.Spelling.{u8, u16, u32, u64, vector_bytes, filter_bytes, message_bytes, fragment_bytes, descent_bytes}

-- a header: source, stream, target, session, index
abbrev pub header_bytes : Header → List ℕ
header_bytes h = u16 h.source ++ (u64 h.stream ++ (u16 h.target ++ (u64 h.session ++ u32 h.index)))

-- 0 partial, 1 full
abbrev pub mode_byte : Mode → ℕ
mode_byte Partial = 0
mode_byte Full = 1

abbrev pub descent_of : Rev → DescentParts
descent_of r = record { item = r.item; version = r.version; below = r.below }

-- what stands behind a record's header
abbrev pub body_bytes : Body → List ℕ
body_bytes (body.Start mode) = u8 (mode_byte mode)
body_bytes (body.Item r) = descent_bytes (descent_of r) ++ message_bytes r.message
body_bytes (body.MoveOut descent) = descent_bytes descent
body_bytes (body.Held vector) = vector_bytes vector
body_bytes (body.Know piece) = fragment_bytes piece
body_bytes body.End = []

-- a request: target, session, filter, count of fragments, fragments
abbrev pub ask_bytes : Question → List ℕ
ask_bytes q = u16 q.target ++ (u64 q.session ++ (filter_bytes q.filter ++ (u32 (length q.fragments) ++ flat_map fragment_bytes q.fragments)))

-- what stands behind the kind
abbrev pub part_bytes : Frame → List ℕ
part_bytes (frame.Ask q) = ask_bytes q
part_bytes (frame.Record r) = header_bytes r.header ++ body_bytes r.body
part_bytes (frame.Receipt r) = u16 r.giver ++ descent_bytes r.descent

abbrev pub kind_of_body : Body → Kind
kind_of_body (body.Start mode) = kind.Start
kind_of_body (body.Item r) = kind.Item
kind_of_body (body.MoveOut descent) = kind.MoveOut
kind_of_body (body.Held vector) = kind.Held
kind_of_body (body.Know piece) = kind.Know
kind_of_body body.End = kind.End

abbrev pub kind_of : Frame → Kind
kind_of (frame.Ask q) = kind.Ask
kind_of (frame.Record r) = kind_of_body r.body
kind_of (frame.Receipt r) = kind.Receipt

-- what stands behind the length: format, kind, and what the kind has
abbrev pub rest_bytes : ℕ → Frame → List ℕ
rest_bytes format f = format ∷ kind_byte (kind_of f) ∷ part_bytes f

-- a frame in a format: length, and so many bytes
abbrev pub frame_bytes : ℕ → Frame → List ℕ
frame_bytes format f = u32 (length (rest_bytes format f)) ++ rest_bytes format f
