-- worked rows: what the definitions give for small values
use Rattle.std.specs.Prelude.{◌≡◌, ℕ, List, [], ◌∷◌, ◌++◌, take, drop, map, Some, None, Ok, Err, refl}
use Rattle.mr_wire.specs.declared.fault.WireFault.TheVariants.{OutOfMemory, Truncated, TooLong, BadKind, BadBody}
use Rattle.mr_wire.specs.declared.frame.Body.{Body}
use Rattle.mr_wire.specs.declared.frame.Body.TheVariants.{Start, End}
use Rattle.mr_wire.specs.declared.frame.Frame.{Frame}
use Rattle.mr_wire.specs.declared.frame.Frame.TheVariants.{Record}
use Rattle.mr_wire.specs.declared.frame.Mode.TheVariants.{Partial}
use Rattle.mr_wire.specs.Decoding.{decoded}
use Rattle.mr_wire.proofs.DecodeLaws.{decoded_takes}
use Rattle.mr_frames.specs.declared.fault.FrameFault.TheVariants.{Wire, Failed}
use Rattle.mr_frames.specs.Stream.{Begins, AreFrames}
use Rattle.mr_frames.specs.inner.Stream.{Takes}
use Rattle.mr_frames.specs.Reader.{Feeds, Nexts, ending}
use Rattle.mr_frames.specs.Calls.{Call, Fed, Asked, fed, given, told, Ends, ComesTo, IsDrained}

-- a record of the stream 1 of replica 0, for the session 1 of replica 1
abbrev sent : (index : ℕ) → Body → Frame
sent index body = Record (record { header = record { source = 0; stream = 1; target = 1; session = 1; index = index }; body = body })

-- its header's bytes: source, stream, target, session and index
abbrev header_row : ℕ → List ℕ
header_row index = 0 ∷ 0 ∷ 0 ∷ 0 ∷ 0 ∷ 0 ∷ 0 ∷ 0 ∷ 0 ∷ 1 ∷ 0 ∷ 1 ∷ 0 ∷ 0 ∷ 0 ∷ 0 ∷ 0 ∷ 0 ∷ 0 ∷ 1 ∷ 0 ∷ 0 ∷ 0 ∷ index ∷ []

-- a partial stream that starts, in the format 1, and ends at once, in the format 2
abbrev start_row : List ℕ
start_row = 0 ∷ 0 ∷ 0 ∷ 27 ∷ 1 ∷ 1 ∷ (header_row 0 ++ 0 ∷ [])

abbrev end_row : List ℕ
end_row = 0 ∷ 0 ∷ 0 ∷ 26 ∷ 2 ∷ 6 ∷ header_row 1

-- three bytes that a length begins with
abbrev rest_row : List ℕ
rest_row = 0 ∷ 0 ∷ 0 ∷ []

abbrev stream_row : List ℕ
stream_row = start_row ++ (end_row ++ rest_row)

-- ---- frames of a stream

-- bytes that a frame is decoded from begin with it
begins : (bytes : List ℕ) (f : Frame) (n : ℕ) → decoded bytes ≡ Ok (f, n) → bytes ≡ take n bytes ++ drop n bytes → Begins bytes f (drop n bytes)
begins bytes f n e whole = let d = decoded_takes bytes f n e in record { format = d.format; text = take n bytes; spelled = d.spelled; whole = whole }

-- the stream begins with its first frame, and what follows is left
pub first_frame : Begins stream_row (sent 0 (Start Partial)) (end_row ++ rest_row)
first_frame = begins stream_row (sent 0 (Start Partial)) 31 refl refl

-- it is two frames, each in its own format, and a rest
pub two_frames : AreFrames stream_row (sent 0 (Start Partial) ∷ sent 1 End ∷ []) rest_row
two_frames = (end_row ++ rest_row, first_frame, (rest_row, begins (end_row ++ rest_row) (sent 1 End) 30 refl refl, refl))

-- the rest is no frame yet, and no fault
pub comes_to_two : ComesTo stream_row (sent 0 (Start Partial) ∷ sent 1 End ∷ []) [] (Some rest_row)
comes_to_two = record { rest = rest_row; spelled = two_frames; ends = refl }

-- no bytes are no frames, and leave nothing
pub no_bytes : AreFrames [] [] []
no_bytes = refl

-- ---- the first frame is taken, or nothing changes

-- a frame is taken with its bytes alone
pub takes_first : Takes stream_row (Ok (Some (sent 0 (Start Partial)))) (end_row ++ rest_row)
takes_first = first_frame

-- a rest that lacks its end is left as it is
pub takes_none : Takes rest_row (Ok None) rest_row
takes_none = (refl, refl)

-- a length that no frame has is a fault before its bytes are there
pub takes_too_long : Takes (255 ∷ 255 ∷ 255 ∷ 255 ∷ []) (Err TooLong) (255 ∷ 255 ∷ 255 ∷ 255 ∷ [])
takes_too_long = (refl, refl)

-- that the end lacks is never told as a fault
pub never_truncated : ¬ Takes rest_row (Err Truncated) rest_row
never_truncated given = given

-- ---- a reader

-- a piece goes behind the rest
pub feeds_behind : Feeds (Some rest_row) (26 ∷ 2 ∷ []) (Ok tt) (Some (0 ∷ 0 ∷ 0 ∷ 26 ∷ 2 ∷ []))
feeds_behind = refl

-- a reader that has failed takes nothing more
pub feeds_no_more : Feeds None end_row (Err Failed) None
feeds_no_more = (refl, refl)

-- a frame is given, and what follows it stays
pub next_frame : Nexts (Some stream_row) (Ok (Some (sent 0 (Start Partial)))) (Some (end_row ++ rest_row))
next_frame = (end_row ++ rest_row, refl, first_frame)

-- a reader fails with a fault of the rest
pub next_fault : Nexts (Some (0 ∷ 0 ∷ 0 ∷ 2 ∷ 2 ∷ 9 ∷ [])) (Err (Wire BadKind)) None
next_fault = (refl, refl)

-- and it does not where memory lacks
pub next_out_of_memory : Nexts (Some end_row) (Err (Wire OutOfMemory)) (Some end_row)
next_out_of_memory = (refl, refl)

-- a stream ends well where nothing is left, and else as truncated or failed
pub endings : map ending (Some [] ∷ Some rest_row ∷ None ∷ []) ≡ Ok tt ∷ Err (Wire Truncated) ∷ Err Failed ∷ []
endings = refl

-- ---- calls

-- both frames are fed, memory lacks for a piece more and then for a frame, both frames are given, and a length that no frame has comes behind them
abbrev calls : List Call
calls = Fed (start_row ++ end_row) (Ok tt) ∷ Asked (Ok (Some (sent 0 (Start Partial)))) ∷ Fed (7 ∷ []) (Err (Wire OutOfMemory)) ∷ Asked (Err (Wire OutOfMemory)) ∷ Asked (Ok (Some (sent 1 End))) ∷ Asked (Ok None) ∷ Fed (0 ∷ 0 ∷ 0 ∷ 0 ∷ []) (Ok tt) ∷ Asked (Err (Wire BadBody)) ∷ Asked (Err Failed) ∷ []

-- what was not taken was not fed
pub calls_fed : fed calls ≡ start_row ++ (end_row ++ 0 ∷ 0 ∷ 0 ∷ 0 ∷ [])
calls_fed = refl

-- the frames are given once each, in their order
pub calls_gave : given calls ≡ sent 0 (Start Partial) ∷ sent 1 End ∷ []
calls_gave = refl

-- neither that memory lacks nor that the reader has failed is a fault of the stream
pub calls_told : told calls ≡ BadBody ∷ []
calls_told = refl

-- with its fault told the reader has failed
pub ends_with_fault : Ends (BadBody ∷ []) (0 ∷ 0 ∷ 0 ∷ 0 ∷ []) None
ends_with_fault = (refl, (λ same. absurd (cc)), refl)

-- no two faults are told
pub one_fault_at_most : ¬ Ends (BadBody ∷ BadBody ∷ []) (0 ∷ 0 ∷ 0 ∷ 0 ∷ []) None
one_fault_at_most given = given

-- a reader is drained where its rest lacks the end of a frame, where it has no rest, and where it failed
pub drained_by_rest : IsDrained (Some rest_row)
drained_by_rest = refl

-- no bytes at all lack the end of a frame
pub drained_by_nothing : IsDrained (Some [])
drained_by_nothing = refl

-- it is not while it has a whole frame
pub not_drained : ¬ IsDrained (Some end_row)
not_drained given = absurd (cc)
