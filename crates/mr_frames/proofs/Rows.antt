-- Worked examples that the definitions have to meet.
use Rattle.std.proofs.Common.{◌≡◌, ℕ, List, [], ◌∷◌, Some, None, Ok, Err, take, refl}
use Rattle.mr_wire.specs.declared.fault.WireFault.TheVariants.{Truncated, TooLong, BadKind, BadBody}
use Rattle.mr_wire.specs.declared.frame.Frame.{Frame}
use Rattle.mr_wire.specs.declared.frame.Frame.TheVariants.{Record}
use Rattle.mr_wire.specs.declared.frame.Body.TheVariants.{Start}
use Rattle.mr_wire.specs.declared.frame.Mode.TheVariants.{Full}
use Rattle.mr_wire.specs.Decoding.{decoded}
use Rattle.mr_frames.specs.declared.fault.FrameFault.TheVariants.{Wire, Failed}
use Rattle.mr_frames.specs.Stream.{Begins}
use Rattle.mr_frames.specs.Reader.{Nexts, ending}
use Rattle.mr_frames.specs.Calls.{Call, Fed, Asked, Runs, fed, given, told}
use Rattle.mr_frames.proofs.StreamLaws.{begins_decoded}

-- the first record of the stream 1 of replica 0, for session 1 of replica 1
abbrev start : Frame
start = Record (record { header = record { source = 0; stream = 1; target = 1; session = 1; index = 0 }; body = Start Full })

abbrev start_bytes : List ℕ
start_bytes =
    0 ∷ 0 ∷ 0 ∷ 27 ∷ 1 ∷ 1 ∷ 0 ∷ 0 ∷ 0 ∷ 0 ∷ 0 ∷ 0 ∷ 0 ∷ 0 ∷ 0 ∷ 1 ∷ 0 ∷ 1 ∷ 0 ∷ 0 ∷ 0 ∷ 0 ∷ 0 ∷ 0 ∷ 0 ∷ 1 ∷ 0 ∷ 0 ∷ 0 ∷ 0 ∷ 1 ∷ []

whole : decoded start_bytes ≡ Ok (start, 31)
whole = refl

lacks_a_byte : decoded (take 30 start_bytes) ≡ Err Truncated
lacks_a_byte = refl

begins : Begins start_bytes start []
begins = begins_decoded start_bytes start 31 whole

-- fed but for its last byte, asked for, fed the last byte, asked for, and asked for once more
abbrev cut : List Call
cut = Fed (take 30 start_bytes) (Ok tt) ∷ Asked (Ok None) ∷ Fed (1 ∷ []) (Ok tt) ∷ Asked (Ok (Some start)) ∷ Asked (Ok None) ∷ []

cut_runs : Runs (Some []) cut (Some [])
cut_runs = (Some (take 30 start_bytes), refl, (Some (take 30 start_bytes), (refl, refl), (Some start_bytes, refl, (Some [], ([], refl, begins), (Some [], (refl, refl), refl)))))

cut_was_fed : fed cut ≡ start_bytes
cut_was_fed = refl

cut_gives : given cut ≡ start ∷ []
cut_gives = refl

-- a kind that there is none of, and then whatever is fed
abbrev spoiled : List Call
spoiled = Fed (0 ∷ 0 ∷ 0 ∷ 2 ∷ 1 ∷ 9 ∷ []) (Ok tt) ∷ Asked (Err (Wire BadKind)) ∷ Fed start_bytes (Err Failed) ∷ Asked (Err Failed) ∷ []

spoiled_runs : Runs (Some []) spoiled None
spoiled_runs = (Some (0 ∷ 0 ∷ 0 ∷ 2 ∷ 1 ∷ 9 ∷ []), refl, (None, (refl, refl), (None, (refl, refl), (None, (refl, refl), refl))))

spoiled_tells : told spoiled ≡ BadKind ∷ []
spoiled_tells = refl

spoiled_ends : ending None ≡ Err Failed
spoiled_ends = refl

-- a length that no frame has is told at once, and one that a frame may have is waited for
too_long : Nexts (Some (0 ∷ 128 ∷ 0 ∷ 1 ∷ [])) (Err (Wire TooLong)) None
too_long = (refl, refl)

longest : Nexts (Some (0 ∷ 128 ∷ 0 ∷ 0 ∷ [])) (Ok None) (Some (0 ∷ 128 ∷ 0 ∷ 0 ∷ []))
longest = (refl, refl)

too_short : Nexts (Some (0 ∷ 0 ∷ 0 ∷ 1 ∷ [])) (Err (Wire BadBody)) None
too_short = (refl, refl)

three_bytes : ending (Some (0 ∷ 0 ∷ 0 ∷ [])) ≡ Err (Wire Truncated)
three_bytes = refl
