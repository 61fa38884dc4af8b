-- worked rows: what the definitions give for small values
use Rattle.std.specs.Prelude.{◌≡◌, ℕ, true, false, List, [], ◌∷◌, ◌++◌, Option, Some, None, Ok, Err, map, refl}
use Rattle.std.proofs.Common.{subst}
use Rattle.mr_wire.specs.declared.fault.WireFault.TheVariants as wire
use Rattle.mr_wire.specs.declared.frame.Body.{Body}
use Rattle.mr_wire.specs.declared.frame.Body.TheVariants.{Start, End}
use Rattle.mr_wire.specs.declared.frame.Frame.{Frame}
use Rattle.mr_wire.specs.declared.frame.Frame.TheVariants.{Record}
use Rattle.mr_wire.specs.declared.frame.Mode.TheVariants.{Partial}
use Rattle.mr_frames.specs.declared.fault.FrameFault.TheVariants as reading
use Rattle.mr_frames.specs.Rows.{two_frames, first_frame}
use Rattle.mr_frames.specs.Calls.{IsDrained}
use Rattle.mr_link.specs.declared.link.LinkFault.TheVariants as link
use Rattle.mr_link.specs.declared.snag.Snag.TheVariants as snag
use Rattle.mr_link.specs.Link.{LinkView, and_then, with_down, with_hang_up, Sends, Receives}
use Rattle.mr_link.specs.Fault.{link_number, snag_number}
use Rattle.mr_link.specs.inner.Snag.{snag_of_reader, snag_of_link, snag_of_encoding}
use Rattle.mr_link.specs.declared.chunk.Chunk.{Chunk}
use Rattle.mr_link.specs.LaneLink.{IsBeginning, bytes_in, new_link}
use Rattle.mr_link.specs.Wire.{WireView, unread_in, new_wire, IsBad, PassesWell, ReadsFrame, WritesFrame}

-- ---- what a link tells

abbrev telling : Option (List ℕ) → Option (List ℕ) → ℕ → LinkView
telling received sent downs = record { received = received; sent = sent; downs = downs; hung_up = false }

-- bytes come behind those before them
pub behind : and_then (Some (1 ∷ 2 ∷ [])) (3 ∷ []) ≡ Some (1 ∷ 2 ∷ 3 ∷ [])
behind = refl

-- a link that doesn't tell them goes on not telling them
pub untold : and_then None (3 ∷ []) ≡ None
untold = refl

pub sends_all : Sends (telling (Some []) (Some (1 ∷ [])) 2) (7 ∷ 8 ∷ []) (Ok tt) (telling (Some []) (Some (1 ∷ 7 ∷ 8 ∷ [])) 2)
sends_all = refl

-- a link that is down has sent nothing, and counts it
pub sends_none : Sends (telling (Some []) (Some (1 ∷ [])) 2) (7 ∷ 8 ∷ []) (Err link.LinkDown) (telling (Some []) (Some (1 ∷ [])) 3)
sends_none = refl

-- it doesn't act as if it were down
pub down_is_counted : (l : LinkView) → Sends l (7 ∷ []) (Err link.LinkDown) l → l ≡ with_down l
down_is_counted l h = h

-- where memory runs out nothing has changed
pub sends_later : (l : LinkView) → Sends l (7 ∷ []) (Err link.OutOfMemory) l
sends_later l = refl

pub receives_none : (l : LinkView) → Receives l (Err link.LinkDown) (with_down l)
receives_none l = refl

-- a new end of a link over lanes tells that nothing has passed
pub new_end : new_link ≡ telling (Some []) (Some []) 0
new_end = refl

-- one that was hung up tells what it told, and that it was
pub hangs_up : with_hang_up (telling (Some (1 ∷ [])) None 2) ≡ record { received = Some (1 ∷ []); sent = None; downs = 2; hung_up = true }
hangs_up = refl

-- of what was sent a part may be on its way
pub part_came : IsBeginning (Some (1 ∷ [])) (Some (1 ∷ 2 ∷ []))
part_came = record { bytes = 1 ∷ []; more = 2 ∷ []; came = refl; went = refl }

-- ---- numbers, and what faults come to

pub link_numbers : map link_number (link.OutOfMemory ∷ link.LinkDown ∷ []) ≡ 0 ∷ 1 ∷ []
link_numbers = refl

pub snag_numbers : map snag_number (snag.OutOfMemory ∷ snag.LinkDown ∷ snag.BadFrame ∷ snag.TooLong ∷ []) ≡ 0 ∷ 1 ∷ 2 ∷ 3 ∷ []
snag_numbers = refl

-- only a want of memory is none of the stream's faults
pub reader_snags : map snag_of_reader (reading.Wire wire.OutOfMemory ∷ reading.Wire wire.BadKind ∷ reading.Wire wire.TooLong ∷ reading.Failed ∷ []) ≡ snag.OutOfMemory ∷ snag.BadFrame ∷ snag.BadFrame ∷ snag.BadFrame ∷ []
reader_snags = refl

pub link_snags : map snag_of_link (link.OutOfMemory ∷ link.LinkDown ∷ []) ≡ snag.OutOfMemory ∷ snag.LinkDown ∷ []
link_snags = refl

pub encoding_snags : map snag_of_encoding (wire.OutOfMemory ∷ wire.TooLong ∷ []) ≡ snag.OutOfMemory ∷ snag.TooLong ∷ []
encoding_snags = refl

-- ---- wires

-- a record of the stream 1 of replica 0, for the session 1 of replica 1
abbrev sent : (index : ℕ) → Body → Frame
sent index body = Record (record { header = record { source = 0; stream = 1; target = 1; session = 1; index = index }; body = body })

-- its header's bytes: source, stream, target, session and index
abbrev header_row : ℕ → List ℕ
header_row index = 0 ∷ 0 ∷ 0 ∷ 0 ∷ 0 ∷ 0 ∷ 0 ∷ 0 ∷ 0 ∷ 1 ∷ 0 ∷ 1 ∷ 0 ∷ 0 ∷ 0 ∷ 0 ∷ 0 ∷ 0 ∷ 0 ∷ 1 ∷ 0 ∷ 0 ∷ 0 ∷ index ∷ []

-- a stream that starts and ends at once, and three bytes that a length begins with
abbrev rest_row : List ℕ
rest_row = 0 ∷ 0 ∷ 0 ∷ []

abbrev end_row : List ℕ
end_row = 0 ∷ 0 ∷ 0 ∷ 26 ∷ 2 ∷ 6 ∷ header_row 1

abbrev stream_row : List ℕ
stream_row = (0 ∷ 0 ∷ 0 ∷ 27 ∷ 1 ∷ 1 ∷ (header_row 0 ++ 0 ∷ [])) ++ (end_row ++ rest_row)

-- what is held is behind what the reader has
pub held_behind : unread_in (Some (1 ∷ [])) None ≡ Some (1 ∷ [])
held_behind = refl

-- a reader that has failed has nothing to read
pub failed_has_none : unread_in None None ≡ None
failed_has_none = refl

abbrev wire_row : LinkView → Option (List ℕ) → WireView
wire_row link unread = record { link = link; unread = unread }

-- two frames and three bytes came, the frames were read, and the bytes are unread
pub two_frames_came : PassesWell (new_wire new_link) (sent 0 (Start Partial) ∷ sent 1 End ∷ []) [] (wire_row (telling (Some stream_row) (Some []) 0) (Some rest_row))
two_frames_came = record {
  rest = rest_row;
  passes = record { received_bytes = stream_row; received = refl; read_frames = two_frames; sent_bytes = []; sent = refl; sent_frames = refl };
  unread = refl;
  downs = refl;
  up = refl;
}

-- the second of two frames that were unread is read next, though no byte comes
pub unread_is_read : ReadsFrame (wire_row (telling None None 5) (Some stream_row)) (Ok (sent 0 (Start Partial))) (wire_row (telling None None 5) (Some (end_row ++ rest_row)))
unread_is_read = record {
  rest = end_row ++ rest_row;
  passes = record { received_bytes = []; received = refl; read_frames = (end_row ++ rest_row, first_frame, refl); sent_bytes = []; sent = refl; sent_frames = refl };
  unread = refl;
  downs = refl;
  up = refl;
}

-- a link that is down is so once more, and what is unread then lacks the end of a frame
pub down_once_more : ReadsFrame (wire_row (telling None None 5) (Some rest_row)) (Err snag.LinkDown) (wire_row (telling None None 6) (Some rest_row))
down_once_more = (
  record {
    rest = rest_row;
    passes = record { received_bytes = []; received = refl; read_frames = refl; sent_bytes = []; sent = refl; sent_frames = refl };
    unread = refl;
    downs = refl;
    up = refl;
  },
  refl,
)

-- no read finds the link down as long as a whole frame is unread
pub frame_before_down : (old new : WireView) → new.unread ≡ Some (end_row ++ rest_row) → ¬ ReadsFrame old (Err snag.LinkDown) new
frame_before_down old new unread h = cc (subst (λ (u : Option (List ℕ)). IsDrained u) unread h.1)

-- where memory runs out nothing was sent
pub unsent_is_same : (w : WireView) → WritesFrame w (sent 1 End) (Err snag.OutOfMemory) w
unsent_is_same w = refl

-- a length that no frame has spells none, whatever comes behind it
pub bad_length : IsBad (255 ∷ 255 ∷ 255 ∷ 255 ∷ 7 ∷ [])
bad_length = record { part = 255 ∷ 255 ∷ 255 ∷ 255 ∷ []; more = 7 ∷ []; begins = refl; fault = wire.TooLong; refused = refl; not_cut = λ e. absurd (cc) }

-- the bytes of pieces, one behind the other
pub pieces : (one two : Chunk) → bytes_in (one ∷ two ∷ []) ≡ one.bytes.items ++ (two.bytes.items ++ [])
pieces one two = refl
