-- What a wire's calls come to, by what its link and its reader did.
use Rattle.std.proofs.Common.{◌≡◌, ◌≢◌, ◌<◌, ◌++◌, ◌↔◌, ℕ, List, [], ◌∷◌, length, Option, Some, None, Result, Ok, Err, IsSome, refl, sym, ap, subst, ◌∙◌, append-nil, arith}
use Rattle.mr_link.proofs.Names.{Feeds, Frame, Hands, HandsNothing, HandsOn, LinkView, Nexts, PassesWell, ReadsFrame, ReadsPiece, Receives, Sends, Spells}
use Rattle.mr_link.proofs.Names.{Vec, Wire, WireView, WritesFrame, begins_more, held_bytes, option_map, unread_in, wire_of}
use Rattle.mr_wire.specs.declared.fault.WireFault.{WireFault}
use Rattle.mr_wire.specs.declared.fault.WireFault.TheVariants.{Truncated}
use Rattle.mr_wire.specs.declared.fault.WireFault.TheVariants as wire
use Rattle.mr_wire.specs.Decoding.{decoded}
use Rattle.mr_wire.specs.Encoding.{Encodes}
use Rattle.mr_wire.specs.FrameSpelling.{rest_bytes}
use Rattle.mr_wire.specs.declared.decoding.TheConstants.{MAX_REST_BYTES}
use Rattle.mr_frames.specs.Calls.{IsDrained}
use Rattle.mr_frames.specs.declared.fault.FrameFault.{FrameFault}
use Rattle.mr_frames.specs.declared.fault.FrameFault.TheVariants as reading
use Rattle.mr_link.specs.inner.Snag.{snag_of_reader, snag_of_link, snag_of_encoding}
use Rattle.mr_link.specs.declared.link.LinkFault.{LinkFault}
use Rattle.mr_link.specs.declared.link.LinkFault.TheVariants as link
use Rattle.mr_link.specs.declared.snag.Snag.{Snag}
use Rattle.mr_link.specs.declared.snag.Snag.TheVariants as snag
use Rattle.mr_link.proofs.Passing.{well_on, down_on, spoilt_on, passes_none, passes_same, passes_bytes, down_now, frame_sent, frame_read, spoilt_now}

-- ---- what is unread

unread_some : (reader : Option (List ℕ)) (held : Option (Vec ℕ)) → IsSome reader → IsSome (unread_in reader held)
unread_some None held has = absurd (cc)
unread_some (Some rest) held has = refl

reader_some : (reader : Option (List ℕ)) (held : Option (Vec ℕ)) (rest : List ℕ) → unread_in reader held ≡ Some rest → IsSome reader
reader_some None held rest is = absurd (cc)
reader_some (Some bytes) held rest is = refl

-- the reader has not failed
pub has_not_failed : (reader : Option (List ℕ)) (held : Option (Vec ℕ)) → IsSome (unread_in reader held) → IsSome reader
has_not_failed None held has = absurd (cc)
has_not_failed (Some bytes) held has = refl

unread_more : (reader : Option (List ℕ)) (piece : Vec ℕ) → unread_in reader (Some piece) ≡ option_map (λ rest. rest ++ piece.items) (unread_in reader None)
unread_more None piece = refl
unread_more (Some rest) piece = ap (λ (z : List ℕ). Some (z ++ piece.items)) (sym (append-nil rest))

-- ---- pieces

feeds_all : (r s : Option (List ℕ)) (piece : Vec ℕ) → IsSome r → Feeds r piece.items (Ok tt) s → unread_in s None ≡ unread_in r (Some piece)
feeds_all None s piece has h = absurd (cc)
feeds_all (Some rest) s piece has h = ap (λ (z : Option (List ℕ)). unread_in z None) h ∙ ap Some (append-nil (rest ++ piece.items))

feeds_none : (r s : Option (List ℕ)) (piece : Vec ℕ) (fault : FrameFault) → IsSome r → Feeds r piece.items (Err fault) s → unread_in s (Some piece) ≡ unread_in r (Some piece)
feeds_none None s piece fault has h = absurd (cc)
feeds_none (Some rest) s piece fault has h = ap (λ (z : Option (List ℕ)). unread_in z (Some piece)) h.1

module _ {L : Type 0} where
  pub hands_all : (a : Wire L) (s : Option (List ℕ)) (piece : Vec ℕ) (bytes : List ℕ) → IsSome a.reader → a.held ≡ None → bytes ≡ piece.items → Feeds a.reader bytes (Ok tt) s → HandsOn a piece (record { link = a.link; reader = s; held = a.held })
  hands_all a s piece bytes has none same h = record {
    link = refl;
    unread = ap (unread_in s) none ∙ feeds_all a.reader s piece has (subst (λ (z : List ℕ). Feeds a.reader z (Ok tt) s) same h);
  }

  pub holds_piece : (a : Wire L) (s : Option (List ℕ)) (piece : Vec ℕ) (bytes : List ℕ) (fault : FrameFault) → IsSome a.reader → bytes ≡ piece.items → Feeds a.reader bytes (Err fault) s → HandsOn a piece (record { link = a.link; reader = s; held = Some piece })
  holds_piece a s piece bytes fault has same h = record {
    link = refl;
    unread = feeds_none a.reader s piece fault has (subst (λ (z : List ℕ). Feeds a.reader z (Err fault) s) same h);
  }

  -- a piece that is handed on finds no link down
  pub hands_up : (a : Wire L) (piece : Vec ℕ) (r : Result (Unit {0}) Snag) (c : Wire L) → Hands a piece r c → r ≢ Err snag.LinkDown
  hands_up a piece (Ok u) c h = λ e. cc e
  hands_up a piece (Err snag.OutOfMemory) c h = λ e. cc e
  hands_up a piece (Err snag.LinkDown) c h = absurd h
  hands_up a piece (Err snag.BadFrame) c h = absurd h
  hands_up a piece (Err snag.TooLong) c h = absurd h

-- a reader that gives no frame has no whole one
drained_reader : (r s : Option (List ℕ)) → IsSome r → Nexts r (Ok None) s → IsDrained s
drained_reader None s has h = absurd (cc)
drained_reader (Some rest) s has h = subst (λ (z : Option (List ℕ)). IsDrained z) (sym h.1) h.0

drained_wire : (s : Option (List ℕ)) → IsDrained s → IsDrained (unread_in s None)
drained_wire None h = tt
drained_wire (Some rest) h = subst (λ (z : List ℕ). decoded z ≡ Err Truncated) (sym (append-nil rest)) h

-- ---- over a link

-- what comes of reading on
pub reads_on : (a b c : WireView) (r : Result Frame Snag) → PassesWell a [] [] b → ReadsFrame b r c → ReadsFrame a r c
reads_on a b c (Ok f) h k = well_on a b c [] (f ∷ []) [] [] h k
reads_on a b c (Err snag.LinkDown) h k = (down_on a b c [] [] [] [] h k.0, k.1)
reads_on a b c (Err snag.BadFrame) h k = spoilt_on a b c [] [] [] [] h k
reads_on a b c (Err snag.OutOfMemory) h k = well_on a b c [] [] [] [] h k
reads_on a b c (Err snag.TooLong) h k = absurd k

-- no more bytes came, and so no frame
pub piece_fault : (a b : WireView) (s : Snag) → (s ≡ snag.LinkDown → IsDrained b.unread) → ReadsPiece a (Err s) b → ReadsFrame a (Err s) b
piece_fault a b snag.OutOfMemory drained h = h
piece_fault a b snag.LinkDown drained h = (h, drained refl)
piece_fault a b snag.BadFrame drained h = absurd h
piece_fault a b snag.TooLong drained h = absurd h

module _ {L : Type 0} (tells : L → LinkView) where
  abbrev pub wired : L → Option (List ℕ) → Option (Vec ℕ) → WireView
  wired l reader held = record { link = tells l; unread = unread_in reader held }

  same_wire : (l k : L) (reader other : Option (List ℕ)) (held more : Option (Vec ℕ)) → k ≡ l → unread_in other more ≡ unread_in reader held → wired k other more ≡ wired l reader held
  same_wire l k reader other held more link unread =
      ap (λ (z : L). wired z other more) link ∙ ap (λ (z : Option (List ℕ)). let w : WireView = record { link = tells l; unread = z } in w) unread

  held_on : (l : L) (reader : Option (List ℕ)) (held : Option (Vec ℕ)) (piece : Vec ℕ) (c : Wire L) → IsSome reader → held ≡ Some piece
      → HandsOn (record { link = l; reader = reader; held = None }) piece c → PassesWell (wired l reader held) [] [] (wire_of tells c)
  held_on l reader held piece c has is h =
      passes_same (wired l reader held) (wire_of tells c) (unread_some reader held has)
      (same_wire l c.link reader c.reader held c.held h.link (h.unread ∙ ap (unread_in reader) (sym is)))

  -- a piece that was held was handed to the reader
  pub held_read : (l : L) (reader : Option (List ℕ)) (held : Option (Vec ℕ)) (piece : Vec ℕ) (r : Result (Unit {0}) Snag) (c : Wire L) → IsSome reader → held ≡ Some piece
      → Hands (record { link = l; reader = reader; held = None }) piece r c → ReadsPiece (wired l reader held) r (wire_of tells c)
  held_read l reader held piece (Ok u) c has is h = held_on l reader held piece c has is h
  held_read l reader held piece (Err snag.OutOfMemory) c has is h = held_on l reader held piece c has is h
  held_read l reader held piece (Err snag.LinkDown) c has is h = absurd h
  held_read l reader held piece (Err snag.BadFrame) c has is h = absurd h
  held_read l reader held piece (Err snag.TooLong) c has is h = absurd h

  came_on : (l k : L) (reader : Option (List ℕ)) (held : Option (Vec ℕ)) (piece : Vec ℕ) (c : Wire L) → IsSome reader → held ≡ None → Receives (tells l) (Ok piece) (tells k)
      → HandsOn (record { link = k; reader = reader; held = None }) piece c → PassesWell (wired l reader held) [] [] (wire_of tells c)
  came_on l k reader held piece c has is received h =
      passes_bytes (wired l reader held) (wire_of tells c) piece.items (unread_some reader held has) (ap tells h.link ∙ received)
      (h.unread ∙ (unread_more reader piece ∙ ap (λ (z : Option (Vec ℕ)). option_map (λ rest. rest ++ piece.items) (unread_in reader z)) (sym is)))

  -- a piece that came was handed to the reader
  pub piece_read : (l k : L) (reader : Option (List ℕ)) (held : Option (Vec ℕ)) (piece : Vec ℕ) (r : Result (Unit {0}) Snag) (c : Wire L) → IsSome reader → held ≡ None → Receives (tells l) (Ok piece) (tells k)
      → Hands (record { link = k; reader = reader; held = None }) piece r c → ReadsPiece (wired l reader held) r (wire_of tells c)
  piece_read l k reader held piece (Ok u) c has is received h = came_on l k reader held piece c has is received h
  piece_read l k reader held piece (Err snag.OutOfMemory) c has is received h = came_on l k reader held piece c has is received h
  piece_read l k reader held piece (Err snag.LinkDown) c has is received h = absurd h
  piece_read l k reader held piece (Err snag.BadFrame) c has is received h = absurd h
  piece_read l k reader held piece (Err snag.TooLong) c has is received h = absurd h

  -- none came
  pub piece_lost : (l k : L) (reader : Option (List ℕ)) (held : Option (Vec ℕ)) (fault : LinkFault) → IsSome reader → Receives (tells l) (Err fault) (tells k)
      → ReadsPiece (wired l reader held) (Err (snag_of_link fault)) (wired k reader held)
  piece_lost l k reader held link.LinkDown has h = down_now (wired l reader held) (wired k reader held) (unread_some reader held has) h refl
  piece_lost l k reader held link.OutOfMemory has h =
      passes_same (wired l reader held) (wired k reader held) (unread_some reader held has) (ap (λ (t : LinkView). let w : WireView = record { link = t; unread = unread_in reader held } in w) h)

  -- bytes of a frame were sent, or not
  pub bytes_sent : (l k : L) (reader : Option (List ℕ)) (held : Option (Vec ℕ)) (bytes : List ℕ) (u : Unit {0}) → IsSome (unread_in reader held) → Sends (tells l) bytes (Ok u) (tells k)
      → (format : ℕ) (f : Frame) → Spells format f bytes → WritesFrame (wired l reader held) f (Ok u) (wired k reader held)
  bytes_sent l k reader held bytes u has h format f spelled = frame_sent (wired l reader held) (wired k reader held) format f bytes has spelled h refl

  pub bytes_lost : (l k : L) (reader : Option (List ℕ)) (held : Option (Vec ℕ)) (bytes : List ℕ) (fault : LinkFault) → IsSome (unread_in reader held) → Sends (tells l) bytes (Err fault) (tells k)
      → (f : Frame) → WritesFrame (wired l reader held) f (Err (snag_of_link fault)) (wired k reader held)
  bytes_lost l k reader held bytes link.LinkDown has h f = down_now (wired l reader held) (wired k reader held) has h refl
  bytes_lost l k reader held bytes link.OutOfMemory has h f = ap (λ (t : LinkView). let w : WireView = record { link = t; unread = unread_in reader held } in w) h

  -- the reader was asked for the next frame
  pub next_read : (l : L) (r s : Option (List ℕ)) (held : Option (Vec ℕ)) (f : Frame) → IsSome r → Nexts r (Ok (Some f)) s → PassesWell (wired l r held) (f ∷ []) [] (wired l s held)
  next_read l None s held f has h = absurd (cc)
  next_read l (Some rest) s held f has h =
      frame_read (wired l (Some rest) held) (wired l s held) f (rest ++ held_bytes held) (h.0 ++ held_bytes held) refl (begins_more rest f h.0 (held_bytes held) h.2) refl
      (ap (λ (z : Option (List ℕ)). unread_in z held) h.1)

  pub next_none : (l : L) (r s : Option (List ℕ)) (held : Option (Vec ℕ)) → IsSome r → Nexts r (Ok None) s → PassesWell (wired l r held) [] [] (wired l s held)
  next_none l None s held has h = absurd (cc)
  next_none l (Some rest) s held has h =
      passes_same (wired l (Some rest) held) (wired l s held) (unread_some (Some rest) held has) (same_wire l l (Some rest) s held held refl (ap (λ (z : Option (List ℕ)). unread_in z held) h.1))

  bad_now : (l : L) (rest : List ℕ) (s : Option (List ℕ)) (held : Option (Vec ℕ)) (fault : WireFault) → fault ≢ Truncated → (decoded rest ≡ Err fault) × (s ≡ None) → ReadsFrame (wired l (Some rest) held) (Err snag.BadFrame) (wired l s held)
  bad_now l rest s held fault other h =
      spoilt_now (wired l (Some rest) held) (wired l s held) (rest ++ held_bytes held) refl
      (record { part = rest; more = held_bytes held; begins = refl; fault = fault; refused = h.0; not_cut = other }) refl (ap (λ (z : Option (List ℕ)). unread_in z held) h.1)

  pub next_fault : (l : L) (r s : Option (List ℕ)) (held : Option (Vec ℕ)) (fault : FrameFault) → IsSome r → Nexts r (Err fault) s → ReadsFrame (wired l r held) (Err (snag_of_reader fault)) (wired l s held)
  next_fault l None s held fault has h = absurd (cc)
  next_fault l (Some rest) s held (reading.Wire wire.OutOfMemory) has h =
      passes_same (wired l (Some rest) held) (wired l s held) (unread_some (Some rest) held has) (same_wire l l (Some rest) s held held refl (ap (λ (z : Option (List ℕ)). unread_in z held) h.1))
  next_fault l (Some rest) s held (reading.Wire wire.Truncated) has h = absurd h
  next_fault l (Some rest) s held (reading.Wire wire.TooLong) has h = bad_now l rest s held wire.TooLong (λ e. cc e) h
  next_fault l (Some rest) s held (reading.Wire wire.BadFormat) has h = bad_now l rest s held wire.BadFormat (λ e. cc e) h
  next_fault l (Some rest) s held (reading.Wire wire.BadKind) has h = bad_now l rest s held wire.BadKind (λ e. cc e) h
  next_fault l (Some rest) s held (reading.Wire wire.BadBody) has h = bad_now l rest s held wire.BadBody (λ e. cc e) h
  next_fault l (Some rest) s held reading.Failed has h = absurd h

  -- ---- a wire that has read on

  -- nothing has passed yet
  pub starts : (w : Wire L) → IsSome (unread_in w.reader w.held) → PassesWell (wire_of tells w) [] [] (wire_of tells w)
  starts w has = passes_none (wire_of tells w) has

  abbrev pub with_reader : Wire L → Option (List ℕ) → Wire L
  with_reader w reader = record { link = w.link; reader = reader; held = w.held }

  has_reader : (a b : Wire L) → PassesWell (wire_of tells a) [] [] (wire_of tells b) → IsSome b.reader
  has_reader a b h = reader_some b.reader b.held h.rest h.unread

  -- the reader has no frame
  pub drained : (a b : Wire L) (s : Option (List ℕ)) → PassesWell (wire_of tells a) [] [] (wire_of tells b) → Nexts b.reader (Ok None) s → PassesWell (wire_of tells a) [] [] (wire_of tells (with_reader b s))
  drained a b s h n = well_on (wire_of tells a) (wire_of tells b) (wire_of tells (with_reader b s)) [] [] [] [] h (next_none b.link b.reader s b.held (has_reader a b h) n)

  -- and none comes where nothing is handed to it
  pub none_left : (a b c : Wire L) (s : Option (List ℕ)) → PassesWell (wire_of tells a) [] [] (wire_of tells b) → Nexts b.reader (Ok None) s → HandsNothing (with_reader b s) c → IsDrained (unread_in c.reader c.held)
  none_left a b c s h n k =
      subst (λ (z : Option (Vec ℕ)). IsDrained (unread_in c.reader z)) (sym k.held)
      (subst (λ (z : Option (List ℕ)). IsDrained (unread_in z None)) (sym k.reader) (drained_wire s (drained_reader b.reader s (has_reader a b h) n)))

  still_some : (r s : Option (List ℕ)) → IsSome r → Nexts r (Ok None) s → IsSome s
  still_some None s has h = absurd (cc)
  still_some (Some rest) s has h = subst (λ (z : Option (List ℕ)). IsSome z) (sym h.1) refl

  pub still_reads : (a b : Wire L) (s : Option (List ℕ)) → PassesWell (wire_of tells a) [] [] (wire_of tells b) → Nexts b.reader (Ok None) s → IsSome (unread_in s b.held)
  still_reads a b s h n = unread_some s b.held (still_some b.reader s (has_reader a b h) n)

  -- it has one
  pub found_frame : (a b : Wire L) (s : Option (List ℕ)) (f : Frame) → PassesWell (wire_of tells a) [] [] (wire_of tells b) → Nexts b.reader (Ok (Some f)) s → PassesWell (wire_of tells a) (f ∷ []) [] (wire_of tells (with_reader b s))
  found_frame a b s f h n = well_on (wire_of tells a) (wire_of tells b) (wire_of tells (with_reader b s)) [] (f ∷ []) [] [] h (next_read b.link b.reader s b.held f (has_reader a b h) n)

  -- it has a fault
  pub found_fault : (a b : Wire L) (s : Option (List ℕ)) (fault : FrameFault) → PassesWell (wire_of tells a) [] [] (wire_of tells b) → Nexts b.reader (Err fault) s → ReadsFrame (wire_of tells a) (Err (snag_of_reader fault)) (wire_of tells (with_reader b s))
  found_fault a b s fault h n = reads_on (wire_of tells a) (wire_of tells b) (wire_of tells (with_reader b s)) (Err (snag_of_reader fault)) h (next_fault b.link b.reader s b.held fault (has_reader a b h) n)

-- a frame has no bytes
pub frame_unsent : (a : WireView) (f : Frame) (fault : WireFault) → Encodes f (Err fault) → WritesFrame a f (Err (snag_of_encoding fault)) a
frame_unsent a f wire.OutOfMemory h = refl
frame_unsent a f wire.TooLong h = (h, refl)
frame_unsent a f wire.Truncated h = absurd h
frame_unsent a f wire.BadFormat h = absurd h
frame_unsent a f wire.BadKind h = absurd h
frame_unsent a f wire.BadBody h = absurd h

-- it is too long exactly where the snag says so
pub unsent_too_long : (f : Frame) (fault : WireFault) (r : Result (Unit {0}) Snag) → r ≡ Err (snag_of_encoding fault) → Encodes f (Err fault) → (r ≡ Err snag.TooLong) ↔ (MAX_REST_BYTES < length (rest_bytes 2 f))
unsent_too_long f wire.TooLong r is h = (λ e. h, λ long. is)
unsent_too_long f wire.OutOfMemory r is h = (λ e. absurd (cc (e, is)), λ long. absurd (omega (arith, h, long)))
unsent_too_long f wire.Truncated r is h = absurd h
unsent_too_long f wire.BadFormat r is h = absurd h
unsent_too_long f wire.BadKind r is h = absurd h
unsent_too_long f wire.BadBody r is h = absurd h
