-- The frames that bytes begin with are determined by the bytes.
use Rattle.std.proofs.Common.{◌≡◌, ℕ, List, [], ◌∷◌, ◌++◌, length, take, drop, Ok, Err, refl, sym, ap, subst, ◌∙◌, append_assoc}
use Rattle.std.proofs.lemmas.List.{take-append-drop, append_cancel_left}
use Rattle.mr_wire.specs.declared.fault.WireFault.{WireFault}
use Rattle.mr_wire.specs.declared.frame.Frame.{Frame}
use Rattle.mr_wire.specs.Decoding.{decoded}
use Rattle.mr_wire.proofs.DecodeLaws.{decoded_takes, decoded_again, begins_no_other}
use Rattle.mr_frames.specs.Stream.{Begins, AreFrames}

-- what is decoded is what the bytes begin with
pub begins_decoded : (bytes : List ℕ) (f : Frame) (n : ℕ) → decoded bytes ≡ Ok (f, n) → Begins bytes f (drop n bytes)
begins_decoded bytes f n e =
    let d = decoded_takes bytes f n e in
    record { format = d.format; text = take n bytes; spelled = d.spelled; whole = sym (take-append-drop n bytes) }

-- what bytes begin with is decoded
pub decoded_begin : (bytes : List ℕ) (f : Frame) (left : List ℕ) (b : Begins bytes f left) → decoded bytes ≡ Ok (f, length b.text)
decoded_begin bytes f left b = ap decoded b.whole ∙ decoded_again b.format f b.text left b.spelled

-- they begin with it still where more bytes come
pub begins_more : (bytes : List ℕ) (f : Frame) (left more : List ℕ) → Begins bytes f left → Begins (bytes ++ more) f (left ++ more)
begins_more bytes f left more b =
    record { format = b.format; text = b.text; spelled = b.spelled; whole = ap (λ (z : List ℕ). z ++ more) b.whole ∙ append_assoc b.text left more }

-- with more bytes they are the same frames, and the rest with these bytes
pub frames_more : (bytes : List ℕ) (frames : List Frame) (rest more : List ℕ) → AreFrames bytes frames rest → AreFrames (bytes ++ more) frames (rest ++ more)
frames_more bytes [] rest more h = ap (λ (z : List ℕ). z ++ more) h
frames_more bytes (f ∷ frames) rest more h = (h.0 ++ more, begins_more bytes f h.0 more h.1, frames_more h.0 frames rest more h.2)

-- frames behind frames
pub frames_on : (bytes : List ℕ) (frames others : List Frame) (rest end : List ℕ) → AreFrames bytes frames rest → AreFrames rest others end → AreFrames bytes (frames ++ others) end
frames_on bytes [] others rest end h k = subst (λ (z : List ℕ). AreFrames z others end) (sym h) k
frames_on bytes (f ∷ frames) others rest end h k = (h.0, h.1, frames_on h.0 frames others rest end h.2 k)

-- frames of a rest with more bytes, behind those before it
pub frames_whole : (bytes more : List ℕ) (frames others : List Frame) (rest end : List ℕ) → AreFrames bytes frames rest → AreFrames (rest ++ more) others end → AreFrames (bytes ++ more) (frames ++ others) end
frames_whole bytes more frames others rest end h k = frames_on (bytes ++ more) frames others (rest ++ more) end (frames_more bytes frames rest more h) k

-- bytes begin with one frame
pub begins_once : (bytes : List ℕ) (f g : Frame) (left other : List ℕ) → Begins bytes f left → Begins bytes g other → (f ≡ g) × (left ≡ other)
begins_once bytes f g left other a b =
    let same = begins_no_other a.format b.format f g a.text b.text left other a.spelled b.spelled (sym a.whole ∙ b.whole) in
    let wholes : a.text ++ left ≡ a.text ++ other = sym a.whole ∙ b.whole ∙ ap (λ (z : List ℕ). z ++ other) (sym same.0) in
    (same.1, append_cancel_left a.text left other wholes)

-- bytes that begin with a frame are not refused
not_refused : (bytes : List ℕ) (f : Frame) (left : List ℕ) (fault : WireFault) → Begins bytes f left → decoded bytes ≡ Err fault → ⊥
not_refused bytes f left fault b e = let is = decoded_begin bytes f left b in cc

-- bytes are one list of frames, up to a rest that is refused
pub frames_once : (bytes : List ℕ) (frames others : List Frame) (rest other : List ℕ) (fault second : WireFault) → AreFrames bytes frames rest → AreFrames bytes others other →
    decoded rest ≡ Err fault → decoded other ≡ Err second → (frames ≡ others) × (rest ≡ other)
frames_once bytes [] [] rest other fault second a b e h = (refl, sym a ∙ b)
frames_once bytes [] (g ∷ others) rest other fault second a b e h = absurd (not_refused bytes g b.0 fault b.1 (ap decoded a ∙ e))
frames_once bytes (f ∷ frames) [] rest other fault second a b e h = absurd (not_refused bytes f a.0 second a.1 (ap decoded b ∙ h))
frames_once bytes (f ∷ frames) (g ∷ others) rest other fault second a b e h =
    let one = begins_once bytes f g a.0 b.0 a.1 b.1 in
    let later : AreFrames a.0 others other = subst (λ (z : List ℕ). AreFrames z others other) (sym one.1) b.2 in
    let same = frames_once a.0 frames others rest other fault second a.2 later e h in
    (cons_same f g frames others one.0 same.0, same.1)
  where
    cons_same : (x y : Frame) (xs ys : List Frame) → x ≡ y → xs ≡ ys → x ∷ xs ≡ y ∷ ys
    cons_same x y xs ys p q = cc
