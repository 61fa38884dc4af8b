-- frames, one after the other
use Rattle.std.proofs.Common.{◌≡◌, ℕ, ◌+◌, List, [], ◌∷◌, ◌++◌, take, drop, refl, ap, sym, subst, ◌∙◌, append_assoc, append-nil}
use Rattle.mr_sync.proofs.Names.{AreFrames, Frame, Spells, take-add}

-- one frame more
frames_push : (frames : List Frame) (front text : List ℕ) (f : Frame) (format : ℕ) → AreFrames frames front → Spells format f text → AreFrames (frames ++ f ∷ []) (front ++ text)
frames_push [] front text f format e s = (format, text, [], s, ap (λ (l : List ℕ). l ++ text) e ∙ sym (append-nil text), refl)
frames_push (g ∷ frames) front text f format h s =
    (h.0, h.1, h.2 ++ text, h.3, ap (λ (l : List ℕ). l ++ text) h.4 ∙ append_assoc h.1 h.2 text, frames_push frames h.2 text f format h.5 s)

-- one more of a run that has come to a place
pub frames_more : (frames all : List Frame) (bytes : List ℕ) (at used : ℕ) (f : Frame) → AreFrames frames (take at bytes) → all ≡ frames ++ f ∷ [] → (format : ℕ) × Spells format f (take used (drop at bytes)) → AreFrames all (take (at + used) bytes)
frames_more frames all bytes at used f h is s =
    subst (λ (fs : List Frame). AreFrames fs (take (at + used) bytes)) (sym is)
    (subst (AreFrames (frames ++ f ∷ [])) (sym (take-add at used bytes)) (frames_push frames (take at bytes) (take used (drop at bytes)) f s.0 h s.1))
