-- Frames that pass a link, one behind the other.
use Rattle.std.proofs.Common.{◌≡◌, ◌+◌, ◌++◌, ℕ, List, [], ◌∷◌, Option, Some, None, IsSome, refl, sym, ap, subst, ◌∙◌, append_assoc, append-nil}
use Rattle.mr_link.proofs.Names.{Frame, GoesDown, IsBad, IsSpoilt, LinkView, Passes, PassesWell, Spells, WireView, and_then, bytes_of, frames_whole}
use Rattle.mr_link.proofs.Names.{option_map, with_down, with_received, with_sent}
use Rattle.mr_frames.specs.Stream.{Begins, AreFrames}

-- bytes after bytes
and_then-append : (told : Option (List ℕ)) (xs ys : List ℕ) → and_then (and_then told xs) ys ≡ and_then told (xs ++ ys)
and_then-append None xs ys = refl
and_then-append (Some before) xs ys = ap Some (append_assoc before xs ys)

and_then-nil : (told : Option (List ℕ)) → told ≡ and_then told []
and_then-nil None = refl
and_then-nil (Some before) = ap Some (sym (append-nil before))

passes_on : (a b c : WireView) (read more gone further : List Frame) (rest end : List ℕ)
    → Passes a read gone rest b → b.unread ≡ Some rest → Passes b more further end c → Passes a (read ++ more) (gone ++ further) end c
passes_on a b c read more gone further rest end h has k = record {
  received_bytes = h.received_bytes ++ k.received_bytes;
  received = k.received ∙ (ap (λ t. and_then t k.received_bytes) h.received ∙ and_then-append a.link.received h.received_bytes k.received_bytes);
  read_frames =
      let others : AreFrames (rest ++ k.received_bytes) more end = subst (λ (r : Option (List ℕ)). AreFrames (bytes_of r ++ k.received_bytes) more end) has k.read_frames in
      subst (λ (z : List ℕ). AreFrames z (read ++ more) end) (append_assoc (bytes_of a.unread) h.received_bytes k.received_bytes)
      (frames_whole (bytes_of a.unread ++ h.received_bytes) k.received_bytes read more rest end h.read_frames others);
  sent_bytes = h.sent_bytes ++ k.sent_bytes;
  sent = k.sent ∙ (ap (λ t. and_then t k.sent_bytes) h.sent ∙ and_then-append a.link.sent h.sent_bytes k.sent_bytes);
  sent_frames = frames_whole h.sent_bytes k.sent_bytes gone further [] [] h.sent_frames k.sent_frames;
}

-- what passes after what passed
pub well_on : (a b c : WireView) (read more gone further : List Frame) → PassesWell a read gone b → PassesWell b more further c → PassesWell a (read ++ more) (gone ++ further) c
well_on a b c read more gone further h k = record {
  rest = k.rest;
  passes = passes_on a b c read more gone further h.rest k.rest h.passes h.unread k.passes;
  unread = k.unread;
  downs = k.downs ∙ h.downs;
  up = k.up ∙ h.up;
}

pub down_on : (a b c : WireView) (read more gone further : List Frame) → PassesWell a read gone b → GoesDown b more further c → GoesDown a (read ++ more) (gone ++ further) c
down_on a b c read more gone further h k = record {
  rest = k.rest;
  passes = passes_on a b c read more gone further h.rest k.rest h.passes h.unread k.passes;
  unread = k.unread;
  downs = k.downs ∙ ap (λ n. n + 1) h.downs;
  up = k.up ∙ h.up;
}

pub spoilt_on : (a b c : WireView) (read more gone further : List Frame) → PassesWell a read gone b → IsSpoilt b more further c → IsSpoilt a (read ++ more) (gone ++ further) c
spoilt_on a b c read more gone further h k = record {
  rest = k.rest;
  passes = passes_on a b c read more gone further h.rest k.rest h.passes h.unread k.passes;
  bad = k.bad;
  unread = k.unread;
  downs = k.downs ∙ h.downs;
  up = k.up ∙ h.up;
}

-- where bytes are unread, these are the rest
some_unread : (unread : Option (List ℕ)) → IsSome unread → unread ≡ Some (bytes_of unread)
some_unread None has = absurd (cc)
some_unread (Some rest) has = refl

-- no frame was read or sent, and just these bytes came
pub bytes_came : (a b : WireView) (bytes : List ℕ) → b.link.received ≡ and_then a.link.received bytes → b.link.sent ≡ a.link.sent → Passes a [] [] (bytes_of a.unread ++ bytes) b
bytes_came a b bytes received sent = record {
  received_bytes = bytes;
  received = received;
  read_frames = refl;
  sent_bytes = [];
  sent = sent ∙ and_then-nil a.link.sent;
  sent_frames = refl;
}

-- nothing passed
nothing_came : (a b : WireView) → b.link.received ≡ a.link.received → b.link.sent ≡ a.link.sent → Passes a [] [] (bytes_of a.unread) b
nothing_came a b received sent =
    subst (λ (z : List ℕ). Passes a [] [] z b) (append-nil (bytes_of a.unread)) (bytes_came a b [] (received ∙ and_then-nil a.link.received) sent)

-- nothing passes between a state and itself
pub passes_none : (a : WireView) → IsSome a.unread → PassesWell a [] [] a
passes_none a has = record { rest = bytes_of a.unread; passes = nothing_came a a refl refl; unread = some_unread a.unread has; downs = refl; up = refl }

pub passes_same : (a b : WireView) → IsSome a.unread → b ≡ a → PassesWell a [] [] b
passes_same a b has same = subst (λ (z : WireView). PassesWell a [] [] z) (sym same) (passes_none a has)

more_unread : (unread other : Option (List ℕ)) (bytes : List ℕ) → IsSome unread → other ≡ option_map (λ rest. rest ++ bytes) unread → other ≡ Some (bytes_of unread ++ bytes)
more_unread None other bytes has is = absurd (cc)
more_unread (Some rest) other bytes has is = is

-- bytes came, and are not read yet
pub passes_bytes : (a b : WireView) (bytes : List ℕ) → IsSome a.unread → b.link ≡ with_received a.link bytes → b.unread ≡ option_map (λ rest. rest ++ bytes) a.unread → PassesWell a [] [] b
passes_bytes a b bytes has link unread = record {
  rest = bytes_of a.unread ++ bytes;
  passes = bytes_came a b bytes (ap (λ (l : LinkView). l.received) link) (ap (λ (l : LinkView). l.sent) link);
  unread = more_unread a.unread b.unread bytes has unread;
  downs = ap (λ (l : LinkView). l.downs) link;
  up = ap (λ (l : LinkView). l.hung_up) link;
}

-- the link was down, and nothing passed
pub down_now : (a b : WireView) → IsSome a.unread → b.link ≡ with_down a.link → b.unread ≡ a.unread → GoesDown a [] [] b
down_now a b has link unread = record {
  rest = bytes_of a.unread;
  passes = nothing_came a b (ap (λ (l : LinkView). l.received) link) (ap (λ (l : LinkView). l.sent) link);
  unread = unread ∙ some_unread a.unread has;
  downs = ap (λ (l : LinkView). l.downs) link;
  up = ap (λ (l : LinkView). l.hung_up) link;
}

-- a frame was sent
pub frame_sent : (a b : WireView) (format : ℕ) (f : Frame) (bytes : List ℕ) → IsSome a.unread → Spells format f bytes → b.link ≡ with_sent a.link bytes → b.unread ≡ a.unread → PassesWell a [] (f ∷ []) b
frame_sent a b format f bytes has spelled link unread = record {
  rest = bytes_of a.unread;
  passes = record {
    received_bytes = [];
    received = ap (λ (l : LinkView). l.received) link ∙ and_then-nil a.link.received;
    read_frames = append-nil (bytes_of a.unread);
    sent_bytes = bytes;
    sent = ap (λ (l : LinkView). l.sent) link;
    sent_frames = ([], record { format = format; text = bytes; spelled = spelled; whole = sym (append-nil bytes) }, refl);
  };
  unread = unread ∙ some_unread a.unread has;
  downs = ap (λ (l : LinkView). l.downs) link;
  up = ap (λ (l : LinkView). l.hung_up) link;
}

-- a frame was read of what was unread
pub frame_read : (a b : WireView) (f : Frame) (rest left : List ℕ) → a.unread ≡ Some rest → Begins rest f left → b.link ≡ a.link → b.unread ≡ Some left → PassesWell a (f ∷ []) [] b
frame_read a b f rest left has begins link unread = record {
  rest = left;
  passes = record {
    received_bytes = [];
    received = ap (λ (l : LinkView). l.received) link ∙ and_then-nil a.link.received;
    read_frames = (left, subst (λ (z : List ℕ). Begins z f left) (sym (append-nil (bytes_of a.unread) ∙ ap bytes_of has)) begins, refl);
    sent_bytes = [];
    sent = ap (λ (l : LinkView). l.sent) link ∙ and_then-nil a.link.sent;
    sent_frames = refl;
  };
  unread = unread;
  downs = ap (λ (l : LinkView). l.downs) link;
  up = ap (λ (l : LinkView). l.hung_up) link;
}

-- what was unread is no frame
pub spoilt_now : (a b : WireView) (rest : List ℕ) → a.unread ≡ Some rest → IsBad rest → b.link ≡ a.link → b.unread ≡ None → IsSpoilt a [] [] b
spoilt_now a b rest has bad link unread = record {
  rest = rest;
  passes = subst (λ (z : List ℕ). Passes a [] [] z b) (ap bytes_of has) (nothing_came a b (ap (λ (l : LinkView). l.received) link) (ap (λ (l : LinkView). l.sent) link));
  bad = bad;
  unread = unread;
  downs = ap (λ (l : LinkView). l.downs) link;
  up = ap (λ (l : LinkView). l.hung_up) link;
}
