-- The messages that bytes begin with are determined by the bytes.
use Rattle.std.proofs.Common.{◌≡◌, ℕ, List, [], ◌∷◌, ◌++◌, Err, refl, sym, ap, subst, ◌∙◌, append_assoc}
use Rattle.mr_talk.proofs.Names.{AreMessages, Begins, MessageFault, Said, decoded, message_bytes}
use Rattle.mr_talk.proofs.MessageLaws.{decoded_begin, begins_once}

-- they begin with it still where more bytes come
pub begins_more : (bytes : List ℕ) (m : Said) (left more : List ℕ) → Begins bytes m left → Begins (bytes ++ more) m (left ++ more)
begins_more bytes m left more b =
    record { is = b.is; whole = ap (λ (z : List ℕ). z ++ more) b.whole ∙ append_assoc (message_bytes m) left more }

-- bytes that begin with a message are not refused
not_refused : (bytes : List ℕ) (m : Said) (left : List ℕ) (fault : MessageFault) → Begins bytes m left → decoded bytes ≡ Err fault → ⊥
not_refused bytes m left fault b e = let is = decoded_begin bytes m left b in cc

-- bytes are one list of messages, up to a rest that is refused
pub messages_once : (bytes : List ℕ) (messages others : List Said) (rest other : List ℕ) (fault second : MessageFault) → AreMessages bytes messages rest → AreMessages bytes others other →
    decoded rest ≡ Err fault → decoded other ≡ Err second → (messages ≡ others) × (rest ≡ other)
messages_once bytes [] [] rest other fault second a b e h = (refl, sym a ∙ b)
messages_once bytes [] (n ∷ others) rest other fault second a b e h = absurd (not_refused bytes n b.0 fault b.1 (ap decoded a ∙ e))
messages_once bytes (m ∷ messages) [] rest other fault second a b e h = absurd (not_refused bytes m a.0 second a.1 (ap decoded b ∙ h))
messages_once bytes (m ∷ messages) (n ∷ others) rest other fault second a b e h =
    let one = begins_once bytes m n a.0 b.0 a.1 b.1 in
    let later : AreMessages a.0 others other = subst (λ (z : List ℕ). AreMessages z others other) (sym one.1) b.2 in
    let same = messages_once a.0 messages others rest other fault second a.2 later e h in
    (cons_same m n messages others one.0 same.0, same.1)
  where
    cons_same : (x y : Said) (xs ys : List Said) → x ≡ y → xs ≡ ys → x ∷ xs ≡ y ∷ ys
    cons_same x y xs ys p q = cc
