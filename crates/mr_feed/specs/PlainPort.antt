-- a plain port as contracts see it, and what its halves keep
use Rattle.std.specs.Prelude.{◌≡◌, ℕ, Bool, ◌&&◌, ◌==◌, IsFalse, List, [], ◌++◌, length, refl}
use Rattle.std.proofs.Common.{ap, sym, ◌∙◌, append_assoc}
use Rattle.std.proofs.lemmas.List.{append-nil}
use Rattle.mr_feed.specs.declared.entry.Entry.{Entry}

-- the entries that wait, the first one first; how many places there are; and whether the port was closed
pub record PortView : Type 0 where
  pub waiting : List Entry
  pub capacity : ℕ
  pub closed : Bool

-- offers put entries behind what waits
abbrev pub plain_gave : PortView → List Entry → PortView → Type 0
plain_gave s xs t = (t.waiting ≡ s.waiting ++ xs) × (t.capacity ≡ s.capacity)

-- takes remove the first of what waits
abbrev pub plain_took : PortView → List Entry → PortView → Type 0
plain_took s xs t = (s.waiting ≡ xs ++ t.waiting) × (t.capacity ≡ s.capacity) × (t.closed ≡ s.closed)

abbrev pub plain_ended : PortView → Bool
plain_ended s = s.closed

abbrev pub plain_full : PortView → Type 0
plain_full s = length s.waiting ≡ s.capacity

-- closed, and nothing waits
abbrev pub plain_done : PortView → Bool
plain_done s = s.closed && (length s.waiting == 0)

abbrev pub plain_empty : PortView → Type 0
plain_empty s = (s.waiting ≡ []) × IsFalse s.closed

-- ---- the laws of its halves

pub plain_gave_none : (s : PortView) → plain_gave s [] s
plain_gave_none s = (sym (append-nil s.waiting), refl)

pub plain_gave_more : (s : PortView) (xs : List Entry) (t : PortView) (ys : List Entry) (u : PortView) → plain_gave s xs t → plain_gave t ys u → plain_gave s (xs ++ ys) u
plain_gave_more s xs t ys u h k = (k.0 ∙ (ap (λ l. l ++ ys) h.0 ∙ append_assoc s.waiting xs ys), k.1 ∙ h.1)

pub plain_took_none : (s : PortView) → plain_took s [] s
plain_took_none s = (refl, refl, refl)

pub plain_took_more : (s : PortView) (xs : List Entry) (t : PortView) (ys : List Entry) (u : PortView) → plain_took s xs t → plain_took t ys u → plain_took s (xs ++ ys) u
plain_took_more s xs t ys u h k = (h.0 ∙ (ap (λ l. xs ++ l) k.0 ∙ sym (append_assoc xs ys u.waiting)), k.1 ∙ h.1, k.2 ∙ h.2)
