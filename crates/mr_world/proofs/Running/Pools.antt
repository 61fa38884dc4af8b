-- What the frames of a pool are: each is read again as what it spells, and has the number at which it was put.
use Rattle.std.proofs.Common.{◌≡◌, ◌≢◌, ◌+◌, ◌-◌, ◌==◌, ℕ, zero, suc, List, [], ◌∷◌, ◌++◌, length, Option, Some, refl, sym, ap, ◌∙◌, arith, inl, inr, if◌then◌else◌}
use Rattle.mr_world.proofs.Names.Lists.{AllByRecursion, append-nil, filter_map, length-reverse, reverse, reverse-append, reverse-reverse}
use Rattle.std.specs.Prelude.{All, slice_get}
use Rattle.std.proofs.lemmas.List.Elements.{filter_map-append, recursion_from_All}
use Rattle.mr_world.proofs.Names.Wire.{Frame, Question, Receipt, Sent, Spells}
use Rattle.mr_world.proofs.Names.Model.{numbered}
use Rattle.mr_world.proofs.Names.Laws.{cases}
use Rattle.mr_world.proofs.Names.World.{GivesFrame, IsFrameOf, at_number, found_frame, question_of, receipt_of, sent_of}
use Rattle.mr_wire.specs.Decoding.{decoded}
use Rattle.mr_wire.specs.declared.frame.Frame.TheVariants as frame
use Rattle.mr_wire.proofs.DecodeLaws.{decoded_again}
use Rattle.mr_world.specs.Pool.{frame_in, values_in}

-- ---- numbers, from the oldest and from the newest

module _ {A : Type 0} where
  get_last : (xs : List A) (x : A) → slice_get (xs ++ x ∷ []) (length xs) ≡ Some x
  get_last [] x = refl
  get_last (y ∷ ys) x = get_last ys x

  get_front : (xs : List A) (x : A) (i : ℕ) → i ≢ length xs → slice_get (xs ++ x ∷ []) i ≡ slice_get xs i
  get_front [] x zero h = absurd (h refl)
  get_front [] x (suc i) h = refl
  get_front (y ∷ ys) x zero h = refl
  get_front (y ∷ ys) x (suc i) h = get_front ys x i (λ e. h (ap (λ (n : ℕ). suc n) e))

  -- the last of a list has the number of all of them, and the others keep theirs
  number_more : (xs : List A) (x : A) (n : ℕ) → at_number (xs ++ x ∷ []) n ≡ (if n == length xs + 1 then Some x else at_number xs n)
  number_more xs x n = grind (arith, get_last xs x, get_front xs x (n - 1))

  -- a number counts from the oldest
  numbered_oldest : (zs : List A) (n : ℕ) → numbered zs n ≡ at_number (reverse zs) n
  numbered_oldest [] n = grind arith
  numbered_oldest (z ∷ older) n = let turned : reverse (z ∷ older) ≡ reverse older ++ z ∷ [] = reverse-append (z ∷ []) older in
      rw (turned, number_more (reverse older) z n, length-reverse older, numbered_oldest older n) refl

-- ---- frames

-- the bytes of a frame are read as that frame
frame_again : (f : Frame) (bytes : List ℕ) → Spells 2 f bytes → frame_in bytes ≡ Some f
unfolding frame_in
frame_again f bytes h = ap found_frame (ap decoded (sym (append-nil bytes)) ∙ decoded_again 2 f bytes [] h)

-- a kind of frame: what is read of one, and what one is made of
pub record Kind (A : Type 0) : Type 0 where
  pub of : Option Frame → Option A
  pub wrap : A → Frame
  pub law : (x : A) → of (Some (wrap x)) ≡ Some x

abbrev pub asks : Kind Question
asks = record { of = question_of; wrap = λ x. frame.Ask x; law = λ x. refl }

abbrev pub records : Kind Sent
records = record { of = sent_of; wrap = λ x. frame.Record x; law = λ x. refl }

abbrev pub receipts : Kind Receipt
receipts = record { of = receipt_of; wrap = λ x. frame.Receipt x; law = λ x. refl }

module _ {A : Type 0} (k : Kind A) where
  abbrev value_in : List ℕ → Option A
  value_in bytes = k.of (frame_in bytes)

  value_is : (x : A) (bytes : List ℕ) → Spells 2 (k.wrap x) bytes → value_in bytes ≡ Some x
  value_is x bytes h = ap k.of (frame_again (k.wrap x) bytes h) ∙ k.law x

  get_values : (frames : List (List ℕ)) (i : ℕ) → AllByRecursion (IsFrameOf k.wrap) frames → GivesFrame k.wrap (slice_get (filter_map value_in frames) i) (slice_get frames i)
  get_values [] i h = tt
  get_values (bytes ∷ more) zero h = rw (value_is h.0.0 bytes h.0.1) h.0.1
  get_values (bytes ∷ more) (suc i) h = rw (value_is h.0.0 bytes h.0.1) (get_values more i h.1)

  number_values : (frames : List (List ℕ)) (n : ℕ) → AllByRecursion (IsFrameOf k.wrap) frames → GivesFrame k.wrap (at_number (filter_map value_in frames) n) (at_number frames n)
  number_values frames n h = elim (cases (n == 0)) [ inl t ↦ rw t tt | inr f ↦ rw f (get_values frames (n - 1) h) ]

  -- a frame has the number of what it spells
  pub gives : (frames : List (List ℕ)) (n : ℕ) → All (IsFrameOf k.wrap) frames → GivesFrame k.wrap (numbered (values_in k.of frames) n) (at_number frames n)
  unfolding values_in
  gives frames n h =
      let same : numbered (reverse (filter_map value_in frames)) n ≡ at_number (filter_map value_in frames) n =
      numbered_oldest (reverse (filter_map value_in frames)) n ∙ ap (λ (xs : List A). at_number xs n) (reverse-reverse (filter_map value_in frames)) in
      rw same (number_values frames n (recursion_from_All (IsFrameOf k.wrap) frames h))

  -- each frame spells one of them
  count_values : (frames : List (List ℕ)) → AllByRecursion (IsFrameOf k.wrap) frames → length (filter_map value_in frames) ≡ length frames
  count_values [] h = refl
  count_values (bytes ∷ more) h = rw (value_is h.0.0 bytes h.0.1) (ap (λ (n : ℕ). suc n) (count_values more h.1))

  pub counts : (frames : List (List ℕ)) → All (IsFrameOf k.wrap) frames → length frames ≡ length (values_in k.of frames)
  unfolding values_in
  counts frames h = sym (length-reverse (filter_map value_in frames) ∙ count_values frames (recursion_from_All (IsFrameOf k.wrap) frames h))

  -- a frame more is one more of these, the newest
  pub one_more : (frames : List (List ℕ)) (x : A) (bytes : List ℕ) → Spells 2 (k.wrap x) bytes → values_in k.of (frames ++ bytes ∷ []) ≡ x ∷ values_in k.of frames
  unfolding values_in
  one_more frames x bytes h =
      let last : filter_map value_in (bytes ∷ []) ≡ x ∷ [] = rw (value_is x bytes h) refl in
      ap (λ (xs : List A). reverse xs) (filter_map-append value_in frames (bytes ∷ []) ∙ ap (λ (ys : List A). filter_map value_in frames ++ ys) last)
      ∙ reverse-append (filter_map value_in frames) (x ∷ [])
