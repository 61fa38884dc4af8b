-- A turn, letter by letter.
use Rattle.std.proofs.Common.{◌≡◌, ◌+◌, ◌++◌, ℕ, Bool, true, false, List, [], ◌∷◌, Option, Result, Err, Some, None, IsSome, refl, sym, ap, subst, ◌∙◌, arith}
use Rattle.mr_node.proofs.Names.{BadFrame, ComesOf, Event, Frame, IsAt, IsCutShort, IsReading, IsUnposted, Moves, NotReceived, NotSent, PassesWell, Progress}
use Rattle.mr_node.proofs.Names.{Refusal, Refused, Reply, Saying, Says, SaysCut, SaysInPart, SaysPart, SaysSoFar, SaysWhole, Shut, Stop, Talk, Turn, TurnGoes}
use Rattle.mr_node.proofs.Names.{WireView, advanced, answer_frame, append-nil, cut_by, down_on, is_done, is_reading, letter_frame}
use Rattle.mr_node.proofs.Names.{letters_said, one_if_receive, part_behind, passes_none, progress_of, receives, says-append, says_none, well_on}
use Rattle.mr_threads.specs.Exchange.{said}
use Rattle.mr_node.specs.inner.Step.{Steps}
use Rattle.mr_node.specs.declared.next_move.Move.TheVariants as move
use Rattle.mr_node.specs.declared.turning.Step.TheVariants as step
use Rattle.mr_node.proofs.Talking.{orderly-append, progress-append, receives-append, well-append, well_one, stops-append}

module _ {R : Type 0} (closes : ℕ → Bool) (t : Turn) (xs : List Saying) (talk talk' : Talk Event (Result Reply Refusal) R) (wire mid wire' : WireView) (posted posted' : ℕ) (p p' : Progress) where
  further : (answer : Result Reply Refusal) (letter : Event) → IsAt t xs p → p' ≡ advanced p answer → p' ≡ progress_of (xs ++ said letter answer ∷ [])
  further answer letter at on = on ∙ (ap (λ q. advanced q answer) at.progress ∙ sym (progress-append xs (said letter answer)))

  pub steps_more : (may : Bool) (letter : Event) (answer : Result Reply Refusal) → IsAt t xs p → Moves may t xs wire (move.Say letter) mid → posted' ≡ posted + one_if_receive letter
      → Says talk (said letter answer ∷ []) talk' → p' ≡ advanced p answer → ComesOf mid answer None wire' → Steps closes t xs talk wire posted step.More talk' wire' posted' p'
  steps_more may letter answer at h count says on comes = (
    said letter answer,
    record { progress = further answer letter at on; orderly = orderly-append t [] xs (said letter answer) at.orderly h.0 h.1 comes.0 },
    says,
    subst (λ (read : List Frame). PassesWell wire read (answer_frame answer) wire') (append-nil (letter_frame letter)) (well_on wire mid wire' (letter_frame letter) [] [] (answer_frame answer) h.2 comes.1),
    count,
  )

  counts : (x : Saying) → posted' ≡ posted + one_if_receive x.letter → posted' ≡ posted + receives (x ∷ [])
  counts x count = omega (arith, count)

  refused : (may : Bool) (letter : Event) (e : Refusal) → IsAt t xs p → Moves may t xs wire (move.Say letter) mid → posted' ≡ posted + one_if_receive letter
      → Says talk (said letter (Err e) ∷ []) talk' → p' ≡ advanced p (Err e) → wire' ≡ mid → Steps closes t xs talk wire posted (step.Stop Refused) talk' wire' posted' p'
  refused may letter e at h count says on same = grind (arith, append-nil, counts, further)

  pub steps_unsaid : (may : Bool) (letter : Event) (answer : Result Reply Refusal) (why : Stop) → IsAt t xs p → Moves may t xs wire (move.Say letter) mid → posted' ≡ posted + one_if_receive letter
      → Says talk (said letter answer ∷ []) talk' → p' ≡ advanced p answer → ComesOf mid answer (Some why) wire' → Steps closes t xs talk wire posted (step.Stop why) talk' wire' posted' p'
  steps_unsaid may letter answer Refused at h count says on comes =
      refused may letter comes.0 at h count (subst (λ (a : Result Reply Refusal). Says talk (said letter a ∷ []) talk') comes.1 says) (on ∙ ap (λ a. advanced p a) comes.1) comes.2
  steps_unsaid may letter answer NotSent at h count says on comes = (
    said letter answer ∷ [],
    record { before = xs; last = said letter answer; all = refl; orderly = orderly-append t [] xs (said letter answer) at.orderly h.0 h.1 comes.0; frame = comes.1.0; gives = comes.1.1 },
    says,
    ([], comes.1.0, append-nil (answer_frame answer) ∙ comes.1.1, down_on wire mid wire' (letter_frame letter) [] [] [] h.2 comes.1.2),
    counts (said letter answer) count,
    further answer letter at on,
  )
  steps_unsaid may letter answer NotReceived at h count says on comes = absurd comes
  steps_unsaid may letter answer BadFrame at h count says on comes = absurd comes
  steps_unsaid may letter answer Shut at h count says on comes = absurd comes

module _ {R : Type 0} (closes : ℕ → Bool) (t : Turn) (xs : List Saying) (talk : Talk Event (Result Reply Refusal) R) (wire wire' : WireView) (posted : ℕ) (p : Progress) where
  pub steps_done : (may : Bool) → IsAt t xs p → Moves may t xs wire move.Done wire' → Steps closes t xs talk wire posted step.Done talk wire' posted p
  steps_done may at h = (record { orderly = at.orderly; done = h.0 }, refl, h.1, refl)

  reading : IsAt t xs p → is_done t xs ≡ false → is_reading t xs ≡ true → IsReading t (xs ++ [])
  reading at undone reads = subst (λ (l : List Saying). IsReading t l) (sym (append-nil xs)) (record { orderly = at.orderly; undone = undone; reading = reads })

  cut_short : (why : Stop) → IsUnposted why → IsAt t xs p → is_done t xs ≡ false → is_reading t xs ≡ true → IsCutShort t (xs ++ []) why
  cut_short why un at undone reads = grind (arith, reading)

  pub steps_unread : (why : Stop) → IsAt t xs p → Moves (closes (posted + 1)) t xs wire (move.Stop why) wire' → Steps closes t xs talk wire posted (step.Stop why) talk wire' posted p
  steps_unread why at h = grind (arith, cut_short, says_none, append-nil)

module _ {R : Type 0} (t : Turn) (talk : Talk Event (Result Reply Refusal) R) (wire : WireView) (posted : ℕ) (p : Progress) where
  -- nothing was said so far
  pub so_far_none : p ≡ progress_of [] → IsSome wire.unread → SaysSoFar t talk wire posted talk wire posted p
  so_far_none new has = record { said = []; at = record { progress = new; orderly = tt }; says = says_none talk; passes = passes_none wire has; counted = omega arith }

module _ {R : Type 0} (closes : ℕ → Bool) (t : Turn) (talk mid talk' : Talk Event (Result Reply Refusal) R) (wire between wire' : WireView) (posted counted posted' : ℕ) (p p' : Progress) where
  summed : (xs ys : List Saying) → counted ≡ posted + receives xs → posted' ≡ counted + receives ys → posted' ≡ posted + receives (xs ++ ys)
  summed xs ys a b = let sums = receives-append xs ys in omega (arith, a, b, sums)

  -- one letter more
  pub so_far_more : (h : SaysSoFar t talk wire posted mid between counted p) → Steps closes t h.said mid between counted step.More talk' wire' posted' p' → SaysSoFar t talk wire posted talk' wire' posted' p'
  so_far_more h k = record {
    said = h.said ++ k.0 ∷ [];
    at = k.1;
    says = says-append talk mid talk' h.said (k.0 ∷ []) h.says k.2;
    passes = well-append wire between wire' h.said (k.0 ∷ []) h.passes (well_one between wire' k.0 k.3);
    counted = let sums = receives-append h.said (k.0 ∷ []) in let so = h.counted in let one = k.4 in omega (arith, sums, so, one);
  }

  pub so_far_done : (h : SaysSoFar t talk wire posted mid between counted p) → Steps closes t h.said mid between counted step.Done talk' wire' posted' p' → SaysWhole t talk wire posted talk' wire' posted'
  so_far_done h k = grind arith

  pub so_far_stop : (why : Stop) (h : SaysSoFar t talk wire posted mid between counted p) → Steps closes t h.said mid between counted (step.Stop why) talk' wire' posted' p' → SaysPart closes t why talk wire posted talk' wire' posted' p'
  so_far_stop why h k = record {
    said = h.said ++ k.0;
    cut_short = k.1;
    says = says-append talk mid talk' h.said k.0 h.says k.2;
    why = stops-append (closes (posted' + 1)) t wire between wire' h.said k.0 why h.passes k.3;
    counted = summed h.said k.0 h.counted k.4;
    progress = k.5;
  }

module _ {R : Type 0} (closes : ℕ → Bool) (t : Turn) (why : Stop) (talk mid talk' : Talk Event (Result Reply Refusal) R) (wire wire' : WireView) (posted posted' : ℕ) (p : Progress) where
  -- what was open is cut
  pub cuts_part : SaysPart closes t why talk wire posted mid wire' posted' p → (ys : List Saying) → letters_said ys ≡ cut_by p → Says mid ys talk' → SaysCut closes t why talk wire posted talk' wire' posted'
  cuts_part h ys cuts says = record {
    said = h.said;
    cut_short = h.cut_short;
    cut = ys;
    cuts = cuts ∙ ap cut_by h.progress;
    says = says-append talk mid talk' h.said ys h.says says;
    why = h.why;
    counted = h.counted;
  }

-- what a turn has said, and then a part of what is behind it
pub goes_part : {R : Type 0} (closes : ℕ → Bool) (t : Turn) (o : Option Stop) (talk mid talk' : Talk Event (Result Reply Refusal) R) (wire wire' : WireView) (posted posted' : ℕ) (p : Progress) → TurnGoes closes t o talk wire posted mid wire' posted' p → SaysInPart mid talk' → SaysInPart talk talk'
goes_part closes t o talk mid talk' wire wire' posted posted' p h k = grind (arith, part_behind)
