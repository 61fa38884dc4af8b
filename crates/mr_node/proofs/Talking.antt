-- What is said behind what was said.
use Rattle.std.proofs.Common.{◌≡◌, ◌+◌, ◌++◌, ◌==◌, ◌||◌, ℕ, Bool, false, cond, List, [], ◌∷◌, length, Option, IsOk, IsSome, rules, sym, ap, subst, ◌∙◌, append_assoc, length-append, zero-add, arith}
use Rattle.mr_node.proofs.Names.{BadFrame, Frame, IsOrderly, NotReceived, NotSent, Opened, PassesWell, Progress, Refused, Saying, SaysNext, Shut, Stop, Stops}
use Rattle.mr_node.proofs.Names.{Turn, WireView, advanced, answer_frame, append-nil, are_over, down_on, flat_map-append, frames_given, frames_read, is_done}
use Rattle.mr_node.proofs.Names.{is_last, letter_frame, nat_tests, opened_behind, opened_by, progress_of, receives, spoilt_on, well_on}
use Rattle.std.proofs.lemmas.List.Folds.{list_any-append}
use Rattle.std.proofs.Common.{⊎_elim, inl, inr}

-- one letter more is what the turn says next
pub orderly-append : (t : Turn) (before xs : List Saying) (x : Saying) → IsOrderly t before xs → is_done t (before ++ xs) ≡ false → SaysNext t (before ++ xs) x.letter → IsOk x.answer → IsOrderly t before (xs ++ x ∷ [])
orderly-append t before [] x h undone next ok = (
  subst (λ (b : List Saying). is_done t b ≡ false) (append-nil before) undone,
  subst (λ (b : List Saying). SaysNext t b x.letter) (append-nil before) next,
  ok,
  tt,
)
orderly-append t before (y ∷ ys) x h undone next ok = (
  h.0,
  h.1,
  h.2,
  orderly-append t (before ++ y ∷ []) ys x h.3
      (subst (λ (b : List Saying). is_done t b ≡ false) (sym (append_assoc before (y ∷ []) ys)) undone)
      (subst (λ (b : List Saying). SaysNext t b x.letter) (sym (append_assoc before (y ∷ []) ys)) next)
      ok,
)

or_false : (b : Bool) → (b || false) ≡ b
or_false b = grind arith

abbrev progress_with : ℕ → Opened → Bool → Progress
progress_with n o b = record { said = n; opened = o; over = b }

same_progress : (n m : ℕ) (o q : Opened) (b c : Bool) → n ≡ m → o ≡ q → b ≡ c → progress_with n o b ≡ progress_with m q c
same_progress n m o q b c said opened over = ap (λ k. progress_with k o b) said ∙ (ap (λ k. progress_with m k b) opened ∙ ap (λ k. progress_with m q k) over)

some_said : (y : Saying) (ys : List Saying) → (length (y ∷ ys) == 0) ≡ false
some_said y ys = grind (arith, nat_tests)

opened-append : (xs : List Saying) (x : Saying) → opened_behind (xs ++ x ∷ []) ≡ cond (length xs == 0) (opened_by x.answer) (opened_behind xs)
opened-append xs x = grind (arith, cond, some_said)

over-append : (xs : List Saying) (x : Saying) → are_over (xs ++ x ∷ []) ≡ (are_over xs || is_last x.answer)
over-append xs x = list_any-append (λ (z : Saying). is_last z.answer) xs (x ∷ []) ∙ ap (λ b. are_over xs || b) (or_false (is_last x.answer))

pub progress-append : (xs : List Saying) (x : Saying) → progress_of (xs ++ x ∷ []) ≡ advanced (progress_of xs) x.answer
progress-append xs x = grind (arith, same_progress, cond, length-append, opened-append, over-append)

pub receives-append : (xs ys : List Saying) → receives (xs ++ ys) ≡ receives xs + receives ys
receives-append [] ys = sym (zero-add (receives ys))
receives-append (x ∷ xs) ys = let rest = receives-append xs ys in omega (arith, rest)

read-append : (xs ys : List Saying) → frames_read (xs ++ ys) ≡ frames_read xs ++ frames_read ys
read-append xs ys = flat_map-append (λ (x : Saying). letter_frame x.letter) xs ys

given-append : (xs ys : List Saying) → frames_given (xs ++ ys) ≡ frames_given xs ++ frames_given ys
given-append xs ys = flat_map-append (λ (x : Saying). answer_frame x.answer) xs ys

-- what passed for letters behind others
pub well-append : (a b c : WireView) (xs ys : List Saying) → PassesWell a (frames_read xs) (frames_given xs) b → PassesWell b (frames_read ys) (frames_given ys) c → PassesWell a (frames_read (xs ++ ys)) (frames_given (xs ++ ys)) c
well-append a b c xs ys h k = grind (arith, read-append, given-append, well_on)

-- and for one
pub well_one : (a b : WireView) (x : Saying) → PassesWell a (letter_frame x.letter) (answer_frame x.answer) b → PassesWell a (frames_read (x ∷ [])) (frames_given (x ∷ [])) b
well_one a b x h = grind (arith, append-nil)

stops_on : (may : Bool) (t : Turn) (a b c : WireView) (read more given further : List Frame) (why : Stop) → PassesWell a read given b → Stops may t b more further why c → Stops may t a (read ++ more) (given ++ further) why c
stops_on may t a b c read more given further Refused h k = well_on a b c read more given further h k
stops_on may t a b c read more given further NotSent h k =
    (given ++ k.0, k.1, ap (λ l. given ++ l) k.2 ∙ sym (append_assoc given k.0 (k.1 ∷ [])), down_on a b c read more given k.0 h k.3)
stops_on may t a b c read more given further NotReceived h k = (down_on a b c read more given further h k.0, k.1)
stops_on may t a b c read more given further BadFrame h k =
    ⊎_elim (λ bad. inl (spoilt_on a b c read more given further h bad))
    (λ wrong. inr (wrong.0, wrong.1, subst (λ (l : List Frame). PassesWell a l (given ++ further) c) (sym (append_assoc read more (wrong.0 ∷ []))) (well_on a b c read (more ++ wrong.0 ∷ []) given further h wrong.2))) k
stops_on may t a b c read more given further Shut h k =
    (k.0, k.1, (k.2.0, subst (λ (l : List Frame). PassesWell a l (given ++ further) c) (sym (append_assoc read more (k.2.0 ∷ []))) (well_on a b c read (more ++ k.2.0 ∷ []) given further h k.2.1)))

-- why letters behind others were the last
pub stops-append : (may : Bool) (t : Turn) (a b c : WireView) (xs ys : List Saying) (why : Stop) → PassesWell a (frames_read xs) (frames_given xs) b → Stops may t b (frames_read ys) (frames_given ys) why c → Stops may t a (frames_read (xs ++ ys)) (frames_given (xs ++ ys)) why c
stops-append may t a b c xs ys why h k =
    subst (λ (read : List Frame). Stops may t a read (frames_given (xs ++ ys)) why c) (sym (read-append xs ys))
    (subst (λ (given : List Frame). Stops may t a (frames_read xs ++ frames_read ys) given why c) (sym (given-append xs ys))
    (stops_on may t a b c (frames_read xs) (frames_read ys) (frames_given xs) (frames_given ys) why h k))

-- where frames passed well, bytes are left to be read
pub some_left : (a b : WireView) (read gone : List Frame) → PassesWell a read gone b → IsSome b.unread
some_left a b read gone h = subst (λ (u : Option (List ℕ)). IsSome u) (sym h.unread) (search rules)
