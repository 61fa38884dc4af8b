-- One letter more of a sender, and one entry more of a subscriber.
use Rattle.std.proofs.Common.{◌≡◌, List, [], ◌∷◌, ◌++◌, None, Result, OnErr, sym, ap, subst, ◌∙◌, append_assoc, arith}
use Rattle.mr_threads.proofs.Names.{Cards, Entry, HearsOut, MailCard, PostView, Said, Says, SaysInPart, Talk, answers_heard, append-nil, letters_said}
use Rattle.mr_threads.proofs.Names.{map-append, with_letter, with_letters}
use Rattle.std.specs.Option.{option_to_list}
use Rattle.mr_subs.specs.Subscriber.{Keeping, ShowsFold, Applies, pending, ShowsFold-append}
use Rattle.mr_threads.proofs.Serving.{with_items-append, with_items-nil}

-- what holds in any case holds of an error
pub holds_on_err : {T E : Type 0} (r : Result T E) (P : Type 0) → P → OnErr r P
holds_on_err r P h = grind arith

with_letters-append : {E : Type 0} (p q r : PostView E) (xs ys : List E) → q ≡ with_letters p xs → r ≡ with_letters q ys → r ≡ with_letters p (xs ++ ys)
with_letters-append p q r xs ys h k = k ∙ (ap (λ x. with_letters x ys) h ∙ ap (λ l. record p { sent = l }) (append_assoc p.sent xs ys))

with_letters-nil : {E : Type 0} (p : PostView E) → p ≡ with_letters p []
with_letters-nil p = ap (λ l. record p { sent = l }) (sym (append-nil p.sent))

-- an entry is applied after others, where none was kept
pub hears_one : {F : Type 0} (shows : F → Cards MailCard → Type 0) (s : Keeping F) (t : F) (entry : Entry) → s.kept ≡ None → Applies shows s.fold (pending s ++ entry ∷ []) t → (entries : List Entry) → ShowsFold shows s.fold entries → ShowsFold shows t (entries ++ entry ∷ [])
hears_one shows s t entry none h entries shown = ShowsFold-append shows s.fold t entries (entry ∷ []) shown (subst (λ k. Applies shows s.fold (option_to_list k ++ entry ∷ []) t) none h)

module _ {E A R : Type 0} where
  pub says_none : (t : Talk E A R) → Says t [] t
  says_none t = record { post = with_letters-nil t.post; tap = with_items-nil t.tap; replies = sym (append-nil t.replies.items) }

  -- letters after letters
  pub says-append : (t u v : Talk E A R) (xs ys : List (Said E A)) → Says t xs u → Says u ys v → Says t (xs ++ ys) v
  says-append t u v xs ys h k = grind (arith, with_letters-append, map-append, with_items-append, append_assoc)

  -- all that was posted was answered
  pub says_in_part : (t u : Talk E A R) (xs : List (Said E A)) → Says t xs u → SaysInPart t u
  says_in_part t u xs h = grind (arith, append-nil)

  -- nothing was posted
  pub posts_none : (t u : Talk E A R) → u.post ≡ t.post → u.tap ≡ t.tap → SaysInPart t u
  posts_none t u post tap = record {
    answered = [];
    unanswered = [];
    one_at_most = omega arith;
    post = post ∙ with_letters-nil t.post;
    passed = ap (λ e. e.passed) tap ∙ sym (append-nil t.tap.passed);
  }

  -- one letter was posted, and no answer came
  pub posts_one : (t u : Talk E A R) (letter : E) → u.post ≡ with_letter t.post letter → u.tap.passed ≡ t.tap.passed → SaysInPart t u
  posts_one t u letter post passed = record {
    answered = [];
    unanswered = letter ∷ [];
    one_at_most = omega arith;
    post = post;
    passed = passed ∙ sym (append-nil t.tap.passed);
  }

  -- behind letters that were answered
  pub part_behind : (t u v : Talk E A R) (xs : List (Said E A)) → Says t xs u → SaysInPart u v → SaysInPart t v
  part_behind t u v xs h k = record {
    answered = xs ++ k.answered;
    unanswered = k.unanswered;
    one_at_most = k.one_at_most;
    post = with_letters-append t.post u.post v.post (letters_said xs) (letters_said k.answered ++ k.unanswered) h.post k.post
        ∙ ap (with_letters t.post) (sym (append_assoc (letters_said xs) (letters_said k.answered) k.unanswered) ∙ ap (λ l. l ++ k.unanswered) (sym (map-append (λ (x : Said E A). x.letter) xs k.answered)));
    passed = k.passed ∙ (ap (λ l. l ++ answers_heard k.answered) (ap (λ e. e.passed) h.tap)
        ∙ (append_assoc t.tap.passed (answers_heard xs) (answers_heard k.answered) ∙ ap (λ l. t.tap.passed ++ l) (sym (map-append (λ (x : Said E A). x.answer) xs k.answered))));
  }

  -- nothing was heard behind what was
  pub hears_none : (t : Talk E A R) → HearsOut t t
  hears_none t = record { rest = []; passed = sym (append-nil t.tap.passed); replies = sym (append-nil t.replies.items) }

  -- one reply more
  pub hears_more : (t u v : Talk E A R) (answer : A) → HearsOut t u → v.tap.passed ≡ u.tap.passed ++ answer ∷ [] → v.replies.items ≡ u.replies.items ++ answer ∷ [] → HearsOut t v
  hears_more t u v answer h passed replies = grind (arith, append_assoc)
