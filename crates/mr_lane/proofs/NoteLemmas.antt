-- What each sender sent among notes of all, and whether it has finished.
use Rattle.std.proofs.Common.{◌≡◌, ℕ, ◌==◌, ◌||◌, ◌&&◌, Bool, true, false, true≢false, List, [], ◌∷◌, ◌++◌, sym, refl, ap, ◌∙◌, arith}
use Rattle.mr_lane.proofs.Names.{AreMarksOf, End, Item, Note, Piece, Sender, and_parts, has_end, has_finished, have_all_finished, pieces, pieces_by}
use Rattle.mr_lane.proofs.Names.{sender_number}
use Rattle.mr_lane.specs.declared.note.Sender.TheVariants.{User, FirstLink, SecondLink}
use Rattle.mr_lane.specs.declared.arrival.Marks.{Marks}
use Rattle.mr_lane.specs.inner.Desk.{with_mark}

or-false : (b : Bool) → (b || false) ≡ b
or-false b = grind arith

or-true : (b : Bool) → (b || true) ≡ true
or-true b = grind arith

-- with one sender's mark more, each mark is there that was, and that one
marked : (sender : Sender) (marks : Marks) (u f s : Bool) → marks.user ≡ u → marks.first_link ≡ f → marks.second_link ≡ s
    → ((with_mark marks sender).user ≡ (u || (0 == sender_number sender))) × ((with_mark marks sender).first_link ≡ (f || (1 == sender_number sender))) × ((with_mark marks sender).second_link ≡ (s || (2 == sender_number sender)))
marked sender marks u f s a b c = grind (arith, or-true, or-false)

module _ {T : Type 0} where
  pub pieces_by-append : (p : ℕ) (ms ns : List (Note T)) → pieces_by p (ms ++ ns) ≡ pieces_by p ms ++ pieces_by p ns
  pieces_by-append p [] ns = refl
  pieces_by-append p (m ∷ ms) ns = grind (arith, pieces_by-append p ms ns)

  has_end-append : (ps qs : List (Piece T)) → has_end (ps ++ qs) ≡ (has_end ps || has_end qs)
  has_end-append [] qs = refl
  has_end-append (Item x ∷ ps) qs = has_end-append ps qs
  has_end-append (End ∷ ps) qs = refl

  -- with one note more, a sender has finished where it had, or where the note is its end mark
  one_note : (taken : List (Note T)) (note : Note T) (k : Sender) → has_finished (taken ++ note ∷ []) k ≡ (has_finished taken k || has_end (pieces_by (sender_number k) (note ∷ [])))
  one_note taken note k = ap has_end (pieces_by-append (sender_number k) taken (note ∷ [])) ∙ has_end-append (pieces_by (sender_number k) taken) (pieces_by (sender_number k) (note ∷ []))

  -- a letter is nobody's end mark
  letter_mark : (k : Sender) (note : Note T) (x : T) → note.piece ≡ Item x → has_end (pieces_by (sender_number k) (note ∷ [])) ≡ false
  letter_mark k note x is = grind arith

  pub takes_letter : (taken now : List (Note T)) (note : Note T) (x : T) (marks : Marks) → note.piece ≡ Item x → now ≡ taken ++ note ∷ [] → AreMarksOf marks taken → AreMarksOf marks now
  takes_letter taken now note x marks is last was =
      let same : (k : Sender) → has_finished taken k ≡ has_finished now k = λ k. sym (ap (λ l. has_finished l k) last ∙ (one_note taken note k ∙ (ap (λ b. has_finished taken k || b) (letter_mark k note x is) ∙ or-false (has_finished taken k)))) in
      record { user = was.user ∙ same User; first_link = was.first_link ∙ same FirstLink; second_link = was.second_link ∙ same SecondLink }

  -- an end mark is its sender's
  end_mark : (k : Sender) (note : Note T) → note.piece ≡ End → has_end (pieces_by (sender_number k) (note ∷ [])) ≡ (sender_number k == sender_number note.sender)
  end_mark k note is = grind arith

  pub takes_mark : (taken now : List (Note T)) (note : Note T) (marks : Marks) → note.piece ≡ End → now ≡ taken ++ note ∷ [] → AreMarksOf marks taken → AreMarksOf (with_mark marks note.sender) now
  takes_mark taken now note marks is last was =
      let more : (k : Sender) → (has_finished taken k || (sender_number k == sender_number note.sender)) ≡ has_finished now k =
      λ k. sym (ap (λ l. has_finished l k) last ∙ (one_note taken note k ∙ ap (λ b. has_finished taken k || b) (end_mark k note is))) in
      let m = marked note.sender marks _ _ _ was.user was.first_link was.second_link in
      record { user = m.0 ∙ more User; first_link = m.1 ∙ more FirstLink; second_link = m.2 ∙ more SecondLink }

  -- a beginning that has the end mark is all
  ends_at : (ps qs : List (Piece T)) (xs : List T) (a : Bool) → ps ++ qs ≡ pieces xs a → has_end ps ≡ true → (a ≡ true) × (ps ≡ pieces xs true)
  ends_at [] qs xs a e c = absurd (true≢false (sym c))
  ends_at (Item y ∷ ps) qs [] true e c = cc
  ends_at (Item y ∷ ps) qs [] false e c = cc
  ends_at (Item y ∷ ps) qs (x ∷ xs) a e c = grind (arith, ends_at ps qs xs a)
  ends_at (End ∷ []) qs [] true e c = (refl, refl)
  ends_at (End ∷ (p ∷ ps)) qs [] true e c = cc
  ends_at (End ∷ ps) qs [] false e c = cc
  ends_at (End ∷ ps) qs (x ∷ xs) a e c = cc

  -- of a sender that has finished, what was taken is all that it sent
  pub is_all : (k : ℕ) (taken waiting : List (Note T)) (xs : List T) (a : Bool) → has_end (pieces_by k taken) ≡ true → pieces_by k (taken ++ waiting) ≡ pieces xs a → (a ≡ true) × (pieces_by k taken ≡ pieces xs true)
  is_all k taken waiting xs a c e = ends_at (pieces_by k taken) (pieces_by k waiting) xs a (sym (pieces_by-append k taken waiting) ∙ e) c

  pub each_finished : (taken : List (Note T)) → have_all_finished taken ≡ true → (has_finished taken User ≡ true) × (has_finished taken FirstLink ≡ true) × (has_finished taken SecondLink ≡ true)
  each_finished taken e = let a = and_parts (has_finished taken User && has_finished taken FirstLink) (has_finished taken SecondLink) e in let b = and_parts (has_finished taken User) (has_finished taken FirstLink) a.0 in (b.0, b.1, a.1)
