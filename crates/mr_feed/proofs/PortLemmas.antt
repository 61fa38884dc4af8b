-- any calls of a port, from the laws of one call
use Rattle.std.proofs.Common.{◌≡◌, List, [], ◌∷◌, ◌++◌, ap, sym, ◌∙◌, append_assoc}
use Rattle.std.proofs.lemmas.List.{append-nil}
use Rattle.mr_feed.specs.declared.entry.Entry.{Entry}
use Rattle.mr_feed.specs.Port.{Move, Move.Gave, Move.Took, all_offered, all_taken, Leads}

module _ {S : Type 0} (gave took : S → List Entry → S → Type 0) (waiting : S → List Entry)
    (offers_last : (s : S) (xs : List Entry) (t : S) → gave s xs t → waiting t ≡ waiting s ++ xs)
    (takes_first : (s : S) (xs : List Entry) (t : S) → took s xs t → waiting s ≡ xs ++ waiting t) where
  pub all_taken-waiting : (s t : S) (moves : List Move) → Leads gave took s moves t → all_taken moves ++ waiting t ≡ waiting s ++ all_offered moves
  all_taken-waiting s t [] e = ap waiting e ∙ sym (append-nil (waiting s))
  all_taken-waiting s t (Gave xs ∷ moves) h =
      all_taken-waiting h.0 t moves h.2
      ∙ ap (λ l. l ++ all_offered moves) (offers_last s xs h.0 h.1)
      ∙ append_assoc (waiting s) xs (all_offered moves)
  all_taken-waiting s t (Took xs ∷ moves) h =
      append_assoc xs (all_taken moves) (waiting t)
      ∙ ap (λ l. xs ++ l) (all_taken-waiting h.0 t moves h.2)
      ∙ sym (append_assoc xs (waiting h.0) (all_offered moves))
      ∙ ap (λ l. l ++ all_offered moves) (sym (takes_first s xs h.0 h.1))
