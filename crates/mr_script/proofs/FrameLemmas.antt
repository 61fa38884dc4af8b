-- Lines of words, as they are written piece by piece.
use Rattle.std.proofs.Common.{◌≡◌, ◌∙◌, ℕ, List, [], ◌∷◌, ◌++◌, Result, Ok, Err, IfOk, string_bytes, append_assoc, sym, ap}
use Rattle.mr_script.proofs.Names.{Global, IsAskLine, Question, String, after_spaces, append-nil, ask_words, codes, line_of}
use Rattle.mr_filter.specs.Text.{IsFilterText}

-- the line of a word and of those behind it, word by word
abbrev line_from : List ℕ → List (List ℕ) → List ℕ
line_from word [] = word ++ codes "\n"
line_from word (next ∷ words) = word ++ (codes " " ++ line_from next words)

line_of-cons : (word : List ℕ) (words : List (List ℕ)) → line_of (word ∷ words) ≡ line_from word words
line_of-cons word [] = ap (λ (z : List ℕ). z ++ codes "\n") (append-nil word)
line_of-cons word (next ∷ words) =
    append_assoc word (codes " " ++ (next ++ after_spaces words)) (codes "\n") ∙ ap (λ (z : List ℕ). word ++ (codes " " ++ z)) (line_of-cons next words)

pub refused_written : (number name : List ℕ) → codes "refused " ++ (number ++ (codes " " ++ (name ++ codes "\n"))) ≡ line_of (codes "refused" ∷ number ∷ name ∷ [])
refused_written number name = sym (line_of-cons (codes "refused") (number ∷ name ∷ []))

pub receipt_written : (giver version item : List ℕ) → codes "receipt giver " ++ (giver ++ (codes " version " ++ (version ++ (codes " of " ++ (item ++ codes "\n"))))) ≡
    line_of (codes "receipt" ∷ codes "giver" ∷ giver ∷ codes "version" ∷ version ∷ codes "of" ∷ item ∷ [])
receipt_written giver version item = sym (line_of-cons (codes "receipt") (codes "giver" ∷ giver ∷ codes "version" ∷ version ∷ codes "of" ∷ item ∷ []))

pub ask_written : (target session knows filter : List ℕ) →
    codes "ask target " ++ (target ++ (codes " session " ++ (session ++ (codes " knows " ++ (knows ++ (codes " filter " ++ (filter ++ codes "\n"))))))) ≡
    line_of (codes "ask" ∷ codes "target" ∷ target ∷ codes "session" ∷ session ∷ codes "knows" ∷ knows ∷ codes "filter" ∷ filter ∷ [])
ask_written target session knows filter = sym (line_of-cons (codes "ask") (codes "target" ∷ target ∷ codes "session" ∷ session ∷ codes "knows" ∷ knows ∷ codes "filter" ∷ filter ∷ []))

pub IfOk-ask_line : {E : Type 0} (r : Result (String Global) E) (q : Question) (filter x : List ℕ) → IfOk r (λ s. string_bytes s ≡ x) → IsFilterText q.filter filter → x ≡ line_of (ask_words q filter) →
    IfOk r (λ line. IsAskLine q (string_bytes line))
IfOk-ask_line (Ok s) q filter x made is same = record { filter = filter; is_filter = is; written = made ∙ same }
IfOk-ask_line (Err e) q filter x made is same = tt
