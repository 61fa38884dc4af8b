-- the words of a text
use Rattle.std.proofs.Common.{◌≡◌, ◌≢◌, ◌==◌, ℕ, List, [], ◌∷◌, length, Option, Bor, ap, arith}
use Rattle.mr_command.proofs.Names.{IsSplitOnceResult, MatchOption, join_with_byte-slice_split, length-slice_split, unwords, words}
use Rattle.mr_command.proofs.PieceLemmas.{parts-split}

-- a text has a word, be it empty
pub words-not_empty : (text : List ℕ) → words text ≢ []
words-not_empty text none = omega (arith, length-slice_split (λ b. b == 32) text, ap length none)

-- the words of a text with spaces between them are the text
pub unwords-words : (text : List ℕ) → unwords (words text) ≡ text
unwords-words text = join_with_byte-slice_split 32 text

-- what `split_once` at a space says of the words
pub words-split : (text : List ℕ) (r : Option (Bor (List ℕ) × Bor (List ℕ))) → IsSplitOnceResult 32 text r → MatchOption r (words text ≡ text ∷ []) (λ p. words text ≡ p.0.now ∷ words p.1.now)
words-split text r split = parts-split 32 text r (omega arith) split
