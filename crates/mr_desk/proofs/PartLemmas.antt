-- the parts of a text between its commas, one after the other
use Rattle.std.proofs.Common.{◌≡◌, ◌==◌, ℕ, List, [], ◌∷◌, length, Option, Some, None, Bor, lit<, arith}
use Rattle.mr_desk.proofs.Names.{MatchOption, parts_of, position_or_len}
use Rattle.std.proofs.lemmas.List.Sums.{fails_before_first}
use Rattle.std.proofs.lemmas.List.Splits.{slice_split_none, slice_split_first}
use Rattle.std.proofs.lemmas.Str.Pattern.{IsSplitOnceResult, split_once_first}

-- a text with no comma is its one part
parts-whole : (text : List ℕ) → position_or_len (λ b. b == 44) text ≡ length text → parts_of text ≡ text ∷ []
parts-whole text none = slice_split_none (λ b. b == 44) text (λ k d inside. fails_before_first (λ b. b == 44) text k d (omega arith))

-- what `split_once` says of the parts
pub parts-split : (text : List ℕ) (r : Option (Bor (List ℕ) × Bor (List ℕ))) → IsSplitOnceResult 44 text r → MatchOption r (parts_of text ≡ text ∷ []) (λ p. parts_of text ≡ p.0.now ∷ parts_of p.1.now)
parts-split text None split = parts-whole text (split_once_first 44 text None split (lit< tt))
parts-split text (Some p) split =
    let cut = split_once_first 44 text (Some p) split (lit< tt) in
    rw (cut.1, cut.2) (slice_split_first (λ b. b == 44) text 0 cut.0)
