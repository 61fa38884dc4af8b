use Rattle.std.proofs.Common.{◌≡◌, ℕ, List, take}
use Rattle.sha2.specs.Hashers.{Holds256}
use Rattle.mr_concise.specs.Fragments.{knowledge_text}
use Rattle.mr_lookup.proofs.digest.text_digest.Given as goal

abbrev pub invariant-loop-i : goal.invariant-loop-i
invariant-loop-i l = (m : List ℕ) × Holds256 l.hasher m × (m ≡ knowledge_text (take l.i l.fragments))
