-- sets of digests
use Rattle.std.specs.Prelude.{ℕ, Bool, List}
use Rattle.std.specs.List.{list_any}
use Rattle.std.specs.Ordering.{is_eq}
use Rattle.mr_mail.specs.Label.{text_cmp}

-- a set of digests has this one
abbrev pub has_digest : List (List ℕ) → List ℕ → Bool
has_digest digests digest = list_any (λ own. is_eq (text_cmp digest own)) digests
