-- one digest among the deleted mails
use Rattle.std.specs.Prelude.{ℕ, Bool, not, ◌&&◌, List}
use Rattle.std.specs.List.{list_any}
use Rattle.std.specs.Ordering.{is_eq}
use Rattle.mr_version.specs.Name.{Name}
use Rattle.mr_mail.specs.Label.{text_cmp}
use Rattle.mr_compare.specs.declared.held.Head.{Head}
use Rattle.mr_fold.specs.Lacking.{has_digest}

-- one of the heads is of the mail of the digest, and that isn't needed
abbrev pub is_gone_among : List ((List ℕ × Name) × Head) → (needed : List (List ℕ)) → List ℕ → Bool
is_gone_among heads needed digest = list_any (λ (e : (List ℕ × Name) × Head). not (has_digest needed e.0.0) && is_eq (text_cmp e.0.0 digest)) heads
