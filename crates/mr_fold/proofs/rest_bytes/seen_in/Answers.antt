use Rattle.std.proofs.Common.{◌≡◌, ◌≢◌, ◌++◌, ℕ, List, Option, Some, None, MatchOption, Bor, length, sym, ap, ◌∙◌}
use Rattle.std.proofs.lemmas.Bool.Decides.{Decides-eqb}
use Rattle.std.proofs.lemmas.List.{append_cancel_left}
use Rattle.std.proofs.lemmas.Slice.Eq.{strip_prefix_is}
use Rattle.mr_wire.specs.Spelling.{u64}
use Rattle.mr_fold.specs.inner.Resting.{note_bytes}
use Rattle.mr_fold.proofs.rest_bytes.seen_in.Goals as goal

-- what is behind a stand, which is behind its length
behind_stand : (note stand rest : List ℕ) → note ≡ u64 (length stand) ++ rest → (seen : Option (Bor (List ℕ))) → MatchOption seen ((s : List ℕ) → rest ≢ stand ++ s) (λ s. rest ≡ stand ++ s.now)
    → MatchOption seen ((s : List ℕ) → note ≢ note_bytes stand s) (λ s. note ≡ note_bytes stand s.now)
behind_stand note stand rest first None none = λ s e. none s (append_cancel_left (u64 (length stand)) rest (stand ++ s) (sym first ∙ e))
behind_stand note stand rest first (Some s) some = first ∙ ap (λ (l : List ℕ). u64 (length stand) ++ l) some

pub returns : goal.returns
returns c =
    let note = c.args.note.now in
    let stand = c.args.stand.now in
    let rest = c.in_ok-strip_prefix.field-0 in
    let begins : note ≡ c.to_be_bytes-length.result ++ rest.now = strip_prefix_is Decides-eqb note c.to_be_bytes-length.result (Some rest) c.in_ok-strip_prefix.ensures.cases in
    let first : note ≡ u64 (length stand) ++ rest.now = begins ∙ ap (λ (l : List ℕ). l ++ rest.now) c.to_be_bytes-length.ensures in
    behind_stand note stand rest.now first c.strip_prefix-2.result (strip_prefix_is Decides-eqb rest.now stand c.strip_prefix-2.result c.strip_prefix-2.ensures.cases)
