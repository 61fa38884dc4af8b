use Rattle.std.proofs.Common.{◌≡◌, ◌∙◌, ℕ, List, string_bytes}
use Rattle.mr_filter.proofs.Names.{IfOk-weaker, IsFilterText, Reads}
use Rattle.mr_filter.proofs.ReadsLemmas.{Reads-text}
use Rattle.mr_filter.proofs.WrittenLemmas.{filter_written}
use Rattle.mr_filter.proofs.filter.Filter.text.Goals as goal

pub returns-clause-only : goal.returns-clause-only
returns-clause-only c =
    let same : c.as_slice.result.now ≡ c.args.self.now = c.as_slice.ensures.value ∙ c.self.view_is in
    IfOk-weaker c.filter_text.result (λ text. IsFilterText c.as_slice.result.now (string_bytes text)) (λ text. (other : List ℕ) → IsFilterText c.args.self.now other → other ≡ string_bytes text)
    (λ text is other written. filter_written c.args.self.now other (string_bytes text) written (rw (← same) is))
    c.filter_text.ensures

pub returns-clause-read : goal.returns-clause-read
returns-clause-read c =
    let same : c.as_slice.result.now ≡ c.args.self.now = c.as_slice.ensures.value ∙ c.self.view_is in
    IfOk-weaker c.filter_text.result (λ text. IsFilterText c.as_slice.result.now (string_bytes text)) (λ text. Reads (string_bytes text) c.args.self.now)
    (λ text is. rw (← same) (Reads-text c.as_slice.result.now (string_bytes text) (rw c.as_slice.ensures.value c.self.invariant) is))
    c.filter_text.ensures
