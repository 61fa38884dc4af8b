use Rattle.std.proofs.Common.{◌≡◌, ◌∙◌, ◌≤◌, List, ℕ, length, sym, subst, ap}
use Rattle.std.specs.List.Sorted.{IsStrictlySortedBy}
use Rattle.mr_mail.specs.Label.{text_cmp}
use Rattle.mr_joins.specs.Value.{IsValue}
use Rattle.mr_joins.specs.Shown.{folders_shown}
use Rattle.mr_joins.proofs.ShownLemmas.{rising_shown, few_shown}
use Rattle.mr_joins.proofs.Values.{nowhere-deleted}
use Rattle.mr_joins.proofs.value.Value.folders_shown.Goals as goal

pub returns : goal.returns
returns c =
    let is : c.in_ok-labels.labels.items ≡ folders_shown c.args.self.now = c.in_ok-labels.ensures ∙ ap folders_shown (c.deref.ensures.value ∙ c.self.view_is) in
    let v : IsValue c.args.self.now = subst IsValue c.self.view_is c.self.invariant in
    let none = nowhere-deleted c.args.self.now v in
    record {
      value = is;
      rising = subst (IsStrictlySortedBy text_cmp) (sym is) (rising_shown c.args.self.now);
      few = subst (λ (ls : List (List ℕ)). length ls ≤ 16) (sym is) (few_shown c.args.self.now);
      nowhere = (λ e. none.0 (sym is ∙ e), λ h. is ∙ none.1 h);
    }
