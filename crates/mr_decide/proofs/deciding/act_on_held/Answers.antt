use Rattle.std.proofs.Common.{◌≡◌, ◌∙◌, ap, subst}
use Rattle.std.specs.List.{list_any}
use Rattle.std.specs.Option.{option_copied}
use Rattle.mr_joins.specs.View.{ViewParts}
use Rattle.mr_joins.specs.Shown.{shown_view}
use Rattle.mr_decide.specs.declared.held.HeldItem.{HeldItem}
use Rattle.mr_decide.specs.Held.{shown, is_due}
use Rattle.mr_decide.specs.Deciding.{act_by, standing}
use Rattle.mr_decide.specs.Told.{IfChange}
use Rattle.mr_decide.specs.inner.Deciding.{ShowsWanted}
use Rattle.mr_decide.proofs.deciding.act_on_held.Goals as goal

pub returns : goal.returns
returns c =
    let so : c.in_ok-shown.shown ≡ shown c.args.held.now = c.in_ok-shown.ensures ∙ ap shown_view c.in_ok-value.ensures.value in
    let due = c.in_ok-is_due.ensures ∙ ap (λ (v : ViewParts). list_any (λ (item : HeldItem). is_due item v) c.args.held.now) so in
    record {
      value = c.in_ok-act.ensures.value ∙ (λ i. act_by (record { value = c.in_ok-value.ensures.value i; shown = so i; is_due = due i; first = c.args.first }) (option_copied c.args.left) c.args.seen.now (standing c.args.seen.now.view));
      shows = subst (λ (v : ViewParts). IfChange c.in_ok-act.act (ShowsWanted v (option_copied c.args.left) c.args.seen.now)) so c.in_ok-act.ensures.shows;
    }
