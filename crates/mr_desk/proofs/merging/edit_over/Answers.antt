use Rattle.std.proofs.Common.{◌∙◌, sym}
use Rattle.mr_desk.proofs.Names.{IsEditOver, IsTogether, edit_fault_over, err_from_is_err_and, option_copied, unmerged}
use Rattle.mr_desk.proofs.MergeLemmas.{together-over, unmerged-over, unread-same}
use Rattle.mr_desk.proofs.merging.edit_over.Goals as goal

pub returns-in_err-message : goal.returns-in_err-message
returns-in_err-message c =
    let heads = c.args.heads.now in
    let feed = c.args.feed.now in
    let card = option_copied c.last_under.result in
    let said = c.deref.result.now in
    let p = err_from_is_err_and c.from_residual-in_err-message.result c.from_residual-in_err-message.ensures.1 in
    rw (p.1, p.2) (unread-same (unmerged card said) (edit_fault_over heads feed) (IsTogether card said) (IsEditOver heads feed) _ (unmerged-over heads feed card said c.last_under.ensures (c.deref.ensures.value ∙ c.in_ok-messages.ensures)) c.in_err-message.ensures)

pub returns : goal.returns
returns c =
    let heads = c.args.heads.now in
    let feed = c.args.feed.now in
    let card = option_copied c.last_under.result in
    let said = c.deref.result.now in
    let says = c.deref.ensures.value ∙ c.in_ok-messages.ensures in (
      sym (unmerged-over heads feed card said c.last_under.ensures says) ∙ c.in_ok-message.ensures.0,
      (c.new.ensures ∙ c.in_ok-versions.ensures, together-over heads feed card said c.in_ok-message.message c.last_under.ensures says c.in_ok-message.ensures.1),
    )
