use Rattle.std.proofs.Common.{Bool, List, map, filter, ap, ◌∙◌}
use Rattle.mr_replica.proofs.Names.{AuthorColumn, Holdings, Rev, State, dropped}
use Rattle.mr_store.specs.Unheld.{is_unheld as covers_unheld}
use Rattle.mr_replica.proofs.Merging.{unheld_same}
use Rattle.mr_replica.proofs.replica.Core.ended.Goals as goal

-- the heads that leave are those that the session says are unheld
pub returns-clause-left : goal.returns-clause-left
returns-clause-left g c =
    let know = c.know-2.result.now in
    let heads = c.args.self.now.heads in
    let held = c.held.result.now in
    let stored = ap (λ (h : Holdings). h.heads) c.store.ensures ∙ ap (λ (t : State g.row.K.Denot). t.heads) c.self.view_is in
    c.in_ok-left.ensures
    ∙ ap (λ (rs : List Rev). filter (λ r. covers_unheld know held r.item r.version) rs) stored
    ∙ ap (λ (h : List (List AuthorColumn)). filter (λ r. covers_unheld know h r.item r.version) heads) c.held.ensures
    ∙ ap (λ (p : Rev → Bool). filter p heads) (unheld_same know c.args.session.now c.know-2.ensures)

pub returns-clause-entries : goal.returns-clause-entries
returns-clause-entries g c = c.in_ok-entries.ensures ∙ ap (map dropped) (c.deref.ensures.value ∙ returns-clause-left g c)
