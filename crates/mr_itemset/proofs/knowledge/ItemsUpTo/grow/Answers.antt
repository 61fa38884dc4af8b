use Rattle.std.proofs.lemmas.Result.{err_from_is_err_and}
use Rattle.mr_itemset.proofs.RefusalLemmas.{passed, succeeds, refuses_otherwise, no_holes_in_turn, no_items_in_turn}
use Rattle.mr_itemset.proofs.knowledge.ItemsUpTo.grow.Goals as goal

pub returns-in_err-may_grow-clause-holes : goal.returns-in_err-may_grow-clause-holes
returns-in_err-may_grow-clause-holes g c = let p = err_from_is_err_and c.from_residual.result c.from_residual.ensures.1 in rw (p.1, p.2, ← c.in_default.ensures.err) c.in_err-may_grow.ensures.holes

pub returns-in_err-may_grow-clause-items : goal.returns-in_err-may_grow-clause-items
returns-in_err-may_grow-clause-items g c = let p = err_from_is_err_and c.from_residual.result c.from_residual.ensures.1 in rw (p.1, p.2, ← c.in_default.ensures.err) c.in_err-may_grow.ensures.items

pub returns-then-done-clause-holes : goal.returns-then-done-clause-holes
returns-then-done-clause-holes g c = succeeds _ _ (no_holes_in_turn _ _ (c.in-Ok.ensures.done c.if-done.true).first (c.in-Ok.ensures.done c.if-done.true).second)

pub returns-then-done-clause-items : goal.returns-then-done-clause-items
returns-then-done-clause-items g c = succeeds _ _ (no_items_in_turn _ _ (c.in-Ok.ensures.done c.if-done.true).first (c.in-Ok.ensures.done c.if-done.true).second)

pub returns-in_default-clause-holes : goal.returns-in_default-clause-holes
returns-in_default-clause-holes g c = rw (← c.in_default.ensures.err) (refuses_otherwise _ _ (λ same. cc) (passed _ _ c.in_ok-may_grow.ensures.holes))

pub returns-in_default-clause-items : goal.returns-in_default-clause-items
returns-in_default-clause-items g c = rw (← c.in_default.ensures.err) (refuses_otherwise _ _ (λ same. cc) (passed _ _ c.in_ok-may_grow.ensures.items))

pub returns-in_err-may_grow-2-clause-holes : goal.returns-in_err-may_grow-2-clause-holes
returns-in_err-may_grow-2-clause-holes g c =
    let p = err_from_is_err_and c.from_residual-in_err-may_grow-2.result c.from_residual-in_err-may_grow-2.ensures.1 in
    rw (p.1, p.2, ← c.in-Ok.ensures.not c.if-done.false) c.in_err-may_grow-2.ensures.holes

pub returns-in_err-may_grow-2-clause-items : goal.returns-in_err-may_grow-2-clause-items
returns-in_err-may_grow-2-clause-items g c =
    let p = err_from_is_err_and c.from_residual-in_err-may_grow-2.result c.from_residual-in_err-may_grow-2.ensures.1 in
    rw (p.1, p.2, ← c.in-Ok.ensures.not c.if-done.false) c.in_err-may_grow-2.ensures.items

pub returns-in_err-settle-clause-holes : goal.returns-in_err-settle-clause-holes
returns-in_err-settle-clause-holes g c =
    let p = err_from_is_err_and c.from_residual-in_err-settle.result c.from_residual-in_err-settle.ensures.1 in
    rw (p.1, p.2, ← c.in-Ok.ensures.not c.if-done.false) (refuses_otherwise _ _ (λ same. cc) (passed _ _ c.in_ok-may_grow-2.ensures.holes))

pub returns-in_err-settle-clause-items : goal.returns-in_err-settle-clause-items
returns-in_err-settle-clause-items g c =
    let p = err_from_is_err_and c.from_residual-in_err-settle.result c.from_residual-in_err-settle.ensures.1 in
    rw (p.1, p.2, ← c.in-Ok.ensures.not c.if-done.false) (refuses_otherwise _ _ (λ same. cc) (passed _ _ c.in_ok-may_grow-2.ensures.items))

pub returns-clause-ok : goal.returns-clause-ok
returns-clause-ok g c = rw (← c.in-Ok.ensures.not c.if-done.false) c.in_ok-settle.ensures.ok

pub returns-clause-holes : goal.returns-clause-holes
returns-clause-holes g c = rw (← c.in-Ok.ensures.not c.if-done.false) (succeeds _ _ (passed _ _ c.in_ok-may_grow-2.ensures.holes))

pub returns-clause-items : goal.returns-clause-items
returns-clause-items g c = rw (← c.in-Ok.ensures.not c.if-done.false) (succeeds _ _ (passed _ _ c.in_ok-may_grow-2.ensures.items))

pub returns-then-done-clause-ok : goal.returns-then-done-clause-ok
returns-then-done-clause-ok g c = (c.in-Ok.ensures.done c.if-done.true).known
