use Rattle.std.proofs.Common.{◌≡◌, filter, find, ap, ◌∙◌, List, Option}
use Rattle.mr_session.proofs.Names.{Asked, Rev, is_ahead, is_due, is_wanted, lower, rises-filter, version_of}
use Rattle.mr_session.proofs.WalkLemmas.{due_ahead}
use Rattle.mr_session.proofs.due.due.Goals as goal

pub first_wanted-requires-clause-heads : goal.first_wanted-requires-clause-heads
first_wanted-requires-clause-heads c =
    rw c.ahead-heads.ensures (rw c.heads.ensures.all (rises-filter version_of (λ (r : Rev). is_ahead c.args.past.now r.version) c.args.store.now.heads c.heads.ensures.in_order))

pub first_wanted-requires-clause-push_outs : goal.first_wanted-requires-clause-push_outs
first_wanted-requires-clause-push_outs c =
    rw c.ahead-push_outs.ensures (rw c.push_outs.ensures.all (rises-filter version_of (λ (r : Rev). is_ahead c.args.past.now r.version) c.args.store.now.push_outs c.push_outs.ensures.in_order))

found_due : (asked : Asked) (past : Option _) (walked all rest : List Rev) → rest ≡ filter (λ (r : Rev). is_ahead past r.version) walked → walked ≡ all → find (is_wanted asked) rest ≡ find (is_due asked past) all
found_due asked past walked all rest is same = ap (find (is_wanted asked)) is ∙ (due_ahead asked past walked ∙ ap (find (is_due asked past)) same)

pub returns : goal.returns
returns c =
    let asked = c.args.asked.now in
    let past = c.args.past.now in
    let left = found_due asked past c.heads.result.now c.args.store.now.heads c.ahead-heads.result.now c.ahead-heads.ensures c.heads.ensures.all in
    let right = found_due asked past c.push_outs.result.now c.args.store.now.push_outs c.ahead-push_outs.result.now c.ahead-push_outs.ensures c.push_outs.ensures.all in
    c.first_wanted.ensures ∙ (λ i. lower (left i) (right i))
