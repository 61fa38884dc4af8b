use Rattle.std.proofs.Common.{ap, ◌∙◌}
use Rattle.mr_replica.proofs.Names.{IfOk-weaker, State}
use Rattle.mr_replica.proofs.Kept.{all_may_list, holey_part}
use Rattle.mr_replica.proofs.PieceLemmas.{made_claim}
use Rattle.mr_replica.proofs.replica.Core.pieces.Goals as goal

pub pieces_of-requires : goal.pieces_of-requires
pieces_of-requires g c = all_may_list g.K.Vector.VersionSet.has c.in-Ok.fragments.items c.in-Ok.ensures.parts.in_order.listable

pub returns-clause-holes : goal.returns-clause-holes
returns-clause-holes g c h =
    let knowledge = ap (λ (s : State g.row.K.Denot). s.knowledge) c.self.view_is in
    let parts = rw knowledge at c.in-Ok.ensures.parts in
    holey_part g.K.Vector.VersionSet.has (g.K.Knowledge.form.is_part c.args.self.now.knowledge) c.in-Ok.fragments.items parts.are (c.pieces_of.ensures.holes h)

-- they claim what is known
pub returns-clause-known : goal.returns-clause-known
returns-clause-known g c =
    let knowledge = ap (λ (s : State g.row.K.Denot). s.knowledge) c.self.view_is in
    let covered = rw knowledge at c.in-Ok.ensures.ok in
    IfOk-weaker c.pieces_of.result _ _ (λ pieces made i v. covered i v ∙ made_claim g.K.Vector.VersionSet.has c.in-Ok.fragments.items pieces.items made i v) c.pieces_of.ensures.ok
