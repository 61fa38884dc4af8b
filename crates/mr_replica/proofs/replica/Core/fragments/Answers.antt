use Rattle.std.proofs.Common.{ap, map}
use Rattle.mr_replica.proofs.Names.{ArePartsThat, HaveKnown, IfOk-weaker, State, on_ok_weaker, part_of}
use Rattle.mr_replica.proofs.FragmentLemmas.{concise_have, alike_parts, holey_part, no_holey_part, one_text}
use Rattle.mr_replica.proofs.replica.Core.fragments.Goals as goal

-- they have what the form's own fragments have
pub returns-clause-ok : goal.returns-clause-ok
returns-clause-ok g c =
    let has = g.K.Vector.VersionSet.has in
    let known = g.K.Knowledge.form.known c.args.self.now.knowledge in
    let knowledge = ap (λ (s : State g.row.K.Denot). s.knowledge) c.self.view_is in
    let all : HaveKnown has known c.in-Ok.fragments.items = record { covered = rw knowledge at c.in-Ok.ensures.ok; items = c.in-Ok.ensures.items } in
    IfOk-weaker c.concise_fragments.result _ _ (λ concise alike. concise_have has known c.in-Ok.fragments.items concise.items all alike) c.concise_fragments.ensures.ok

-- they are those of the form's parts, in their order
pub returns-clause-parts : goal.returns-clause-parts
returns-clause-parts g c =
    let has = g.K.Vector.VersionSet.has in
    let is_part = g.K.Knowledge.form.is_part c.args.self.now.knowledge in
    let knowledge = ap (λ (s : State g.row.K.Denot). s.knowledge) c.self.view_is in
    let are : ArePartsThat is_part (map (part_of has) c.in-Ok.fragments.items) = rw knowledge at c.in-Ok.ensures.parts in
    IfOk-weaker c.concise_fragments.result _ _ (λ concise alike. record { parts = map (part_of has) c.in-Ok.fragments.items; are_parts = are; by_part = alike_parts has c.in-Ok.fragments.items concise.items alike }) c.concise_fragments.ensures.ok

-- so that they have one text
pub returns-clause-one_text : goal.returns-clause-one_text
returns-clause-one_text g c =
    IfOk-weaker c.concise_fragments.result _ _ (λ concise are others others_are. one_text (g.K.Knowledge.form.is_part c.args.self.now.knowledge) others concise.items others_are are) (returns-clause-parts g c)

-- each part has a vector
pub returns-clause-few : goal.returns-clause-few
returns-clause-few g c =
    let has = g.K.Vector.VersionSet.has in
    let is_part = g.K.Knowledge.form.is_part c.args.self.now.knowledge in
    let knowledge = ap (λ (s : State g.row.K.Denot). s.knowledge) c.self.view_is in
    let are : ArePartsThat is_part (map (part_of has) c.in-Ok.fragments.items) = rw knowledge at c.in-Ok.ensures.parts in
    on_ok_weaker c.concise_fragments.result (no_holey_part has is_part c.in-Ok.fragments.items are) c.concise_fragments.ensures.few

-- or one has none
pub returns-clause-holes : goal.returns-clause-holes
returns-clause-holes g c h =
    let has = g.K.Vector.VersionSet.has in
    let is_part = g.K.Knowledge.form.is_part c.args.self.now.knowledge in
    let knowledge = ap (λ (s : State g.row.K.Denot). s.knowledge) c.self.view_is in
    let are : ArePartsThat is_part (map (part_of has) c.in-Ok.fragments.items) = rw knowledge at c.in-Ok.ensures.parts in
    holey_part has is_part c.in-Ok.fragments.items are.are (c.concise_fragments.ensures.holes h)
