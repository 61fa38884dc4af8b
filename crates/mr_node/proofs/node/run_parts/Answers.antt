use Rattle.std.proofs.Common.{◌∙◌, ap}
use Rattle.mr_node.proofs.Noding.{roles_ready, node_ran, node_hung_up}
use Rattle.mr_node.proofs.node.run_parts.Goals as goal

pub run_in_scope-requires : goal.run_in_scope-requires
run_in_scope-requires g c =
    let ready = roles_ready g.C.Machine.steps g.C.Machine.feed_of g.L.Link.tells g.M.Link.tells g.L.Link.hung_up_at g.M.Link.hung_up_at g.G.Gate.closes g.G.Gate.has_let c.args.gate.now c.args.parts c.roles_of-roles.result c.roles_of-roles.ensures c.requires.first_count c.requires.second_count in
    let b = c.type_bounds in
    (b.send-C, (b.send-L, (b.send-M, (b.send-R, (b.sync-G, (b.sync-R, ready))))))

pub returns-in-Some-clause-ran : goal.returns-in-Some-clause-ran
returns-in-Some-clause-ran g c = node_ran g.C.Machine.steps g.C.Machine.feed_of g.L.Link.tells g.M.Link.tells g.L.Link.hung_up_at g.M.Link.hung_up_at g.G.Gate.closes g.G.Gate.has_let c.args.gate.now c.args.parts c.roles_of-roles.result c.in-Some.end c.node_end.result.0 c.node_end.result.1 c.node_end.result.2 c.roles_of-roles.ensures c.in-Some.ensures.ran c.in-Some.ensures.hung_up c.node_end.ensures

pub returns-in-Some-clause-hung_up_last : goal.returns-in-Some-clause-hung_up_last
returns-in-Some-clause-hung_up_last g c = node_hung_up g.C.Machine.steps g.C.Machine.feed_of g.L.Link.tells g.M.Link.tells g.L.Link.hung_up_at g.M.Link.hung_up_at g.G.Gate.closes g.G.Gate.has_let c.args.gate.now c.args.parts c.roles_of-roles.result c.in-Some.end c.node_end.result.0 c.node_end.result.1 c.node_end.result.2 c.roles_of-roles.ensures c.in-Some.ensures.ran c.in-Some.ensures.hung_up c.node_end.ensures

pub returns-in-Some-clause-hung_up : goal.returns-in-Some-clause-hung_up
returns-in-Some-clause-hung_up g c =
    let h = c.in-Some.ensures.hung_up in
    (ap (λ l. (g.L.Link.tells l).hung_up) c.node_end.ensures.first_link ∙ h.first_link, ap (λ l. (g.M.Link.tells l).hung_up) c.node_end.ensures.second_link ∙ h.second_link)
