use Rattle.mr_node.proofs.Noding.{replica_node_ran}
use Rattle.mr_node.proofs.node.run_node.Goals as goal

-- src/node.rt:118:1
pub returns-in-Some-clause-ran : goal.returns-in-Some-clause-ran
returns-in-Some-clause-ran g c =
    replica_node_ran g.K.Knowledge.form g.L.Link.tells g.M.Link.tells (g.G.Gate.closes c.args.gate.now) (g.G.Gate.has_let c.args.gate.now) c.args.parts c.new-machine.result c.in-Some.ran.0 c.with_replica.result
    c.in-Some.ran.1 c.in-Some.ran.2 c.new-machine.ensures c.with_replica.ensures c.in-Some.ensures.ran
