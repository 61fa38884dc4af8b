use Rattle.mr_kept_node.proofs.Noding.{kept_node_ran}
use Rattle.mr_kept_node.proofs.node.run_kept_node.Goals as goal

pub returns-in-Ok-clause-ran : goal.returns-in-Ok-clause-ran
returns-in-Ok-clause-ran g c =
    let device = g.met.D.Device g.world.𝓛 g.world.𝓜 g.world.𝓡 ((λ s x. x), (λ x. x), (λ x. x), λ x. x) in
    kept_node_ran g.K.Knowledge.form g.D.Device device.only_now device.now_counts g.L.Link.tells g.M.Link.tells (g.G.Gate.closes c.args.gate.now) (g.G.Gate.has_let c.args.gate.now)
    c.args.parts c.in_machine.result c.in-Ok.ran.0 c.in-Ok.ran.1 c.in-Ok.ran.2 c.in_machine.ensures.is c.requires.all_kept c.in_machine.ensures.is_its_log c.in-Ok.ensures.ran
