use Rattle.std.proofs.Common.{◌∙◌, ap}
use Rattle.mr_node.proofs.Hosting.{log_grows, log_grows_by_last}
use Rattle.mr_node.proofs.replica_core.run_core.Goals as goal

pub returns : goal.returns
returns g c = record {
  ran = λ whole.
      let h = c.run_machine.ensures.ran whole in
      record { ran = h; log = log_grows g.K.Knowledge.form c.args.core.machine c.run_machine.result.core.machine h.exchanges h.replays };
  short = λ short.
      let h = c.run_machine.ensures.short short in
      record { ran = h; log = ap (λ s. s.log) h.machine ∙ log_grows_by_last g.K.Knowledge.form c.args.core.machine h.between.machine h.served.machine h.exchanges h.before h.last h.in_order h.served_before.replays h.serves.replays };
  lanes = c.run_machine.ensures.lanes;
  finished = c.run_machine.ensures.finished;
}
