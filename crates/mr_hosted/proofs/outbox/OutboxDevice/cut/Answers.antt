use Rattle.std.proofs.Common.{arith, ap, length, length-take}
use Rattle.std.proofs.lemmas.Bool.{false≢true}
use Rattle.mr_hosted.specs.Acts.{all_done}
use Rattle.mr_hosted.specs.declared.act.Act.TheVariants as act
use Rattle.mr_hosted.proofs.ActLemmas.{after, all_syncs, left_behind, passes}
use Rattle.mr_hosted.proofs.outbox.OutboxDevice.cut.Goals as goal

pub invariant_of-self-2 : goal.invariant_of-self-2
invariant_of-self-2 c =
    let file = all_done c.args.self.now.read.items c.args.self.now.acts.items in
    let cut_is = after c.args.self.now.read.items c.args.self.now.acts.items c.noted.new.acts.items (act.Cut c.args.len) c.in_ok-noted.ensures.ok in
    record {
      counted = omega (arith, ap length cut_is, length-take c.args.len file, c.min-self.ensures, c.args.self.now.counted);
      same = λ none. cc;
      changed = λ syncs. absurd (false≢true (all_syncs c.args.self.now.acts.items c.noted.new.acts.items (act.Cut c.args.len) c.in_ok-noted.ensures.ok syncs).1);
    }

pub returns-clause-cut : goal.returns-clause-cut
returns-clause-cut c = after c.args.self.now.read.items c.args.self.now.acts.items c.noted.new.acts.items (act.Cut c.args.len) c.in_ok-noted.ensures.ok

pub returns-clause-crash : goal.returns-clause-crash
returns-clause-crash c = λ d left. left_behind c.args.self.now.read.items c.args.self.now.acts.items c.noted.new.acts.items (act.Cut c.args.len) d c.in_ok-noted.ensures.ok left

pub returns-clause-time : goal.returns-clause-time
returns-clause-time c = passes c.args.self.now.read.items c.args.self.now.acts.items c.noted.new.acts.items (act.Cut c.args.len) c.in_ok-noted.ensures.ok
