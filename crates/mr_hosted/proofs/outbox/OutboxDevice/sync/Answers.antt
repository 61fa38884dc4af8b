use Rattle.std.proofs.Common.{ap, length, sym, ◌∙◌}
use Rattle.mr_hosted.proofs.ActLemmas.{adds_none, before_sync, durable, no_fewer, same_file, since_sync, syncs_before}
use Rattle.mr_hosted.proofs.outbox.OutboxDevice.sync.Goals as goal

pub invariant_of-self : goal.invariant_of-self
invariant_of-self c =
    let file_is = same_file c.args.self.now.read.items c.args.self.now.acts.items c.noted.new.acts.items c.noted.result c.noted.ensures.ok c.noted.ensures.err in
    record {
      counted = c.args.self.now.counted ∙ sym (ap length file_is);
      same = λ as_read. file_is ∙ c.args.self.now.same as_read;
      changed = λ syncs. c.args.self.now.changed (syncs_before c.args.self.now.read.items c.args.self.now.acts.items c.noted.new.acts.items c.noted.result c.noted.ensures.ok c.noted.ensures.err syncs);
    }

pub returns-clause-durable : goal.returns-clause-durable
returns-clause-durable c = durable c.args.self.now.read.items c.args.self.now.acts.items c.noted.new.acts.items c.noted.result c.noted.ensures.ok

pub returns-clause-untouched : goal.returns-clause-untouched
returns-clause-untouched c =
    let read = c.args.self.now.read.items in
    let acts = c.args.self.now.acts.items in
    let later = c.noted.new.acts.items in
    record {
      same = same_file read acts later c.noted.result c.noted.ensures.ok c.noted.ensures.err;
      no_more = λ d left. adds_none read acts later c.noted.result c.noted.ensures.ok c.noted.ensures.err d left;
      moments = record {
        later = no_fewer read acts later c.noted.result c.noted.ensures.ok c.noted.ensures.err;
        each = λ d since. since_sync read acts later c.noted.result c.noted.ensures.ok c.noted.ensures.err d since;
        before = λ t d le since. before_sync read acts later c.noted.result c.noted.ensures.ok c.noted.ensures.err t d since;
      };
    }
