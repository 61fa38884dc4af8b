use Rattle.std.proofs.Common.{◌≡◌, arith, ap, length, subst, rules, List, ℕ, ◌∙◌}
use Rattle.std.proofs.lemmas.Bool.{false≢true}
use Rattle.mr_journal.specs.Device.{Torn, overwritten}
use Rattle.mr_hosted.specs.Acts.{MayLeave, all_done}
use Rattle.mr_hosted.specs.declared.act.Act.TheVariants as act
use Rattle.mr_hosted.proofs.ActLemmas.{after, all_syncs, left_behind, length_written, passes}
use Rattle.mr_hosted.proofs.outbox.OutboxDevice.write_at.Goals as goal

pub invariant_of-self-2 : goal.invariant_of-self-2
invariant_of-self-2 c =
    let copied : c.in-Ok.bytes.items ≡ c.args.bytes.now = search rules in
    let file = all_done c.args.self.now.read.items c.args.self.now.acts.items in
    let written_is = after c.args.self.now.read.items c.args.self.now.acts.items c.noted.new.acts.items (act.Write c.args.at c.in-Ok.bytes) c.in_ok-noted.ensures.ok in
    record {
      counted = omega (arith, ap length written_is, length_written file c.args.at c.in-Ok.bytes.items, ap length copied, c.max-self.ensures, c.args.self.now.counted, c.if-at-self.false);
      same = λ none. cc;
      changed = λ syncs. absurd (false≢true (all_syncs c.args.self.now.acts.items c.noted.new.acts.items (act.Write c.args.at c.in-Ok.bytes) c.in_ok-noted.ensures.ok syncs).1);
    }

pub returns-clause-written : goal.returns-clause-written
returns-clause-written c = λ within.
    let copied : c.in-Ok.bytes.items ≡ c.args.bytes.now = search rules in
    let file = all_done c.args.self.now.read.items c.args.self.now.acts.items in
    after c.args.self.now.read.items c.args.self.now.acts.items c.noted.new.acts.items (act.Write c.args.at c.in-Ok.bytes) c.in_ok-noted.ensures.ok ∙ ap (λ (b : List ℕ). overwritten file c.args.at b) copied

pub returns-clause-crash : goal.returns-clause-crash
returns-clause-crash c = λ d left.
    let copied : c.in-Ok.bytes.items ≡ c.args.bytes.now = search rules in
    subst (λ (b : List ℕ). (e : List ℕ) × MayLeave c.args.self.now.read.items c.args.self.now.acts.items e × Torn c.args.at b e d) copied
    (left_behind c.args.self.now.read.items c.args.self.now.acts.items c.noted.new.acts.items (act.Write c.args.at c.in-Ok.bytes) d c.in_ok-noted.ensures.ok left)

pub returns-clause-time : goal.returns-clause-time
returns-clause-time c = passes c.args.self.now.read.items c.args.self.now.acts.items c.noted.new.acts.items (act.Write c.args.at c.in-Ok.bytes) c.in_ok-noted.ensures.ok
