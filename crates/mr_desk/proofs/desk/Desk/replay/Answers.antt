use Rattle.std.proofs.Common.{ℕ, rules, subst}
use Rattle.mr_itemset.specs.Sparing.{sparing_form}
use Rattle.mr_replica.specs.Replay.{Replays}
use Rattle.mr_desk.proofs.OpeningLemmas.{limit-in}
use Rattle.mr_desk.proofs.desk.Desk.replay.Goals as goal

pub returns-in-Ok : goal.returns-in-Ok
returns-in-Ok c =
    let ok = c.in-Ok.ensures in
    record {
      id_in = search rules;
      filter = c.in_ok-filter.filter;
      means = c.in_ok-filter.ensures;
      events = c.in_ok-events.events.items;
      spelled = c.in_ok-events.ensures;
      limit_in = limit-in c.args.event_limit (λ out. cc (ok.bad_limit.1 out));
      replayed = subst (λ (id : ℕ). Replays sparing_form id c.in_ok-filter.filter c.args.event_limit c.in_ok-events.events.items c.in-Ok.replica) c.in_ok-id.ensures.ok ok.replayed;
      no_frame = c.new.ensures.items;
    }
