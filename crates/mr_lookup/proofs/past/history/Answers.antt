use Rattle.std.proofs.Common.{ℕ, List, IfOk, subst}
use Rattle.mr_lookup.proofs.Names.{Event, IsHistory}
use Rattle.mr_lookup.proofs.past.history.Goals as goal

pub returns : goal.returns
returns g c = record {
  means =
      subst (λ (log : List Event). IfOk c.history_in.result (λ past. IsHistory c.args.replica.now.id c.args.item log past.items)) c.log.ensures.all
      (subst (λ (id : ℕ). IfOk c.history_in.result (λ past. IsHistory id c.args.item c.log.result.now past.items)) c.id.ensures c.history_in.ensures);
}
