use Rattle.mr_feed.proofs.PortLemmas.{all_taken-waiting}
use Rattle.mr_feed.proofs.port.first_in_first_out.Goals as goal

pub returns : goal.returns
returns g c = all_taken-waiting g.P.PortIn.gave g.P.PortOut.took g.P.Port.waiting g.met.P.Port.offers_last g.met.P.Port.takes_first
