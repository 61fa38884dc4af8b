use Rattle.mr_audit.proofs.BeginningLemmas.{put_back_of}
use Rattle.mr_audit.proofs.beginnings.put_one_back.Goals as goal

pub returns-then-eq : goal.returns-then-eq
returns-then-eq g c = put_back_of g.K.Knowledge.form c.args.replica c.args.events c.args.end _ c.beginning_of.ensures.beginning c.beginning_of.ensures.log
