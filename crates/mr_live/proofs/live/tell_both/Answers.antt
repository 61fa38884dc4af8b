use Rattle.std.proofs.lemmas.Result.{IfOk-weaker}
use Rattle.mr_live.proofs.Ids.{by_id_distinct}
use Rattle.mr_live.proofs.live.tell_both.Goals as goal

pub tell_joined-requires : goal.tell_joined-requires
tell_joined-requires g c = record { distinct = rw c.deref.ensures.value (by_id_distinct g.K.Knowledge.form c.args.ended.0 c.args.ended.1 c.in-Ok.ends.items c.in-Ok.ensures) }

pub returns-in-Ok : goal.returns-in-Ok
returns-in-Ok g c =
    let told = rw c.deref.ensures.value at c.tell_joined.ensures in
    IfOk-weaker c.tell_joined.result _ _ (λ told tells. record { ends = c.in-Ok.ends.items; by_id = c.in-Ok.ensures; tells = tells }) told
