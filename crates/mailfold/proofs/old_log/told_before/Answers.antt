use Rattle.std.proofs.Common.{List, ℕ, subst}
use Rattle.std.specs.Prelude.{Vec}
use Rattle.std.specs.declared.alloc.Global.{Global}
use Rattle.std.proofs.lemmas.Result.{IfOk-weaker}
use Rattle.mr_journal.specs.Format.{Stands, contents}
use Rattle.mailfold.specs.OldLog.{Tells}
use Rattle.mailfold.specs.inner.OldLog.{TellsSome}
use Rattle.mailfold.proofs.OldLogLemmas.{tells_front}
use Rattle.mailfold.proofs.old_log.told_before.Goals as goal

pub returns-in-Ok : goal.returns-in-Ok
returns-in-Ok c =
    let entries = contents c.in-Ok.entries.items in
    let stands = subst (λ (l : List ℕ). Stands entries l) c.in_ok-front.ensures c.in-Ok.ensures.stands in
    IfOk-weaker c.told_by_some.result (λ log. TellsSome log (contents c.as_slice.result.now)) (λ log. Tells log c.args.bytes.now)
    (λ log told. tells_front log entries c.args.bytes.now c.args.place stands (subst (λ (v : List (Vec ℕ Global)). TellsSome log (contents v)) c.as_slice.ensures.value told))
    c.told_by_some.ensures
